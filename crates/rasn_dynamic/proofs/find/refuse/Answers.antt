use Rattle.std.proofs.Common.{inr}
use Rattle.rasn_dynamic.proofs.find.refuse.Goals as goal

pub returns-in-Err-clause-located : goal.returns-in-Err-clause-located
returns-in-Err-clause-located c = inr c.in-Err.ensures.located

pub returns-in-Err-clause-rules : goal.returns-in-Err-clause-rules
returns-in-Err-clause-rules c = c.in-Err.ensures.rules
