use Rattle.std.proofs.Common.{[], refl, sym, inr, append-nil}
use Rattle.rasn_lint.proofs.open.note_any.Goals as goal

pub returns-in-None-clause-listed : goal.returns-in-None-clause-listed
returns-in-None-clause-listed c = ([], sym (append-nil c.args.list.now.items), inr (c.in-None.ensures, refl))

pub returns-in-None-clause-complete : goal.returns-in-None-clause-complete
returns-in-None-clause-complete c w ds q inside h n = absurd (c.in-None.ensures inside h)
