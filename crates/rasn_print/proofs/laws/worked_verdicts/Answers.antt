use Rattle.rasn_print.proofs.Worked.{worked_verdicts}
use Rattle.rasn_print.proofs.laws.worked_verdicts.Goals as goal

pub returns : goal.returns
returns c = worked_verdicts
