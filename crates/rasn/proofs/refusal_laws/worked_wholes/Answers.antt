use Rattle.rasn.proofs.Worked.Wholes.{worked}
use Rattle.rasn.proofs.refusal_laws.worked_wholes.Goals as goal

pub returns : goal.returns
returns c = worked
