use Rattle.rasn.proofs.Worked.Settled.{worked}
use Rattle.rasn.proofs.refusal_laws.worked_settled.Goals as goal

pub returns : goal.returns
returns c = worked
