use Rattle.rasn.proofs.Worked.Kinds.{worked}
use Rattle.rasn.proofs.refusal_laws.worked_kinds.Goals as goal

pub returns : goal.returns
returns c = worked
