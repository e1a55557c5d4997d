use Rattle.rasn_text.proofs.Worked.{worked}
use Rattle.rasn_text.proofs.laws.worked_names.Goals as goal

pub returns : goal.returns
returns c = worked
