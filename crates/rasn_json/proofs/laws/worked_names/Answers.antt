use Rattle.rasn_json.proofs.WorkedParts.{worked_names}
use Rattle.rasn_json.proofs.laws.worked_names.Goals as goal

pub returns : goal.returns
returns c = worked_names
