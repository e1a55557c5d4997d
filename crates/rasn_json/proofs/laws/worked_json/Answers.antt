use Rattle.rasn_json.proofs.Worked.{worked_json}
use Rattle.rasn_json.proofs.laws.worked_json.Goals as goal

pub returns : goal.returns
returns c = worked_json
