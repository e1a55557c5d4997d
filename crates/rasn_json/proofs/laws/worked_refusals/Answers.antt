use Rattle.rasn_json.proofs.WorkedParts.{worked_refusals}
use Rattle.rasn_json.proofs.laws.worked_refusals.Goals as goal

pub returns : goal.returns
returns c = worked_refusals
