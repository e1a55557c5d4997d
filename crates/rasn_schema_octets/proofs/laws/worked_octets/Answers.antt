use Rattle.rasn_schema_octets.proofs.Worked.{worked}
use Rattle.rasn_schema_octets.proofs.laws.worked_octets.Goals as goal

pub returns : goal.returns
returns c = worked
