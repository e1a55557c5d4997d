use Rattle.rasn_schema_octets.proofs.Complete.{fault_refuses}
use Rattle.rasn_schema_octets.proofs.laws.refused_rightly.Goals as goal

pub returns : goal.returns
returns c = fault_refuses
