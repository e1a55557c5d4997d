use Rattle.rasn_schema_octets.proofs.Whole.{octets_lawful}
use Rattle.rasn_schema_octets.proofs.laws.has_lawful_shape.Goals as goal

pub returns-clause-lawful : goal.returns-clause-lawful
returns-clause-lawful c = octets_lawful
