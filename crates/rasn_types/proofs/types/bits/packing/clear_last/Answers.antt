use Rattle.rasn_types.proofs.BitString.Views.{octets_by}
use Rattle.rasn_types.proofs.types.bits.packing.clear_last.Goals as goal

pub returns-in-Some-clause-octets : goal.returns-in-Some-clause-octets
returns-in-Some-clause-octets c = octets_by c.push_reserved.new.self.items c.type_inv.octets
