use Rattle.rasn_types.proofs.Integer.TwosComplement.{are_octets}
use Rattle.rasn_types.proofs.types.strings.bmp.BmpStringOrd.cmp.Goals as goal

pub order-requires-clause-octets : goal.order-requires-clause-octets
order-requires-clause-octets c = (are_octets c.as_octets-octets.result.now c.type_inv.octets, are_octets c.as_octets-others.result.now c.type_inv.others)
