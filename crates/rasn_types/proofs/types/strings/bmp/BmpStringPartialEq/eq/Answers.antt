use Rattle.rasn_types.proofs.Integer.TwosComplement.{are_octets}
use Rattle.rasn_types.proofs.types.strings.bmp.BmpStringPartialEq.eq.Goals as goal

pub are_equal-requires-clause-octets : goal.are_equal-requires-clause-octets
are_equal-requires-clause-octets c = (are_octets c.as_octets-octets.result.now c.type_inv.octets, are_octets c.as_octets-others.result.now c.type_inv.others)
