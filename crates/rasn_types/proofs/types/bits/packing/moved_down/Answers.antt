use Rattle.rasn_types.proofs.BitString.Bits.{moved_bits}
use Rattle.rasn_types.proofs.types.bits.packing.moved_down.Goals as goal

pub returns : goal.returns
returns c = moved_bits c.args.octet c.args.bits c.ranges.octet.fits c.requires
