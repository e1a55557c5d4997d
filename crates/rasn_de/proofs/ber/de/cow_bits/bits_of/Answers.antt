use Rattle.std.proofs.Common.{arith}
use Rattle.rasn_types.proofs.BitString.Views.{length-but_last}
use Rattle.rasn_de.proofs.ber.de.cow_bits.bits_of.Goals as goal

pub returns-in-Err : goal.returns-in-Err
returns-in-Err c = let h = c.in-Err.ensures in omega (arith, length-but_last c.args.unused c.args.octets.now, h)
