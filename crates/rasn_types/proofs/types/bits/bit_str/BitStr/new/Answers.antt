use Rattle.std.proofs.Common.{◌/◌, ◌%◌, arith}
use Rattle.rasn_types.proofs.BitString.Views.{bits_from_part}
use Rattle.rasn_types.proofs.types.bits.bit_str.BitStr.new.Goals as goal

pub returns : goal.returns
returns c = (omega arith, bits_from_part (c.args.start / 8) (c.args.start % 8) c.args.start c.args.len c.args.octets.now (omega arith))
