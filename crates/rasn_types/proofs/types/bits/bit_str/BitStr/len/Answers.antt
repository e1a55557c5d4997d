use Rattle.std.proofs.Common.{sym}
use Rattle.rasn_types.proofs.BitString.Views.{length-bits_from}
use Rattle.rasn_types.proofs.types.bits.bit_str.BitStr.len.Goals as goal

pub returns : goal.returns
returns c = rw (← c.self.view_is) (sym (length-bits_from c.self.inside.shift c.self.inside.len c.self.inside.octets.now c.self.invariant.1))
