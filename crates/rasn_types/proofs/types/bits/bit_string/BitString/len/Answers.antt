use Rattle.std.proofs.Common.{sym, arith}
use Rattle.rasn_types.proofs.BitString.Views.{length-bits_from}
use Rattle.rasn_types.proofs.types.bits.bit_string.BitString.len.Goals as goal

pub returns : goal.returns
returns c = rw (← c.self.view_is) (sym (length-bits_from 0 c.self.inside.len c.self.inside.octets.items (omega (arith, c.self.invariant.held))))
