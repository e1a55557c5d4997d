use Rattle.std.proofs.Common.{arith}
use Rattle.rasn_types.proofs.BitString.Views.{length-bits_from}
use Rattle.rasn_types.proofs.types.bits.bit_str.BitStr.unused.Goals as goal

pub returns-clause-whole : goal.returns-clause-whole
returns-clause-whole c =
    let s = c.self.inside in
    rw (← c.self.view_is) (omega (arith, length-bits_from s.shift s.len s.octets.now c.self.invariant.1, c.unused_by.ensures))
