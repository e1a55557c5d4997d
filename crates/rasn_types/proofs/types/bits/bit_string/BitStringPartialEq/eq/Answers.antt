use Rattle.rasn_types.proofs.BitString.Views.{equal_bits, unequal_bits}
use Rattle.rasn_types.proofs.types.bits.bit_string.BitStringPartialEq.eq.Goals as goal

pub returns-then-self-other : goal.returns-then-self-other
returns-then-self-other c =
    let s = c.self.inside in
    let o = c.other.inside in
    rw (← c.self.view_is, ← c.other.view_is) (equal_bits s.len o.len s.octets.items o.octets.items c.eq.result c.self.invariant c.other.invariant c.if-self-other.true c.eq.ensures)

pub returns-else-self-other : goal.returns-else-self-other
returns-else-self-other c =
    let s = c.self.inside in
    let o = c.other.inside in
    rw (← c.self.view_is, ← c.other.view_is) (unequal_bits s.len o.len s.octets.items o.octets.items c.self.invariant c.other.invariant c.if-self-other.false)
