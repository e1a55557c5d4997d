use Rattle.std.proofs.Common.{false, arith}
use Rattle.std.proofs.lemmas.List.{take_more_same}
use Rattle.rasn_types.proofs.BitString.Views.{one_bit, bits_apart, bits_alike}
use Rattle.rasn_types.proofs.types.bits.bit_str.BitStr.agrees.Goals as goal

pub returns-then-bit : goal.returns-then-bit
returns-then-bit c =
    bits_apart c.args.self.now c.args.other.now c.loop-place.place c.bit.result c.bit-in-loop-place.result
    (c.bit.ensures false) (c.bit-in-loop-place.ensures false) c.if-bit.true

pub loop-place-preserved : goal.loop-place-preserved
loop-place-preserved c =
    take_more_same c.args.self.now c.args.other.now c.loop-place.place false (omega arith) (omega (arith, c.requires)) c.loop-place.invariant
    (rw (← c.bit.ensures false, ← c.bit-in-loop-place.ensures false) (one_bit c.bit.result c.bit-in-loop-place.result c.if-bit.false))

pub returns : goal.returns
returns c = bits_alike c.args.self.now c.args.other.now c.loop-place.place c.loop-place.invariant (omega arith) (omega (arith, c.requires))
