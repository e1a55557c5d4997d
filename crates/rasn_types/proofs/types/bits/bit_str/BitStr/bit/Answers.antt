use Rattle.std.proofs.Common.{◌/◌, ◌%◌, ◌+◌, ◌<◌, length, ap, arith}
use Rattle.rasn_types.proofs.BitString.Views.{bit_from, length-bits_from}
use Rattle.rasn_types.proofs.types.bits.bit_str.BitStr.bit.Goals as goal

pub returns : goal.returns
returns c =
    let s = c.self.inside in
    let there : c.args.place < s.len = omega (arith, c.requires, ap length c.self.view_is, length-bits_from s.shift s.len s.octets.now c.self.invariant.1) in
    λ b. rw (← c.self.view_is)
    (bit_from s.octets.now (c.args.place / 8 + (s.shift + c.args.place % 8) / 8) ((s.shift + c.args.place % 8) % 8) s.shift s.len c.args.place b (omega arith) (omega arith) (omega arith) there)
