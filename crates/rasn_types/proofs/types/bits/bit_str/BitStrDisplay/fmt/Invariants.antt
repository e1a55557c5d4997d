use Rattle.std.proofs.Common.{◌≡◌, ◌++◌, map}
use Rattle.std.specs.Fmt.{HasWritten, IsPlainFormatter}
use Rattle.rasn_types.specs.Text.{bit_digit}
use Rattle.rasn_types.proofs.types.bits.bit_str.BitStrDisplay.fmt.Given as goal

abbrev pub invariant-loop-bit : goal.invariant-loop-bit
invariant-loop-bit g l = (l.yielded ++ l.bit-iterator ≡ l.initial.bit-iterator)
    × (IsPlainFormatter l.initial.f → HasWritten g.W.Write.write_str_gives l.initial.f (map bit_digit l.yielded) l.f)
