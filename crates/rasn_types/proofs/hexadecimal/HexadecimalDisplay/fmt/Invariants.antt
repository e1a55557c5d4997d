use Rattle.std.proofs.Common.{take}
use Rattle.std.specs.Fmt.{HasWritten, IsPlainFormatter}
use Rattle.rasn_types.specs.Text.{hexadecimal}
use Rattle.rasn_types.proofs.hexadecimal.HexadecimalDisplay.fmt.Given as goal

abbrev pub invariant-loop-octet : goal.invariant-loop-octet
invariant-loop-octet g l =
    IsPlainFormatter l.initial.f → HasWritten g.W.Write.write_str_gives l.initial.f (hexadecimal (take l.octet-index l.fn.self)) l.f
