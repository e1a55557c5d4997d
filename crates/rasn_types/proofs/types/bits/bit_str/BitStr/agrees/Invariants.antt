use Rattle.std.proofs.Common.{◌≡◌, take}
use Rattle.rasn_types.proofs.types.bits.bit_str.BitStr.agrees.Given as goal

abbrev pub invariant-loop-place : goal.invariant-loop-place
invariant-loop-place l = take l.place l.self ≡ take l.place l.other
