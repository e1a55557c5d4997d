use Rattle.std.proofs.Common.{◌≡◌, take}
use Rattle.std.specs.Prelude.{All}
use Rattle.rasn_schema.proofs.real_binary.is_zero.Given as goal

abbrev pub invariant-loop-octet : goal.invariant-loop-octet
invariant-loop-octet l = All (λ o. o ≡ 0) (take l.octet-index l.octets)
