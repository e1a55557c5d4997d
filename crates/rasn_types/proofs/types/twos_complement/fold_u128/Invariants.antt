use Rattle.std.proofs.Common.{◌≡◌, take}
use Rattle.rasn_types.specs.Framing.{number_in}
use Rattle.rasn_types.proofs.types.twos_complement.fold_u128.Given as goal

abbrev pub invariant-loop-digit : goal.invariant-loop-digit
invariant-loop-digit l = l.number ≡ number_in 256 (take l.digit-index l.digits)
