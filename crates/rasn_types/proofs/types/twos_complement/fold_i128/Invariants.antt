use Rattle.std.proofs.Common.{◌≡◌, ◌/◌, take, get_or}
use Rattle.rasn_types.proofs.Integer.TwosComplement.{folded}
use Rattle.rasn_types.proofs.types.twos_complement.fold_i128.Given as goal

abbrev pub invariant-loop-octet : goal.invariant-loop-octet
invariant-loop-octet l = l.number ≡ folded (get_or l.octets 0 0 / 128) (take l.octet-index l.octets)
