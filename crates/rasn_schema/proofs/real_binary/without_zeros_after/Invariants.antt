use Rattle.std.proofs.Common.{◌≡◌, ◌-◌, ◌*◌, ◌^◌, ◌≤◌, length, take}
use Rattle.rasn_types.specs.Framing.{number_in}
use Rattle.rasn_schema.proofs.real_binary.without_zeros_after.Given as goal

abbrev pub invariant-loop-end : goal.invariant-loop-end
invariant-loop-end l = (l.end ≤ length l.octets) × (number_in 256 l.octets ≡ number_in 256 (take l.end l.octets) * 256 ^ (length l.octets - l.end))

abbrev pub decreases-loop-end : goal.decreases-loop-end
decreases-loop-end l = l.end
