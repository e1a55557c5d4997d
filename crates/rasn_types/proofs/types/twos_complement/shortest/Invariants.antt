use Rattle.std.proofs.Common.{◌≡◌, ◌<◌, ◌-◌, length, drop}
use Rattle.rasn_types.specs.Contents.{signed}
use Rattle.rasn_types.proofs.types.twos_complement.shortest.Given as goal

abbrev pub invariant-loop-start : goal.invariant-loop-start
invariant-loop-start l = (l.start < length l.octets) × (signed (drop l.start l.octets) ≡ signed l.octets)

abbrev pub decreases-loop-start : goal.decreases-loop-start
decreases-loop-start l = length l.octets - l.start
