use Rattle.std.proofs.Common.{◌≡◌, ◌≢◌, ◌*◌, ◌^◌}
use Rattle.rasn_schema.proofs.real_binary.low_zeros.Given as goal

abbrev pub invariant-loop-rest : goal.invariant-loop-rest
invariant-loop-rest l = (l.octet ≡ l.rest * 2 ^ l.count) × (l.rest ≢ 0)

abbrev pub decreases-loop-rest : goal.decreases-loop-rest
decreases-loop-rest l = l.rest
