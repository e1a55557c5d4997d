use Rattle.std.proofs.Common.{◌≡◌, length}
use Rattle.rasn_lint.specs.Header.{after_number}
use Rattle.rasn_lint.proofs.header.after_number.Given as goal

abbrev pub invariant-loop-rest : goal.invariant-loop-rest
invariant-loop-rest l = after_number l.octets ≡ after_number l.rest

abbrev pub decreases-loop-rest : goal.decreases-loop-rest
decreases-loop-rest l = length l.rest
