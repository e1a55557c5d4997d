use Rattle.std.proofs.Common.{◌≡◌, length}
use Rattle.rasn_bench.specs.Lines.{pairs_at}
use Rattle.rasn_bench.proofs.Digits.{before}
use Rattle.rasn_bench.proofs.line.octets_of_digits.Given as goal

-- what remains, read after what was read, is the whole reading
abbrev pub invariant-loop-rest : goal.invariant-loop-rest
invariant-loop-rest l = pairs_at l.fn.digits ≡ before l.octets.items (pairs_at l.rest)

abbrev pub decreases-loop-rest : goal.decreases-loop-rest
decreases-loop-rest l = length l.rest
