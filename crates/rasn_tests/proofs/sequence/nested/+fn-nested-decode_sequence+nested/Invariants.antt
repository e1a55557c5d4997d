use Rattle.std.proofs.Common.{ℕ, ◌+◌, ◌*◌}
use Rattle.rasn_tests.proofs.sequence.nested.+fn-nested-decode_sequence+nested.Given as goal

abbrev pub decreases-decode_sequence : goal.decreases-decode_sequence
decreases-decode_sequence l = 2 * l.below + 1

abbrev pub decreases-nested : goal.decreases-nested
decreases-nested l = 2 * l.levels
