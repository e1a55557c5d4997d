use Rattle.std.proofs.Common.{ℕ, ◌+◌, ◌*◌}
use Rattle.rasn_tests.proofs.sequence.lengths.+fn-nest-encode_sequence+nest.Given as goal

abbrev pub decreases-encode_sequence : goal.decreases-encode_sequence
decreases-encode_sequence l = 2 * l.below + 1

abbrev pub decreases-nest : goal.decreases-nest
decreases-nest l = 2 * l.levels
