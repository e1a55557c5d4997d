use Rattle.std.proofs.Common.{◌+◌, ◌*◌}
use Rattle.rasn_print.proofs.guess.+read_by.Given as goal

abbrev pub decreases-read_by : goal.decreases-read_by
decreases-read_by l = 4 * l.levels + 1

abbrev pub decreases-parts_in : goal.decreases-parts_in
decreases-parts_in l = 4 * l.levels

abbrev pub decreases-parts_read : goal.decreases-parts_read
decreases-parts_read l = 4 * l.levels + 3

abbrev pub decreases-most_read : goal.decreases-most_read
decreases-most_read l = 4 * l.levels + 2

abbrev pub decreases-read_within : goal.decreases-read_within
decreases-read_within l = 4 * l.levels + 1
