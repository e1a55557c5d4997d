use Rattle.std.proofs.Common.{◌+◌, ◌*◌}
use Rattle.rasn_print.proofs.example.+made.Given as goal

abbrev pub decreases-made : goal.decreases-made
decreases-made l = 3 * l.levels

abbrev pub decreases-made_by : goal.decreases-made_by
decreases-made_by l = 3 * l.levels + 2

abbrev pub decreases-chosen : goal.decreases-chosen
decreases-chosen l = 3 * l.levels + 1

abbrev pub decreases-items : goal.decreases-items
decreases-items l = 3 * l.levels + 1

abbrev pub decreases-elements : goal.decreases-elements
decreases-elements l = 3 * l.levels + 1
