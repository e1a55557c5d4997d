use Rattle.std.proofs.Common.{◌+◌, ◌*◌}
use Rattle.rasn_schema_rows.proofs.show.+show.Given as goal

abbrev pub decreases-show : goal.decreases-show
decreases-show l = 2 * l.levels

abbrev pub decreases-show_components : goal.decreases-show_components
decreases-show_components l = 2 * l.levels + 1

abbrev pub decreases-show_alternatives : goal.decreases-show_alternatives
decreases-show_alternatives l = 2 * l.levels + 1
