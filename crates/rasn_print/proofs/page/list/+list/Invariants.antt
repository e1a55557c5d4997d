use Rattle.std.proofs.Common.{◌+◌, ◌*◌}
use Rattle.rasn_print.proofs.page.list.+list.Given as goal

abbrev pub decreases-list : goal.decreases-list
decreases-list l = 2 * l.nest.levels + 1

abbrev pub decreases-list_held : goal.decreases-list_held
decreases-list_held l = 2 * l.place.levels
