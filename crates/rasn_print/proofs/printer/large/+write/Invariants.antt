use Rattle.std.proofs.Common.{◌+◌, ◌*◌}
use Rattle.rasn_print.proofs.printer.large.+write.Given as goal

abbrev pub decreases-write : goal.decreases-write
decreases-write g l = 2 * l.place.levels

abbrev pub decreases-write_elements : goal.decreases-write_elements
decreases-write_elements g l = 2 * l.place.levels + 1

abbrev pub decreases-write_components : goal.decreases-write_components
decreases-write_components g l = 2 * l.place.levels + 1

abbrev pub decreases-write_open : goal.decreases-write_open
decreases-write_open g l = 2 * l.place.levels + 1
