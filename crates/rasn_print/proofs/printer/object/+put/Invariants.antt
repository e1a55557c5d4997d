use Rattle.std.proofs.Common.{◌+◌, ◌*◌}
use Rattle.rasn_print.proofs.printer.object.+put.Given as goal

abbrev pub decreases-put : goal.decreases-put
decreases-put l = 4 * l.place.levels

abbrev pub decreases-put_by : goal.decreases-put_by
decreases-put_by l = 4 * l.place.levels + 3

abbrev pub decreases-put_components : goal.decreases-put_components
decreases-put_components l = 4 * l.place.levels + 1

abbrev pub decreases-put_elements : goal.decreases-put_elements
decreases-put_elements l = 4 * l.place.levels + 1

abbrev pub decreases-put_octets : goal.decreases-put_octets
decreases-put_octets l = 4 * l.place.levels + 2

abbrev pub decreases-put_held : goal.decreases-put_held
decreases-put_held l = 4 * l.place.levels + 1
