use Rattle.std.proofs.Common.{◌+◌, ◌*◌}
use Rattle.rasn_print.proofs.printer.+print.Given as goal

abbrev pub decreases-print : goal.decreases-print
decreases-print l = 4 * l.place.levels

abbrev pub decreases-print_by : goal.decreases-print_by
decreases-print_by l = 4 * l.place.levels + 3

abbrev pub decreases-print_parts : goal.decreases-print_parts
decreases-print_parts l = 4 * l.place.levels + 1

abbrev pub decreases-print_octets : goal.decreases-print_octets
decreases-print_octets l = 4 * l.place.levels + 2

abbrev pub decreases-print_held : goal.decreases-print_held
decreases-print_held l = 4 * l.place.levels + 1
