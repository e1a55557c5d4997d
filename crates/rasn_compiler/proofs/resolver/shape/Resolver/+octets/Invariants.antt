use Rattle.std.proofs.Common.{◌+◌, ◌*◌}
use Rattle.rasn_compiler.proofs.resolver.shape.Resolver.+octets.Given as goal

abbrev pub decreases-open_octets : goal.decreases-open_octets
decreases-open_octets l = 3 * l.depth + 2

abbrev pub decreases-octets_of : goal.decreases-octets_of
decreases-octets_of l = 3 * l.depth

abbrev pub decreases-member_octets : goal.decreases-member_octets
decreases-member_octets l = 3 * l.depth + 2

abbrev pub decreases-valued_octets : goal.decreases-valued_octets
decreases-valued_octets l = 3 * l.depth + 1

abbrev pub decreases-element_octets : goal.decreases-element_octets
decreases-element_octets l = 3 * l.depth + 2

abbrev pub decreases-chosen_octets : goal.decreases-chosen_octets
decreases-chosen_octets l = 3 * l.depth + 2
