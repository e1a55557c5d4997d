use Rattle.std.proofs.Common.{◌+◌, ◌*◌}
use Rattle.rasn_compiler.proofs.resolver.shape.Resolver.+values.Given as goal

abbrev pub decreases-value_of : goal.decreases-value_of
decreases-value_of l = 2 * l.depth

abbrev pub decreases-members : goal.decreases-members
decreases-members l = 2 * l.depth + 1

abbrev pub decreases-chosen : goal.decreases-chosen
decreases-chosen l = 2 * l.depth + 1

abbrev pub decreases-elements : goal.decreases-elements
decreases-elements l = 2 * l.depth + 1
