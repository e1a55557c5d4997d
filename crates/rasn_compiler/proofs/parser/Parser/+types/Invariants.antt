use Rattle.std.proofs.Common.{◌+◌, ◌*◌}
use Rattle.rasn_compiler.proofs.parser.Parser.+types.Given as goal

abbrev pub decreases-read_type : goal.decreases-read_type
decreases-read_type l = 8 * l.depth

abbrev pub decreases-component : goal.decreases-component
decreases-component l = 8 * l.depth + 1

abbrev pub decreases-components : goal.decreases-components
decreases-components l = 8 * l.depth + 2

abbrev pub decreases-element : goal.decreases-element
decreases-element l = 8 * l.depth + 2

abbrev pub decreases-actual : goal.decreases-actual
decreases-actual l = 8 * l.depth + 1

abbrev pub decreases-actuals : goal.decreases-actuals
decreases-actuals l = 8 * l.depth + 2

abbrev pub decreases-reference : goal.decreases-reference
decreases-reference l = 8 * l.depth + 3

abbrev pub decreases-base : goal.decreases-base
decreases-base l = 8 * l.depth + 7
