use Rattle.std.proofs.Common.{◌+◌, ◌*◌}
use Rattle.rasn_types.specs.Shapes.{IsFirst}
use Rattle.rasn_schema.specs.Shapes.{shape_of_type}
use Rattle.rasn_schema.proofs.Lists.{SoFar}
use Rattle.rasn_schema.proofs.begin.+begins.Given as goal

abbrev pub decreases-begins : goal.decreases-begins
decreases-begins l = 4 * l.levels

abbrev pub decreases-type_begins : goal.decreases-type_begins
decreases-type_begins l = 4 * l.below + 2

abbrev pub decreases-some_begins : goal.decreases-some_begins
decreases-some_begins l = 4 * l.levels + 1

abbrev pub invariant-some_begins-loop-alternative : goal.invariant-some_begins-loop-alternative
invariant-some_begins-loop-alternative l = SoFar (λ j a. IsFirst (shape_of_type l.types l.levels a.type_id.0) l.tag → ⊥) l.alternatives l.alternative-index
