use Rattle.std.proofs.Common.{◌+◌, ◌*◌}
use Rattle.rasn_schema.specs.Shapes.{shape_of_type}
use Rattle.rasn_schema.proofs.Firsts.{HasFirst}
use Rattle.rasn_schema.proofs.Lists.{SoFar}
use Rattle.rasn_schema.proofs.first_tags.+firsts.Given as goal

abbrev pub decreases-has_firsts : goal.decreases-has_firsts
decreases-has_firsts l = 2 * l.levels

abbrev pub decreases-some_have_firsts : goal.decreases-some_have_firsts
decreases-some_have_firsts l = 2 * l.levels + 1

abbrev pub invariant-some_have_firsts-loop-alternative : goal.invariant-some_have_firsts-loop-alternative
invariant-some_have_firsts-loop-alternative l = SoFar (λ j a. HasFirst (shape_of_type l.types l.levels a.type_id.0) → ⊥) l.alternatives l.alternative-index
