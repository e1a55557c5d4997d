use Rattle.std.proofs.Common.{◌+◌, ◌*◌}
use Rattle.rasn_types.specs.Shapes.{IsFirst}
use Rattle.rasn_schema.specs.Shapes.{shape_of_type}
use Rattle.rasn_schema.specs.FirstTags.{EachFirst}
use Rattle.rasn_schema.proofs.Lists.{SoFar}
use Rattle.rasn_schema.proofs.first_tags.+distinct.Given as goal

abbrev pub decreases-is_distinct : goal.decreases-is_distinct
decreases-is_distinct l = 2 * l.levels

abbrev pub decreases-all_distinct : goal.decreases-all_distinct
decreases-all_distinct l = 2 * l.levels + 1

abbrev pub invariant-all_distinct-loop-alternative : goal.invariant-all_distinct-loop-alternative
invariant-all_distinct-loop-alternative l = SoFar (λ j a. EachFirst (shape_of_type l.types l.levels a.type_id.0) (λ n. IsFirst (shape_of_type l.types l.outer l.other.0) n → ⊥)) l.alternatives l.alternative-index
