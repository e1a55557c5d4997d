use Rattle.std.proofs.Common.{◌<◌}
use Rattle.rasn_types.specs.Shapes.{IsFirst}
use Rattle.rasn_types.specs.Lawful.{HasTag}
use Rattle.rasn_schema.specs.Shapes.{shape_of_type}
use Rattle.rasn_schema.proofs.Lists.{SoFar}
use Rattle.rasn_schema.proofs.rules.alternative_with.Given as goal

abbrev pub invariant-loop-other : goal.invariant-loop-other
invariant-loop-other l = SoFar (λ j a. l.index < j → HasTag (shape_of_type l.types l.levels a.type_id.0) → IsFirst (shape_of_type l.types l.levels a.type_id.0) l.tag → ⊥) l.alternatives l.other
