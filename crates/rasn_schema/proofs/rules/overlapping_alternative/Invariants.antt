use Rattle.std.proofs.Common.{◌<◌}
use Rattle.rasn_types.specs.Lawful.{HasTag}
use Rattle.rasn_schema.specs.Shapes.{shape_of_type}
use Rattle.rasn_schema.specs.Schemas.{AreDistinct}
use Rattle.rasn_schema.proofs.Lists.{SoFar}
use Rattle.rasn_schema.proofs.rules.overlapping_alternative.Given as goal

abbrev pub invariant-loop-other : goal.invariant-loop-other
invariant-loop-other l = SoFar (λ j a. l.index < j → HasTag (shape_of_type l.types l.levels a.type_id.0) → AreDistinct (shape_of_type l.types l.levels l.alternative.0) (shape_of_type l.types l.levels a.type_id.0)) l.alternatives l.other
