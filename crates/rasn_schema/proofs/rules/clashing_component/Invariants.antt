use Rattle.std.proofs.Common.{◌<◌}
use Rattle.rasn_schema.specs.Shapes.{shape_of_type}
use Rattle.rasn_schema.specs.Schemas.{AreDistinct}
use Rattle.rasn_schema.proofs.Lists.{SoFar}
use Rattle.rasn_schema.proofs.rules.clashing_component.Given as goal

abbrev pub invariant-loop-other : goal.invariant-loop-other
invariant-loop-other l = SoFar (λ j q. l.index < j → AreDistinct (shape_of_type l.types l.levels l.ty.0) (shape_of_type l.types l.levels q.type_id.0)) l.components l.other
