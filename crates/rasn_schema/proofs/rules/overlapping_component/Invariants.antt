use Rattle.std.proofs.Common.{◌<◌}
use Rattle.rasn_schema.specs.Shapes.{shape_of_type, presence_of}
use Rattle.rasn_schema.specs.Schemas.{AreDistinct}
use Rattle.rasn_schema.specs.FirstTags.{IsAlwaysThere}
use Rattle.rasn_schema.proofs.Lists.{SoFar}
use Rattle.rasn_schema.proofs.rules.overlapping_component.Given as goal

abbrev pub invariant-loop-other : goal.invariant-loop-other
invariant-loop-other l = SoFar (λ j q. l.index < j → AreDistinct (shape_of_type l.types l.levels l.ty.0) (shape_of_type l.types l.levels q.type_id.0) × (IsAlwaysThere (presence_of q.presence) → ⊥)) l.components l.other
