use Rattle.std.proofs.Common.{◌≡◌, suc, length}
use Rattle.rasn_schema.specs.Shapes.{shape_of_type}
use Rattle.rasn_schema.specs.Schemas.{IsUnknown, IsRequired}
use Rattle.rasn_schema.proofs.Lists.{SoFar}
use Rattle.rasn_schema.proofs.rules.misplaced_unknown.Given as goal

abbrev pub invariant-loop-index : goal.invariant-loop-index
invariant-loop-index l = SoFar (λ j p. IsUnknown (shape_of_type l.types l.levels p.type_id.0) → (suc j ≡ length l.components) × IsRequired p.presence) l.components l.index
