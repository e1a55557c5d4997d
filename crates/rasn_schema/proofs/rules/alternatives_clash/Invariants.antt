use Rattle.std.proofs.Common.{◌≡◌, ℕ, ◌<◌, Some}
use Rattle.std.specs.Prelude.{slice_get}
use Rattle.rasn_types.specs.Lawful.{HasTag}
use Rattle.rasn_schema.specs.declared.types.Alternative.{Alternative}
use Rattle.rasn_schema.specs.Shapes.{shape_of_type}
use Rattle.rasn_schema.specs.Schemas.{AreDistinct}
use Rattle.rasn_schema.proofs.Lists.{SoFar}
use Rattle.rasn_schema.proofs.rules.alternatives_clash.Given as goal

abbrev pub invariant-loop-index : goal.invariant-loop-index
invariant-loop-index l = SoFar (λ i a. (j : ℕ) (b : Alternative) → i < j → Some b ≡ slice_get l.alternatives j → HasTag (shape_of_type l.types l.levels b.type_id.0) → AreDistinct (shape_of_type l.types l.levels a.type_id.0) (shape_of_type l.types l.levels b.type_id.0)) l.alternatives l.index
