use Rattle.std.proofs.Common.{◌≡◌, ℕ, ◌<◌, Some}
use Rattle.std.specs.Prelude.{slice_get}
use Rattle.rasn_schema.specs.declared.types.Component.{Component}
use Rattle.rasn_schema.specs.Shapes.{shape_of_type}
use Rattle.rasn_schema.specs.Schemas.{AreDistinct}
use Rattle.rasn_schema.proofs.Lists.{SoFar}
use Rattle.rasn_schema.proofs.rules.set_clash.Given as goal

abbrev pub invariant-loop-index : goal.invariant-loop-index
invariant-loop-index l = SoFar (λ i p. (j : ℕ) (q : Component) → i < j → Some q ≡ slice_get l.components j → AreDistinct (shape_of_type l.types l.levels p.type_id.0) (shape_of_type l.types l.levels q.type_id.0)) l.components l.index
