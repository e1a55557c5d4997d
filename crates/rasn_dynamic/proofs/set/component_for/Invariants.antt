use Rattle.std.proofs.Common.{◌≡◌, ℕ, ◌<◌, Some}
use Rattle.std.specs.Prelude.{slice_get}
use Rattle.rasn_types.specs.Shapes.{IsFirst}
use Rattle.rasn_schema.specs.declared.types.Component.{Component}
use Rattle.rasn_schema.specs.Shapes.{shape_of_type}
use Rattle.rasn_dynamic.proofs.set.component_for.Given as goal

abbrev pub invariant-loop-number : goal.invariant-loop-number
invariant-loop-number l = (j : ℕ) (p : Component) → j < l.number → Some p ≡ slice_get l.components j → IsFirst (shape_of_type l.types l.levels p.type_id.0) l.tag → ⊥
