use Rattle.std.proofs.Common.{◌≡◌, ℕ, Some}
use Rattle.std.specs.Prelude.{slice_get}
use Rattle.rasn_schema.specs.declared.types.Component.{Component}
use Rattle.rasn_schema.specs.Shapes.{shape_of_type, presence_of}
use Rattle.rasn_schema.specs.FirstTags.{IsAlwaysThere}
use Rattle.rasn_schema.specs.Schemas.{MayFollow, IsToldFrom, own_at}
use Rattle.rasn_schema.proofs.Lists.{SoFar}
use Rattle.rasn_schema.proofs.rules.components_clash.Given as goal

abbrev pub invariant-loop-index : goal.invariant-loop-index
invariant-loop-index l = SoFar (λ i p. (j : ℕ) (q : Component) → Some q ≡ slice_get l.components j → (IsAlwaysThere (presence_of p.presence) → ⊥) → MayFollow l.components i j → IsToldFrom (own_at l.types p.type_id.0) (shape_of_type l.types l.levels p.type_id.0) (shape_of_type l.types l.levels q.type_id.0)) l.components l.index
