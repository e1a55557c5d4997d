-- The component to which a path leads.
use Rattle.std.specs.Prelude.{◌≡◌, ◌⊎◌, ℕ, List, [], ◌∷◌, Some, slice_get}
use Rattle.rasn_schema.specs.declared.type_id.TypeId.{TypeId}
use Rattle.rasn_schema.specs.declared.types.Component.{Component}
use Rattle.rasn_schema.specs.declared.types.«Type».{«Type»}
use Rattle.rasn_schema.specs.Schemas.{components_in}
use Rattle.rasn_schema.specs.Held.{part_type}

-- The path leads from a value of the type with number id to this component of it, or of a value inside it.
unfoldable pub LeadsTo : List «Type» → ℕ → List ℕ → Component → Type 0
LeadsTo types id [] p = ⊥
LeadsTo types id (k ∷ path) p = (ty : «Type») × (Some ty ≡ slice_get types id)
    × (((path ≡ []) × (Some p ≡ slice_get (components_in ty) k)) ⊎ ((next : TypeId) × (Some next ≡ part_type ty k) × LeadsTo types next.0 path p))
