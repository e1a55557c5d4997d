-- Parts of a value that are asked for by their paths.
use Rattle.std.specs.Prelude.{◌≡◌, ◌≢◌, ◌⊎◌, ℕ, zero, suc, List, [], ◌∷◌, Some, slice_get}
use Rattle.rasn_types.specs.declared.types.tag.Tag.{Tag}
use Rattle.rasn_dynamic.specs.PathText.{AreStepsOf}
use Rattle.rasn_dynamic.specs.declared.steps.Step.{Step}
use Rattle.rasn_dynamic.specs.declared.steps.Step.TheVariants.{Name, Index}
use Rattle.rasn_schema.specs.declared.type_id.TypeId.{TypeId}
use Rattle.rasn_schema.specs.declared.types.«Type».{«Type»}
use Rattle.rasn_schema.specs.declared.types.«Type».TheVariants.{Tagged}
use Rattle.rasn_schema.specs.declared.value.Value.{Value, Absent}
use Rattle.rasn_schema.specs.declared.view.View.{View}
use Rattle.rasn_schema.specs.Fitting.{IsChosen}
use Rattle.rasn_schema.specs.Held.{IsPartAt, IsNamedPartOf, part_type}

-- The step leads from a value of type k to this part.
abbrev pub IsStepTo : List «Type» → Step → ℕ → Value → TypeId → Value → Type 0
IsStepTo types (Name name) k v id part = IsNamedPartOf types k v name.now id part
IsStepTo types (Index index) k v id part = IsPartAt types k v index id part

-- The steps lead from a value of type k to this one of type m.
unfoldable pub LeadTo : List «Type» → List Step → ℕ → Value → ℕ → Value → Type 0
LeadTo types [] k v m part = (k ≡ m) × (v ≡ part)
LeadTo types (step ∷ steps) k v m part = (id : TypeId) × (w : Value) × IsStepTo types step k v id w × LeadTo types steps id.0 w m part

-- A value of type k is this one in an explicit tag, or has it as its alternative.
abbrev pub IsAround : List «Type» → ℕ → Value → TypeId → Value → Type 0
IsAround types k v id part = ((tag : Tag) × (Some (Tagged tag id) ≡ slice_get types k) × (v ≡ part))
    ⊎ ((ty : «Type») × (Some ty ≡ slice_get types k) × IsChosen (λ i w. (Some id ≡ part_type ty i) × (w ≡ part)) v)

-- Or it has it as a component or an element.
abbrev pub Holds : List «Type» → ℕ → Value → TypeId → Value → Type 0
Holds types k v id part = IsAround types k v id part ⊎ ((i : ℕ) × IsPartAt types k v i id part)

-- n of these in one another lead from a value of type k to this one of type m.
unfoldable pub IsHeldIn : List «Type» → ℕ → ℕ → Value → ℕ → Value → Type 0
IsHeldIn types zero k v m part = (k ≡ m) × (v ≡ part)
IsHeldIn types (suc n) k v m part = (id : TypeId) × (w : Value) × Holds types k v id w × IsHeldIn types n id.0 w m part

-- The part is in the value.
pub record IsWithin (view part : View) : Type 0 where
  pub schema : part.schema.now ≡ view.schema.now
  pub levels : ℕ
  pub held : IsHeldIn view.schema.now.types.items levels view.type_id.0 view.value.now part.type_id.0 part.value.now

-- The path leads to the part, which is present, from the value or from one that it holds.
pub record IsAskedFor (view : View) (path : List ℕ) (part : View) : Type 0 where
  pub steps : List Step
  pub are_steps : AreStepsOf path steps
  pub holder : View
  pub within : IsWithin view holder
  pub schema : part.schema.now ≡ view.schema.now
  pub leads : LeadTo view.schema.now.types.items steps holder.type_id.0 holder.value.now part.type_id.0 part.value.now
  pub present : part.value.now ≢ Absent

-- The view is one of these.
abbrev pub IsAmong : List View → View → Type 0
IsAmong views view = (i : ℕ) × (Some view ≡ slice_get views i)
