-- Paths to parts by names.
use Rattle.std.specs.Prelude.{◌≡◌, ◌≢◌, ◌⊎◌, ◌<◌, ℕ, zero, suc, List, [], ◌∷◌, slice_get, Some, None}
use Rattle.rasn_types.specs.declared.types.tag.Tag.{Tag}
use Rattle.rasn_schema.specs.declared.type_id.TypeId.{TypeId}
use Rattle.rasn_schema.specs.declared.types.«Type».{«Type»}
use Rattle.rasn_schema.specs.declared.types.«Type».TheVariants.{Tagged, SequenceOf, SetOf}
use Rattle.rasn_schema.specs.Held.{IsTagged, part_type, part_name}
use Rattle.rasn_dynamic.specs.declared.steps.Step.{Step}
use Rattle.rasn_dynamic.specs.declared.steps.Step.TheVariants.{Name, Index}

-- Component or alternative k of a value of the type is the first with the name.
abbrev pub IsFirstName : «Type» → List ℕ → ℕ → Type 0
IsFirstName ty name k = (Some name ≡ part_name ty k) × ((j : ℕ) → j < k → Some name ≡ part_name ty j → ⊥)

-- So is part k, which is of the type with the number.
abbrev pub IsNamedStep : «Type» → List ℕ → ℕ → TypeId → Type 0
IsNamedStep ty name k id = IsFirstName ty name k × (Some id ≡ part_type ty k)

-- It is the element with the index.
abbrev pub IsIndexedStep : «Type» → ℕ → ℕ → TypeId → Type 0
IsIndexedStep (SequenceOf tag element c) index k id = (k ≡ index) × (id ≡ element)
IsIndexedStep (SetOf tag element c) index k id = (k ≡ index) × (id ≡ element)
IsIndexedStep _ index k id = ⊥

abbrev pub IsStepOf : «Type» → Step → ℕ → TypeId → Type 0
IsStepOf ty (Name name) k id = IsNamedStep ty name.now k id
IsStepOf ty (Index index) k id = IsIndexedStep ty index k id

-- The steps lead along the path: an explicit tag before a step is a step of the path, with the index 0.
unfoldable pub IsWay : List «Type» → ℕ → ℕ → List Step → List ℕ → Type 0
IsWay types levels id steps [] = steps ≡ []
IsWay types levels id steps (k ∷ path) = (n : ℕ) × (levels ≡ suc n) × (step : Step) × (after : List Step) × (steps ≡ step ∷ after)
    × (((tag : Tag) × (inner : TypeId) × (Some (Tagged tag inner) ≡ slice_get types id) × (k ≡ 0) × IsWay types n inner.0 steps path)
    ⊎ ((ty : «Type») × (next : TypeId) × (Some ty ≡ slice_get types id) × (IsTagged ty → ⊥) × IsStepOf ty step k next × IsWay types n next.0 after path))

-- Some step leads to no part.
unfoldable pub IsNoWay : List «Type» → ℕ → ℕ → List Step → Type 0
IsNoWay types zero id steps = steps ≢ []
IsNoWay types (suc n) id steps = (step : Step) × (after : List Step) × (steps ≡ step ∷ after)
    × ((None ≡ slice_get types id)
    ⊎ (((tag : Tag) × (inner : TypeId) × (Some (Tagged tag inner) ≡ slice_get types id) × IsNoWay types n inner.0 steps)
    ⊎ ((ty : «Type») × (Some ty ≡ slice_get types id) × (IsTagged ty → ⊥)
    × (((k : ℕ) (next : TypeId) → IsStepOf ty step k next → ⊥) ⊎ ((k : ℕ) × (next : TypeId) × IsStepOf ty step k next × IsNoWay types n next.0 after)))))

-- The step, and those after it, from a type that is no explicit tag.
abbrev pub IsPartWay : List «Type» → ℕ → «Type» → Step → List Step → List ℕ → Type 0
IsPartWay types n ty step after path = (k : ℕ) × (next : TypeId) × (more : List ℕ) × (path ≡ k ∷ more) × IsStepOf ty step k next × IsWay types n next.0 after more

abbrev pub IsNoPartWay : List «Type» → ℕ → «Type» → Step → List Step → Type 0
IsNoPartWay types n ty step after = ((k : ℕ) (next : TypeId) → IsStepOf ty step k next → ⊥) ⊎ ((k : ℕ) × (next : TypeId) × IsStepOf ty step k next × IsNoWay types n next.0 after)
