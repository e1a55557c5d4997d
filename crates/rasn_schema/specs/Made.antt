-- Which types a type is made of, and a walk that finds them.
use Rattle.std.specs.Prelude.{◌≡◌, ◌≢◌, ◌⊎◌, ◌<◌, ◌+◌, ℕ, zero, suc, List, [], ◌∷◌, ◌++◌, Bool, true, false, Some, length, set, slice_get}
use Rattle.rasn_types.specs.Truth.{IsWhether}
use Rattle.rasn_schema.specs.declared.type_id.TypeId.{TypeId}
use Rattle.rasn_schema.specs.declared.types.«Type».{«Type»}
use Rattle.rasn_schema.specs.Held.{part_type}

-- The number is one of these.
abbrev pub IsIn : List TypeId → ℕ → Type 0
IsIn ids k = (j : ℕ) × (id : TypeId) × (Some id ≡ slice_get ids j) × (id.0 ≡ k)

-- The type with number k has a part whose type has number m.
abbrev pub HasPart : List «Type» → ℕ → ℕ → Type 0
HasPart types k m = (ty : «Type») × (Some ty ≡ slice_get types k) × (i : ℕ) × (id : TypeId) × (Some id ≡ part_type ty i) × (id.0 ≡ m)

-- From the type with number k, n parts in one another lead to that with number m.
unfoldable pub IsMadeOf : List «Type» → ℕ → ℕ → ℕ → Type 0
IsMadeOf types zero k m = k ≡ m
IsMadeOf types (suc n) k m = (j : ℕ) × HasPart types k j × IsMadeOf types n j m

-- There is a type with number m, which is one of these types, or which one of them is made of.
abbrev pub IsReachedFrom : List «Type» → List TypeId → ℕ → Type 0
IsReachedFrom types roots m = (m < length types) × (k : ℕ) × IsIn roots k × (n : ℕ) × IsMadeOf types n k m

-- Each mark says whether its type is such.
abbrev pub AreReachedFrom : List «Type» → List TypeId → List Bool → Type 0
AreReachedFrom types roots marks = (length marks ≡ length types) × ((k : ℕ) (b : Bool) → Some b ≡ slice_get marks k → IsWhether b (IsReachedFrom types roots k))

-- ---- the walk

abbrev pub IsMarked : List Bool → ℕ → Type 0
IsMarked marks k = Some true ≡ slice_get marks k

-- The types of the first n parts of a type are marked, as far as there are such types.
abbrev pub AreMarked : List «Type» → List Bool → «Type» → ℕ → Type 0
AreMarked types marks ty n = (i : ℕ) (id : TypeId) → i < n → Some id ≡ part_type ty i → id.0 < length types → IsMarked marks id.0

-- The types of all of its parts are.
abbrev pub ArePartsMarked : List «Type» → List Bool → ℕ → Type 0
ArePartsMarked types marks k = (m : ℕ) → HasPart types k m → m < length types → IsMarked marks m

-- Of the roots, these first ones are marked. Each type that is marked is reached from a root. Its parts are still to be visited, or are being visited, or are marked.
pub record IsWalk (types : List «Type») (roots first : List TypeId) (IsVisited : ℕ → Type 0) (marks : List Bool) (left : List TypeId) : Type 0 where
  pub long : length marks ≡ length types
  pub begun : (k : ℕ) → IsIn first k → k < length types → IsMarked marks k
  pub sound : (k : ℕ) → IsMarked marks k → IsReachedFrom types roots k
  pub marked : (k : ℕ) → IsIn left k → IsMarked marks k
  pub closed : (k : ℕ) → IsMarked marks k → IsIn left k ⊎ (IsVisited k ⊎ ArePartsMarked types marks k)

abbrev pub IsNone : ℕ → Type 0
IsNone k = ⊥

-- A type that wasn't marked is marked now, and is the last one to be visited.
abbrev pub IsAdded : List Bool → List TypeId → TypeId → List Bool → List TypeId → Type 0
IsAdded marks left id more list = ((Some false ≡ slice_get marks id.0) × (more ≡ set marks id.0 true) × (list ≡ left ++ id ∷ []))
    ⊎ ((Some false ≢ slice_get marks id.0) × (more ≡ marks) × (list ≡ left))

-- How many types aren't marked.
abbrev pub unmarked : List Bool → ℕ
unmarked [] = 0
unmarked (true ∷ marks) = unmarked marks
unmarked (false ∷ marks) = suc (unmarked marks)

-- How many types are still to be marked or visited.
abbrev pub steps_left : List Bool → List TypeId → ℕ
steps_left marks left = unmarked marks + length left
