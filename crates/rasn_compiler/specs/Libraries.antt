-- Libraries: the types of a set of modules in one schema.
use Rattle.std.specs.Prelude.{◌≡◌, ◌⊎◌, ◌<◌, ℕ, List, ◌++◌, length, codes, Some, slice_get}
use Rattle.std.specs.List.{All}
use Rattle.rasn_schema.specs.declared.named.TypeName.{TypeName}
use Rattle.rasn_schema.specs.declared.type_id.TypeId.{TypeId}
use Rattle.rasn_schema.specs.declared.schema.Schema.{Schema}
use Rattle.rasn_schema.specs.Named.{IsNamed}
use Rattle.rasn_compiler.specs.declared.library.Root.{Root}

-- Each root's number is below the count, and these names have it under the root's name.
abbrev pub AreNamed : ℕ → List TypeName → List Root → Type 0
AreNamed count names roots = All (λ r. (r.type_id.0 < count) × IsNamed names r.name.now r.type_id) roots

-- The schema has a type of the number, with the name.
abbrev pub IsTypeIn : Schema → List ℕ → TypeId → Type 0
IsTypeIn s name id = (id.0 < length s.types.items) × ((names : _) × (s.names ≡ Some names) × IsNamed names.items name id)

abbrev pub IsRootIn : Schema → Root → Type 0
IsRootIn s r = IsTypeIn s r.name.now r.type_id

abbrev pub AreRoots : Schema → List Root → Type 0
AreRoots s roots = All (IsRootIn s) roots

-- The name is TYPE or MODULE.TYPE.
abbrev pub IsCalled : Root → List ℕ → Type 0
IsCalled r name = (r.name.now ≡ name) ⊎ (name ≡ r.module.now ++ (codes "." ++ r.name.now))

-- The first root that has the name, and its index.
abbrev pub IsIndexCalled : List Root → List ℕ → ℕ → Type 0
IsIndexCalled roots name k = ((r : Root) × (Some r ≡ slice_get roots k) × IsCalled r name) × ((i : ℕ) (other : Root) → i < k → Some other ≡ slice_get roots i → IsCalled other name → ⊥)

abbrev pub IsFirstCalled : List Root → List ℕ → Root → Type 0
IsFirstCalled roots name r = (k : ℕ) × (Some r ≡ slice_get roots k) × IsIndexCalled roots name k

abbrev pub IsNoneCalled : List Root → List ℕ → Type 0
IsNoneCalled roots name = (i : ℕ) (other : Root) → Some other ≡ slice_get roots i → IsCalled other name → ⊥
