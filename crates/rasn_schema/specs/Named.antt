-- Names of types.
use Rattle.std.specs.Prelude.{◌≡◌, ◌≢◌, ◌<◌, ℕ, List, Vec, Option, Some, None, slice_get}
use Rattle.std.specs.Global.{Global}
use Rattle.std.specs.String.{string_bytes}
use Rattle.rasn_schema.specs.declared.type_id.TypeId.{TypeId}
use Rattle.rasn_schema.specs.declared.named.TypeName.{TypeName}

-- One of the names is that of the type.
abbrev pub IsNamed : List TypeName → List ℕ → TypeId → Type 0
IsNamed names name id = (j : ℕ) × (n : TypeName) × (Some n ≡ slice_get names j) × (string_bytes n.name ≡ name) × (n.type_id ≡ id)

-- The first of the names that is this one is that of the type.
abbrev pub IsFirstNamed : List TypeName → List ℕ → TypeId → Type 0
IsFirstNamed names name id = (j : ℕ) × (n : TypeName) × (Some n ≡ slice_get names j) × (string_bytes n.name ≡ name) × (n.type_id ≡ id)
    × ((i : ℕ) (m : TypeName) → i < j → Some m ≡ slice_get names i → string_bytes m.name ≢ name)

-- No type has the name.
abbrev pub IsUnnamed : Option (Vec TypeName Global) → List ℕ → Type 0
IsUnnamed None name = Unit {0}
IsUnnamed (Some names) name = (j : ℕ) (n : TypeName) → Some n ≡ slice_get names.items j → string_bytes n.name ≢ name
