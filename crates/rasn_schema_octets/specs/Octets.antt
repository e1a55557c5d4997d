-- The octets of a schema, and what is wrong with octets that aren't those of one.
use Rattle.std.specs.Prelude.{◌≡◌, ◌≢◌, ◌⊎◌, ◌≤◌, ◌<◌, ℕ, List, [], ◌∷◌, length, Option, Vec}
use Rattle.std.specs.Global.{Global}
use Rattle.rasn_types.specs.declared.types.codec.Codec.TheVariants.{Der}
use Rattle.rasn_types.specs.declared.error.decode.DecodeError.{DecodeError}
use Rattle.rasn_types.specs.Bytes.{Bytes}
use Rattle.rasn_types.specs.Carried.{IsWithinLimits}
use Rattle.rasn_types.specs.Grammar.{Reads, top}
use Rattle.rasn_types.specs.Shapes.{Tree, items}
use Rattle.rasn_types.specs.Trees.{list_tree}
use Rattle.rasn_enc.specs.Encoding.{NoEncoding}
use Rattle.rasn_schema.specs.declared.schema.Schema.{Schema}
use Rattle.rasn_schema.specs.declared.type_id.TypeId.{TypeId}
use Rattle.rasn_schema.specs.declared.types.«Type».{«Type»}
use Rattle.rasn_schema.specs.declared.named.TypeName.{TypeName}
use Rattle.rasn_schema.specs.Faults.{IsFault}
use Rattle.rasn_schema.specs.Schemas.{IsSchema}
use Rattle.rasn_schema_octets.specs.Shapes.{octets_shape}
use Rattle.rasn_schema_octets.specs.Trees.{index_tree, type_tree, octets_tree}
use Rattle.rasn_schema_octets.specs.Shallow.{Every, IsShallowType}
use Rattle.rasn_schema_octets.specs.declared.fault.ReadFault.{ReadFault}
use Rattle.rasn_schema_octets.specs.declared.fault.ReadFault.TheVariants.{OutOfMemory, Octets, Version, NoRoot, Default, Rule}
use Rattle.rasn_schema_octets.specs.declared.fault.WriteFault.{WriteFault}
use Rattle.rasn_schema_octets.specs.declared.fault.WriteFault.TheVariants.{OutOfMemory as NoMemoryToWrite, NoRoot as NoRootToWrite, DeepDefault, Encode}

-- What a schema says, in version 1 of the form, with the number of one of its types and how many constraints it doesn't check.
abbrev pub schema_tree : Schema → TypeId → ℕ → Tree
schema_tree s root unchecked = octets_tree 1 root.0 unchecked s.names s.types.items

-- They are the DER encoding of what the schema says.
abbrev pub IsSchemaOctets : Schema → TypeId → ℕ → List ℕ → Type 0
IsSchemaOctets s root unchecked octets = Bytes Der octets_shape (schema_tree s root unchecked) octets

-- ---- octets that are refused

-- DER reads all of the octets as this value, which has these octets.
abbrev pub IsRead : List ℕ → Tree → Type 0
IsRead octets t = Reads Der octets_shape 128 (top Der) octets t [] × Bytes Der octets_shape t octets

-- DER reads them as no value of the form.
abbrev pub IsNoValue : List ℕ → Type 0
IsNoValue octets = (t : Tree) → Reads Der octets_shape 128 (top Der) octets t [] → ⊥

-- The error says that DER doesn't read the octets: where, at most at their end; or that they are of another version.
abbrev pub IsUnread : List ℕ → ReadFault → Type 0
IsUnread octets (Octets part offset e) = IsNoValue octets × (offset ≤ length octets) × (e.codec ≡ Der)
IsUnread octets (Version v) = IsNoValue octets × (v ≢ 1)
IsUnread octets _ = ⊥

-- This is true of the error of octets that DER doesn't read.
abbrev pub HasError : (DecodeError → Type 0) → ReadFault → Type 0
HasError Is (Octets part offset e) = Is e
HasError Is _ = Unit {0}

-- The value of the form is of this version, and has these parts.
abbrev pub form_of : ℕ → ℕ → ℕ → Tree → List Tree → Tree
form_of version root unchecked names types = items (index_tree version ∷ index_tree root ∷ index_tree unchecked ∷ names ∷ items types ∷ [])

-- What is wrong with a value of the form: another version; a number that isn't below that of the types; a default that isn't one value or is nested
-- too deep, so that no types are such; or types that break this rule.
abbrev pub IsWrong : Tree → ReadFault → Type 0
IsWrong t (Version v) = (v ≢ 1) × ((root unchecked : ℕ) × (names : Tree) × (types : List Tree) × (t ≡ form_of v root unchecked names types))
IsWrong t (NoRoot root n) = (n ≤ root.0) × ((unchecked : ℕ) × (names : Tree) × (types : List Tree) × (length types ≡ n) × (t ≡ form_of 1 root.0 unchecked names types))
IsWrong t (Default id i) = (root unchecked : ℕ) (names : Option (Vec TypeName Global)) (types : List «Type») → Every IsShallowType types → octets_tree 1 root unchecked names types ≡ t → ⊥
IsWrong t (Rule e) = (types : List «Type») × IsFault types e × (IsSchema types → ⊥) × ((root unchecked : ℕ) × (names : Tree) × (t ≡ items (index_tree 1 ∷ index_tree root ∷ index_tree unchecked ∷ names ∷ list_tree type_tree types ∷ [])))
IsWrong t _ = ⊥

abbrev pub IsReadFault : List ℕ → ReadFault → Type 0
IsReadFault octets OutOfMemory = Unit {0}
IsReadFault octets e = IsUnread octets e ⊎ ((t : Tree) × IsRead octets t × IsWrong t e)

-- The same, where memory isn't what is missing.
abbrev pub IsWrongOr : Tree → ReadFault → Type 0
IsWrongOr t OutOfMemory = Unit {0}
IsWrongOr t e = IsWrong t e

-- No schema has the octets whose number is that of a type, whose defaults aren't nested too deep, and what it says is within the limits of carried values.
abbrev pub HasNoSchema : List ℕ → Type 0
HasNoSchema octets = (s : Schema) (root : TypeId) (unchecked : ℕ) → root.0 < length s.types.items → Every IsShallowType s.types.items
    → IsWithinLimits Der octets_shape 128 (schema_tree s root unchecked) → IsSchemaOctets s root unchecked octets → ⊥

-- After an error other than that memory ran out or that the types break a rule, there is no such schema.
abbrev pub IsRefused : List ℕ → ReadFault → Type 0
IsRefused octets OutOfMemory = Unit {0}
IsRefused octets (Rule e) = Unit {0}
IsRefused octets e = HasNoSchema octets

-- Each error of `read` says this.
abbrev pub RefusedRightly : Type 0
RefusedRightly = (octets : List ℕ) (e : ReadFault) → IsReadFault octets e → IsRefused octets e

-- ---- schemas that aren't written

-- The number isn't that of a type; a default is nested too deep; or what the schema says has no octets.
abbrev pub IsWriteFault : Schema → TypeId → ℕ → WriteFault → Type 0
IsWriteFault s root unchecked NoMemoryToWrite = Unit {0}
IsWriteFault s root unchecked (NoRootToWrite r n) = (r ≡ root) × (n ≡ length s.types.items) × (n ≤ root.0)
IsWriteFault s root unchecked (DeepDefault id i) = Every IsShallowType s.types.items → ⊥
IsWriteFault s root unchecked (Encode e) = NoEncoding Der octets_shape (schema_tree s root unchecked)
