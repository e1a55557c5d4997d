-- Schemas as octets, and the rules of a call.
use Rattle.std.specs.Prelude.{◌≡◌, ◌≢◌, ◌<◌, ℕ, List, length}
use Rattle.rasn_types.specs.declared.types.codec.Codec.{Codec}
use Rattle.rasn_schema.specs.declared.schema.Schema.{Schema}
use Rattle.rasn_schema.specs.declared.type_id.TypeId.{TypeId}
use Rattle.rasn_schema_octets.specs.Octets.{IsSchemaOctets, IsReadFault, IsRefused}
use Rattle.rasn_schema_octets.specs.Shallow.{Every, IsShallowType}
use Rattle.rasn_schema_octets.specs.declared.fault.ReadFault.{ReadFault}
use Rattle.rasn_schema_octets.specs.declared.fault.ReadFault.TheVariants.{OutOfMemory as NoMemoryToRead}
use Rattle.rasn_c.specs.Rules.{rule_number, IsUnknownRule}
use Rattle.rasn_c.specs.declared.status.Status.{Status}
use Rattle.rasn_c.specs.declared.status.Status.TheVariants.{OutOfMemory, UnknownRule, BadSchema}

-- The octets are those of a schema with this type, whose defaults aren't nested too deep, and the number is that of the rules.
pub record IsAsked (octets : List ℕ) (number : ℕ) (schema : Schema) (root : TypeId) (rule : Codec) : Type 0 where
  pub unchecked : ℕ
  pub schema_is : IsSchemaOctets schema root unchecked octets
  pub root_is : root.0 < length schema.types.items
  pub shallow : Every IsShallowType schema.types.items
  pub rule_is : number ≡ rule_number rule

-- The octets have this fault, and then no schema has them, unless its types break a rule of schemas. The number is that of rules.
pub record IsBadSchema (octets : List ℕ) (number : ℕ) : Type 0 where
  pub rule : Codec
  pub rule_is : number ≡ rule_number rule
  pub fault : ReadFault
  pub is_fault : IsReadFault octets fault
  pub memory : fault ≢ NoMemoryToRead
  pub refused : IsRefused octets fault

-- No rules have the number; or the octets aren't those of a schema; or memory ran out.
abbrev pub IsNotAsked : List ℕ → ℕ → Status → Type 0
IsNotAsked octets number UnknownRule = IsUnknownRule number
IsNotAsked octets number BadSchema = IsBadSchema octets number
IsNotAsked octets number OutOfMemory = Unit {0}
IsNotAsked octets number _ = ⊥

-- The status for a fault of a schema's octets. Memory may also run out for its text.
abbrev pub IsStatusOf : ReadFault → Status → Type 0
IsStatusOf fault BadSchema = fault ≢ NoMemoryToRead
IsStatusOf fault OutOfMemory = Unit {0}
IsStatusOf fault _ = ⊥
