-- Octets that are one whole value of a type of a schema, under the rules of that type.
use Rattle.std.specs.Prelude.{◌≡◌, ◌⊎◌, ◌-◌, ℕ, List, [], length}
use Rattle.rasn_types.specs.Shapes.{Tree}
use Rattle.rasn_types.specs.Errors.{IsOutOfMemory}
use Rattle.rasn_types.specs.Grammar.{Reads, top}
use Rattle.rasn.specs.Headline.{IsExtraData}
use Rattle.rasn_dynamic.specs.Entry.{shape_of}
use Rattle.rasn_dynamic.specs.Faults.{IsLocated}
use Rattle.rasn_dynamic.specs.declared.refusal.Refusal.{Refusal}
use Rattle.rasn_print.specs.declared.types.MessageType.{MessageType}

-- The grammar relates the octets to this value, followed by the rest.
abbrev pub IsRead : MessageType → List ℕ → Tree → List ℕ → Type 0
IsRead m octets tree rest = Reads m.rule (shape_of m.schema.now.types.items m.root.0) 128 (top m.rule) octets tree rest

-- All of the octets are the encoding of a value of the type.
abbrev pub IsMessage : MessageType → List ℕ → Type 0
IsMessage m octets = (tree : Tree) × IsRead m octets tree []

-- After a value there are octets. The refusal is at the first of them.
abbrev pub IsFollowed : MessageType → List ℕ → Refusal → Type 0
IsFollowed m octets r = (tree : Tree) × (rest : List ℕ) × IsRead m octets tree rest × IsExtraData m.rule rest r.error
    × (r.offset ≡ length octets - length rest)

-- The refusal is at a value that can't be read, or at what follows one.
abbrev pub IsAtFault : MessageType → List ℕ → Refusal → Type 0
IsAtFault m octets r = IsLocated m.schema.now.types.items m.rule m.root.0 octets r ⊎ IsFollowed m octets r

-- The octets aren't the encoding of a value of the type, for that.
abbrev pub IsNoMessage : MessageType → List ℕ → Refusal → Type 0
IsNoMessage m octets r = (IsMessage m octets → ⊥) × IsAtFault m octets r

-- Unless an allocation failed, the octets are refused for that.
abbrev pub IsRefused : MessageType → List ℕ → Refusal → Type 0
IsRefused m octets r = (IsOutOfMemory r.error.kind → ⊥) → IsNoMessage m octets r
