-- The parts of a message are determined by the message.
use Rattle.std.specs.Prelude.{◌≡◌, ℕ, List}
use Rattle.rasn_types.specs.declared.types.codec.Codec.{Codec}
use Rattle.rasn_types.specs.Framing.{AreOctets}
use Rattle.rasn_types.specs.Order.{Each}
use Rattle.rasn_schema.specs.declared.types.«Type».{«Type»}
use Rattle.rasn_schema.specs.Shapes.{shape_of_type, IsReadable}
use Rattle.rasn_dynamic.specs.declared.span.Span.{Span}
use Rattle.rasn_dynamic.specs.declared.message.MessageParts.{MessageParts}
use Rattle.rasn_dynamic.specs.Walk.{ArePartsOf}

-- The parts have the same type, the same index, the same depth, the same place and the same octets.
pub record IsSamePart (a b : Span) : Type 0 where
  pub id : a.id.0 ≡ b.id.0
  pub index : a.index ≡ b.index
  pub depth : a.depth ≡ b.depth
  pub left : a.left ≡ b.left
  pub octets : a.octets.now ≡ b.octets.now

-- They are as many, and the same one by one.
abbrev pub AreSameParts : List Span → List Span → Type 0
AreSameParts es fs = Each IsSamePart es fs

-- Each type is lawful or unknown values, however deep it is read, as in a schema.
abbrev pub AreReadableTypes : List «Type» → Type 0
AreReadableTypes types = (levels id : ℕ) → IsReadable (shape_of_type types levels id)

-- Octets have one list of parts, by whichever rules they are read.
abbrev pub PartsAreDetermined : Type 0
PartsAreDetermined = (types : List «Type») (rule other : Codec) (id : ℕ) (input : List ℕ) (ps qs : MessageParts)
    → AreReadableTypes types → AreOctets input → ArePartsOf types rule id input ps → ArePartsOf types other id input qs → AreSameParts ps.list.items qs.list.items
