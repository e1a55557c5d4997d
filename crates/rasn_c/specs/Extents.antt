-- Where a part of a message is, and what it is.
use Rattle.std.specs.Prelude.{◌≡◌, ◌-◌, ◌⊎◌, ℕ, List, length, Bool, true, false, Option, Some, None, slice_get}
use Rattle.rasn_types.specs.declared.types.codec.Codec.TheVariants.{Ber}
use Rattle.rasn_types.specs.declared.types.tag.Tag.{Tag}
use Rattle.rasn_types.specs.Framing.{NextTag}
use Rattle.rasn_types.specs.Tags.{form, rank}
use Rattle.rasn_schema.specs.declared.types.«Type».{«Type»}
use Rattle.rasn_schema.specs.declared.types.«Type».TheVariants.{Leaf, Enumerated, Any, Tagged, Choice, Sequence, Set, SequenceOf, SetOf, Unknown}
use Rattle.rasn_schema.specs.Held.{is_unknown_found}
use Rattle.rasn_schema.specs.KindNames.{names_of}
use Rattle.rasn_dynamic.specs.declared.part.Part.{Part}
use Rattle.rasn_c.specs.Encodings.{constructed_bit, end_length}
use Rattle.rasn_c.specs.declared.extent.Extent.{Extent}

-- The number of the kind of a type in C: `soq_part_kind`.
abbrev pub type_kind_number : «Type» → ℕ
type_kind_number (Leaf kind tag c names) = (names_of kind).number
type_kind_number (Enumerated tag ns) = 10
type_kind_number (Sequence tag ps) = 16
type_kind_number (Set name tag ps) = 17
type_kind_number (SequenceOf tag id c) = 48
type_kind_number (SetOf tag id c) = 49
type_kind_number (Choice name ks) = 64
type_kind_number (Tagged tag id) = 65
type_kind_number (Any tag) = 66
type_kind_number Unknown = 67

abbrev pub kind_found : Option «Type» → ℕ
kind_found None = 0
kind_found (Some ty) = type_kind_number ty

-- These are the class and the number of the tag that the octets begin with; of octets without a tag they are 0.
pub record BeginsWith (octets : List ℕ) (class number : ℕ) : Type 0 where
  pub tag : Tag
  pub found : NextTag (form Ber) octets tag ⊎ (((t : Tag) → NextTag (form Ber) octets t → ⊥) × (rank tag.class ≡ 0) × (tag.value ≡ 0))
  pub class_is : class ≡ rank tag.class
  pub number_is : number ≡ tag.value

-- How many identifier and length octets are around the contents, and how many end-of-contents octets: of unknown values none are.
abbrev pub header_of : Bool → Part → ℕ
header_of true p = 0
header_of false p = p.header_len

abbrev pub end_of : Bool → Part → ℕ
end_of true p = 0
end_of false p = end_length p.is_indefinite

-- The extent is that of the part.
pub record IsExtentOf (types : List «Type») (p : Part) (e : Extent) : Type 0 where
  pub offset : e.offset ≡ p.offset
  pub length_is : e.length ≡ length p.octets.now
  pub header : e.header ≡ header_of (is_unknown_found (slice_get types p.id.0)) p
  pub contents : e.contents ≡ (e.length - e.header) - end_of (is_unknown_found (slice_get types p.id.0)) p
  pub begins : BeginsWith p.octets.now e.class e.number
  pub constructed : e.constructed ≡ constructed_bit p.octets.now
  pub kind : e.kind ≡ kind_found (slice_get types p.id.0)

abbrev pub no_extent : Extent
no_extent = record { offset = 0; header = 0; contents = 0; length = 0; class = 0; number = 0; constructed = 0; kind = 0 }
