-- The contents octets of values that hold no others (X.690 8, 11).
use Rattle.std.specs.Prelude.{◌≡◌, ◌⊎◌, ℕ, List, if◌then◌else◌, Option, Some, None, Ok, Err}
use Rattle.rasn_types.specs.declared.types.codec.Codec.TheVariants.{Ber, Der}
use Rattle.rasn_types.specs.declared.types.tag.Tag.{Tag}
use Rattle.rasn_types.specs.declared.error.decode.DecodeError.{DecodeError}
use Rattle.rasn_types.specs.Shapes.{Shape, Tree, leaf, any, bit_string, octet_string}
use Rattle.rasn_types.specs.Shapes.{looked_for}
use Rattle.rasn_types.specs.Trees.{unconstrained}
use Rattle.rasn_types.specs.Grammar.{Reads, top}
use Rattle.rasn_types.specs.Bytes.{Bytes}
use Rattle.rasn_schema.specs.declared.types.LeafKind.{LeafKind}
use Rattle.rasn_schema.specs.declared.types.LeafKind.TheVariants.{BitString, NamedBits}
use Rattle.rasn_schema.specs.declared.types.«Type».{«Type»}
use Rattle.rasn_schema.specs.declared.types.«Type».TheVariants.{Leaf, Enumerated, Any, Tagged, Choice, Sequence, Set, SequenceOf, SetOf, Unknown}
use Rattle.rasn_dynamic.specs.Entry.{shape_of, IsChecked}
use Rattle.rasn_lint.specs.Header.{is_string, is_constructed}
use Rattle.rasn_lint.specs.declared.leaf.Segments.{Segments}
use Rattle.rasn_lint.specs.declared.leaf.Segments.TheVariants.{Whole, OfOctets, OfBits}

-- how the contents of a constructed value are encoded
abbrev pub segments_in : LeafKind → Segments
segments_in BitString = OfBits
segments_in NamedBits = OfBits
segments_in kind = if is_string kind then OfOctets else Whole

abbrev pub segments_of : LeafKind → List ℕ → Segments
segments_of kind octets = if is_constructed octets then segments_in kind else Whole

-- What the contents are under BER, and what is written of them.
abbrev pub found_shape : Segments → Tag → Shape
found_shape Whole tag = any (looked_for tag)
found_shape OfOctets tag = leaf octet_string tag unconstrained
found_shape OfBits tag = leaf bit_string tag unconstrained

abbrev pub written_shape : Segments → Tag → Shape
written_shape Whole tag = leaf octet_string tag unconstrained
written_shape OfOctets tag = leaf octet_string tag unconstrained
written_shape OfBits tag = leaf bit_string tag unconstrained

abbrev pub Finds : Segments → Tag → List ℕ → Tree → List ℕ → Type 0
Finds segments tag octets t rest = Reads Ber (found_shape segments tag) 128 (top Ber) octets t rest

-- The same contents after a header of DER: those of segments one after the other.
abbrev pub IsMended : Segments → Tag → List ℕ → List ℕ → Type 0
IsMended segments tag octets mended = (t : Tree) × (rest : List ℕ) × Finds segments tag octets t rest × Bytes Der (written_shape segments tag) t mended

-- There is an error exactly if DER doesn't read the octets as a value of the type, and it is the reader's.
abbrev pub IsJudgedBy : List «Type» → ℕ → List ℕ → Option DecodeError → Type 0
IsJudgedBy types id octets None = IsChecked Der (shape_of types id) octets (Ok tt)
IsJudgedBy types id octets (Some e) = IsChecked Der (shape_of types id) octets (Err e)

-- Of the contents after a header of DER; where BER finds none, there is none.
abbrev pub IsMendedFault : List «Type» → ℕ → Segments → Tag → List ℕ → Option DecodeError → Type 0
IsMendedFault types id segments tag octets f = ((mended : List ℕ) × IsMended segments tag octets mended × IsJudgedBy types id mended f)
    ⊎ (((t : Tree) (rest : List ℕ) → Finds segments tag octets t rest → ⊥) × (f ≡ None))

abbrev pub IsContentsFault : List «Type» → ℕ → «Type» → List ℕ → Option DecodeError → Type 0
IsContentsFault types id (Leaf kind tag c names) octets f = IsMendedFault types id (segments_of kind octets) tag octets f
IsContentsFault types id (Enumerated tag ns) octets f = IsMendedFault types id Whole tag octets f
IsContentsFault types id (Any tag) octets f = f ≡ None
IsContentsFault types id (Tagged tag k) octets f = f ≡ None
IsContentsFault types id (Choice name ks) octets f = f ≡ None
IsContentsFault types id (Sequence tag ps) octets f = f ≡ None
IsContentsFault types id (Set name tag ps) octets f = f ≡ None
IsContentsFault types id (SequenceOf tag k c) octets f = f ≡ None
IsContentsFault types id (SetOf tag k c) octets f = f ≡ None
IsContentsFault types id Unknown octets f = f ≡ None
