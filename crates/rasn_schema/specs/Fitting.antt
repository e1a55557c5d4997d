-- Which values are values of a type.
use Rattle.std.specs.Prelude.{◌≡◌, ◌⊎◌, ℕ, zero, suc, ℤ, Bool, List, [], ◌∷◌, length, Contains, Option, Some, None, slice_get}
use Rattle.std.specs.Cow.{cow_slice_items}
use Rattle.rasn_types.specs.Shapes.{IsIn, Tree, Same, Presence, required, addition, optional_by, default_by, absent}
use Rattle.rasn_types.specs.Trees.{signed_range, unsigned_range}
use Rattle.rasn_schema.specs.declared.types.Alternative.{Alternative}
use Rattle.rasn_types.specs.declared.types.strings.alphabet.Alphabet.TheVariants.{Numeric as NumericAlphabet, Printable as PrintableAlphabet, Visible as VisibleAlphabet, Ia5 as Ia5Alphabet}
use Rattle.rasn_types.specs.CharacterString.{AreAdmitted}
use Rattle.rasn_types.specs.BitString.{significant}
use Rattle.rasn_types.specs.Contents.{IsTimeText, AreTimeDigits}
use Rattle.rasn_types.specs.CowBits.{cow_bits}
use Rattle.rasn_schema.specs.declared.types.LeafKind.{LeafKind}
use Rattle.rasn_schema.specs.declared.types.LeafKind.TheVariants.{Boolean as BooleanKind, Null as NullKind, ObjectIdentifier, BitString, NamedBits, OctetString, FixedOctetString, Integer, Signed32, Signed64, Unsigned32, Unsigned64, Numeric, Printable, Visible, Ia5, AnyOctets, Bmp, Utf8, UtcTime, GeneralizedTime, Date, Universal, RelativeOid, Real, Time, Duration, TimeOfDay, DateTime}
use Rattle.rasn_schema.specs.declared.types.Component.{Component}
use Rattle.rasn_schema.specs.declared.types.«Type».{«Type»}
use Rattle.rasn_schema.specs.declared.types.«Type».TheVariants.{Leaf, Enumerated, Any, Tagged, Choice, Sequence, Set, SequenceOf, SetOf, Unknown}
use Rattle.rasn_schema.specs.declared.value.Value.{Value, Boolean, Null, Integer as Number, Bits, Octets, Text, Units, Arcs, Instant, Day, Absent, Items', Elements', Chosen', items-the_row-Value}
use Rattle.rasn_schema.specs.Reals.{IsCanonicalReal}
use Rattle.rasn_schema.specs.Trees.{tree_of}
use Rattle.rasn_schema.specs.Shapes.{presence_of, numbers_of}

-- An INTEGER is any number, or one that so many bits hold.
abbrev pub NumberFits : LeafKind → ℤ → Type 0
NumberFits Integer n = Unit {0}
NumberFits Signed32 n = IsIn (signed_range 32) n
NumberFits Signed64 n = IsIn (signed_range 64) n
NumberFits Unsigned32 n = IsIn (unsigned_range 32) n
NumberFits Unsigned64 n = IsIn (unsigned_range 64) n
NumberFits _ n = ⊥

-- The octets of a string are in its alphabet. Those of a REAL are canonical.
abbrev pub OctetsFit : LeafKind → List ℕ → Type 0
OctetsFit OctetString o = Unit {0}
OctetsFit (FixedOctetString n) o = length o ≡ n
OctetsFit Numeric o = AreAdmitted NumericAlphabet o
OctetsFit Printable o = AreAdmitted PrintableAlphabet o
OctetsFit Visible o = AreAdmitted VisibleAlphabet o
OctetsFit Ia5 o = AreAdmitted Ia5Alphabet o
OctetsFit AnyOctets o = Unit {0}
OctetsFit Real o = IsCanonicalReal o
OctetsFit Time o = IsTimeText o
OctetsFit Duration o = IsTimeText o
OctetsFit TimeOfDay o = AreTimeDigits 6 o
OctetsFit DateTime o = AreTimeDigits 14 o
OctetsFit _ o = ⊥

-- Named bits have no trailing 0 bits.
abbrev pub BitsFit : LeafKind → List Bool → Type 0
BitsFit BitString bs = Unit {0}
BitsFit NamedBits bs = significant bs ≡ bs
BitsFit _ bs = ⊥

abbrev pub FitsLeaf : LeafKind → Value → Type 0
FitsLeaf kind (Boolean b) = kind ≡ BooleanKind
FitsLeaf kind Null = kind ≡ NullKind
FitsLeaf kind (Number n) = NumberFits kind n
FitsLeaf kind (Bits b) = BitsFit kind (cow_bits b)
FitsLeaf kind (Octets o) = OctetsFit kind (cow_slice_items o)
FitsLeaf kind (Text s) = (kind ≡ Utf8) ⊎ (kind ≡ Universal)
FitsLeaf kind (Units u) = kind ≡ Bmp
FitsLeaf kind (Arcs a) = (kind ≡ ObjectIdentifier) ⊎ (kind ≡ RelativeOid)
FitsLeaf kind (Instant t) = (kind ≡ UtcTime) ⊎ (kind ≡ GeneralizedTime)
FitsLeaf kind (Day d) = kind ≡ Date
FitsLeaf kind (Items' _ row) = ⊥
FitsLeaf kind (Elements' _ row) = ⊥
FitsLeaf kind (Chosen' i _ w) = ⊥
FitsLeaf kind Absent = ⊥

-- A number of an ENUMERATED.
abbrev pub IsNumber : List ℤ → Value → Type 0
IsNumber known (Number n) = Contains known n
IsNumber known _ = ⊥

-- ---- values that hold others

abbrev pub AreOctets : Value → Type 0
AreOctets (Octets o) = Unit {0}
AreOctets _ = ⊥

-- A list whose values are such.
abbrev pub AreItems : (List Value → Type 0) → Value → Type 0
AreItems P (Items' _ row) = P (items-the_row-Value _ row)
AreItems P _ = ⊥

abbrev pub AreElements : (List Value → Type 0) → Value → Type 0
AreElements P (Elements' _ row) = P (items-the_row-Value _ row)
AreElements P _ = ⊥

-- A list, or a set, of these values; or no list, or no set.
abbrev pub IsListOf : List Value → Value → Type 0
IsListOf vs = AreItems (λ us. us ≡ vs)

abbrev pub IsNoList : Value → Type 0
IsNoList v = AreItems (λ us. Unit {0}) v → ⊥

abbrev pub IsSetOf : List Value → Value → Type 0
IsSetOf vs = AreElements (λ us. us ≡ vs)

abbrev pub IsNoSet : Value → Type 0
IsNoSet v = AreElements (λ us. Unit {0}) v → ⊥

-- An alternative with its index.
abbrev pub IsChosen : (ℕ → Value → Type 0) → Value → Type 0
IsChosen P (Chosen' i _ w) = P i w
IsChosen P _ = ⊥

-- Of the types that a type names, g tells which values fit.
abbrev pub AlternativeFits : (ℕ → Value → Type 0) → List Alternative → ℕ → Value → Type 0
AlternativeFits g ks i w = (a : Alternative) × (Some a ≡ slice_get ks i) × g a.type_id.0 w

-- A component isn't written if its value means this.
abbrev pub IsLeftOutAs : Presence → Tree → Type 0
IsLeftOutAs required t = ⊥
IsLeftOutAs (optional_by key) t = t ≡ absent
IsLeftOutAs addition t = t ≡ absent
IsLeftOutAs (default_by key d) t = Same t d

-- A component is absent or has its default's value, or it is a value of its type.
abbrev pub ComponentFits : (ℕ → Value → Type 0) → Component → Value → Type 0
ComponentFits g p v = IsLeftOutAs (presence_of p.presence) (tree_of v) ⊎ g p.type_id.0 v

abbrev pub ComponentsFit : (ℕ → Value → Type 0) → List Component → List Value → Type 0
ComponentsFit g [] [] = Unit {0}
ComponentsFit g [] (v ∷ vs) = ⊥
ComponentsFit g (p ∷ ps) [] = ⊥
ComponentsFit g (p ∷ ps) (v ∷ vs) = ComponentFits g p v × ComponentsFit g ps vs

abbrev pub EachFits : (Value → Type 0) → List Value → Type 0
EachFits P [] = Unit {0}
EachFits P (v ∷ vs) = P v × EachFits P vs

abbrev pub FitsBy : (ℕ → Value → Type 0) → «Type» → Value → Type 0
FitsBy g (Leaf kind tag c names) v = FitsLeaf kind v
FitsBy g (Enumerated tag ns) v = IsNumber (numbers_of ns.items) v
FitsBy g (Any tag) v = AreOctets v
FitsBy g (Tagged tag k) v = g k.0 v
FitsBy g (Choice name ks) v = IsChosen (AlternativeFits g ks.items) v
FitsBy g (Sequence tag ps) v = AreItems (ComponentsFit g ps.items) v
FitsBy g (Set name tag ps) v = AreItems (ComponentsFit g ps.items) v
FitsBy g (SequenceOf tag k c) v = AreItems (EachFits (g k.0)) v
FitsBy g (SetOf tag k c) v = AreElements (EachFits (g k.0)) v
FitsBy g Unknown v = AreItems (EachFits AreOctets) v

abbrev pub FitsFound : (ℕ → Value → Type 0) → Option «Type» → Value → Type 0
FitsFound g None v = ⊥
FitsFound g (Some ty) v = FitsBy g ty v

-- The value is one of the type with this number, types followed so many levels deep.
unfoldable pub Fits : List «Type» → ℕ → ℕ → Value → Type 0
Fits types zero k v = ⊥
Fits types (suc levels) k v = FitsFound (λ j w. Fits types levels j w) (slice_get types k) v
