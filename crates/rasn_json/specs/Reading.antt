-- Which value JSON is read as (X.697). The members of an object may be in any order; none is unknown, and none is repeated.
use Rattle.std.specs.Prelude.{◌≡◌, ◌≢◌, ◌⊎◌, ℕ, zero, suc, ◌<◌, ℤ, pos, List, [], ◌∷◌, Bool, true, Option, Some, None, Ok, slice_get, map, codes, encode_utf8_all, MatchOption}
use Rattle.std.specs.Cow.{cow_slice_items, cow_str_bytes}
use Rattle.std.specs.String.{string_bytes}
use Rattle.json.specs.Json.{Json, null, boolean, number, string, array, object, Items, no_items, item, Members, no_members, member}
use Rattle.std.specs.Borrow.{Bor}
use Rattle.json.specs.declared.value.Value.{Value as JsonValue}
use Rattle.json.specs.Find.{get, as_str, as_number}
use Rattle.hex.specs.Hex.{decode_of}
use Rattle.rasn_types.specs.declared.types.constraints.Bounded.{Bounded}
use Rattle.rasn_types.specs.declared.types.constraints.Bounded.TheVariants.{Single, Range}
use Rattle.rasn_types.specs.declared.types.constraints.Constraints.{Constraints}
use Rattle.rasn_types.specs.Shapes.{Tree, Presence, required, addition, optional_by, default_by, absent}
use Rattle.rasn_types.specs.Calendar.{Day, Moment}
use Rattle.rasn_types.specs.BitString.{significant}
use Rattle.rasn_types.specs.CowBits.{cow_bits}
use Rattle.rasn_schema.specs.declared.types.LeafKind.{LeafKind}
use Rattle.rasn_schema.specs.declared.types.LeafKind.TheVariants.{NamedBits, OctetString, FixedOctetString, RelativeOid, Real, TimeOfDay, DateTime}
use Rattle.rasn_schema.specs.declared.types.NamedNumber.{NamedNumber}
use Rattle.rasn_schema.specs.declared.types.Alternative.{Alternative}
use Rattle.rasn_schema.specs.declared.types.Component.{Component}
use Rattle.rasn_schema.specs.declared.types.«Type».{«Type»}
use Rattle.rasn_schema.specs.declared.types.«Type».TheVariants.{Leaf, Enumerated, Any, Tagged, Choice, Sequence, Set, SequenceOf, SetOf, Unknown}
use Rattle.rasn_schema.specs.declared.value.Value.{Value, Boolean, Null, Integer as Number, Bits, Octets, Text, Units, Arcs, Instant, Day as OnDay, Absent, Items', Elements', Chosen'}
use Rattle.rasn_schema.specs.Trees.{tree_of}
use Rattle.rasn_schema.specs.Shapes.{presence_of}
use Rattle.rasn_schema.specs.Fitting.{AreItems, AreElements, FitsLeaf, IsChosen}
use Rattle.rasn_json.specs.Decimal.{IsWhole}
use Rattle.rasn_json.specs.Reals.{RealRead}
use Rattle.rasn_json.specs.Texts.{InstantText, UnitsText, ArcsText, RelativeText, DayText, ArePacked, shown_digits}
use Rattle.rasn_json.specs.Json.{IsExtensible, IsNothing, unknown_in, one_size}

-- ---- names of members

abbrev pub names_in : Members → List (List ℕ)
names_in no_members = []
names_in (member k x ms) = k ∷ names_in ms

abbrev pub names_of : {A : Type 0} → List (Bor (List ℕ) × JsonValue A) → List (List ℕ)
names_of ms = map (λ m. m.0.now) ms

abbrev pub IsAmong : List (List ℕ) → List ℕ → Type 0
IsAmong l s = (i : ℕ) × (Some s ≡ slice_get l i)

-- Each name is such, and no name before it is the same.
abbrev pub AreNames : (List ℕ → Type 0) → List (List ℕ) → Type 0
AreNames P l = (k : ℕ) (s : List ℕ) → Some s ≡ slice_get l k → P s × ((i : ℕ) → i < k → Some s ≡ slice_get l i → ⊥)

abbrev pub IsComponentName : List Component → List ℕ → Type 0
IsComponentName ps s = (i : ℕ) × (p : Component) × (Some p ≡ slice_get ps i) × (string_bytes p.name ≡ s)

-- The names of the members that bits have.
abbrev pub IsNameOfBits : List ℕ → Type 0
IsNameOfBits s = (s ≡ codes "value") ⊎ (s ≡ codes "length")

-- ---- numbers

abbrev pub WholeRead : Json → ℤ → Type 0
WholeRead j n = (s : List ℕ) × (as_number j ≡ Some s) × IsWhole s n

-- The number that the string names.
abbrev pub NameRead : List NamedNumber → Json → ℤ → Type 0
NameRead names j n = (s : List ℕ) × (as_str j ≡ Some s) × (i : ℕ) × (m : NamedNumber) × (Some m ≡ slice_get names i) × (string_bytes m.name ≡ s) × (m.number ≡ n)

-- The number whose decimal digits the string is.
abbrev pub NumeralRead : Json → ℤ → Type 0
NumeralRead j n = (s : List ℕ) × (as_str j ≡ Some s) × IsWhole s n

-- A number or its digits, or in an ENUMERATED with an extension marker a name or a number.
abbrev pub IntegerRead : LeafKind → List NamedNumber → Json → ℤ → Type 0
IntegerRead kind names j n = (IsExtensible kind names × NameRead names j n) ⊎ (WholeRead j n ⊎ ((IsExtensible kind names → ⊥) × NumeralRead j n))

abbrev pub EnumeratedRead : List NamedNumber → Json → Value → Type 0
EnumeratedRead names j (Number n) = NameRead names j n
EnumeratedRead names j _ = ⊥

-- ---- strings

abbrev pub HexadecimalRead : Json → List ℕ → Type 0
HexadecimalRead j o = (s : List ℕ) × (as_str j ≡ Some s) × (decode_of s ≡ Ok o)

abbrev pub OpenRead : Json → Value → Type 0
OpenRead j (Octets o) = HexadecimalRead j (cow_slice_items o)
OpenRead j _ = ⊥

abbrev pub OctetsRead : LeafKind → Json → List ℕ → Type 0
OctetsRead OctetString j o = HexadecimalRead j o
OctetsRead (FixedOctetString n) j o = HexadecimalRead j o
OctetsRead Real j o = RealRead j o
OctetsRead TimeOfDay j o = as_str j ≡ Some (shown_digits o)
OctetsRead DateTime j o = as_str j ≡ Some (shown_digits o)
OctetsRead _ j o = as_str j ≡ Some (encode_utf8_all o)

-- So many bits in hexadecimal digits.
abbrev pub DigitsRead : Json → ℕ → List Bool → Type 0
DigitsRead j n bs = (o : List ℕ) × HexadecimalRead j o × ArePacked o n bs

-- Bits are digits alone, where the type has one size, or digits and their number.
abbrev pub AllBitsRead : Option ℕ → Json → List Bool → Type 0
AllBitsRead (Some n) j bs = DigitsRead j n bs
AllBitsRead None j bs = (ms : Members) × (j ≡ object ms) × AreNames IsNameOfBits (names_in ms) × ((x y : Json) × (n : ℕ) × (get (codes "value") j ≡ Some x) × (get (codes "length") j ≡ Some y) × WholeRead y (pos n) × DigitsRead x n bs)

-- Trailing 0 bits of named bits don't count (X.680 22.7).
abbrev pub NamedBitsRead : Option ℕ → Json → List Bool → Type 0
NamedBitsRead size j bs = (all : List Bool) × AllBitsRead size j all × (bs ≡ significant all)

abbrev pub BitsRead : LeafKind → Option ℕ → Json → List Bool → Type 0
BitsRead NamedBits size j bs = NamedBitsRead size j bs
BitsRead _ size j bs = AllBitsRead size j bs

-- The octets of a BMPString with the characters of the string.
abbrev pub UnitsRead : Json → List ℕ → Type 0
UnitsRead j octets = (s : List ℕ) × (as_str j ≡ Some s) × UnitsText s octets

abbrev pub ArcsRead : Json → List ℕ → Type 0
ArcsRead j a = (s : List ℕ) × (as_str j ≡ Some s) × ArcsText s a

abbrev pub RelativeRead : Json → List ℕ → Type 0
RelativeRead j a = (s : List ℕ) × (as_str j ≡ Some s) × RelativeText s a

abbrev pub ArcsReadBy : LeafKind → Json → List ℕ → Type 0
ArcsReadBy RelativeOid j a = RelativeRead j a
ArcsReadBy _ j a = ArcsRead j a

abbrev pub InstantRead : LeafKind → Json → Moment → Type 0
InstantRead kind j m = (s : List ℕ) × (as_str j ≡ Some s) × InstantText kind s m

abbrev pub DayRead : Json → Day → Type 0
DayRead j d = (s : List ℕ) × (as_str j ≡ Some s) × DayText s d

-- ---- values that hold no others

abbrev pub LeafRead : LeafKind → Constraints → List NamedNumber → Json → Value → Type 0
LeafRead kind c names j (Boolean b) = j ≡ boolean b
LeafRead kind c names j Null = j ≡ null
LeafRead kind c names j (Number n) = IntegerRead kind names j n
LeafRead kind c names j (Bits b) = BitsRead kind (one_size c) j (cow_bits b)
LeafRead kind c names j (Octets o) = OctetsRead kind j (cow_slice_items o)
LeafRead kind c names j (Text s) = as_str j ≡ Some (cow_str_bytes s)
LeafRead kind c names j (Units u) = UnitsRead j u
LeafRead kind c names j (Arcs a) = ArcsReadBy kind j a
LeafRead kind c names j (Instant t) = InstantRead kind j t.moment
LeafRead kind c names j (OnDay d) = DayRead j d
LeafRead kind c names j _ = ⊥

-- ---- values that hold others. Of a type with a number, g tells which value JSON is read as, and u whether it is that of unknown values.

-- The one member names the alternative.
abbrev pub ChosenRead : (ℕ → Json → Value → Type 0) → List Alternative → Json → ℕ → Value → Type 0
ChosenRead g ks j i w = (a : Alternative) × (x : Json) × (Some a ≡ slice_get ks i) × (j ≡ object (member (string_bytes a.name) x no_members))
    × ((k : ℕ) (b : Alternative) → k < i → Some b ≡ slice_get ks k → string_bytes b.name ≢ string_bytes a.name) × g a.type_id.0 x w

-- What a component without a member means. Of unknown values there are none then.
abbrev pub IsAbsentAs : Presence → Tree → Type 0
IsAbsentAs required t = ⊥
IsAbsentAs (optional_by key) t = t ≡ absent
IsAbsentAs addition t = t ≡ absent
IsAbsentAs (default_by key d) t = t ≡ d

abbrev pub ComponentRead : (ℕ → Bool) → (ℕ → Json → Value → Type 0) → Component → Option Json → Value → Type 0
ComponentRead u g p None v = IsAbsentAs (presence_of p.presence) (tree_of v) ⊎ IsNothing u p v
ComponentRead u g p (Some x) v = g p.type_id.0 x v

abbrev pub ComponentsRead : (ℕ → Bool) → (ℕ → Json → Value → Type 0) → List Component → Json → List Value → Type 0
ComponentsRead u g [] j [] = Unit {0}
ComponentsRead u g [] j (v ∷ vs) = ⊥
ComponentsRead u g (p ∷ ps) j [] = ⊥
ComponentsRead u g (p ∷ ps) j (v ∷ vs) = ComponentRead u g p (get (string_bytes p.name) j) v × ComponentsRead u g ps j vs

abbrev pub ObjectRead : (ℕ → Bool) → (ℕ → Json → Value → Type 0) → List Component → Json → List Value → Type 0
ObjectRead u g ps j vs = (ms : Members) × (j ≡ object ms) × AreNames (IsComponentName ps) (names_in ms) × ComponentsRead u g ps j vs

abbrev pub ItemsRead : (Json → Value → Type 0) → Items → List Value → Type 0
ItemsRead P no_items [] = Unit {0}
ItemsRead P no_items (v ∷ vs) = ⊥
ItemsRead P (item x js) [] = ⊥
ItemsRead P (item x js) (v ∷ vs) = P x v × ItemsRead P js vs

abbrev pub ArrayRead : (Json → Value → Type 0) → Json → List Value → Type 0
ArrayRead P j vs = (js : Items) × (j ≡ array js) × ItemsRead P js vs

abbrev pub ReadBy : (ℕ → Bool) → (ℕ → Json → Value → Type 0) → «Type» → Json → Value → Type 0
ReadBy u g (Leaf kind tag c names) j v = FitsLeaf kind v × LeafRead kind c names.items j v
ReadBy u g (Enumerated tag ns) j v = EnumeratedRead ns.items j v
ReadBy u g (Any tag) j v = OpenRead j v
ReadBy u g (Tagged tag k) j v = g k.0 j v
ReadBy u g (Choice name ks) j v = IsChosen (ChosenRead g ks.items j) v
ReadBy u g (Sequence tag ps) j v = AreItems (ObjectRead u g ps.items j) v
ReadBy u g (Set name tag ps) j v = AreItems (ObjectRead u g ps.items j) v
ReadBy u g (SequenceOf tag k c) j v = AreItems (ArrayRead (g k.0) j) v
ReadBy u g (SetOf tag k c) j v = AreElements (ArrayRead (g k.0) j) v
ReadBy u g Unknown j v = AreItems (ArrayRead OpenRead j) v

abbrev pub ReadFound : (ℕ → Bool) → (ℕ → Json → Value → Type 0) → Option «Type» → Json → Value → Type 0
ReadFound u g None j v = ⊥
ReadFound u g (Some ty) j v = ReadBy u g ty j v

-- JSON is read as this value of the type with this number, types followed so many levels deep.
unfoldable pub ReadAt : List «Type» → ℕ → ℕ → Json → Value → Type 0
ReadAt types zero k j v = ⊥
ReadAt types (suc levels) k j v = ReadFound (unknown_in types) (λ i x w. ReadAt types levels i x w) (slice_get types k) j v
