-- The JSON of a value (X.697).
use Rattle.std.specs.Prelude.{◌≡◌, ◌≢◌, ◌⊎◌, ◌++◌, ℕ, zero, suc, ◌<◌, ◌≤◌, ◌^◌, ℤ, List, [], ◌∷◌, Bool, true, Option, Some, None, slice_get, codes, decimal, length, encode_utf8_all, ◌==◌, if◌then◌else◌}
use Rattle.std.specs.Cow.{cow_slice_items, cow_str_bytes}
use Rattle.std.specs.String.{string_bytes}
use Rattle.json.specs.Token.{Token, key}
use Rattle.json.specs.Json.{Json, null, boolean, number, string, array, object, Items, no_items, item, Members, no_members, member}
use Rattle.json.specs.Print.{IsNumber}
use Rattle.json.specs.Tree.{json_tokens, depth}
use Rattle.rasn_types.specs.Calendar.{Day, Moment}
use Rattle.rasn_types.specs.declared.types.constraints.Bound.{Bound}
use Rattle.rasn_types.specs.declared.types.constraints.Bounded.{Bounded}
use Rattle.rasn_types.specs.declared.types.constraints.Bounded.TheVariants.{Single, Range}
use Rattle.rasn_types.specs.declared.types.constraints.Constraints.{Constraints}
use Rattle.rasn_types.specs.BitString.{Packs, zeros}
use Rattle.rasn_types.specs.CowBits.{cow_bits}
use Rattle.rasn_types.specs.Framing.{AreOctets}
use Rattle.rasn_types.specs.Text.{hexadecimal}
use Rattle.rasn_schema.specs.declared.types.LeafKind.{LeafKind}
use Rattle.rasn_schema.specs.declared.types.LeafKind.TheVariants.{Signed64, OctetString, FixedOctetString, NamedBits, RelativeOid, Real, TimeOfDay, DateTime}
use Rattle.rasn_schema.specs.declared.types.NamedNumber.{NamedNumber}
use Rattle.rasn_schema.specs.declared.types.Alternative.{Alternative}
use Rattle.rasn_schema.specs.declared.types.Component.{Component}
use Rattle.rasn_schema.specs.declared.types.«Type».{«Type»}
use Rattle.rasn_schema.specs.declared.types.«Type».TheVariants.{Leaf, Enumerated, Any, Tagged, Choice, Sequence, Set, SequenceOf, SetOf, Unknown}
use Rattle.rasn_schema.specs.declared.value.Value.{Value, Boolean, Null, Integer as Number, Bits, Octets, Text, Units, Arcs, Instant, Day as OnDay}
use Rattle.rasn_schema.specs.Trees.{tree_of}
use Rattle.rasn_schema.specs.Shapes.{presence_of}
use Rattle.rasn_json.specs.Decimal.{IsLong, IsWhole}
use Rattle.rasn_json.specs.Reals.{IsDecimalReal, RealJson}
use Rattle.rasn_json.specs.Texts.{WrittenInstant, UnitsText, ArcsText, RelativeText, DayText, shown_digits}
use Rattle.rasn_schema.specs.Fitting.{AreItems, AreElements, FitsLeaf, IsListOf, IsChosen, IsLeftOutAs}
use Rattle.rasn_schema.specs.Held.{is_unknown_found}

-- ---- numbers

-- A number in decimal: JSON's numbers have no leading zeros. A number of too many octets has no JSON.
abbrev pub NumberJson : ℤ → Json → Type 0
NumberJson n j = (IsLong n → ⊥) × ((s : List ℕ) × (j ≡ number s) × IsNumber s × IsWhole s n)

-- A name of the number.
abbrev pub NameJson : List NamedNumber → ℤ → Json → Type 0
NameJson names n j = (i : ℕ) × (m : NamedNumber) × (Some m ≡ slice_get names i) × (m.number ≡ n) × (j ≡ string (string_bytes m.name))

abbrev pub IsUnnamed : List NamedNumber → ℤ → Type 0
IsUnnamed names n = (i : ℕ) (m : NamedNumber) → Some m ≡ slice_get names i → m.number ≡ n → ⊥

-- An ENUMERATED with an extension marker is a number of 64 bits with names.
abbrev pub IsExtensible : LeafKind → List NamedNumber → Type 0
IsExtensible kind names = (kind ≡ Signed64) × (names ≢ [])

-- A number, or the name that it has in an ENUMERATED.
abbrev pub IntegerJson : LeafKind → List NamedNumber → ℤ → Json → Type 0
IntegerJson kind names n j = (IsExtensible kind names × NameJson names n j) ⊎ ((IsExtensible kind names → IsUnnamed names n) × NumberJson n j)

abbrev pub EnumeratedJson : List NamedNumber → Value → Json → Type 0
EnumeratedJson names (Number n) j = NameJson names n j
EnumeratedJson names _ j = ⊥

-- ---- strings

-- Octets as hexadecimal digits, in capitals.
abbrev pub HexadecimalJson : List ℕ → Json → Type 0
HexadecimalJson o j = AreOctets o × (j ≡ string (hexadecimal o))

abbrev pub OpenJson : Value → Json → Type 0
OpenJson (Octets o) j = HexadecimalJson (cow_slice_items o) j
OpenJson _ j = ⊥

-- Octets are digits, or the numbers of characters.
abbrev pub OctetsJson : LeafKind → List ℕ → Json → Type 0
OctetsJson OctetString o j = HexadecimalJson o j
OctetsJson (FixedOctetString n) o j = HexadecimalJson o j
OctetsJson Real o j = RealJson o j
OctetsJson TimeOfDay o j = j ≡ string (shown_digits o)
OctetsJson DateTime o j = j ≡ string (shown_digits o)
OctetsJson _ o j = j ≡ string (encode_utf8_all o)

-- The one size that a constraint admits, if there is one.
abbrev pub one_of : Bounded ℕ → Option ℕ
one_of (Single n) = Some n
one_of (Range (Some m) (Some n)) = if m == n then Some m else None
one_of _ = None

abbrev pub size_of : Option (Bound ℕ) → Option ℕ
size_of None = None
size_of (Some b) = if b.extensible then None else one_of b.constraint

abbrev pub one_size : Constraints → Option ℕ
one_size c = size_of c.size

-- Bits in octets, of which the last is filled with 0 bits, as hexadecimal digits.
abbrev pub DigitsJson : List Bool → Json → Type 0
DigitsJson bs j = (o : List ℕ) × Packs bs o × HexadecimalJson o j

-- Of values of a kind with this one size, some have so many bits. Named bits may be fewer.
abbrev pub IsSize : LeafKind → ℕ → ℕ → Type 0
IsSize kind n len = (len ≡ n) ⊎ ((kind ≡ NamedBits) × (len < n))

-- The bits are as many as this, or become so many with 0 bits after them, if they have names (X.680 22.7).
abbrev pub IsFilled : LeafKind → ℕ → List Bool → List Bool → Type 0
IsFilled NamedBits n bs all = (k : ℕ) × (all ≡ bs ++ zeros k) × (length all ≡ n)
IsFilled _ n bs all = (all ≡ bs) × (length all ≡ n)

-- An object with digits and the number of bits.
abbrev pub counted : Json → ℕ → Json
counted x n = object (member (codes "value") x (member (codes "length") (number (decimal n)) no_members))

abbrev pub CountedJson : List Bool → Json → Type 0
CountedJson bs j = (length bs < 2 ^ 64) × ((x : Json) × DigitsJson bs x × (j ≡ counted x (length bs)))

-- Bits are digits alone exactly if the type has one size, and otherwise digits and their number.
abbrev pub BitsJson : LeafKind → Option ℕ → List Bool → Json → Type 0
BitsJson kind (Some n) bs j = (all : List Bool) × IsFilled kind n bs all × DigitsJson all j
BitsJson kind None bs j = CountedJson bs j

-- The characters of a BMPString with these octets.
abbrev pub UnitsJson : List ℕ → Json → Type 0
UnitsJson octets j = (s : List ℕ) × (j ≡ string s) × UnitsText s octets

-- The arcs of an OBJECT IDENTIFIER, or those of a RELATIVE-OID that they hold.
abbrev pub TextOfArcs : LeafKind → List ℕ → List ℕ → Type 0
TextOfArcs RelativeOid s a = RelativeText s a
TextOfArcs _ s a = ArcsText s a

abbrev pub ArcsJson : LeafKind → List ℕ → Json → Type 0
ArcsJson kind a j = (s : List ℕ) × (j ≡ string s) × TextOfArcs kind s a

-- The text of an instant, as DER has it.
abbrev pub InstantJson : LeafKind → Moment → Json → Type 0
InstantJson kind m j = (s : List ℕ) × (j ≡ string s) × WrittenInstant kind s m

abbrev pub DayJson : Day → Json → Type 0
DayJson d j = (s : List ℕ) × (j ≡ string s) × DayText s d

-- ---- values that hold no others

abbrev pub LeafJson : LeafKind → Constraints → List NamedNumber → Value → Json → Type 0
LeafJson kind c names (Boolean b) j = j ≡ boolean b
LeafJson kind c names Null j = j ≡ null
LeafJson kind c names (Number n) j = IntegerJson kind names n j
LeafJson kind c names (Bits b) j = BitsJson kind (one_size c) (cow_bits b) j
LeafJson kind c names (Octets o) j = OctetsJson kind (cow_slice_items o) j
LeafJson kind c names (Text s) j = j ≡ string (cow_str_bytes s)
LeafJson kind c names (Units u) j = UnitsJson u j
LeafJson kind c names (Arcs a) j = ArcsJson kind a j
LeafJson kind c names (Instant t) j = InstantJson kind t.moment j
LeafJson kind c names (OnDay d) j = DayJson d j
LeafJson kind c names _ j = ⊥

-- Bits are an object exactly if their type has no one size, and a REAL if its base is 10.
abbrev pub IsCounted : LeafKind → Constraints → Value → Type 0
IsCounted kind c (Bits b) = one_size c ≡ None
IsCounted Real c (Octets o) = IsDecimalReal (cow_slice_items o)
IsCounted kind c _ = ⊥

-- ---- values that hold others. Of a type with a number, g tells which JSON a value has, and u whether it is that of unknown values.

abbrev pub unknown_in : List «Type» → ℕ → Bool
unknown_in types k = is_unknown_found (slice_get types k)

-- The one member is the alternative.
abbrev pub ChosenJson : (ℕ → Value → Json → Type 0) → List Alternative → Json → ℕ → Value → Type 0
ChosenJson g ks j i w = (a : Alternative) × (x : Json) × (Some a ≡ slice_get ks i) × (j ≡ object (member (string_bytes a.name) x no_members)) × g a.type_id.0 w x

-- There are no unknown values.
abbrev pub IsNothing : (ℕ → Bool) → Component → Value → Type 0
IsNothing u p v = (u p.type_id.0 ≡ true) × IsListOf [] v

abbrev pub IsLeftOut : (ℕ → Bool) → Component → Value → Type 0
IsLeftOut u p v = IsLeftOutAs (presence_of p.presence) (tree_of v) ⊎ IsNothing u p v

-- A member for each component, in order, except for those that are left out.
abbrev pub MembersJson : (ℕ → Bool) → (ℕ → Value → Json → Type 0) → List Component → List Value → Members → Type 0
MembersJson u g [] [] ms = ms ≡ no_members
MembersJson u g [] (v ∷ vs) ms = ⊥
MembersJson u g (p ∷ ps) [] ms = ⊥
MembersJson u g (p ∷ ps) (v ∷ vs) ms = (IsLeftOut u p v × MembersJson u g ps vs ms)
    ⊎ ((IsLeftOut u p v → ⊥) × ((x : Json) × (rest : Members) × (ms ≡ member (string_bytes p.name) x rest) × g p.type_id.0 v x × MembersJson u g ps vs rest))

abbrev pub ItemsJson : (Value → Json → Type 0) → List Value → Items → Type 0
ItemsJson P [] js = js ≡ no_items
ItemsJson P (v ∷ vs) js = (x : Json) × (rest : Items) × (js ≡ item x rest) × P v x × ItemsJson P vs rest

abbrev pub ObjectJson : (ℕ → Bool) → (ℕ → Value → Json → Type 0) → List Component → Json → List Value → Type 0
ObjectJson u g ps j vs = (ms : Members) × (j ≡ object ms) × MembersJson u g ps vs ms

abbrev pub ArrayJson : (Value → Json → Type 0) → Json → List Value → Type 0
ArrayJson P j vs = (js : Items) × (j ≡ array js) × ItemsJson P vs js

abbrev pub JsonBy : (ℕ → Bool) → (ℕ → Value → Json → Type 0) → «Type» → Value → Json → Type 0
JsonBy u g (Leaf kind tag c names) v j = FitsLeaf kind v × LeafJson kind c names.items v j
JsonBy u g (Enumerated tag ns) v j = EnumeratedJson ns.items v j
JsonBy u g (Any tag) v j = OpenJson v j
JsonBy u g (Tagged tag k) v j = g k.0 v j
JsonBy u g (Choice name ks) v j = IsChosen (ChosenJson g ks.items j) v
JsonBy u g (Sequence tag ps) v j = AreItems (ObjectJson u g ps.items j) v
JsonBy u g (Set name tag ps) v j = AreItems (ObjectJson u g ps.items j) v
JsonBy u g (SequenceOf tag k c) v j = AreItems (ArrayJson (g k.0) j) v
JsonBy u g (SetOf tag k c) v j = AreElements (ArrayJson (g k.0) j) v
JsonBy u g Unknown v j = AreItems (ArrayJson OpenJson j) v

abbrev pub JsonFound : (ℕ → Bool) → (ℕ → Value → Json → Type 0) → Option «Type» → Value → Json → Type 0
JsonFound u g None v j = ⊥
JsonFound u g (Some ty) v j = JsonBy u g ty v j

-- The value of the type with this number has this JSON, types followed so many levels deep.
unfoldable pub JsonAt : List «Type» → ℕ → ℕ → Value → Json → Type 0
JsonAt types zero k v j = ⊥
JsonAt types (suc levels) k v j = JsonFound (unknown_in types) (λ i w x. JsonAt types levels i w x) (slice_get types k) v j

-- The same of JSON in which at most so many arrays and objects are nested.
abbrev pub JsonWithin : List «Type» → ℕ → ℕ → ℕ → Value → Json → Type 0
JsonWithin types levels limit k v j = JsonAt types levels k v j × (depth j ≤ limit)

-- ---- what is written

-- Tokens of such a JSON value are appended.
abbrev pub Appends : (Json → Type 0) → List Token → List Token → Type 0
Appends P old new = (j : Json) × (new ≡ old ++ json_tokens j) × P j

-- So are those of a member, or nothing is.
abbrev pub AppendsMember : (Json → Type 0) → List ℕ → List Token → List Token → Type 0
AppendsMember P name old new = (j : Json) × (new ≡ old ++ key name ∷ json_tokens j) × P j

abbrev pub AppendsComponent : (ℕ → Bool) → (ℕ → Value → Json → Type 0) → Component → Value → List Token → List Token → Type 0
AppendsComponent u g p v old new = (IsLeftOut u p v × (new ≡ old)) ⊎ ((IsLeftOut u p v → ⊥) × AppendsMember (g p.type_id.0 v) (string_bytes p.name) old new)
