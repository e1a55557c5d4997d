-- The shapes that a schema has.
use Rattle.std.specs.Prelude.{◌≡◌, ℕ, ℤ, zero, suc, Bool, true, false, if◌then◌else◌, List, [], ◌∷◌, Option, Some, None, slice_get, ◌⊎◌}
use Rattle.rasn_types.specs.declared.types.tag.Tag.{Tag}
use Rattle.rasn_types.specs.Tags.{eoc}
use Rattle.rasn_types.specs.Shapes.{Shape, leaf, any, prefix, choice, open_choice, seq, sorted_set, list, set_of, unknown, IsAlwaysPresent, Parts, part, looked_for, Kind, boolean, null, object_identifier, bit_string, named_bits, octet_string, fixed, integer, enumerated, every, numeric, printable, visible, ia5, any_octets, bmp, universal, utf8, real, time_text, time_digits, utc_time, generalized_time, date, Key, own_tag, first_tags, required, addition, optional_by, default_by, Presence as PartPresence}
use Rattle.rasn_types.specs.Shapes.Parts.{none}
use Rattle.rasn_types.specs.Lawful.{IsLawful}
use Rattle.rasn_types.specs.Trees.{signed_range, unsigned_range, unconstrained}
use Rattle.rasn_schema.specs.Trees.{tree_of}
use Rattle.rasn_schema.specs.declared.types.LeafKind.{LeafKind}
use Rattle.rasn_schema.specs.declared.types.LeafKind.TheVariants.{Boolean, Null, ObjectIdentifier, BitString, NamedBits, OctetString, FixedOctetString, Integer, Signed32, Signed64, Unsigned32, Unsigned64, Numeric, Printable, Visible, Ia5, AnyOctets, Bmp, Utf8, UtcTime, GeneralizedTime, Date, Universal, RelativeOid, Real, Time, Duration, TimeOfDay, DateTime}
use Rattle.rasn_schema.specs.declared.types.Presence.{Presence}
use Rattle.rasn_schema.specs.declared.types.Presence.TheVariants.{Required, Optional, Addition, Default}
use Rattle.rasn_schema.specs.declared.types.Component.{Component}
use Rattle.rasn_schema.specs.declared.types.Alternative.{Alternative}
use Rattle.rasn_schema.specs.declared.types.NamedNumber.{NamedNumber}
use Rattle.rasn_schema.specs.declared.types.«Type».{«Type»}
use Rattle.rasn_schema.specs.declared.types.«Type».TheVariants.{Leaf, Enumerated, Any, Tagged, Choice, Sequence, Set, SequenceOf, SetOf, Unknown}

-- The contents octets of a RELATIVE-OID are those of the OBJECT IDENTIFIER whose first subidentifier is its first arc (X.690 8.19.4, 8.20).
abbrev pub kind_of : LeafKind → Kind
kind_of Boolean = boolean
kind_of Null = null
kind_of ObjectIdentifier = object_identifier
kind_of BitString = bit_string
kind_of NamedBits = named_bits
kind_of OctetString = octet_string
kind_of (FixedOctetString n) = fixed n
kind_of Integer = integer every
kind_of Signed32 = integer (signed_range 32)
kind_of Signed64 = integer (signed_range 64)
kind_of Unsigned32 = integer (unsigned_range 32)
kind_of Unsigned64 = integer (unsigned_range 64)
kind_of Numeric = numeric
kind_of Printable = printable
kind_of Visible = visible
kind_of Ia5 = ia5
kind_of AnyOctets = any_octets
kind_of Bmp = bmp
kind_of Utf8 = utf8
kind_of UtcTime = utc_time
kind_of GeneralizedTime = generalized_time
kind_of Date = date
kind_of Universal = universal
kind_of RelativeOid = object_identifier
kind_of Real = real
kind_of Time = time_text
kind_of Duration = time_text
kind_of TimeOfDay = time_digits 6
kind_of DateTime = time_digits 14

-- the numbers of an ENUMERATED
abbrev pub numbers_of : List NamedNumber → List ℤ
numbers_of [] = []
numbers_of (n ∷ ns) = n.number ∷ numbers_of ns

-- A CHOICE that may be absent is recognized by its first tags, if these aren't all tags, and any other component by its own tag.
abbrev pub key_of : Shape → Key
key_of (choice ps) = first_tags
key_of s = own_tag

abbrev pub IsByFirstTags : Shape → Type 0
IsByFirstTags s = key_of s ≡ first_tags

abbrev pub presence_by : Key → Presence → PartPresence
presence_by key Required = required
presence_by key Optional = optional_by key
presence_by key Addition = addition
presence_by key (Default v) = default_by key (tree_of v)

-- What is asked of a presence whatever the component is recognized by.
abbrev pub presence_of : Presence → PartPresence
presence_of = presence_by own_tag

-- Components and alternatives. f gives the shape of the type with a number.
abbrev pub presence_in : (ℕ → Shape) → Component → PartPresence
presence_in f p = presence_by (key_of (f p.type_id.0)) p.presence

abbrev pub components_by : (ℕ → Shape) → List Component → Parts
components_by f [] = none
components_by f (p ∷ ps) = part (presence_in f p) (f p.type_id.0) (components_by f ps)

abbrev pub alternatives_by : (ℕ → Shape) → List Alternative → Parts
alternatives_by f [] = none
alternatives_by f (a ∷ ks) = part required (f a.type_id.0) (alternatives_by f ks)

-- ---- a CHOICE whose last alternative is an open type without a tag: its values are the unknown ones (X.680 29)

abbrev pub is_open : Shape → Bool
is_open (any None) = true
is_open s = false

abbrev pub ends_open : Parts → Bool
ends_open none = false
ends_open (part presence s none) = is_open s
ends_open (part presence s (part next u ps)) = ends_open (part next u ps)

abbrev pub before_last : Parts → Parts
before_last none = none
before_last (part presence s none) = none
before_last (part presence s (part next u ps)) = part presence s (before_last (part next u ps))

abbrev pub choice_among : Parts → Shape
choice_among ps = if ends_open ps then open_choice (before_last ps) else choice ps

-- ---- a SET whose last component is unknown values: those with other tags, anywhere among the others (X.680 27)

abbrev pub is_unknown : Shape → Bool
is_unknown unknown = true
is_unknown s = false

abbrev pub ends_unknown : Parts → Bool
ends_unknown none = false
ends_unknown (part presence s none) = is_unknown s
ends_unknown (part presence s (part next u ps)) = ends_unknown (part next u ps)

abbrev pub known_parts : Parts → Parts
known_parts ps = if ends_unknown ps then before_last ps else ps

-- The components of a value are in any order, and are written in that of their tags, whatever the order of the schema is (X.690 9.3, 10.3).
abbrev pub set_among : Tag → Parts → Shape
set_among tag ps = sorted_set (ends_unknown ps) tag (known_parts ps)

-- ---- types

abbrev pub type_by : (ℕ → Shape) → «Type» → Shape
type_by f (Leaf kind tag c names) = leaf (kind_of kind) tag c
type_by f (Enumerated tag ns) = leaf (enumerated (numbers_of ns.items)) tag unconstrained
type_by f (Any tag) = any (looked_for tag)
type_by f (Tagged tag k) = prefix tag (f k.0)
type_by f (Choice name ks) = choice_among (alternatives_by f ks.items)
type_by f (Sequence tag ps) = seq tag (components_by f ps.items)
type_by f (Set name tag ps) = set_among tag (components_by f ps.items)
type_by f (SequenceOf tag k c) = list tag (f k.0) c.size
type_by f (SetOf tag k c) = set_of tag (f k.0) c.size
type_by f Unknown = unknown

-- A type's own tag: universal 0 if it has none.
abbrev pub tag_of_type : «Type» → Tag
tag_of_type (Leaf kind tag c names) = tag
tag_of_type (Enumerated tag ns) = tag
tag_of_type (Any tag) = tag
tag_of_type (Tagged tag k) = tag
tag_of_type (Choice name ks) = eoc
tag_of_type (Sequence tag ps) = tag
tag_of_type (Set name tag ps) = tag
tag_of_type (SequenceOf tag k c) = tag
tag_of_type (SetOf tag k c) = tag
tag_of_type Unknown = eoc

abbrev pub tag_found : Option «Type» → Tag
tag_found None = eoc
tag_found (Some ty) = tag_of_type ty

abbrev pub tag_at : List «Type» → ℕ → Tag
tag_at types k = tag_found (slice_get types k)

-- A shape of which nothing is read or written, with this tag of its own.
abbrev pub nothing : Option Tag → Shape
nothing None = choice none
nothing (Some tag) = prefix tag (choice none)

abbrev pub found_by : (ℕ → Shape) → Option «Type» → Shape
found_by f None = choice none
found_by f (Some ty) = type_by f ty

-- The shape of the type with a number, types followed so many levels deep. Of what is deeper, nothing is read or written.
unfoldable pub shape_of_type : List «Type» → ℕ → ℕ → Shape
shape_of_type types zero k = nothing (looked_for (tag_at types k))
shape_of_type types (suc levels) k = found_by (λ j. shape_of_type types levels j) (slice_get types k)

-- The presences of components, whatever their shapes are.
abbrev pub presences_in : List Component → List PartPresence
presences_in [] = []
presences_in (p ∷ ps) = presence_of p.presence ∷ presences_in ps

-- What is read and written: a lawful shape whose values have octets, or unknown values.
abbrev pub IsReadable : Shape → Type 0
IsReadable s = (IsAlwaysPresent s × IsLawful s) ⊎ (s ≡ unknown)

abbrev pub AreReadable : Parts → Type 0
AreReadable none = Unit {0}
AreReadable (part presence s ps) = IsReadable s × AreReadable ps
