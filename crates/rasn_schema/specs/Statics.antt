-- The shapes of a schema that is a constant.
use Rattle.std.specs.Prelude.{◌≡◌, ℕ, ℤ, zero, suc, List, [], ◌∷◌, Option, Some, None, slice_get}
use Rattle.std.specs.Borrow.{Bor}
use Rattle.rasn_types.specs.declared.types.tag.Tag.{Tag}
use Rattle.rasn_types.specs.Tags.{eoc}
use Rattle.rasn_types.specs.Shapes.{Shape, Tree, number, done, leaf, any, prefix, choice, seq, list, set_of, unknown, Parts, part, looked_for, enumerated, Key, own_tag, required, addition, optional_by, default_by, Presence}
use Rattle.rasn_types.specs.Shapes.Parts.{none}
use Rattle.rasn_types.specs.Trees.{bool_tree, unconstrained}
use Rattle.rasn_schema.specs.Shapes.{kind_of, key_of, choice_among, set_among, presence_of, nothing, tag_of_type, type_by}
use Rattle.rasn_schema.specs.declared.types.«Type».{«Type»}
use Rattle.rasn_schema.specs.declared.types.NamedNumber.{NamedNumber}
use Rattle.rasn_schema.specs.declared.types.Alternative.{Alternative}
use Rattle.rasn_schema.specs.declared.types.Component.{Component}
use Rattle.rasn_schema.specs.declared.constants.types.StaticType.{StaticType}
use Rattle.rasn_schema.specs.declared.constants.types.StaticType.TheVariants.{Leaf, Enumerated, Any, Tagged, Choice, Sequence, Set, SequenceOf, SetOf, Unknown}
use Rattle.rasn_schema.specs.declared.constants.types.StaticPresence.{StaticPresence}
use Rattle.rasn_schema.specs.declared.constants.types.StaticPresence.TheVariants.{Required, Optional, Addition, Default}
use Rattle.rasn_schema.specs.declared.constants.types.StaticValue.{StaticValue}
use Rattle.rasn_schema.specs.declared.constants.types.StaticValue.TheVariants.{Truth, Number, Empty}

-- A name: its octets.
abbrev pub Name : Type 0
Name = Bor (List ℕ)

-- A StaticNumber: its name and the number.
abbrev pub Named : Type 0
Named = Name × ℤ

-- A StaticAlternative: its name, and the number of its type.
abbrev pub Held : Type 0
Held = Name × ℕ

-- A StaticComponent: its name, whether it may be absent, and the number of its type.
abbrev pub Placed : Type 0
Placed = Name × StaticPresence × ℕ

abbrev pub static_tree : StaticValue → Tree
static_tree (Truth b) = bool_tree b
static_tree (Number z) = number z
static_tree Empty = done

abbrev pub static_presence : Key → StaticPresence → Presence
static_presence key Required = required
static_presence key Optional = optional_by key
static_presence key Addition = addition
static_presence key (Default v) = default_by key (static_tree v)

abbrev pub static_numbers : List Named → List ℤ
static_numbers [] = []
static_numbers (n ∷ ns) = n.1 ∷ static_numbers ns

-- Components and alternatives. f gives the shape of the type with a number.
abbrev pub static_components : (ℕ → Shape) → List Placed → Parts
static_components f [] = none
static_components f (p ∷ ps) = part (static_presence (key_of (f p.2)) p.1) (f p.2) (static_components f ps)

abbrev pub static_alternatives : (ℕ → Shape) → List Held → Parts
static_alternatives f [] = none
static_alternatives f (a ∷ ks) = part required (f a.1) (static_alternatives f ks)

abbrev pub static_by : (ℕ → Shape) → StaticType → Shape
static_by f (Leaf kind tag c names) = leaf (kind_of kind) tag c
static_by f (Enumerated tag ns) = leaf (enumerated (static_numbers ns.now)) tag unconstrained
static_by f (Any tag) = any (looked_for tag)
static_by f (Tagged tag k) = prefix tag (f k)
static_by f (Choice name ks) = choice_among (static_alternatives f ks.now)
static_by f (Sequence tag ps) = seq tag (static_components f ps.now)
static_by f (Set name tag ps) = set_among tag (static_components f ps.now)
static_by f (SequenceOf tag k c) = list tag (f k) c.size
static_by f (SetOf tag k c) = set_of tag (f k) c.size
static_by f Unknown = unknown

abbrev pub static_tag : StaticType → Tag
static_tag (Leaf kind tag c names) = tag
static_tag (Enumerated tag ns) = tag
static_tag (Any tag) = tag
static_tag (Tagged tag k) = tag
static_tag (Choice name ks) = eoc
static_tag (Sequence tag ps) = tag
static_tag (Set name tag ps) = tag
static_tag (SequenceOf tag k c) = tag
static_tag (SetOf tag k c) = tag
static_tag Unknown = eoc

abbrev pub static_tag_found : Option StaticType → Tag
static_tag_found None = eoc
static_tag_found (Some ty) = static_tag ty

abbrev pub static_found : (ℕ → Shape) → Option StaticType → Shape
static_found f None = choice none
static_found f (Some ty) = static_by f ty

-- The shape of the type with a number, types followed so many levels deep, as that of a schema.
abbrev pub static_shape : List StaticType → ℕ → ℕ → Shape
static_shape types zero k = nothing (looked_for (static_tag_found (slice_get types k)))
static_shape types (suc levels) k = static_found (λ j. static_shape types levels j) (slice_get types k)

-- ---- what is made of a constant

abbrev pub number_in : NamedNumber → ℤ
number_in n = n.number

abbrev pub static_number : Named → ℤ
static_number n = n.1

abbrev pub type_in : Alternative → ℕ
type_in a = a.type_id.0

abbrev pub static_type : Held → ℕ
static_type a = a.1

abbrev pub component_in : Component → Presence × ℕ
component_in p = (presence_of p.presence, p.type_id.0)

abbrev pub static_component : Placed → Presence × ℕ
static_component p = (static_presence own_tag p.1, p.2)

-- A type that is that of a constant.
pub record IsMade (s : StaticType) (t : «Type») : Type 0 where
  pub tag : tag_of_type t ≡ static_tag s
  pub shape : (f : ℕ → Shape) → type_by f t ≡ static_by f s

abbrev pub IsListed : StaticType → Type 0
IsListed (Sequence tag ps) = Unit {0}
IsListed (Set name tag ps) = Unit {0}
IsListed (SequenceOf tag k c) = Unit {0}
IsListed (SetOf tag k c) = Unit {0}
IsListed Unknown = Unit {0}
IsListed s = ⊥
