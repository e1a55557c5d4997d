-- What each part of a schema is as a value of the type of `Shapes`.
use Rattle.std.specs.Prelude.{ℕ, pos, List, [], ◌∷◌, chars, Option, Vec}
use Rattle.std.specs.Global.{Global}
use Rattle.std.specs.String.{string_bytes}
use Rattle.rasn_types.specs.declared.types.tag.Tag.{Tag}
use Rattle.rasn_types.specs.declared.types.tag.Class.{Class}
use Rattle.rasn_types.specs.declared.types.tag.Class.TheVariants.{Universal, Application, Context, Private}
use Rattle.rasn_types.specs.declared.types.constraints.Bounded.{Bounded}
use Rattle.rasn_types.specs.declared.types.constraints.Bounded.TheVariants.{None as Free, Single, Range}
use Rattle.rasn_types.specs.Shapes.{Tree, number, numbers, items, chosen}
use Rattle.rasn_types.specs.declared.types.constraints.Bound.{Bound}
use Rattle.rasn_types.specs.declared.types.constraints.Constraints.{Constraints}
use Rattle.rasn_types.specs.Trees.{bool_tree, option_tree, list_tree}
use Rattle.rasn_schema.specs.declared.type_id.TypeId.{TypeId}
use Rattle.rasn_schema.specs.declared.types.LeafKind.{LeafKind}
use Rattle.rasn_schema.specs.declared.types.NamedNumber.{NamedNumber}
use Rattle.rasn_schema.specs.declared.types.Alternative.{Alternative}
use Rattle.rasn_schema.specs.declared.types.Component.{Component}
use Rattle.rasn_schema.specs.declared.types.Presence.{Presence}
use Rattle.rasn_schema.specs.declared.types.Presence.TheVariants.{Required, Optional, Addition, Default}
use Rattle.rasn_schema.specs.declared.types.«Type».{«Type»}
use Rattle.rasn_schema.specs.declared.types.«Type».TheVariants.{Leaf, Enumerated, Any, Tagged, Choice, Sequence, Set, SequenceOf, SetOf, Unknown}
use Rattle.rasn_schema.specs.declared.named.TypeName.{TypeName}
use Rattle.rasn_schema_octets.specs.Kinds.{kind_tree}
use Rattle.rasn_schema_octets.specs.Defaults.{nodes_of}

abbrev pub index_tree : ℕ → Tree
index_tree n = number (pos n)

abbrev pub text_tree : List ℕ → Tree
text_tree bytes = numbers (chars bytes)

abbrev pub class_number : Class → ℕ
class_number Universal = 0
class_number Application = 1
class_number Context = 2
class_number Private = 3

abbrev pub tag_tree : Tag → Tree
tag_tree tag = chosen (class_number tag.class) (number (pos tag.value))

-- The range of a bound, where f gives the trees of its ends.
abbrev pub range_tree : {T : Type 0} → (T → Tree) → Bounded T → Tree
range_tree f Free = chosen 0 (number (pos 0))
range_tree f (Single x) = chosen 1 (f x)
range_tree f (Range start end) = chosen 2 (items (option_tree f start ∷ option_tree f end ∷ []))

abbrev pub bound_tree : {T : Type 0} → (T → Tree) → Bound T → Tree
bound_tree f b = items (bool_tree b.extensible ∷ range_tree f b.constraint ∷ [])

abbrev pub constraints_tree : Constraints → Tree
constraints_tree c = items (option_tree (bound_tree number) c.value ∷ option_tree (bound_tree index_tree) c.size ∷ [])

abbrev pub number_tree : NamedNumber → Tree
number_tree n = items (text_tree (string_bytes n.name) ∷ number n.number ∷ [])

abbrev pub alternative_tree : Alternative → Tree
alternative_tree a = items (text_tree (string_bytes a.name) ∷ index_tree a.type_id.0 ∷ [])

abbrev pub type_name_tree : TypeName → Tree
type_name_tree n = items (text_tree (string_bytes n.name) ∷ index_tree n.type_id.0 ∷ [])

abbrev pub presence_tree : Presence → Tree
presence_tree Required = chosen 0 (number (pos 0))
presence_tree Optional = chosen 1 (number (pos 0))
presence_tree Addition = chosen 2 (number (pos 0))
presence_tree (Default v) = chosen 3 (items (nodes_of v))

abbrev pub component_tree : Component → Tree
component_tree c = items (text_tree (string_bytes c.name) ∷ index_tree c.type_id.0 ∷ presence_tree c.presence ∷ [])

abbrev pub elements_tree : Tag → TypeId → Constraints → Tree
elements_tree tag element c = items (tag_tree tag ∷ index_tree element.0 ∷ constraints_tree c ∷ [])

abbrev pub leaf_tree : LeafKind → Tag → Constraints → List NamedNumber → Tree
leaf_tree kind tag c names = items (kind_tree kind ∷ tag_tree tag ∷ constraints_tree c ∷ list_tree number_tree names ∷ [])

abbrev pub type_tree : «Type» → Tree
type_tree (Leaf kind tag c names) = chosen 0 (leaf_tree kind tag c names.items)
type_tree (Enumerated tag ns) = chosen 1 (items (tag_tree tag ∷ list_tree number_tree ns.items ∷ []))
type_tree (Any tag) = chosen 2 (tag_tree tag)
type_tree (Tagged tag inner) = chosen 3 (items (tag_tree tag ∷ index_tree inner.0 ∷ []))
type_tree (Choice name ks) = chosen 4 (items (text_tree (string_bytes name) ∷ list_tree alternative_tree ks.items ∷ []))
type_tree (Sequence tag ps) = chosen 5 (items (tag_tree tag ∷ list_tree component_tree ps.items ∷ []))
type_tree (Set name tag ps) = chosen 6 (items (text_tree (string_bytes name) ∷ tag_tree tag ∷ list_tree component_tree ps.items ∷ []))
type_tree (SequenceOf tag element c) = chosen 7 (elements_tree tag element c)
type_tree (SetOf tag element c) = chosen 8 (elements_tree tag element c)
type_tree Unknown = chosen 9 (number (pos 0))

-- The names of a schema, if it has some.
abbrev pub names_tree : Option (Vec TypeName Global) → Tree
names_tree names = option_tree (λ (ns : Vec TypeName Global). list_tree type_name_tree ns.items) names

-- A whole schema of this version, with the number of one of its types, and how many constraints it doesn't check.
abbrev pub octets_tree : ℕ → ℕ → ℕ → Option (Vec TypeName Global) → List «Type» → Tree
octets_tree version root unchecked names types = items (index_tree version ∷ index_tree root ∷ index_tree unchecked ∷ names_tree names ∷ list_tree type_tree types ∷ [])
