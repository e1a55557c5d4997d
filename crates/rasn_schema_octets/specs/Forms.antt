-- What the types that are read and written are as values of the type of `Shapes`.
use Rattle.std.specs.Prelude.{ℤ, pos, [], ◌∷◌, Option, Vec}
use Rattle.std.specs.Global.{Global}
use Rattle.std.specs.String.{string_bytes}
use Rattle.rasn_types.specs.Shapes.{Tree, number, numbers, bits, instant, on_day, items, chosen}
use Rattle.rasn_types.specs.CharacterString.{units_of}
use Rattle.rasn_types.specs.Trees.{bool_tree, option_tree, list_tree}
use Rattle.rasn_schema_octets.specs.declared.kind.PlainKind.{PlainKind}
use Rattle.rasn_schema_octets.specs.declared.kind.PlainKind.TheVariants.{Boolean, Null, ObjectIdentifier, BitString, NamedBits, OctetString, Integer, Signed32, Signed64, Unsigned32, Unsigned64, Numeric, Printable, Visible, Ia5, AnyOctets, Bmp, Utf8, UtcTime, GeneralizedTime, Date, Universal, RelativeOid, Real, Time, Duration, TimeOfDay, DateTime}
use Rattle.rasn_schema_octets.specs.declared.name.NameForm.{NameForm}
use Rattle.rasn_schema_octets.specs.declared.name.NumberForm.{NumberForm}
use Rattle.rasn_schema_octets.specs.declared.node.NodeForm.{NodeForm}
use Rattle.rasn_schema_octets.specs.declared.node.NodeForm.TheVariants.{Boolean as BooleanNode, Null as NullNode, Integer as IntegerNode, Bits, Octets, Text, Units, Arcs, Instant, Day, Items, Elements, Chosen, Absent}
use Rattle.rasn_schema_octets.specs.declared.component.PresenceForm.{PresenceForm}
use Rattle.rasn_schema_octets.specs.declared.component.PresenceForm.TheVariants.{Required, Optional, Addition, Default}
use Rattle.rasn_schema_octets.specs.declared.component.ComponentForm.{ComponentForm}
use Rattle.rasn_schema_octets.specs.declared.types.LeafForm.{LeafForm}
use Rattle.rasn_schema_octets.specs.declared.types.EnumeratedForm.{EnumeratedForm}
use Rattle.rasn_schema_octets.specs.declared.types.TaggedForm.{TaggedForm}
use Rattle.rasn_schema_octets.specs.declared.types.ChoiceForm.{ChoiceForm}
use Rattle.rasn_schema_octets.specs.declared.types.SequenceForm.{SequenceForm}
use Rattle.rasn_schema_octets.specs.declared.types.SetForm.{SetForm}
use Rattle.rasn_schema_octets.specs.declared.types.ElementsForm.{ElementsForm}
use Rattle.rasn_schema_octets.specs.declared.types.TypeForm.{TypeForm}
use Rattle.rasn_schema_octets.specs.declared.types.TypeForm.TheVariants.{Leaf, Enumerated, Any, Tagged, Choice, Sequence, Set, SequenceOf, SetOf, Unknown}
use Rattle.rasn_schema_octets.specs.declared.form.SchemaForm.{SchemaForm}
use Rattle.rasn_schema_octets.specs.Kinds.{kind_tree}
use Rattle.rasn_schema_octets.specs.Trees.{index_tree, text_tree, tag_tree, constraints_tree}

-- The numbers of kinds that are only named.
abbrev pub plain_number : PlainKind → ℤ
plain_number Boolean = pos 0
plain_number Null = pos 1
plain_number ObjectIdentifier = pos 2
plain_number BitString = pos 3
plain_number NamedBits = pos 4
plain_number OctetString = pos 5
plain_number Integer = pos 6
plain_number Signed32 = pos 7
plain_number Signed64 = pos 8
plain_number Unsigned32 = pos 9
plain_number Unsigned64 = pos 10
plain_number Numeric = pos 11
plain_number Printable = pos 12
plain_number Visible = pos 13
plain_number Ia5 = pos 14
plain_number AnyOctets = pos 15
plain_number Bmp = pos 16
plain_number Utf8 = pos 17
plain_number UtcTime = pos 18
plain_number GeneralizedTime = pos 19
plain_number Date = pos 20
plain_number Universal = pos 21
plain_number RelativeOid = pos 22
plain_number Real = pos 23
plain_number Time = pos 24
plain_number Duration = pos 25
plain_number TimeOfDay = pos 26
plain_number DateTime = pos 27

abbrev pub name_form_tree : NameForm → Tree
name_form_tree f = items (text_tree (string_bytes f.name) ∷ index_tree f.type_id ∷ [])

abbrev pub number_form_tree : NumberForm → Tree
number_form_tree f = items (text_tree (string_bytes f.name) ∷ number f.number ∷ [])

abbrev pub node_form_tree : NodeForm → Tree
node_form_tree (BooleanNode b) = chosen 0 (bool_tree b)
node_form_tree (NullNode n) = chosen 1 (number (pos 0))
node_form_tree (IntegerNode n) = chosen 2 (number n)
node_form_tree (Bits b) = chosen 3 (bits b)
node_form_tree (Octets o) = chosen 4 (numbers o)
node_form_tree (Text s) = chosen 5 (text_tree (string_bytes s))
node_form_tree (Units u) = chosen 6 (numbers (units_of u))
node_form_tree (Arcs a) = chosen 7 (numbers a)
node_form_tree (Instant t) = chosen 8 (instant t.moment)
node_form_tree (Day d) = chosen 9 (on_day d)
node_form_tree (Items n) = chosen 10 (index_tree n)
node_form_tree (Elements n) = chosen 11 (index_tree n)
node_form_tree (Chosen k) = chosen 12 (index_tree k)
node_form_tree (Absent n) = chosen 13 (number (pos 0))

abbrev pub presence_form_tree : PresenceForm → Tree
presence_form_tree (Required n) = chosen 0 (number (pos 0))
presence_form_tree (Optional n) = chosen 1 (number (pos 0))
presence_form_tree (Addition n) = chosen 2 (number (pos 0))
presence_form_tree (Default nodes) = chosen 3 (list_tree node_form_tree nodes.items)

abbrev pub component_form_tree : ComponentForm → Tree
component_form_tree f = items (text_tree (string_bytes f.name) ∷ index_tree f.type_id ∷ presence_form_tree f.presence ∷ [])

abbrev pub leaf_form_tree : LeafForm → Tree
leaf_form_tree f = items (kind_tree f.kind.kind ∷ tag_tree f.tag.tag ∷ constraints_tree f.constraints.constraints ∷ list_tree number_form_tree f.names.items ∷ [])

abbrev pub enumerated_form_tree : EnumeratedForm → Tree
enumerated_form_tree f = items (tag_tree f.tag.tag ∷ list_tree number_form_tree f.numbers.items ∷ [])

abbrev pub tagged_form_tree : TaggedForm → Tree
tagged_form_tree f = items (tag_tree f.tag.tag ∷ index_tree f.inner ∷ [])

abbrev pub choice_form_tree : ChoiceForm → Tree
choice_form_tree f = items (text_tree (string_bytes f.name) ∷ list_tree name_form_tree f.alternatives.items ∷ [])

abbrev pub sequence_form_tree : SequenceForm → Tree
sequence_form_tree f = items (tag_tree f.tag.tag ∷ list_tree component_form_tree f.components.items ∷ [])

abbrev pub set_form_tree : SetForm → Tree
set_form_tree f = items (text_tree (string_bytes f.name) ∷ tag_tree f.tag.tag ∷ list_tree component_form_tree f.components.items ∷ [])

abbrev pub elements_form_tree : ElementsForm → Tree
elements_form_tree f = items (tag_tree f.tag.tag ∷ index_tree f.element ∷ constraints_tree f.constraints.constraints ∷ [])

abbrev pub type_form_tree : TypeForm → Tree
type_form_tree (Leaf f) = chosen 0 (leaf_form_tree f)
type_form_tree (Enumerated f) = chosen 1 (enumerated_form_tree f)
type_form_tree (Any f) = chosen 2 (tag_tree f.tag)
type_form_tree (Tagged f) = chosen 3 (tagged_form_tree f)
type_form_tree (Choice f) = chosen 4 (choice_form_tree f)
type_form_tree (Sequence f) = chosen 5 (sequence_form_tree f)
type_form_tree (Set f) = chosen 6 (set_form_tree f)
type_form_tree (SequenceOf f) = chosen 7 (elements_form_tree f)
type_form_tree (SetOf f) = chosen 8 (elements_form_tree f)
type_form_tree (Unknown n) = chosen 9 (number (pos 0))

abbrev pub names_form_tree : Option (Vec NameForm Global) → Tree
names_form_tree names = option_tree (λ (ns : Vec NameForm Global). list_tree name_form_tree ns.items) names

abbrev pub schema_form_tree : SchemaForm → Tree
schema_form_tree f = items (index_tree f.version ∷ index_tree f.root ∷ index_tree f.unchecked ∷ names_form_tree f.names ∷ list_tree type_form_tree f.types.items ∷ [])
