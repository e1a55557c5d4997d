-- The type of schemas as octets, whose tags are implicit except before a CHOICE:
--
-- Octets ::= SEQUENCE { version INTEGER, root INTEGER, unchecked INTEGER, names [0] SEQUENCE OF Name OPTIONAL, types SEQUENCE OF Type }
-- Name ::= SEQUENCE { name UTF8String, type INTEGER }
-- Number ::= SEQUENCE { name UTF8String, number INTEGER }
-- Tag ::= CHOICE { universal [0] INTEGER, application [1] INTEGER, context [2] INTEGER, private [3] INTEGER }
-- Kind ::= CHOICE { plain ENUMERATED { boolean (0), .. date (20) }, octets INTEGER }
-- Range ::= CHOICE { all [0] NULL, single [1] EXPLICIT INTEGER, ends [2] SEQUENCE { start [0] EXPLICIT INTEGER OPTIONAL, end [1] EXPLICIT INTEGER OPTIONAL } }
-- Bound ::= SEQUENCE { extensible BOOLEAN, range Range }
-- Constraints ::= SEQUENCE { value [0] Bound OPTIONAL, size [1] Bound OPTIONAL }
-- Node ::= CHOICE { boolean BOOLEAN, null NULL, integer INTEGER, bits BIT STRING, octets OCTET STRING, text UTF8String, units BMPString,
--     arcs OBJECT IDENTIFIER, instant GeneralizedTime, day DATE, items [0] INTEGER, elements [1] INTEGER, chosen [2] INTEGER, absent [3] NULL }
-- Presence ::= CHOICE { required [0] NULL, optional [1] NULL, addition [2] NULL, default [3] SEQUENCE OF Node }
-- Component ::= SEQUENCE { name UTF8String, type INTEGER, presence Presence }
-- Type ::= CHOICE { leaf [0] SEQUENCE { kind Kind, tag Tag, constraints Constraints, names SEQUENCE OF Number },
--     enumerated [1] SEQUENCE { tag Tag, numbers SEQUENCE OF Number }, any [2] Tag, tagged [3] SEQUENCE { tag Tag, inner INTEGER },
--     choice [4] SEQUENCE { name UTF8String, alternatives SEQUENCE OF Name }, sequence [5] SEQUENCE { tag Tag, components SEQUENCE OF Component },
--     set [6] SEQUENCE { name UTF8String, tag Tag, components SEQUENCE OF Component },
--     sequenceOf [7] SEQUENCE { tag Tag, element INTEGER, constraints Constraints }, setOf [8] SEQUENCE { tag Tag, element INTEGER, constraints Constraints }, unknown [9] NULL }
use Rattle.std.specs.Prelude.{ℕ, ℤ, pos, List, [], ◌∷◌, None}
use Rattle.rasn_types.specs.declared.types.tag.Tag.{Tag}
use Rattle.rasn_types.specs.declared.types.tag.Class.TheVariants.{Context}
use Rattle.rasn_types.specs.Tags.{in_universal}
use Rattle.rasn_types.specs.Shapes.{Shape, leaf, prefix, choice, seq, list, Parts, part, required, optional, integer, enumerated, boolean, null, bit_string, octet_string, utf8, bmp, object_identifier, generalized_time, date, every}
use Rattle.rasn_types.specs.Shapes.Parts.{none}
use Rattle.rasn_types.specs.Trees.{unconstrained, signed_range, unsigned_range}

abbrev pub context : ℕ → Tag
context n = record { class = Context; value = n }

-- A number of a type, a length or a count; a name.
abbrev pub index_shape : Shape
index_shape = leaf (integer (unsigned_range 64)) (in_universal 2) unconstrained

abbrev pub text_shape : Shape
text_shape = leaf utf8 (in_universal 12) unconstrained

abbrev pub list_of : Shape → Shape
list_of s = list (in_universal 16) s None

abbrev pub tag_alternatives : Parts
tag_alternatives = part required (leaf (integer (unsigned_range 32)) (context 0) unconstrained)
    (part required (leaf (integer (unsigned_range 32)) (context 1) unconstrained)
    (part required (leaf (integer (unsigned_range 32)) (context 2) unconstrained)
    (part required (leaf (integer (unsigned_range 32)) (context 3) unconstrained) none)))

abbrev pub tag_shape : Shape
tag_shape = choice tag_alternatives

abbrev pub plain_kinds : List ℤ
plain_kinds = pos 0 ∷ pos 1 ∷ pos 2 ∷ pos 3 ∷ pos 4 ∷ pos 5 ∷ pos 6 ∷ pos 7 ∷ pos 8 ∷ pos 9 ∷ pos 10 ∷ pos 11 ∷ pos 12 ∷ pos 13 ∷ pos 14 ∷ pos 15
    ∷ pos 16 ∷ pos 17 ∷ pos 18 ∷ pos 19 ∷ pos 20 ∷ pos 21 ∷ pos 22 ∷ pos 23 ∷ pos 24 ∷ pos 25 ∷ pos 26 ∷ pos 27 ∷ []

abbrev pub kind_alternatives : Parts
kind_alternatives = part required (leaf (enumerated plain_kinds) (in_universal 10) unconstrained) (part required index_shape none)

abbrev pub kind_shape : Shape
kind_shape = choice kind_alternatives

-- Ranges of numbers of a shape.
abbrev pub ends_parts : Shape → Parts
ends_parts s = part optional (prefix (context 0) s) (part optional (prefix (context 1) s) none)

abbrev pub range_alternatives : Shape → Parts
range_alternatives s = part required (leaf null (context 0) unconstrained)
    (part required (prefix (context 1) s)
    (part required (seq (context 2) (ends_parts s)) none))

abbrev pub bound_parts : Shape → Parts
bound_parts s = part required (leaf boolean (in_universal 1) unconstrained) (part required (choice (range_alternatives s)) none)

abbrev pub value_shape : Shape
value_shape = leaf (integer (signed_range 128)) (in_universal 2) unconstrained

abbrev pub constraints_parts : Parts
constraints_parts = part optional (seq (context 0) (bound_parts value_shape)) (part optional (seq (context 1) (bound_parts index_shape)) none)

abbrev pub constraints_shape : Shape
constraints_shape = seq (in_universal 16) constraints_parts

abbrev pub number_shape : Shape
number_shape = seq (in_universal 16) (part required text_shape (part required (leaf (integer (signed_range 64)) (in_universal 2) unconstrained) none))

abbrev pub name_shape : Shape
name_shape = seq (in_universal 16) (part required text_shape (part required index_shape none))

abbrev pub node_alternatives : Parts
node_alternatives = part required (leaf boolean (in_universal 1) unconstrained)
    (part required (leaf null (in_universal 5) unconstrained)
    (part required (leaf (integer every) (in_universal 2) unconstrained)
    (part required (leaf bit_string (in_universal 3) unconstrained)
    (part required (leaf octet_string (in_universal 4) unconstrained)
    (part required text_shape
    (part required (leaf bmp (in_universal 30) unconstrained)
    (part required (leaf object_identifier (in_universal 6) unconstrained)
    (part required (leaf generalized_time (in_universal 24) unconstrained)
    (part required (leaf date (in_universal 31) unconstrained)
    (part required (leaf (integer (unsigned_range 64)) (context 0) unconstrained)
    (part required (leaf (integer (unsigned_range 64)) (context 1) unconstrained)
    (part required (leaf (integer (unsigned_range 64)) (context 2) unconstrained)
    (part required (leaf null (context 3) unconstrained) none)))))))))))))

abbrev pub node_shape : Shape
node_shape = choice node_alternatives

abbrev pub presence_alternatives : Parts
presence_alternatives = part required (leaf null (context 0) unconstrained)
    (part required (leaf null (context 1) unconstrained)
    (part required (leaf null (context 2) unconstrained)
    (part required (list (context 3) node_shape None) none)))

abbrev pub presence_shape : Shape
presence_shape = choice presence_alternatives

abbrev pub component_shape : Shape
component_shape = seq (in_universal 16) (part required text_shape (part required index_shape (part required presence_shape none)))

abbrev pub leaf_parts : Parts
leaf_parts = part required kind_shape (part required tag_shape (part required constraints_shape (part required (list_of number_shape) none)))

abbrev pub enumerated_parts : Parts
enumerated_parts = part required tag_shape (part required (list_of number_shape) none)

abbrev pub tagged_parts : Parts
tagged_parts = part required tag_shape (part required index_shape none)

abbrev pub choice_parts : Parts
choice_parts = part required text_shape (part required (list_of name_shape) none)

abbrev pub sequence_parts : Parts
sequence_parts = part required tag_shape (part required (list_of component_shape) none)

abbrev pub set_parts : Parts
set_parts = part required text_shape (part required tag_shape (part required (list_of component_shape) none))

abbrev pub elements_parts : Parts
elements_parts = part required tag_shape (part required index_shape (part required constraints_shape none))

abbrev pub type_alternatives : Parts
type_alternatives = part required (seq (context 0) leaf_parts)
    (part required (seq (context 1) enumerated_parts)
    (part required (prefix (context 2) tag_shape)
    (part required (seq (context 3) tagged_parts)
    (part required (seq (context 4) choice_parts)
    (part required (seq (context 5) sequence_parts)
    (part required (seq (context 6) set_parts)
    (part required (seq (context 7) elements_parts)
    (part required (seq (context 8) elements_parts)
    (part required (leaf null (context 9) unconstrained) none)))))))))

abbrev pub type_shape : Shape
type_shape = choice type_alternatives

abbrev pub octets_parts : Parts
octets_parts = part required (leaf (integer (unsigned_range 32)) (in_universal 2) unconstrained)
    (part required index_shape
    (part required index_shape
    (part optional (list (context 0) name_shape None)
    (part required (list_of type_shape) none))))

abbrev pub octets_shape : Shape
octets_shape = seq (in_universal 16) octets_parts
