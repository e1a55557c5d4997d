-- Shapes that are lawful, and shapes that aren't; parts that the fields of a type describe, and parts that they don't.
use Rattle.std.specs.Prelude.{◌≡◌, ℕ, [], ◌∷◌, pos, Some, None, true, false}
use Rattle.rasn_types.specs.Tags.{in_universal}
use Rattle.rasn_types.specs.declared.types.tag.Tag.{Tag}
use Rattle.rasn_types.specs.declared.types.tag.Class.TheVariants.{Application, Context}
use Rattle.rasn_types.specs.Shapes.{number, set_elements, items, absent, every, Kind, boolean, object_identifier, bit_string, octet_string, integer, ia5, utc_time, generalized_time, Shape, Parts, leaf, any, prefix, choice, open_choice, option, seq, set, sorted_set, list, set_of, unknown, part, required, optional, addition, default, optional_choice, default_choice}
use Rattle.rasn_types.specs.Shapes.Parts.{none}
use Rattle.rasn_types.specs.Trees.{unconstrained, unsigned_range}
use Rattle.rasn_types.specs.declared.types.codec.Codec.TheVariants.{Der}
use Rattle.rasn_types.specs.Lawful.{IsLawful}
use Rattle.rasn_types.specs.Described.{count, describes}
use Rattle.rasn_de.proofs.OwnTypes.Tags.{begins_alone}
use Rattle.rasn_types.specs.Grammar.{Reads}
use Rattle.rasn_types.specs.Carried.{Carried}
use Rattle.rasn.specs.Laws.{HasOwnDefaults}
use Rattle.rasn.specs.Carries.{carries_all}

-- A leaf of this kind with the universal tag n and no constraints.
abbrev pub plain : Kind → ℕ → Shape
plain kind n = leaf kind (in_universal n) unconstrained

abbrev pub contextual : ℕ → Tag
contextual n = record { class = Context; value = n }

-- A leaf of this kind with the implicit tag [n] and no constraints.
abbrev pub tagged : Kind → ℕ → Shape
tagged kind n = leaf kind (contextual n) unconstrained

-- SEQUENCE { IA5String, BOOLEAN }
abbrev pub named : Shape
named = seq (in_universal 16) (part required (plain ia5 22) (part required (plain boolean 1) none))

-- BOOLEAN OPTIONAL
abbrev pub perhaps_bool : Shape
perhaps_bool = option (Some (in_universal 1)) (plain boolean 1)

-- CHOICE { UTCTime, GeneralizedTime } (RFC 5280, 4.1)
abbrev pub either_time : Shape
either_time = choice (part required (plain utc_time 23) (part required (plain generalized_time 24) none))

-- Validity ::= SEQUENCE { Time, Time } (RFC 5280, 4.1)
abbrev pub validity : Shape
validity = seq (in_universal 16) (part required either_time (part required either_time none))

-- INTEGER (0..255) with the implicit tag [n]
abbrev pub small : ℕ → Shape
small n = tagged (integer (unsigned_range 8)) n

-- SET { [0] INTEGER (0..255), [1] INTEGER (0..255), [2] INTEGER (0..255) }, and below it the same components in reverse
-- order
abbrev pub three_of_set : Shape
three_of_set = set (in_universal 17) (part required (small 0) (part required (small 1) (part required (small 2) none)))

abbrev pub turned_round : Shape
turned_round = set (in_universal 17) (part required (small 2) (part required (small 1) (part required (small 0) none)))

-- The same components as of `turned_round`, which are put in order.
abbrev pub put_in_order : Shape
put_in_order = sorted_set false (in_universal 17) (part required (small 2) (part required (small 1) (part required (small 0) none)))

-- SET { [0] INTEGER (0..255), [2] INTEGER (0..255), ... }
abbrev pub two_of_set : Parts
two_of_set = part required (small 0) (part required (small 2) none)

abbrev pub extensible_set : Shape
extensible_set = sorted_set true (in_universal 17) two_of_set

-- SET OF OCTET STRING
abbrev pub octets_in_set_of : Shape
octets_in_set_of = set_of (in_universal 17) (plain octet_string 4) None

-- AlgorithmIdentifier ::= SEQUENCE { OBJECT IDENTIFIER, ANY OPTIONAL } (RFC 5280, 4.1.1.2)
abbrev pub algorithm : Shape
algorithm = seq (in_universal 16) (part required (plain object_identifier 6) (part optional (any None) none))

-- RelativeDistinguishedName ::= SET OF SEQUENCE { OBJECT IDENTIFIER, ANY } (RFC 5280, 4.1.2.4)
abbrev pub relative_name : Shape
relative_name = set_of (in_universal 17) (seq (in_universal 16) (part required (plain object_identifier 6) (part required (any None) none))) None

-- SEQUENCE { INTEGER DEFAULT 7 }
abbrev pub seven : Shape
seven = seq (in_universal 16) (part (default (number (pos 7))) (plain (integer every) 2) none)

-- SET { [0] INTEGER DEFAULT 7 }
abbrev pub seven_of_set : Shape
seven_of_set = set (in_universal 17) (part (default (number (pos 7))) (tagged (integer every) 0) none)

-- SEQUENCE { BOOLEAN, ..., [0] EXPLICIT INTEGER }
abbrev pub extended : Shape
extended = seq (in_universal 16) (part required (plain boolean 1) (part addition (prefix (contextual 0) (plain (integer every) 2)) none))

-- SET { SET { [0] INTEGER, [1] INTEGER }, [APPLICATION 0] INTEGER, [2] an open type, [3] EXPLICIT SEQUENCE OF INTEGER }
abbrev pub mixed : Shape
mixed = set (in_universal 17) (
    part required (set (in_universal 17) (part required (tagged (integer every) 0) (part required (tagged (integer every) 1) none)))
    (part required (leaf (integer every) (record { class = Application; value = 0 }) unconstrained)
    (part required (any (Some (contextual 2))) (part required (prefix (contextual 3) (list (in_universal 16) (plain (integer every) 2) None)) none)))
    )

-- The parts of SEQUENCE { INTEGER, BOOLEAN }, SEQUENCE { BOOLEAN, BOOLEAN }, SEQUENCE { INTEGER DEFAULT 7 } and
-- SEQUENCE { BOOLEAN, ..., [0] EXPLICIT INTEGER }.
abbrev pub two_parts : Parts
two_parts = part required (plain (integer every) 2) (part required (plain boolean 1) none)

abbrev pub two_alike : Parts
two_alike = part required (plain boolean 1) (part required (plain boolean 1) none)

abbrev pub default_alone : Parts
default_alone = part (default (number (pos 7))) (plain (integer every) 2) none

abbrev pub added_part : Parts
added_part = part required (plain boolean 1) (part addition (prefix (contextual 0) (plain (integer every) 2)) none)

pub record DescribedParts : Type 0 where
  pub two_fields : describes 2 0 false true two_parts ≡ true
  pub field_left_out : describes 1 0 false true two_parts ≡ false
  pub none_said_to_come : describes 2 0 false false two_parts ≡ false
  pub none_has_to_come : describes 1 0 false false default_alone ≡ true
  pub default_said_to_come : describes 1 0 false true default_alone ≡ false
  pub behind_a_marker : describes 1 1 true true added_part ≡ true
  pub no_marker : describes 1 1 false true added_part ≡ false
  pub marker_alone : describes 2 0 true true two_parts ≡ true
  pub both_counted : count two_parts ≡ 2
  pub no_other_count : count two_parts ≡ 1 → ⊥
  pub one_alone : begins_alone two_parts 1 (in_universal 1) ≡ true
  pub one_of_two_alike : begins_alone two_alike 1 (in_universal 1) ≡ false

-- INTEGER
abbrev pub whole_number : Shape
whole_number = plain (integer every) 2

-- BOOLEAN
abbrev pub truth : Shape
truth = plain boolean 1

-- Name ::= CHOICE { SEQUENCE OF RelativeDistinguishedName } (RFC 5280, 4.1.2.4)
abbrev pub name : Shape
name = choice (part required (list (in_universal 16) relative_name None) none)

-- SubjectPublicKeyInfo ::= SEQUENCE { AlgorithmIdentifier, BIT STRING } (RFC 5280, 4.1)
abbrev pub public_key : Shape
public_key = seq (in_universal 16) (part required algorithm (part required (plain bit_string 3) none))

-- Extension ::= SEQUENCE { OBJECT IDENTIFIER, BOOLEAN DEFAULT FALSE, OCTET STRING } (RFC 5280, 4.1)
abbrev pub extension : Shape
extension = seq (in_universal 16) (part required (plain object_identifier 6) (part (default (number (pos 0))) truth (part required (plain octet_string 4) none)))

-- TBSCertificate and Certificate (RFC 5280, 4.1)
abbrev pub to_be_signed : Shape
to_be_signed = seq (in_universal 16) (
    part (default (number (pos 0))) (prefix (contextual 0) whole_number) (part required whole_number (part required algorithm (part required name
    (part required validity (part required name (part required public_key (part optional (tagged bit_string 1) (part optional (tagged bit_string 2)
    (part optional (prefix (contextual 3) (list (in_universal 16) extension None)) none)))))))))
    )

abbrev pub certificate : Shape
certificate = seq (in_universal 16) (part required to_be_signed (part required algorithm (part required (plain bit_string 3) none)))

-- SEQUENCE { BOOLEAN OPTIONAL, INTEGER DEFAULT 7, OCTET STRING }
abbrev pub left_out_before : Shape
left_out_before = seq (in_universal 16) (part optional truth (part (default (number (pos 7))) whole_number (part required (plain octet_string 4) none)))

-- SET { BOOLEAN OPTIONAL, CHOICE { UTCTime, GeneralizedTime }, [0] INTEGER DEFAULT 7 }
abbrev pub choice_in_set : Shape
choice_in_set = set (in_universal 17) (part optional truth (part required either_time (part (default (number (pos 7))) (tagged (integer every) 0) none)))

-- SET { CHOICE { BOOLEAN, [0] INTEGER }, INTEGER }: universal 2 lies between the first tags of the CHOICE
abbrev pub overlapping : Shape
overlapping = set (in_universal 17) (part required (choice (part required truth (part required (tagged (integer every) 0) none))) (part required whole_number none))

-- SEQUENCE { BOOLEAN, ..., [[ INTEGER, BOOLEAN ]] }: the group is one optional SEQUENCE
abbrev pub with_group : Shape
with_group = seq (in_universal 16) (part required truth (part optional (seq (in_universal 16) (part required whole_number (part required truth none))) none))

-- SEQUENCE { ..., [0] EXPLICIT INTEGER }
abbrev pub added_alone : Shape
added_alone = seq (in_universal 16) (part addition (prefix (contextual 0) whole_number) none)

-- CHOICE { BOOLEAN, [0] INTEGER }
abbrev pub truth_or_number : Shape
truth_or_number = choice (part required truth (part required (tagged (integer every) 0) none))

-- SET { CHOICE { BOOLEAN, [0] INTEGER }, INTEGER }, as `overlapping`, in the order of the tags
abbrev pub interleaved : Shape
interleaved = sorted_set false (in_universal 17) (part required truth_or_number (part required whole_number none))

-- SEQUENCE { CHOICE { BOOLEAN, [0] INTEGER } OPTIONAL, INTEGER }, where the CHOICE is recognized by its first tags
abbrev pub choice_before : Shape
choice_before = seq (in_universal 16) (part optional_choice truth_or_number (part required whole_number none))

-- SEQUENCE { BOOLEAN, Time DEFAULT .., OCTET STRING OPTIONAL, INTEGER }, with the same Time
abbrev pub default_choice_between : Shape
default_choice_between = seq (in_universal 16) (part required truth (part (default_choice (items [])) either_time
    (part optional (plain octet_string 4) (part required whole_number none))))

-- SEQUENCE { BOOLEAN, [0] INTEGER OPTIONAL, ... }
abbrev pub extensible : Shape
extensible = seq (in_universal 16) (part required truth (part optional (tagged (integer every) 0) (part required unknown none)))

-- CHOICE { BOOLEAN, [0] INTEGER, ... }
abbrev pub known_alternatives : Parts
known_alternatives = part required truth (part required (tagged (integer every) 0) none)

abbrev pub extensible_choice : Shape
extensible_choice = open_choice known_alternatives

-- A default that is no value's tree: the elements of a SET OF have to be a list.
abbrev pub no_value : Shape
no_value = seq (in_universal 16) (part (default (set_elements (number (pos 0)))) (set_of (in_universal 17) whole_number None) none)

pub record LawfulShapes : Type 0 where
  pub certificate : IsLawful certificate
  pub optional_alone : IsLawful perhaps_bool
  pub any_value : IsLawful (any None)
  pub seven : IsLawful seven
  pub seven_of_set : IsLawful seven_of_set
  pub extended : IsLawful extended
  pub added_alone : IsLawful added_alone
  pub mixed : IsLawful mixed
  pub left_out_before : IsLawful left_out_before
  pub choice_in_set : IsLawful choice_in_set
  pub with_group : IsLawful with_group
  pub choice_before : IsLawful choice_before
  pub default_choice_between : IsLawful default_choice_between
  pub choice_unrecognized : IsLawful (seq (in_universal 16) (part optional truth_or_number (part required whole_number none))) → ⊥
  pub choice_before_its_second : IsLawful (seq (in_universal 16) (part optional_choice truth_or_number (part required (tagged (integer every) 0) none))) → ⊥
  pub choice_before_an_optional : IsLawful (seq (in_universal 16) (part optional_choice truth_or_number (part optional truth (part required whole_number none)))) → ⊥
  pub two_choices : IsLawful (seq (in_universal 16) (part optional_choice truth_or_number (part optional_choice truth_or_number none))) → ⊥
  pub choice_before_open : IsLawful (seq (in_universal 16) (part optional_choice truth_or_number (part required (any None) none))) → ⊥
  pub open_recognized : IsLawful (seq (in_universal 16) (part optional_choice (any None) none)) → ⊥
  pub two_optional_integers : IsLawful (seq (in_universal 16) (part optional whole_number (part optional whole_number none))) → ⊥
  pub optional_open : IsLawful (seq (in_universal 16) (part optional (any None) (part required truth none))) → ⊥
  pub optional_within : IsLawful (seq (in_universal 16) (part required perhaps_bool none)) → ⊥
  pub optional_in_prefix : IsLawful (prefix (contextual 0) perhaps_bool) → ⊥
  pub other_looked_for : IsLawful (option (Some (in_universal 2)) truth) → ⊥
  pub one_of_two_integers : IsLawful (choice (part required whole_number (part required whole_number none))) → ⊥
  pub open_alternative : IsLawful (choice (part required whole_number (part required (any None) none))) → ⊥
  pub turned_round : IsLawful turned_round → ⊥
  pub overlapping : IsLawful overlapping → ⊥
  pub open_in_set : IsLawful (set (in_universal 17) (part required (any None) none)) → ⊥
  pub addition_in_set : IsLawful (set (in_universal 17) (part addition (prefix (contextual 0) whole_number) none)) → ⊥
  pub string_as_sequence : IsLawful (plain octet_string 16) → ⊥
  pub value_of_no_tag : IsLawful (plain (integer every) 0) → ⊥
  pub unknown_alternative : IsLawful extensible_choice
  pub two_alike_and_unknown : IsLawful (open_choice two_alike) → ⊥
  pub unknown_alternative_in_choice : IsLawful (choice (part required extensible_choice none)) → ⊥
  pub unknown_alternative_in_set : IsLawful (set (in_universal 17) (part required extensible_choice none)) → ⊥
  pub optional_before_unknown_alternative : IsLawful (seq (in_universal 16) (part optional whole_number (part required extensible_choice none))) → ⊥
  pub put_in_order : IsLawful put_in_order
  pub interleaved : IsLawful interleaved
  pub extensible_set : IsLawful extensible_set
  pub two_alike_in_sorted : IsLawful (sorted_set false (in_universal 17) two_alike) → ⊥
  pub choice_and_its_tag : IsLawful (sorted_set true (in_universal 17) (part required truth_or_number (part required truth none))) → ⊥
  pub open_in_sorted : IsLawful (sorted_set true (in_universal 17) (part required (any None) none)) → ⊥
  pub unknown_in_sorted : IsLawful (sorted_set true (in_universal 17) (part required unknown none)) → ⊥
  pub unknown_alternative_in_sorted : IsLawful (sorted_set true (in_universal 17) (part required extensible_choice none)) → ⊥
  pub addition_in_sorted : IsLawful (sorted_set true (in_universal 17) (part addition (prefix (contextual 0) whole_number) none)) → ⊥
  pub sorted_of_no_tag : IsLawful (sorted_set true (in_universal 0) two_of_set) → ⊥
  pub unknown_at_the_end : IsLawful extensible
  pub unknown_before_a_part : IsLawful (seq (in_universal 16) (part required unknown (part required truth none))) → ⊥
  pub unknown_left_out : IsLawful (seq (in_universal 16) (part required truth (part optional unknown none))) → ⊥
  pub open_before_unknown : IsLawful (seq (in_universal 16) (part optional (any None) (part required unknown none))) → ⊥
  pub unknown_in_set : IsLawful (set (in_universal 17) (part required unknown none)) → ⊥
  pub unknown_elements : IsLawful (list (in_universal 16) unknown None) → ⊥
  pub unknown_alone : IsLawful unknown → ⊥

-- Shapes that pass the test `carries_all`, and shapes that don't; a default that is the same as itself, and one that
-- isn't; a value that DER reads and that isn't carried.
pub record CarriedShapes : Type 0 where
  pub whole_certificate : carries_all certificate ≡ true
  pub default_alone : carries_all seven ≡ true
  pub addition_behind_a_part : carries_all extended ≡ true
  pub unknown_values : carries_all extensible ≡ true
  pub unknown_alternative : carries_all extensible_choice ≡ true
  pub unknown_components : carries_all extensible_set ≡ true
  pub tagged_open : carries_all (any (Some (contextual 1))) ≡ false
  pub addition_alone : carries_all added_alone ≡ false
  pub default_of_no_value : carries_all no_value ≡ false
  pub own_default : HasOwnDefaults seven
  pub no_own_default : HasOwnDefaults no_value → ⊥
  pub addition_left_out : Reads Der added_alone 128 false (48 ∷ 0 ∷ []) (items (absent ∷ [])) []
  pub left_out_not_carried : Carried Der added_alone (items (absent ∷ [])) → ⊥
