-- Octets worked out by hand that are refused where values contain others, with the error of each and what remains.
use Rattle.std.specs.Prelude.{◌≡◌, ℕ, List, [], ◌∷◌, Bool, false, IfOk}
use Rattle.rasn_types.specs.Tags.{in_universal}
use Rattle.rasn_types.specs.declared.types.codec.Codec.TheVariants.{Der}
use Rattle.rasn_types.specs.declared.types.tag.Class.TheVariants.{Context}
use Rattle.rasn_types.specs.declared.types.tag.Tag.{Tag}
use Rattle.rasn_types.specs.declared.error.decode.DecodeErrorKind.{DecodeErrorKind}
use Rattle.rasn_types.specs.declared.error.decode.DecodeErrorKind.TheVariants.{CodecSpecific, Incomplete, InvalidBool, MismatchedLength}
use Rattle.rasn_types.specs.declared.error.decode.BerDecodeErrorKind.TheVariants.{MismatchedTag}
use Rattle.rasn_types.specs.declared.error.decode.CodecDecodeError.TheVariants as codec
use Rattle.rasn_types.specs.declared.error.decode.DerDecodeErrorKind.TheVariants.{SetOfOutOfOrder, SetComponentsOutOfOrder, DefaultValuePresent}
use Rattle.rasn_types.specs.Errors.{needed_of}
use Rattle.rasn_types.specs.Shapes.{Tree, Shape, leaf, boolean, null, Parts, part, required}
use Rattle.rasn_types.specs.Shapes.Parts.{none}
use Rattle.rasn_types.specs.Trees.{unconstrained, bool_tree}
use Rattle.rasn_de.specs.Causes.{in_ber}
use Rattle.rasn_de.specs.NamedErrors.{IsNoValidChoice, IsMissingField, IsDuplicateField}
use Rattle.rasn_de.specs.ValueErrors.{Errors, errors_of, DecodesOr, IsErrorOfAlternative}
use Rattle.rasn_de.specs.SequenceOf.{DecodesSequenceOfBy, DecodesSetOfBy}
use Rattle.rasn_de.specs.Prefix.{DecodesPrefixBy}
use Rattle.rasn_de.specs.Optional.{DecodesIfPresent, DecodesOrDefault}
use Rattle.rasn_de.specs.PartTypes.{IsErrorOfParts, DecodesSequenceParts}
use Rattle.rasn_de.specs.SetPartTypes.{DecodesNamedParts}
use Rattle.rasn.specs.OneRefusal.{ErrorsOfChoice}
use Rattle.rasn.specs.WorkedKinds.{IsRefusedWith, IsNotRefused, bool_errors, null_errors}

abbrev pub a_boolean : Shape
a_boolean = leaf boolean (in_universal 1) unconstrained

-- A BOOLEAN and a NULL, as the parts of a SEQUENCE.
abbrev pub two : Parts
two = part required a_boolean (part required (leaf null (in_universal 5) unconstrained) none)

abbrev pub two_errors : Errors
two_errors = IsErrorOfParts required a_boolean bool_errors (IsErrorOfParts required (leaf null (in_universal 5) unconstrained) null_errors (λ _ _ _. ⊥))

abbrev pub sequence_errors : Errors
sequence_errors = errors_of (DecodesSequenceParts two (λ (t : Tree). t) two_errors (in_universal 16))

-- [0] EXPLICIT BOOLEAN.
abbrev pub prefix_errors : Errors
prefix_errors = errors_of (DecodesPrefixBy a_boolean bool_tree bool_errors (record { class = Context; value = 0 }))

-- BOOLEAN OPTIONAL, and BOOLEAN DEFAULT FALSE.
abbrev pub optional_errors : Errors
optional_errors = errors_of (DecodesIfPresent (DecodesOr a_boolean bool_tree bool_errors) (in_universal 1))

abbrev pub default_errors : Errors
default_errors = errors_of (DecodesOrDefault (DecodesOr a_boolean bool_tree bool_errors) bool_tree (λ made. IfOk made (λ (b : Bool). bool_tree b ≡ bool_tree false)) (in_universal 1))

-- A SEQUENCE OF and a SET OF BOOLEANs.
abbrev pub list_errors : Errors
list_errors = errors_of (DecodesSequenceOfBy (DecodesOr a_boolean bool_tree bool_errors) (in_universal 16) unconstrained)

abbrev pub set_of_errors : Errors
set_of_errors = errors_of (DecodesSetOfBy (DecodesOr a_boolean bool_tree bool_errors) (in_universal 17) unconstrained)

-- The same as the components of a SET S, whose names are a and b, and as the alternatives of a CHOICE C.
abbrev pub errors_by_tag : Tag → Errors
errors_by_tag = IsErrorOfAlternative (in_universal 1) bool_errors (IsErrorOfAlternative (in_universal 5) null_errors (λ _ _ _ _. Unit {0}))

abbrev pub set_errors : Errors
set_errors = errors_of (DecodesNamedParts false two (λ (t : Tree). t) (83 ∷ []) ((97 ∷ []) ∷ (98 ∷ []) ∷ []) errors_by_tag (in_universal 17))

abbrev pub choice_errors : Errors
choice_errors = ErrorsOfChoice false two (λ (t : Tree). t) (67 ∷ []) errors_by_tag

-- The input is refused with an error that has this name, and this remains.
abbrev pub IsRefusedByName : Errors → (List ℕ → DecodeErrorKind → Type 0) → List ℕ → List ℕ → List ℕ → Type 0
IsRefusedByName errors Names name input left = (kind : DecodeErrorKind) × Names name kind × IsRefusedWith errors Der input kind left

-- 8.9, 8.14: the error of a part consumes the whole value.
pub record WorkedWholes : Type 0 where
  pub missing_part : IsRefusedWith sequence_errors Der (48 ∷ 3 ∷ 1 ∷ 1 ∷ 255 ∷ 9 ∷ []) (Incomplete (needed_of 1)) (9 ∷ [])
  pub second_part : IsRefusedWith sequence_errors Der (48 ∷ 6 ∷ 1 ∷ 1 ∷ 255 ∷ 5 ∷ 1 ∷ 0 ∷ []) (MismatchedLength 0 1) []
  pub inside_a_tag : IsRefusedWith prefix_errors Der (160 ∷ 3 ∷ 1 ∷ 1 ∷ 5 ∷ 9 ∷ []) (InvalidBool 5) (9 ∷ [])
  -- 8.10: so does that of an element. 11.6: TRUE before FALSE is out of order.
  pub inside_a_list : IsRefusedWith list_errors Der (48 ∷ 3 ∷ 1 ∷ 1 ∷ 5 ∷ 9 ∷ []) (InvalidBool 5) (9 ∷ [])
  pub out_of_order : IsRefusedWith set_of_errors Der (49 ∷ 6 ∷ 1 ∷ 1 ∷ 255 ∷ 1 ∷ 1 ∷ 0 ∷ 9 ∷ []) (CodecSpecific (codec.Der SetOfOutOfOrder)) (9 ∷ [])
  -- 8.9: the BOOLEAN is missing, or nothing is.
  pub first_part_missing : IsRefusedWith sequence_errors Der (48 ∷ 2 ∷ 5 ∷ 0 ∷ 9 ∷ []) (in_ber (MismatchedTag (in_universal 1) (in_universal 5))) (9 ∷ [])
  pub parts_read : IsNotRefused sequence_errors Der (48 ∷ 5 ∷ 1 ∷ 1 ∷ 255 ∷ 5 ∷ 0 ∷ 9 ∷ [])
  -- 8.11: b is missing, a is there twice, or each is there once. 10.3: b before a is out of order.
  pub component_missing : IsRefusedByName set_errors IsMissingField (98 ∷ []) (49 ∷ 3 ∷ 1 ∷ 1 ∷ 255 ∷ 9 ∷ []) (9 ∷ [])
  pub component_twice : IsRefusedByName set_errors IsDuplicateField (97 ∷ []) (49 ∷ 8 ∷ 1 ∷ 1 ∷ 255 ∷ 1 ∷ 1 ∷ 0 ∷ 5 ∷ 0 ∷ 9 ∷ []) (9 ∷ [])
  pub components_fall : IsRefusedWith set_errors Der (49 ∷ 5 ∷ 5 ∷ 0 ∷ 1 ∷ 1 ∷ 255 ∷ 9 ∷ []) (CodecSpecific (codec.Der SetComponentsOutOfOrder)) (9 ∷ [])
  pub components_read : IsNotRefused set_errors Der (49 ∷ 5 ∷ 1 ∷ 1 ∷ 255 ∷ 5 ∷ 0 ∷ 9 ∷ [])
  -- 8.13: an INTEGER is no alternative, and nothing of it is consumed; a BOOLEAN that is refused is; a NULL is read.
  pub no_alternative : IsRefusedByName choice_errors IsNoValidChoice (67 ∷ []) (2 ∷ 1 ∷ 5 ∷ 9 ∷ []) (2 ∷ 1 ∷ 5 ∷ 9 ∷ [])
  pub alternative_refused : IsRefusedWith choice_errors Der (1 ∷ 1 ∷ 5 ∷ 9 ∷ []) (InvalidBool 5) (9 ∷ [])
  pub alternative_read : IsNotRefused choice_errors Der (5 ∷ 0 ∷ 9 ∷ [])
  -- 8.1.2.4: an identifier that isn't complete doesn't tell whether a value is left out. 11.5: a default isn't encoded.
  pub identifier_cut : IsRefusedWith optional_errors Der (31 ∷ []) (Incomplete (needed_of 1)) (31 ∷ [])
  pub default_encoded : IsRefusedWith default_errors Der (1 ∷ 1 ∷ 0 ∷ 9 ∷ []) (CodecSpecific (codec.Der DefaultValuePresent)) (9 ∷ [])
