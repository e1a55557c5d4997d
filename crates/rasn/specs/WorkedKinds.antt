-- Octets worked out by hand that are refused, with the error of each and what remains.
use Rattle.std.specs.Prelude.{ℕ, pos, List, [], ◌∷◌, ◌++◌, false, Some, None}
use Rattle.rasn_types.specs.Tags.{in_universal, eoc}
use Rattle.rasn_types.specs.declared.types.codec.Codec.{Codec}
use Rattle.rasn_types.specs.declared.types.codec.Codec.TheVariants.{Ber, Der}
use Rattle.rasn_types.specs.declared.error.decode.DecodeError.{DecodeError}
use Rattle.rasn_types.specs.declared.error.decode.DecodeErrorKind.{DecodeErrorKind}
use Rattle.rasn_types.specs.declared.error.decode.DecodeErrorKind.TheVariants.{CodecSpecific, Incomplete, UnexpectedEmptyInput, MismatchedLength, InvalidBool, InvalidBitString, SizeConstraintNotSatisfied, IntegerOverflow, DiscriminantValueNotFound, StringConversionFailed, TrailingZeroBits, PermittedAlphabetError}
use Rattle.rasn_types.specs.declared.error.decode.CodecDecodeError.TheVariants as codec
use Rattle.rasn_types.specs.declared.error.decode.DerDecodeErrorKind.TheVariants.{NonMinimalInteger, NonMinimalArc}
use Rattle.rasn_types.specs.declared.types.constraints.Bounded.TheVariants.{Single}
use Rattle.rasn_types.specs.Errors.{needed_of}
use Rattle.rasn_types.specs.Trees.{unconstrained, signed_range}
use Rattle.rasn_types.specs.Inline.{IsLong}
use Rattle.rasn_types.specs.Shapes.{every}
use Rattle.rasn_types.specs.Time.{DateText}
use Rattle.rasn_types.specs.Grammar.{UtcText, GeneralizedText}
use Rattle.rasn_de.specs.State.{State, at}
use Rattle.rasn_de.specs.Leaves.{BoolAt, FailsAs}
use Rattle.rasn_de.specs.Enumerated.{EnumeratedAt, NullAt}
use Rattle.rasn_de.specs.ObjectIdentifier.{DecodesObjectIdentifier}
use Rattle.rasn_de.specs.BitString.{DecodesBitString}
use Rattle.rasn_de.specs.NamedBits.{DecodesNamedBits}
use Rattle.rasn_de.specs.CharacterString.{ByLength, ByAlphabet, BySize, ByUtf8, ByUnits, DecodesString}
use Rattle.rasn_de.specs.Any.{DecodesOpenType}
use Rattle.rasn_de.specs.Unknown.{DecodesUnknown}
use Rattle.rasn_de.specs.Time.{AtAnyOffset, DecodesTime}
use Rattle.rasn_de.specs.ValueErrors.{Errors, errors_of, integer_errors}
use Rattle.rasn.specs.Headline.{front}
use Rattle.rasn.specs.OneRefusal.{Refuses, ReportsBound, ReportsText}
use Rattle.rasn_types.specs.declared.types.constraints.Constraints.{Constraints}
use Rattle.rasn_types.specs.declared.types.strings.alphabet.Alphabet.TheVariants.{Visible}

-- The input is refused with an error of this kind, and this remains.
abbrev pub IsRefusedWith : Errors → Codec → List ℕ → DecodeErrorKind → List ℕ → Type 0
IsRefusedWith errors rule input kind left = Refuses errors (front rule input) (record { kind = kind; codec = rule }) (at (front rule input) left)

-- The input isn't refused.
abbrev pub IsNotRefused : Errors → Codec → List ℕ → Type 0
IsNotRefused errors rule input = (e : DecodeError) (new : State) → Refuses errors (front rule input) e new → ⊥

abbrev pub null_errors : Errors
null_errors old = FailsAs (NullAt old.rule (in_universal 5) old.rest) old

abbrev pub bool_errors : Errors
bool_errors old = FailsAs (BoolAt old.rule (in_universal 1) old.rest) old

-- ENUMERATED { off(0), on(1) }.
abbrev pub switch_errors : Errors
switch_errors old = FailsAs (EnumeratedAt (pos 0 ∷ pos 1 ∷ []) old.rule (in_universal 10) old.rest) old

-- An INTEGER of 8 bits, an OBJECT IDENTIFIER, a BIT STRING, and four octets.
abbrev pub small_errors : Errors
small_errors = integer_errors (λ z. ⊥) 8 (signed_range 8) (in_universal 2) unconstrained

abbrev pub object_errors : Errors
object_errors = errors_of (DecodesObjectIdentifier (in_universal 6))

abbrev pub bits_errors : Errors
bits_errors = errors_of (DecodesBitString (in_universal 3) unconstrained)

abbrev pub four_errors : Errors
four_errors = errors_of (DecodesString (λ (l : List ℕ). l) (ByLength 4 unconstrained.size) (in_universal 4))

-- INTEGER (5), and a VisibleString.
abbrev pub five : Constraints
five = record { value = Some (record { constraint = Single (pos 5); extensible = false }); size = None }

abbrev pub five_errors : Errors
five_errors = integer_errors (λ z. ⊥) 8 (signed_range 8) (in_universal 2) five

abbrev pub text_errors : Errors
text_errors = errors_of (DecodesString (λ (l : List ℕ). l) (ByAlphabet Visible unconstrained.size) (in_universal 26))

-- An INTEGER of any size, a BIT STRING whose bits have names, an OCTET STRING of two octets, a UTF8String and a
-- BMPString.
abbrev pub long_errors : Errors
long_errors = integer_errors IsLong 0 every (in_universal 2) unconstrained

abbrev pub named_errors : Errors
named_errors = errors_of (DecodesNamedBits (in_universal 3) unconstrained)

abbrev pub pair : Constraints
pair = record { value = None; size = Some (record { constraint = Single 2; extensible = false }) }

abbrev pub pair_errors : Errors
pair_errors = errors_of (DecodesString (λ (l : List ℕ). l) (BySize pair.size) (in_universal 4))

abbrev pub utf8_errors : Errors
utf8_errors = errors_of (DecodesString (λ (l : List ℕ). l) (ByUtf8 unconstrained.size) (in_universal 12))

abbrev pub unit_errors : Errors
unit_errors = errors_of (DecodesString (λ (l : List ℕ). l) (ByUnits unconstrained.size) (in_universal 30))

-- An open type, and values up to the end that a type doesn't name.
abbrev pub open_errors : Errors
open_errors = errors_of (DecodesOpenType eoc)

abbrev pub unknown_errors : Errors
unknown_errors = errors_of DecodesUnknown

-- A UTCTime, a GeneralizedTime and a DATE.
abbrev pub utc_errors : Errors
utc_errors old = errors_of (DecodesTime (AtAnyOffset (UtcText old.rule)) (in_universal 23)) old

abbrev pub generalized_errors : Errors
generalized_errors old = errors_of (DecodesTime (GeneralizedText old.rule) (in_universal 24)) old

abbrev pub date_errors : Errors
date_errors = errors_of (DecodesTime DateText (in_universal 31))

-- 990230120000Z, 9902031200Z, 20200102120000 and 2020-01-02: the 30th of February, a time without seconds, one of no zone,
-- and a day with hyphens.
abbrev pub no_day : List ℕ
no_day = 57 ∷ 57 ∷ 48 ∷ 50 ∷ 51 ∷ 48 ∷ 49 ∷ 50 ∷ 48 ∷ 48 ∷ 48 ∷ 48 ∷ 90 ∷ []

abbrev pub no_seconds : List ℕ
no_seconds = 57 ∷ 57 ∷ 48 ∷ 50 ∷ 48 ∷ 51 ∷ 49 ∷ 50 ∷ 48 ∷ 48 ∷ 90 ∷ []

abbrev pub no_zone : List ℕ
no_zone = 50 ∷ 48 ∷ 50 ∷ 48 ∷ 48 ∷ 49 ∷ 48 ∷ 50 ∷ 49 ∷ 50 ∷ 48 ∷ 48 ∷ 48 ∷ 48 ∷ []

abbrev pub hyphens : List ℕ
hyphens = 50 ∷ 48 ∷ 50 ∷ 48 ∷ 45 ∷ 48 ∷ 49 ∷ 45 ∷ 48 ∷ 50 ∷ []

-- The input is refused with an error that reports this text, and this remains.
abbrev pub IsRefusedAsText : Errors → Codec → List ℕ → List ℕ → List ℕ → Type 0
IsRefusedAsText errors rule input text left = (kind : DecodeErrorKind) × ReportsText text kind × IsRefusedWith errors rule input kind left

-- 8.8.2, 8.3.1, 8.3.2, 8.19.2, 8.6.2.2, 8.7: a value whose contents are refused is consumed, unless it is a string
-- of which a segment is refused.
pub record WorkedKinds : Type 0 where
  pub null_of_an_octet : IsRefusedWith null_errors Der (5 ∷ 1 ∷ 0 ∷ 9 ∷ []) (MismatchedLength 0 1) (9 ∷ [])
  pub null_read : IsNotRefused null_errors Der (5 ∷ 0 ∷ 9 ∷ [])
  pub number_of_no_octets : IsRefusedWith small_errors Ber (2 ∷ 0 ∷ 9 ∷ []) UnexpectedEmptyInput (9 ∷ [])
  pub superfluous_octet : IsRefusedWith small_errors Der (2 ∷ 2 ∷ 0 ∷ 1 ∷ []) (CodecSpecific (codec.Der NonMinimalInteger)) []
  pub no_subidentifier : IsRefusedWith object_errors Ber (6 ∷ 0 ∷ []) (Incomplete (needed_of 1)) []
  pub padded_subidentifier : IsRefusedWith object_errors Der (6 ∷ 2 ∷ 128 ∷ 1 ∷ []) (CodecSpecific (codec.Der NonMinimalArc)) []
  pub no_unused_count : IsRefusedWith bits_errors Der (3 ∷ 0 ∷ []) UnexpectedEmptyInput (3 ∷ 0 ∷ [])
  pub eight_unused_bits : IsRefusedWith bits_errors Der (3 ∷ 2 ∷ 8 ∷ 0 ∷ []) (InvalidBitString 8) (3 ∷ 2 ∷ 8 ∷ 0 ∷ [])
  pub one_of_four_octets : IsRefusedWith four_errors Der (4 ∷ 1 ∷ 7 ∷ 9 ∷ []) (SizeConstraintNotSatisfied (Some 1) (Single 4)) (9 ∷ [])
  -- 256 doesn't fit in 8 bits, and 127 does; 6 isn't 5; and a line feed isn't in a VisibleString (X.680 41).
  pub number_out_of_width : IsRefusedWith small_errors Der (2 ∷ 2 ∷ 1 ∷ 0 ∷ 9 ∷ []) (IntegerOverflow 8) (9 ∷ [])
  pub number_in_width : IsNotRefused small_errors Der (2 ∷ 1 ∷ 127 ∷ [])
  pub number_out_of_bound : (kind : DecodeErrorKind) × ReportsBound (pos 6) (Single (pos 5)) kind × IsRefusedWith five_errors Der (2 ∷ 1 ∷ 6 ∷ 9 ∷ []) kind (9 ∷ [])
  pub foreign_character : IsRefusedWith text_errors Der (26 ∷ 2 ∷ 65 ∷ 10 ∷ 9 ∷ []) (PermittedAlphabetError 10 1) (9 ∷ [])
  pub characters_read : IsNotRefused text_errors Der (26 ∷ 1 ∷ 65 ∷ 9 ∷ [])
  -- 8.2.1: a BOOLEAN has one octet. 11.1: it is 00 or FF, but under 8.2.2 any other is TRUE.
  pub boolean_of_two_octets : IsRefusedWith bool_errors Ber (1 ∷ 2 ∷ 0 ∷ 0 ∷ 9 ∷ []) (MismatchedLength 1 2) (9 ∷ [])
  pub neither_true_nor_false : IsRefusedWith bool_errors Der (1 ∷ 1 ∷ 5 ∷ 9 ∷ []) (InvalidBool 5) (9 ∷ [])
  pub true_by_any_octet : IsNotRefused bool_errors Ber (1 ∷ 1 ∷ 5 ∷ 9 ∷ [])
  -- 8.4: 2 has no name, and 1 has one.
  pub number_without_name : IsRefusedWith switch_errors Der (10 ∷ 1 ∷ 2 ∷ 9 ∷ []) (DiscriminantValueNotFound (pos 2)) (9 ∷ [])
  pub number_with_name : IsNotRefused switch_errors Der (10 ∷ 1 ∷ 1 ∷ 9 ∷ [])
  -- 8.25, 11.8.2, 11.7.1: each month has its days; the canonical forms have seconds, and end with Z.
  pub day_not_in_month : IsRefusedAsText utc_errors Ber (23 ∷ 13 ∷ no_day ++ 9 ∷ []) no_day (9 ∷ [])
  pub seconds_left_out : IsRefusedAsText utc_errors Der (23 ∷ 11 ∷ no_seconds ++ 9 ∷ []) no_seconds (9 ∷ [])
  pub seconds_not_needed : IsNotRefused utc_errors Ber (23 ∷ 11 ∷ no_seconds ++ 9 ∷ [])
  pub zone_left_out : IsRefusedAsText generalized_errors Der (24 ∷ 14 ∷ no_zone ++ 9 ∷ []) no_zone (9 ∷ [])
  pub zone_not_needed : IsNotRefused generalized_errors Ber (24 ∷ 14 ∷ no_zone ++ 9 ∷ [])
  -- 8.26.1: a DATE has no hyphens.
  pub hyphens_kept : IsRefusedAsText date_errors Der (31 ∷ 31 ∷ 10 ∷ hyphens ++ 9 ∷ []) hyphens (9 ∷ [])
  -- 8.3.1: an INTEGER of any size has octets, too. 11.2.2: trailing 0 bits of named bits aren't encoded, but 8.6 reads them.
  pub long_number_of_no_octets : IsRefusedWith long_errors Ber (2 ∷ 0 ∷ 9 ∷ []) UnexpectedEmptyInput (9 ∷ [])
  pub zeros_after_named_bits : IsRefusedWith named_errors Der (3 ∷ 2 ∷ 6 ∷ 128 ∷ 9 ∷ []) TrailingZeroBits (9 ∷ [])
  pub zeros_in_ber : IsNotRefused named_errors Ber (3 ∷ 2 ∷ 6 ∷ 128 ∷ 9 ∷ [])
  -- 8.7, 8.23: one octet isn't two; FF isn't UTF-8; and one octet isn't a 16-bit unit.
  pub one_of_two_octets : IsRefusedWith pair_errors Der (4 ∷ 1 ∷ 7 ∷ 9 ∷ []) (SizeConstraintNotSatisfied (Some 1) (Single 2)) (9 ∷ [])
  pub no_character : IsRefusedWith utf8_errors Der (12 ∷ 1 ∷ 255 ∷ 9 ∷ []) (StringConversionFailed (in_universal 12)) (9 ∷ [])
  pub half_a_unit : IsRefusedWith unit_errors Der (30 ∷ 1 ∷ 65 ∷ 9 ∷ []) (StringConversionFailed (in_universal 30)) (9 ∷ [])
  -- 8.1.3: a value without a length consumes nothing, and those before it are consumed.
  pub open_type_cut : IsRefusedWith open_errors Ber (5 ∷ []) (Incomplete (needed_of 1)) (5 ∷ [])
  pub second_unknown_cut : IsRefusedWith unknown_errors Ber (5 ∷ 0 ∷ 5 ∷ []) (Incomplete (needed_of 1)) (5 ∷ [])
  pub open_type_read : IsNotRefused open_errors Ber (5 ∷ 0 ∷ 9 ∷ [])
