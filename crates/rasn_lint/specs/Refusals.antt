-- The errors of what departs where no type is known: those that the reader of DER has.
use Rattle.std.specs.Prelude.{◌≡◌, ℕ, ℤ, List, Bool, true, false, nat_lt, if◌then◌else◌, length, slice_get, ◌-◌, Option, Some, None, Result, Ok, Err}
use Rattle.rasn_types.specs.declared.types.codec.Codec.TheVariants.{Der}
use Rattle.rasn_types.specs.declared.types.tag.Tag.{Tag}
use Rattle.rasn_types.specs.declared.error.decode.DecodeError.{DecodeError}
use Rattle.rasn_types.specs.declared.error.decode.DecodeErrorKind.{DecodeErrorKind}
use Rattle.rasn_types.specs.declared.error.decode.DecodeErrorKind.TheVariants.{CodecSpecific}
use Rattle.rasn_types.specs.declared.error.decode.CodecDecodeError.{CodecDecodeError}
use Rattle.rasn_types.specs.declared.error.decode.CodecDecodeError.TheVariants.{Ber as OfBer, Der as OfDer}
use Rattle.rasn_types.specs.declared.error.decode.BerDecodeErrorKind.{BerDecodeErrorKind}
use Rattle.rasn_types.specs.declared.error.decode.BerDecodeErrorKind.TheVariants.{IndefiniteLengthNotAllowed}
use Rattle.rasn_types.specs.declared.error.decode.DerDecodeErrorKind.{DerDecodeErrorKind}
use Rattle.rasn_types.specs.declared.error.decode.DerDecodeErrorKind.TheVariants.{ConstructedEncodingNotAllowed, NonMinimalTagNumber, ConstructedBitMismatch, NonMinimalLength, NonMinimalInteger, NonMinimalArc, NonzeroUnusedBits, DefaultValuePresent, SetComponentsOutOfOrder, SetOfOutOfOrder}
use Rattle.rasn_types.specs.Errors.{IsOutOfMemory}
use Rattle.rasn_types.specs.Bytes.{Bytes}
use Rattle.rasn_types.specs.CharacterString.{units_of}
use Rattle.rasn_types.specs.Calendar.{Moment, Stamp, Day}
use Rattle.rasn_types.specs.Grammar.{UtcText, GeneralizedText}
use Rattle.rasn_types.specs.Shapes.{leaf, numbers, octet_string, every}
use Rattle.rasn_types.specs.Time.{DateText}
use Rattle.rasn_types.specs.Trees.{unconstrained}
use Rattle.rasn_de.specs.declared.ber.de.parser.ParseError.{ParseError}
use Rattle.rasn_de.specs.declared.ber.de.parser.ParseError.TheVariants.{Incomplete, InvalidConstructedIdentifier, Der as DerFault}
use Rattle.rasn_de.specs.Any.{SkipsValue}
use Rattle.rasn_de.specs.BitString.{DecodesCowBits}
use Rattle.rasn_de.specs.Causes.{error_kind}
use Rattle.rasn_de.specs.CharacterString.{ByUnits, DecodesString, DecodesRestricted, DecodesText}
use Rattle.rasn_de.specs.Enumerated.{NullAt}
use Rattle.rasn_de.specs.Leaves.{BoolAt, FailsAs, DecodesNumber}
use Rattle.rasn_de.specs.State.{State}
use Rattle.rasn_de.specs.Time.{AtAnyOffset, DecodesTime}
use Rattle.rasn_lint.specs.declared.departure.Aspect.{Aspect}
use Rattle.rasn_lint.specs.declared.departure.Aspect.TheVariants.{Header, Contents, Place}
use Rattle.rasn_lint.specs.declared.der.universal.ContentsRule.{ContentsRule}
use Rattle.rasn_lint.specs.declared.der.universal.ContentsRule.TheVariants.{Boolean, Integer, BitString, Null, Subidentifiers, Utf8, Characters, Units, UtcTime, GeneralizedTime, Date}
use Rattle.rasn_lint.specs.Encoding.{start}
use Rattle.rasn_lint.specs.Place.{der_error}

-- what of an encoding an error is about
abbrev pub der_aspect_of : DerDecodeErrorKind → Aspect
der_aspect_of ConstructedEncodingNotAllowed = Header
der_aspect_of NonMinimalTagNumber = Header
der_aspect_of ConstructedBitMismatch = Header
der_aspect_of NonMinimalLength = Header
der_aspect_of NonMinimalInteger = Contents
der_aspect_of NonMinimalArc = Contents
der_aspect_of NonzeroUnusedBits = Contents
der_aspect_of DefaultValuePresent = Place
der_aspect_of SetComponentsOutOfOrder = Place
der_aspect_of SetOfOutOfOrder = Place

abbrev pub ber_aspect_of : BerDecodeErrorKind → Aspect
ber_aspect_of IndefiniteLengthNotAllowed = Header
ber_aspect_of kind = Contents

abbrev pub codec_aspect_of : CodecDecodeError → Aspect
codec_aspect_of (OfBer kind) = ber_aspect_of kind
codec_aspect_of (OfDer kind) = der_aspect_of kind

abbrev pub aspect_of : DecodeErrorKind → Aspect
aspect_of (CodecSpecific inner) = codec_aspect_of inner
aspect_of kind = Contents

-- The error of a call, unless memory ran out for it.
abbrev pub IsFaultOf : {T : Type 0} → Result T DecodeError → Option DecodeError → Type 0
IsFaultOf (Ok v) f = f ≡ None
IsFaultOf (Err e) f = (f ≡ Some e) × (IsOutOfMemory e.kind → ⊥)

-- The error with which DER skips the encoding that the octets begin with; where it skips one, that of a constructed bit.
abbrev pub IsSkipError : Result ℕ DecodeError → DecodeError → Type 0
IsSkipError (Ok steps) e = e ≡ der_error ConstructedBitMismatch
IsSkipError (Err f) e = e ≡ f

abbrev pub IsUnreadable : List ℕ → DecodeError → Type 0
IsUnreadable octets e = (r : Result ℕ DecodeError) × (new : State) × SkipsValue (start octets) r new × IsSkipError r e

-- the error of an encoding in a form that no encoding that follows the rule has
abbrev pub constructed_kind : ContentsRule → DerDecodeErrorKind
constructed_kind Boolean = ConstructedBitMismatch
constructed_kind Integer = ConstructedBitMismatch
constructed_kind Null = ConstructedBitMismatch
constructed_kind Subidentifiers = ConstructedBitMismatch
constructed_kind rule = ConstructedEncodingNotAllowed

abbrev pub no_primitive : DecodeError
no_primitive = record { kind = error_kind InvalidConstructedIdentifier; codec = Der }

abbrev pub form_error : ContentsRule → Bool → DecodeError
form_error rule true = der_error (constructed_kind rule)
form_error rule false = no_primitive

-- the error of octets that aren't subidentifiers: the last one is cut off, or some one is padded
abbrev pub is_low : Option ℕ → Bool
is_low None = false
is_low (Some b) = nat_lt b 128

abbrev pub last_of : List ℕ → Option ℕ
last_of l = slice_get l (length l - 1)

abbrev pub arcs_fault : List ℕ → ParseError
arcs_fault l = if is_low (last_of l) then DerFault NonMinimalArc else Incomplete 1

abbrev pub arcs_error : List ℕ → DecodeError
arcs_error l = record { kind = error_kind (arcs_fault l); codec = Der }

-- The error with which the reader refuses a value of the universal type with this tag that follows the rule.
abbrev pub RefusesAs : ContentsRule → Tag → State → DecodeError → State → Type 0
RefusesAs Boolean tag old e new = FailsAs (BoolAt old.rule tag old.rest) old e new
RefusesAs Integer tag old e new = DecodesNumber {X = ℤ} (λ z. z) (λ z. ⊥) 0 every tag unconstrained old (Err e) new
RefusesAs BitString tag old e new = DecodesCowBits tag unconstrained old (Err e) new
RefusesAs Null tag old e new = FailsAs (NullAt old.rule tag old.rest) old e new
RefusesAs Utf8 tag old e new = DecodesText tag unconstrained old (Err e) new
RefusesAs (Characters alphabet) tag old e new = DecodesRestricted alphabet tag unconstrained old (Err e) new
RefusesAs Units tag old e new = DecodesString {X = List ℕ} units_of (ByUnits None) tag old (Err e) new
RefusesAs UtcTime tag old e new = DecodesTime {X = Moment} (AtAnyOffset (UtcText old.rule)) tag old (Err e) new
RefusesAs GeneralizedTime tag old e new = DecodesTime {X = Stamp} (GeneralizedText old.rule) tag old (Err e) new
RefusesAs Date tag old e new = DecodesTime {X = Day} DateText tag old (Err e) new
RefusesAs rule tag old e new = ⊥

-- The same of these contents octets after a header of DER.
abbrev pub IsReadError : ContentsRule → Tag → List ℕ → DecodeError → Type 0
IsReadError Subidentifiers tag contents e = e ≡ arcs_error contents
IsReadError rule tag contents e = (octets : List ℕ) × (new : State) × Bytes Der (leaf octet_string tag unconstrained) (numbers contents) octets × RefusesAs rule tag (start octets) e new

-- The same of contents in either form: in a SET they aren't in order.
abbrev pub IsContentsError : ContentsRule → Tag → Bool → List ℕ → DecodeError → Type 0
IsContentsError rule tag true contents e = e ≡ der_error SetOfOutOfOrder
IsContentsError rule tag false contents e = IsReadError rule tag contents e
