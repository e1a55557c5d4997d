-- Places and departures as text.
use Rattle.std.specs.Prelude.{ℕ, List, [], ◌++◌, true, Option, Some, None, Vec, codes}
use Rattle.std.specs.Global.{Global}
use Rattle.std.specs.Fmt.{◌++?◌}
use Rattle.rasn_types.specs.declared.error.decode.DecodeErrorKind.{DecodeErrorKind}
use Rattle.rasn_types.specs.declared.error.decode.DecodeErrorKind.TheVariants.{CodecSpecific, InvalidBool, TrailingZeroBits, InvalidBitString}
use Rattle.rasn_types.specs.declared.error.decode.CodecDecodeError.{CodecDecodeError}
use Rattle.rasn_types.specs.declared.error.decode.CodecDecodeError.TheVariants.{Ber, Der}
use Rattle.rasn_types.specs.declared.error.decode.BerDecodeErrorKind.{BerDecodeErrorKind}
use Rattle.rasn_types.specs.declared.error.decode.BerDecodeErrorKind.TheVariants.{IndefiniteLengthNotAllowed, InvalidDate}
use Rattle.rasn_types.specs.declared.error.decode.DerDecodeErrorKind.{DerDecodeErrorKind}
use Rattle.rasn_types.specs.declared.error.decode.DerDecodeErrorKind.TheVariants.{ConstructedEncodingNotAllowed, NonMinimalTagNumber, ConstructedBitMismatch, NonMinimalLength, NonMinimalInteger, NonMinimalArc, NonzeroUnusedBits, DefaultValuePresent, SetComponentsOutOfOrder, SetOfOutOfOrder}
use Rattle.rasn_dynamic.specs.Shown.{shown_refusal, shown_way, way_text}
use Rattle.rasn_lint.specs.declared.departure.Aspect.{Aspect}
use Rattle.rasn_lint.specs.declared.departure.Aspect.TheVariants.{Header, Contents, Place}
use Rattle.rasn_lint.specs.declared.departure.Departure.{Departure}
use Rattle.rasn_lint.specs.declared.departure.NamedPlace.{NamedPlace}
use Rattle.rasn_lint.specs.declared.departure.NamedDeparture.{NamedDeparture}

-- the index of each encoding on the way inside an open type
abbrev pub indices_of : Option (Vec ℕ Global) → List ℕ
indices_of None = []
indices_of (Some v) = v.items

-- The names on the way to the part, the indices on the way inside it in brackets, the offset and the error.
abbrev pub shown_place : NamedPlace → Option (List ℕ)
shown_place p = shown_way p.departure.now.refusal.is_cut (way_text p.schema.now.types.items (indices_of p.departure.now.inner) true p.id.0 p.departure.now.refusal.steps.items) (shown_refusal p.departure.now.refusal)

abbrev pub aspect_text : Aspect → List ℕ
aspect_text Header = codes "header"
aspect_text Contents = codes "contents"
aspect_text Place = codes "place"

-- the section of X.690 that an error is about
abbrev pub der_section : DerDecodeErrorKind → List ℕ
der_section ConstructedEncodingNotAllowed = codes "10.2"
der_section NonMinimalTagNumber = codes "8.1.2.4"
der_section ConstructedBitMismatch = codes "8.1.2.5"
der_section NonMinimalLength = codes "10.1"
der_section NonMinimalInteger = codes "8.3.2"
der_section NonMinimalArc = codes "8.19.2"
der_section NonzeroUnusedBits = codes "11.2.1"
der_section DefaultValuePresent = codes "11.5"
der_section SetComponentsOutOfOrder = codes "10.3"
der_section SetOfOutOfOrder = codes "11.6"

abbrev pub ber_section : BerDecodeErrorKind → List ℕ
ber_section IndefiniteLengthNotAllowed = codes "10.1"
ber_section (InvalidDate octets) = codes "11.7, 11.8"
ber_section kind = codes "8"

abbrev pub codec_section : CodecDecodeError → List ℕ
codec_section (Der kind) = der_section kind
codec_section (Ber kind) = ber_section kind

abbrev pub section_of : DecodeErrorKind → List ℕ
section_of (InvalidBool value) = codes "11.1"
section_of TrailingZeroBits = codes "11.2.2"
section_of (InvalidBitString bits) = codes "8.6.2"
section_of (CodecSpecific inner) = codec_section inner
section_of kind = codes "8"

-- What departs, and the section.
abbrev pub rule_text : Departure → List ℕ
rule_text d = codes "(" ++ (aspect_text d.aspect ++ (codes ", " ++ (section_of d.refusal.error.kind ++ codes ")")))

abbrev pub shown_departure : Departure → Option (List ℕ)
shown_departure d = shown_refusal d.refusal ++? Some (codes " ") ++? Some (rule_text d)

abbrev pub shown_named_departure : NamedDeparture → Option (List ℕ)
shown_named_departure n = shown_place n.place ++? Some (codes " ") ++? Some (rule_text n.place.departure.now)
