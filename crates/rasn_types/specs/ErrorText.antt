-- The texts of errors.
use Rattle.std.specs.Prelude.{ℕ, ℤ, List, ◌++◌, ◌==◌, if◌then◌else◌, Option, Some, None, codes, string_bytes}
use Rattle.std.specs.Fmt.{decimal, signed_decimal, debug_list, ◌++?◌}
use Rattle.rasn_types.specs.Text.{two_digits, hexadecimal, shown_number, shown_bounds, shown_tag, shown_rules}
use Rattle.rasn_types.specs.declared.types.constraints.Bounded.{Bounded}
use Rattle.rasn_types.specs.declared.error.decode.Needed.{Needed}
use Rattle.rasn_types.specs.declared.error.decode.Needed.TheVariants.{Unknown, Size}
use Rattle.rasn_types.specs.declared.error.decode.BerDecodeErrorKind.{BerDecodeErrorKind}
use Rattle.rasn_types.specs.declared.error.decode.BerDecodeErrorKind.TheVariants as ber
use Rattle.rasn_types.specs.declared.error.decode.DerDecodeErrorKind.{DerDecodeErrorKind}
use Rattle.rasn_types.specs.declared.error.decode.DerDecodeErrorKind.TheVariants as der
use Rattle.rasn_types.specs.declared.error.decode.CodecDecodeError.{CodecDecodeError}
use Rattle.rasn_types.specs.declared.error.decode.CodecDecodeError.TheVariants.{Ber, Der}
use Rattle.rasn_types.specs.declared.error.decode.DecodeErrorKind.{DecodeErrorKind}
use Rattle.rasn_types.specs.declared.error.decode.DecodeErrorKind.TheVariants as kind
use Rattle.rasn_types.specs.declared.error.decode.DecodeError.{DecodeError}
use Rattle.rasn_types.specs.declared.error.encode.BerEncodeErrorKind.{BerEncodeErrorKind}
use Rattle.rasn_types.specs.declared.error.encode.BerEncodeErrorKind.TheVariants.{InvalidObjectIdentifier, AnyInSet, SetOutOfOrder}
use Rattle.rasn_types.specs.declared.error.encode.CodecEncodeError.{CodecEncodeError}
use Rattle.rasn_types.specs.declared.error.encode.CodecEncodeError.TheVariants.{Ber as BerEncode}
use Rattle.rasn_types.specs.declared.error.encode.EncodeErrorKind.{EncodeErrorKind}
use Rattle.rasn_types.specs.declared.error.encode.EncodeErrorKind.TheVariants.{SizeConstraintNotSatisfied, ValueConstraintNotSatisfied, RealNotSupported, OutOfMemory, CodecSpecific}
use Rattle.rasn_types.specs.declared.error.encode.EncodeError.{EncodeError}

-- A number of octets of a kind, in the singular or in the plural.
abbrev pub shown_octets : ℕ → List ℕ → List ℕ
shown_octets n which = if n == 1 then codes "1 " ++ (which ++ codes " octet") else decimal n ++ (codes " " ++ (which ++ codes " octets"))

abbrev pub shown_needed : Needed → List ℕ
shown_needed Unknown = codes "unexpected end of input"
shown_needed (Size n) = codes "unexpected end of input, need " ++ shown_octets n (codes "more")

-- A value of this kind, and the bounds that it violates.
abbrev pub shown_outside : List ℕ → Option (List ℕ) → Option (List ℕ) → Option (List ℕ)
shown_outside what value bounds = Some what ++? value ++? Some (codes " violates the constraint ") ++? bounds

abbrev pub size_bounds : Bounded ℕ → Option (List ℕ)
size_bounds expected = shown_bounds (λ n. Some (decimal n)) expected

abbrev pub number_bounds : Bounded ℤ → Option (List ℕ)
number_bounds expected = shown_bounds (λ z. Some (signed_decimal z)) expected

abbrev pub shown_size : Option ℕ → Bounded ℕ → Option (List ℕ)
shown_size None expected = Some (codes "size violates the constraint ") ++? size_bounds expected
shown_size (Some n) expected = shown_outside (codes "size ") (Some (decimal n)) (size_bounds expected)

-- The texts of the causes of X.690 8.
abbrev pub shown_ber_decode : BerDecodeErrorKind → List ℕ
shown_ber_decode ber.UnsupportedTagNumber = codes "tag number exceeds 32 bits"
shown_ber_decode ber.UnsupportedObjectIdentifierArc = codes "OBJECT IDENTIFIER arc exceeds 32 bits"
shown_ber_decode ber.UnexpectedEndOfContents = codes "unexpected end-of-contents octets"
shown_ber_decode ber.MissingEndOfContents = codes "missing end-of-contents octets"
shown_ber_decode ber.IndefiniteLengthNotAllowed = codes "indefinite length is not allowed"
shown_ber_decode ber.ReservedLengthOctet = codes "reserved length octet FF"
shown_ber_decode (ber.MismatchedTag expected actual) = codes "unexpected tag " ++ (shown_tag actual ++ (codes ", expected " ++ shown_tag expected))
shown_ber_decode ber.InvalidConstructedIdentifier = codes "primitive encoding, expected constructed"
shown_ber_decode ber.InvalidObjectIdentifier = codes "invalid OBJECT IDENTIFIER"
shown_ber_decode (ber.InvalidDate octets) = codes "invalid time, octets " ++ hexadecimal octets.items

-- The texts of the causes of X.690 10 and 11.
abbrev pub shown_der_decode : DerDecodeErrorKind → List ℕ
shown_der_decode der.ConstructedEncodingNotAllowed = codes "constructed encoding of a string is not allowed"
shown_der_decode der.NonMinimalTagNumber = codes "tag number is not in the fewest octets"
shown_der_decode der.ConstructedBitMismatch = codes "constructed bit does not match the type"
shown_der_decode der.NonMinimalLength = codes "length is not in the fewest octets"
shown_der_decode der.NonMinimalInteger = codes "number is not in the fewest octets"
shown_der_decode der.NonMinimalArc = codes "OBJECT IDENTIFIER arc is not in the fewest octets"
shown_der_decode der.NonzeroUnusedBits = codes "unused bits of a BIT STRING are not zero"
shown_der_decode der.DefaultValuePresent = codes "component with its DEFAULT value is encoded"
shown_der_decode der.SetComponentsOutOfOrder = codes "components of a SET are not in ascending order of tags"
shown_der_decode der.SetOfOutOfOrder = codes "elements of a SET OF are not in ascending order"

abbrev pub shown_codec_decode : CodecDecodeError → List ℕ
shown_codec_decode (Ber cause) = shown_ber_decode cause
shown_codec_decode (Der cause) = shown_der_decode cause

-- The texts of the kinds of errors of reading. Positions are counted from 0.
abbrev pub shown_decode_kind : DecodeErrorKind → Option (List ℕ)
shown_decode_kind (kind.Incomplete needed) = Some (shown_needed needed)
shown_decode_kind (kind.UnexpectedExtraData length) = Some (shown_octets length (codes "trailing"))
shown_decode_kind kind.UnexpectedEmptyInput = Some (codes "empty contents")
shown_decode_kind kind.ExceedsMaxParseDepth = Some (codes "nested too deeply")
shown_decode_kind kind.RealNotSupported = Some (codes "REAL is not supported")
shown_decode_kind kind.OutOfMemory = Some (codes "out of memory")
shown_decode_kind kind.LengthExceedsPlatformWidth = Some (codes "length exceeds 64 bits")
shown_decode_kind (kind.InvalidBool value) = Some (codes "BOOLEAN octet " ++ (two_digits value ++ codes " is neither 00 nor FF"))
shown_decode_kind (kind.MismatchedLength expected actual) = Some (codes "length " ++ (decimal actual ++ (codes ", expected " ++ decimal expected)))
shown_decode_kind (kind.IntegerOverflow max_width) = Some (codes "number is out of range for a type of " ++ (decimal max_width ++ codes " bits"))
shown_decode_kind (kind.DiscriminantValueNotFound discriminant) = Some (codes "no enumeration item has the number " ++ signed_decimal discriminant)
shown_decode_kind (kind.InvalidBitString bits) = Some (codes "invalid number of unused bits: " ++ decimal bits)
shown_decode_kind kind.TrailingZeroBits = Some (codes "named bits end in a 0 bit")
shown_decode_kind (kind.SizeConstraintNotSatisfied size expected) = shown_size size expected
shown_decode_kind (kind.ValueConstraintNotSatisfied value expected) = shown_outside (codes "number ") (Some (shown_number value)) (number_bounds expected.value)
shown_decode_kind (kind.PermittedAlphabetError octet position) = Some (codes "octet " ++ (two_digits octet ++ (codes " at position " ++ (decimal position ++ codes " is not in the permitted alphabet"))))
shown_decode_kind (kind.StringConversionFailed tag) = Some (codes "invalid string of type " ++ shown_tag tag)
shown_decode_kind (kind.NoValidChoice name) = Some (codes "no alternative of `" ++ (string_bytes name ++ codes "` has the tag"))
shown_decode_kind (kind.MissingField name) = Some (codes "missing component `" ++ (string_bytes name ++ codes "`"))
shown_decode_kind (kind.DuplicateField name) = Some (codes "duplicate component `" ++ (string_bytes name ++ codes "`"))
shown_decode_kind (kind.CodecSpecific inner) = Some (shown_codec_decode inner)

-- The rules, and what is wrong.
abbrev pub shown_decode_error : DecodeError → Option (List ℕ)
shown_decode_error error = Some (shown_rules error.codec) ++? Some (codes ": ") ++? shown_decode_kind error.kind

-- Arcs that aren't those of an object identifier are listed in brackets.
abbrev pub shown_ber_encode : BerEncodeErrorKind → Option (List ℕ)
shown_ber_encode (InvalidObjectIdentifier oid) = Some (codes "invalid OBJECT IDENTIFIER: ") ++? debug_list (λ n. Some (decimal n)) oid.items
shown_ber_encode AnyInSet = Some (codes "untagged open type in a SET")
shown_ber_encode SetOutOfOrder = Some (codes "components of a SET or elements of a SET OF are not in ascending order")

abbrev pub shown_codec_encode : CodecEncodeError → Option (List ℕ)
shown_codec_encode (BerEncode cause) = shown_ber_encode cause

abbrev pub shown_encode_kind : EncodeErrorKind → Option (List ℕ)
shown_encode_kind (SizeConstraintNotSatisfied size expected) = shown_size (Some size) expected
shown_encode_kind (ValueConstraintNotSatisfied value expected) = shown_outside (codes "number ") (Some (shown_number value)) (number_bounds expected.value)
shown_encode_kind RealNotSupported = Some (codes "REAL is not supported")
shown_encode_kind OutOfMemory = Some (codes "out of memory")
shown_encode_kind (CodecSpecific inner) = shown_codec_encode inner

abbrev pub shown_encode_error : EncodeError → Option (List ℕ)
shown_encode_error error = Some (shown_rules error.codec) ++? Some (codes ": ") ++? shown_encode_kind error.kind
