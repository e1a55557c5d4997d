-- The numbers of the kinds of errors in C: `soq_kind`. 0 means no error.
use Rattle.std.specs.Prelude.{ℕ}
use Rattle.rasn_types.specs.declared.error.decode.DecodeErrorKind.{DecodeErrorKind}
use Rattle.rasn_types.specs.declared.error.decode.DecodeErrorKind.TheVariants as kind
use Rattle.rasn_types.specs.declared.error.decode.CodecDecodeError.TheVariants as codec
use Rattle.rasn_types.specs.declared.error.decode.BerDecodeErrorKind.{BerDecodeErrorKind}
use Rattle.rasn_types.specs.declared.error.decode.BerDecodeErrorKind.TheVariants as ber
use Rattle.rasn_types.specs.declared.error.decode.DerDecodeErrorKind.{DerDecodeErrorKind}
use Rattle.rasn_types.specs.declared.error.decode.DerDecodeErrorKind.TheVariants as der

-- causes of X.690 8
abbrev pub ber_kind_number : BerDecodeErrorKind → ℕ
ber_kind_number ber.UnsupportedTagNumber = 32
ber_kind_number ber.UnsupportedObjectIdentifierArc = 33
ber_kind_number ber.UnexpectedEndOfContents = 34
ber_kind_number ber.MissingEndOfContents = 35
ber_kind_number ber.IndefiniteLengthNotAllowed = 36
ber_kind_number ber.ReservedLengthOctet = 37
ber_kind_number (ber.MismatchedTag expected actual) = 38
ber_kind_number ber.InvalidConstructedIdentifier = 39
ber_kind_number ber.InvalidObjectIdentifier = 40
ber_kind_number (ber.InvalidDate octets) = 41

-- causes of X.690 10 and 11
abbrev pub der_kind_number : DerDecodeErrorKind → ℕ
der_kind_number der.ConstructedEncodingNotAllowed = 64
der_kind_number der.NonMinimalTagNumber = 65
der_kind_number der.ConstructedBitMismatch = 66
der_kind_number der.NonMinimalLength = 67
der_kind_number der.NonMinimalInteger = 68
der_kind_number der.NonMinimalArc = 69
der_kind_number der.NonzeroUnusedBits = 70
der_kind_number der.DefaultValuePresent = 71
der_kind_number der.SetComponentsOutOfOrder = 72
der_kind_number der.SetOfOutOfOrder = 73

abbrev pub kind_number : DecodeErrorKind → ℕ
kind_number (kind.Incomplete needed) = 1
kind_number (kind.UnexpectedExtraData length) = 2
kind_number kind.UnexpectedEmptyInput = 3
kind_number kind.ExceedsMaxParseDepth = 4
kind_number kind.RealNotSupported = 5
kind_number kind.OutOfMemory = 6
kind_number kind.LengthExceedsPlatformWidth = 7
kind_number (kind.InvalidBool octet) = 8
kind_number (kind.MismatchedLength expected actual) = 9
kind_number (kind.IntegerOverflow width) = 10
kind_number (kind.DiscriminantValueNotFound discriminant) = 11
kind_number (kind.InvalidBitString bits) = 12
kind_number (kind.SizeConstraintNotSatisfied size expected) = 13
kind_number (kind.ValueConstraintNotSatisfied value expected) = 14
kind_number (kind.PermittedAlphabetError octet position) = 15
kind_number (kind.StringConversionFailed tag) = 16
kind_number (kind.NoValidChoice name) = 17
kind_number (kind.MissingField name) = 18
kind_number (kind.DuplicateField name) = 19
kind_number kind.TrailingZeroBits = 20
kind_number (kind.CodecSpecific (codec.Ber inner)) = ber_kind_number inner
kind_number (kind.CodecSpecific (codec.Der inner)) = der_kind_number inner
