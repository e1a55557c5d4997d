-- The causes of errors.
use Rattle.std.specs.Prelude.{◌≡◌, ℤ, Some}
use Rattle.rasn_types.specs.Errors.{needed_of}
use Rattle.rasn_types.specs.declared.types.constraints.Bounded.{Bounded}
use Rattle.rasn_types.specs.declared.error.decode.DecodeErrorKind.{DecodeErrorKind}
use Rattle.rasn_types.specs.declared.error.decode.DecodeErrorKind.TheVariants as kind
use Rattle.rasn_types.specs.declared.error.decode.CodecDecodeError.TheVariants as codec
use Rattle.rasn_types.specs.declared.error.decode.BerDecodeErrorKind.{BerDecodeErrorKind}
use Rattle.rasn_types.specs.declared.error.decode.BerDecodeErrorKind.TheVariants as ber
use Rattle.rasn_de.specs.declared.ber.de.parser.ParseError.{ParseError}
use Rattle.rasn_de.specs.declared.ber.de.parser.ParseError.TheVariants.{Incomplete, UnexpectedExtraData, UnexpectedEmptyInput, ExceedsMaxParseDepth, OutOfMemory, LengthExceedsPlatformWidth, InvalidBool, MismatchedLength, IntegerOverflow, SizeConstraintNotSatisfied, UnsupportedTagNumber, UnexpectedEndOfContents, MissingEndOfContents, IndefiniteLengthNotAllowed, ReservedLengthOctet, MismatchedTag, InvalidConstructedIdentifier, Der, DiscriminantValueNotFound, UnsupportedObjectIdentifierArc, InvalidBitString, TrailingZeroBits, PermittedAlphabetError, StringConversionFailed}

abbrev pub in_ber : BerDecodeErrorKind → DecodeErrorKind
in_ber k = kind.CodecSpecific (codec.Ber k)

-- The kind of error that reports a fault.
abbrev pub error_kind : ParseError → DecodeErrorKind
error_kind (Incomplete needed) = kind.Incomplete (needed_of needed)
error_kind (UnexpectedExtraData length) = kind.UnexpectedExtraData length
error_kind UnexpectedEmptyInput = kind.UnexpectedEmptyInput
error_kind ExceedsMaxParseDepth = kind.ExceedsMaxParseDepth
error_kind OutOfMemory = kind.OutOfMemory
error_kind LengthExceedsPlatformWidth = kind.LengthExceedsPlatformWidth
error_kind (InvalidBool value) = kind.InvalidBool value
error_kind (MismatchedLength expected actual) = kind.MismatchedLength expected actual
error_kind (IntegerOverflow width) = kind.IntegerOverflow width
error_kind (InvalidBitString bits) = kind.InvalidBitString bits
error_kind TrailingZeroBits = kind.TrailingZeroBits
error_kind (SizeConstraintNotSatisfied size expected) = kind.SizeConstraintNotSatisfied (Some size) expected
error_kind (PermittedAlphabetError octet position) = kind.PermittedAlphabetError octet position
error_kind (StringConversionFailed tag) = kind.StringConversionFailed tag
error_kind UnsupportedTagNumber = in_ber ber.UnsupportedTagNumber
error_kind UnexpectedEndOfContents = in_ber ber.UnexpectedEndOfContents
error_kind MissingEndOfContents = in_ber ber.MissingEndOfContents
error_kind IndefiniteLengthNotAllowed = in_ber ber.IndefiniteLengthNotAllowed
error_kind ReservedLengthOctet = in_ber ber.ReservedLengthOctet
error_kind (MismatchedTag expected actual) = in_ber (ber.MismatchedTag expected actual)
error_kind InvalidConstructedIdentifier = in_ber ber.InvalidConstructedIdentifier
error_kind (DiscriminantValueNotFound discriminant) = kind.DiscriminantValueNotFound discriminant
error_kind UnsupportedObjectIdentifierArc = in_ber ber.UnsupportedObjectIdentifierArc
error_kind (Der k) = kind.CodecSpecific (codec.Der k)

-- Why a value is refused: a fault, or a number out of its bound.
pub data Cause : Type 0 where
  fault : ParseError → Cause
  out_of_bound : ℤ → Bounded ℤ → Cause

-- The error has this cause. If the copy of a number can't be allocated, the error is OutOfMemory instead.
abbrev pub HasCause : Cause → DecodeErrorKind → Type 0
HasCause (fault f) k = k ≡ error_kind f
HasCause (out_of_bound z bound) (kind.ValueConstraintNotSatisfied value expected) = (value ≡ z) × (expected.value ≡ bound)
HasCause (out_of_bound z bound) kind.OutOfMemory = Unit {0}
HasCause (out_of_bound z bound) _ = ⊥
