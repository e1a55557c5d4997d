-- Headers, read octet by octet from the left, up to the contents or to the first fault.
use Rattle.std.specs.Prelude.{◌≡◌, ◌<◌, ℕ, ◌+◌, ◌-◌, ◌*◌, ◌/◌, ◌%◌, Bool, true, false, ◌&&◌, ◌||◌, nat_eq, nat_lt, nat_le, if◌then◌else◌, List, [], ◌∷◌, length, take, drop, Option, Some, None, Result, Ok, Err}
use Rattle.std.specs.Bool.{beq}
use Rattle.rasn_types.specs.declared.types.tag.Tag.{Tag}
use Rattle.rasn_types.specs.declared.types.tag.Class.{Class}
use Rattle.rasn_types.specs.declared.types.tag.Class.TheVariants.{Universal, Application, Context, Private}
use Rattle.rasn_types.specs.Tags.{is_eoc, tag_bit, Form, basic_form, der_form, loose_form}
pub use Rattle.rasn_types.specs.Tags.{is_der}
use Rattle.rasn_types.specs.declared.types.codec.Codec.{Codec}
use Rattle.rasn_types.specs.declared.types.codec.Codec.TheVariants.{Ber, Cer, Der}
use Rattle.rasn_de.specs.declared.ber.de.parser.ParseError.{ParseError}
use Rattle.rasn_de.specs.declared.ber.de.parser.ParseError.TheVariants.{Incomplete, LengthExceedsPlatformWidth, UnsupportedTagNumber, UnexpectedEndOfContents, IndefiniteLengthNotAllowed, ReservedLengthOctet, MismatchedTag, Der}
use Rattle.rasn_types.specs.declared.error.decode.DerDecodeErrorKind.TheVariants.{NonMinimalTagNumber, ConstructedBitMismatch, NonMinimalLength}
use Rattle.rasn_de.specs.declared.ber.de.parser.headers.Spelling.{Spelling}
use Rattle.rasn_de.specs.declared.ber.de.parser.headers.Expected.{Expected}
use Rattle.rasn_de.specs.declared.ber.de.parser.headers.Expected.TheVariants.{AnyTag, Tagged, Exactly}
use Rattle.rasn_types.specs.Framing.{Extent, definite, indefinite}

infixl 10 ◌>>=◌
abbrev pub ◌>>=◌ : {A B : Type 0} → Result A ParseError → (A → Result B ParseError) → Result B ParseError
(Ok x) >>= f = f x
(Err e) >>= f = Err e

abbrev pub class_of : ℕ → Class
class_of n = if nat_eq n 0 then Universal else (if nat_eq n 1 then Application else (if nat_eq n 2 then Context else Private))

abbrev pub tag_of : ℕ → ℕ → Tag
tag_of first n = record { class = class_of (first / 64); value = n }

abbrev pub bit_at : ℕ → Bool
bit_at first = nat_le 32 (first % 64)

-- A number in base 128, of which the octets already read have the value n. If n is 2 ^ 25 or more, a further octet
-- makes the number too large.
unfoldable pub number128_at : ParseError → ℕ → List ℕ → Result (ℕ × List ℕ) ParseError
number128_at wide n [] = Err (Incomplete 1)
number128_at wide n (b ∷ l) =
    if nat_le 0x2000000 n then Err wide else (if nat_lt b 128 then Ok (n * 128 + b, l) else number128_at wide (n * 128 + b % 128) l)

-- How headers may be encoded in a form.
abbrev pub spelled : Form → Spelling
spelled basic_form = record { shortest = false; indefinite = true }
spelled der_form = record { shortest = true; indefinite = false }
spelled loose_form = record { shortest = false; indefinite = false }

-- The first seven bits of a number in base 128 are zero, so that its first octet is superfluous (8.1.2.4.2, 8.19.2).
abbrev pub is_padded : List ℕ → Bool
is_padded [] = false
is_padded (b ∷ l) = nat_eq b 128

-- The tag number of an identifier.
unfoldable pub tag_number_at : ℕ → List ℕ → Result (ℕ × List ℕ) ParseError
tag_number_at first l = if nat_eq (first % 32) 31 then number128_at UnsupportedTagNumber 0 l else Ok (first % 32, l)

-- The number n in the octets after the first could be encoded in fewer octets.
abbrev pub is_longer : ℕ → List ℕ → ℕ → Bool
is_longer first l n = nat_eq (first % 32) 31 && (is_padded l || nat_lt n 31)

-- A tag, the constructed bit, and what follows the identifier.
pub record Identified : Type 0 where
  pub tag : Tag
  pub bit : Bool
  pub rest : List ℕ

-- Universal 0 is reported before superfluous octets.
abbrev pub checked_identifier : Bool → ℕ → List ℕ → ℕ × List ℕ → Result Identified ParseError
checked_identifier shortest first l p =
    if is_eoc (tag_of first p.0) then Err UnexpectedEndOfContents else (if shortest && is_longer first l p.0 then Err (Der NonMinimalTagNumber)
    else Ok (record { tag = tag_of first p.0; bit = bit_at first; rest = p.1 }))

unfoldable pub identifier_by : Bool → List ℕ → Result Identified ParseError
identifier_by shortest [] = Err (Incomplete 1)
identifier_by shortest (b ∷ l) = tag_number_at b l >>= checked_identifier shortest b l

abbrev pub identifier_at : Form → List ℕ → Result Identified ParseError
identifier_at spelling l = identifier_by (spelled spelling).shortest l

-- An octet is the whole identifier of a primitive value with the tag, which isn't always constructed (8.1.2.2).
abbrev pub IsPrimitiveIdentifier : Tag → ℕ → Type 0
IsPrimitiveIdentifier tag first = (tag_of first (first % 64) ≡ tag) × (tag.value < 31) × (is_eoc tag ≡ false) × (tag_bit tag ≡ false)

-- The number that octets encode, most significant first, after octets with the value n.
unfoldable pub number256_at : ℕ → List ℕ → Result ℕ ParseError
number256_at n [] = Ok n
number256_at n (b ∷ l) = if nat_le 0x100_0000_0000_0000 n then Err LengthExceedsPlatformWidth else number256_at (n * 256 + b) l

abbrev pub first_octets : ℕ → List ℕ → Result (List ℕ × List ℕ) ParseError
first_octets k l = if nat_lt (length l) k then Err (Incomplete (k - length l)) else Ok (take k l, drop k l)

-- Fewer octets could encode the length that these encode: the first one is zero, or the length fits in the short form.
abbrev pub begins_with_zero : List ℕ → Bool
begins_with_zero [] = false
begins_with_zero (b ∷ l) = nat_eq b 0

abbrev pub has_spare : List ℕ → ℕ → Bool
has_spare l n = begins_with_zero l || nat_lt n 128

-- The long form. Missing octets are reported first, then a length of 2 ^ 64 or more, then superfluous octets.
unfoldable pub long_at : Bool → ℕ → List ℕ → Result (Option ℕ × List ℕ) ParseError
long_at shortest k l =
    first_octets k l >>= λ p. number256_at 0 p.0 >>= λ n. if shortest && has_spare p.0 n then Err (Der NonMinimalLength) else Ok (Some n, p.1)

-- A length, which is None in the indefinite form. Only a constructed encoding may have that form.
unfoldable pub length_at : Spelling → Bool → List ℕ → Result (Option ℕ × List ℕ) ParseError
length_at spelling bit [] = Err (Incomplete 1)
length_at spelling bit (b ∷ l) =
    if nat_lt b 128 then Ok (Some b, l) else (if nat_eq b 128 then (if bit && spelling.indefinite then Ok (None, l) else Err IndefiniteLengthNotAllowed)
    else (if nat_eq b 255 then Err ReservedLengthOctet else long_at spelling.shortest (b - 128) l))

pub record Header : Type 0 where
  pub tag : Tag
  pub bit : Bool
  pub extent : Extent
  pub rest : List ℕ

abbrev pub contents_at : Tag → Bool → Option ℕ → List ℕ → Result Header ParseError
contents_at tag bit None l = Ok (record { tag = tag; bit = bit; extent = indefinite; rest = l })
contents_at tag bit (Some n) l = first_octets n l >>= λ p. Ok (record { tag = tag; bit = bit; extent = definite p.0; rest = p.1 })

abbrev pub same_class : Class → Class → Bool
same_class Universal Universal = true
same_class Application Application = true
same_class Context Context = true
same_class Private Private = true
same_class c d = false

abbrev pub same_tag : Tag → Tag → Bool
same_tag s t = same_class s.class t.class && nat_eq s.value t.value

abbrev pub tagged_at : Tag → Tag → Result (Unit {0}) ParseError
tagged_at wanted tag = if same_tag tag wanted then Ok tt else Err (MismatchedTag wanted tag)

-- The tag is checked before the constructed bit.
abbrev pub expected_at : Expected → Tag → Bool → Result (Unit {0}) ParseError
expected_at AnyTag tag bit = Ok tt
expected_at (Tagged wanted) tag bit = tagged_at wanted tag
expected_at (Exactly wanted) tag bit = tagged_at wanted.tag tag >>= λ u. if beq bit wanted.bit then Ok tt else Err (Der ConstructedBitMismatch)

-- The requirement that an identifier has this tag and, under DER, the constructed bit that the type is written with.
-- Under the other rules either bit is accepted.
abbrev pub as_written : Codec → Tag → Bool → Expected
as_written Ber tag bit = Tagged tag
as_written Cer tag bit = Tagged tag
as_written Der tag bit = Exactly (record { tag = tag; bit = bit })

-- The header of the value at the start of a list, with its contents.
unfoldable pub header_by : Spelling → Expected → List ℕ → Result Header ParseError
header_by spelling expected l =
    identifier_by spelling.shortest l >>= λ i. expected_at expected i.tag i.bit >>= λ u. length_at spelling i.bit i.rest >>= λ n. contents_at i.tag i.bit n.0 n.1

abbrev pub header_at : Form → Expected → List ℕ → Result Header ParseError
header_at spelling expected l = header_by (spelled spelling) expected l
