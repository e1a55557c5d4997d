-- How DER writes identifier and length octets (X.690 8.1.2, 8.1.3, 10.1, 10.2).
use Rattle.std.specs.Prelude.{◌≡◌, ◌≢◌, ◌⊎◌, ◌%◌, ℕ, List, [], ◌∷◌, take, Bool, true, false, nat_lt, nat_eq, not, if◌then◌else◌, Option, Some, None, Ok, Err, MatchOption}
use Rattle.rasn_types.specs.declared.types.codec.Codec.TheVariants.{Der}
use Rattle.rasn_types.specs.declared.types.tag.Tag.{Tag}
use Rattle.rasn_types.specs.declared.error.decode.DecodeError.{DecodeError}
use Rattle.rasn_types.specs.declared.error.decode.DerDecodeErrorKind.{DerDecodeErrorKind}
use Rattle.rasn_types.specs.declared.error.decode.DerDecodeErrorKind.TheVariants.{ConstructedBitMismatch, ConstructedEncodingNotAllowed, NonMinimalLength}
use Rattle.rasn_types.specs.Framing.{NextTag}
use Rattle.rasn_types.specs.Tags.{tag_bit, is_eoc, in_universal, der_form}
use Rattle.rasn_de.specs.declared.ber.de.parser.ParseError.{ParseError}
use Rattle.rasn_de.specs.declared.ber.de.parser.ParseError.TheVariants.{Der as DerFault, IndefiniteLengthNotAllowed}
use Rattle.rasn_de.specs.Causes.{error_kind}
use Rattle.rasn_de.specs.Headers.{bit_at, Header}
use Rattle.rasn_de.specs.Constructed.{sequence_header, constructed_header_at}
use Rattle.rasn_de.specs.Steps.{PeeksTag}
use Rattle.rasn_schema.specs.declared.types.LeafKind.{LeafKind}
use Rattle.rasn_schema.specs.declared.types.LeafKind.TheVariants.{Boolean, Null, ObjectIdentifier, BitString, NamedBits, OctetString, FixedOctetString, Integer, Signed32, Signed64, Unsigned32, Unsigned64, Numeric, Printable, Visible, Ia5, AnyOctets, Bmp, Utf8, UtcTime, GeneralizedTime, Date, Universal, RelativeOid, Real, Time, Duration, TimeOfDay, DateTime}
use Rattle.rasn_schema.specs.declared.types.«Type».{«Type»}
use Rattle.rasn_schema.specs.declared.types.«Type».TheVariants.{Leaf, Enumerated, Any, Tagged, Choice, Sequence, Set, SequenceOf, SetOf, Unknown}
use Rattle.rasn_lint.specs.Encoding.{start}
use Rattle.rasn_lint.specs.Place.{der_error}

-- whether a value of the type has a header of its own: one of a CHOICE has that of its alternative, and in an open type
-- headers may have any form
abbrev pub has_own_header : «Type» → Bool
has_own_header (Leaf kind tag c names) = true
has_own_header (Enumerated tag ns) = true
has_own_header (Any tag) = not (is_eoc tag)
has_own_header (Tagged tag id) = true
has_own_header (Choice name ks) = false
has_own_header (Sequence tag ps) = true
has_own_header (Set name tag ps) = true
has_own_header (SequenceOf tag id c) = true
has_own_header (SetOf tag id c) = true
has_own_header Unknown = false

-- There is an error exactly if DER doesn't read the identifier, and it is the reader's.
abbrev pub IsTagFault : List ℕ → Option DecodeError → Type 0
IsTagFault octets f = MatchOption f ((t : Tag) × PeeksTag (start octets) (Ok t)) (λ e. PeeksTag (start octets) (Err e))

-- what follows a number in base 128, and identifier octets
unfoldable pub after_number : List ℕ → List ℕ
after_number [] = []
after_number (b ∷ l) = if nat_lt b 128 then l else after_number l

abbrev pub after_identifier : List ℕ → List ℕ
after_identifier [] = []
after_identifier (b ∷ l) = if nat_eq (b % 32) 31 then after_number l else l

-- An error of the form of a length.
abbrev pub IsOfLength : DecodeError → Type 0
IsOfLength e = (e.kind ≡ error_kind (DerFault NonMinimalLength)) ⊎ (e.kind ≡ error_kind IndefiniteLengthNotAllowed)

-- DER reads the header of an encoding with this tag, or refuses it with this error.
abbrev pub ReadsHeader : Tag → List ℕ → Option DecodeError → Type 0
ReadsHeader tag octets None = (h : Header) × (constructed_header_at (sequence_header tag) Der 128 octets ≡ Ok h)
ReadsHeader tag octets (Some e) = (f : ParseError) × (rest : List ℕ) × (constructed_header_at (sequence_header tag) Der 128 octets ≡ Err (f, rest)) × (e ≡ record { kind = error_kind f; codec = Der })

-- There is an error exactly if DER refuses the form of the length, and it is the reader's.
abbrev pub IsLengthFaultAfter : Tag → List ℕ → Option DecodeError → Type 0
IsLengthFaultAfter tag octets (Some e) = ReadsHeader tag octets (Some e) × IsOfLength e
IsLengthFaultAfter tag octets None = (refused : Option DecodeError) × ReadsHeader tag octets refused × MatchOption refused (Unit {0}) (λ e. IsOfLength e → ⊥)

-- The same of octets whose identifier may have any form: one that DER doesn't read is replaced by that of a SEQUENCE, before
-- the octets that can be those of the length, of which there are at most 127 (8.1.3.5).
abbrev pub IsLengthFault : List ℕ → Option DecodeError → Type 0
IsLengthFault octets f = ((t : Tag) × NextTag der_form octets t × IsLengthFaultAfter t octets f)
    ⊎ (((t : Tag) → NextTag der_form octets t → ⊥) × IsLengthFaultAfter (in_universal 16) (48 ∷ take 127 (after_identifier octets)) f)

abbrev pub is_constructed : List ℕ → Bool
is_constructed [] = false
is_constructed (b ∷ l) = bit_at b

-- whether a value is a string, which BER may encode in segments (8.6.4, 8.7.3, 8.23)
abbrev pub is_string : LeafKind → Bool
is_string Boolean = false
is_string Null = false
is_string ObjectIdentifier = false
is_string BitString = true
is_string NamedBits = true
is_string OctetString = true
is_string (FixedOctetString n) = true
is_string Integer = false
is_string Signed32 = false
is_string Signed64 = false
is_string Unsigned32 = false
is_string Unsigned64 = false
is_string Numeric = true
is_string Printable = true
is_string Visible = true
is_string Ia5 = true
is_string AnyOctets = true
is_string Bmp = true
is_string Utf8 = true
is_string UtcTime = true
is_string GeneralizedTime = true
is_string Date = true
is_string Universal = true
is_string RelativeOid = false
is_string Real = false
is_string Time = false
is_string Duration = false
is_string TimeOfDay = false
is_string DateTime = false

-- There is an error exactly if the constructed bit isn't the wanted one.
abbrev pub IsBitFault : DerDecodeErrorKind → Bool → Bool → Option DecodeError → Type 0
IsBitFault kind wanted bit f = MatchOption f (bit ≡ wanted) (λ e. (bit ≢ wanted) × (e ≡ der_error kind))

-- the same by the type that is written with a bit (8.1.2.5, 10.2)
abbrev pub IsLeafFormFault : Bool → Tag → Bool → Option DecodeError → Type 0
IsLeafFormFault true tag bit f = IsBitFault ConstructedEncodingNotAllowed false bit f
IsLeafFormFault false tag bit f = IsBitFault ConstructedBitMismatch (tag_bit tag) bit f

abbrev pub IsFormFault : «Type» → Bool → Option DecodeError → Type 0
IsFormFault (Leaf kind tag c names) bit f = IsLeafFormFault (is_string kind) tag bit f
IsFormFault (Enumerated tag ns) bit f = IsBitFault ConstructedBitMismatch (tag_bit tag) bit f
IsFormFault (Any tag) bit f = IsBitFault ConstructedBitMismatch true bit f
IsFormFault (Tagged tag id) bit f = IsBitFault ConstructedBitMismatch true bit f
IsFormFault (Choice name ks) bit f = f ≡ None
IsFormFault (Sequence tag ps) bit f = f ≡ None
IsFormFault (Set name tag ps) bit f = f ≡ None
IsFormFault (SequenceOf tag id c) bit f = f ≡ None
IsFormFault (SetOf tag id c) bit f = f ≡ None
IsFormFault Unknown bit f = f ≡ None
