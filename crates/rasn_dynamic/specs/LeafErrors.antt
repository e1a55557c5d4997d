-- Why a value that holds no others isn't read.
use Rattle.std.specs.Prelude.{◌≡◌, ◌⊎◌, List, ℕ, Option, None, Result, Ok, Err}
use Rattle.rasn_types.specs.declared.types.tag.Tag.{Tag}
use Rattle.rasn_types.specs.declared.types.constraints.Constraints.{Constraints}
use Rattle.rasn_types.specs.declared.types.strings.alphabet.Alphabet.TheVariants as letters
use Rattle.rasn_types.specs.Errors.{IsOutOfMemory}
use Rattle.rasn_types.specs.Framing.{Ended}
use Rattle.rasn_types.specs.declared.types.codec.Codec.{Codec}
use Rattle.rasn_types.specs.declared.types.constraints.Bound.{Bound}
use Rattle.rasn_types.specs.Contents.{IsReal, IsTimeText, AreTimeDigits}
use Rattle.rasn_types.specs.Grammar.{UtcText, GeneralizedText, quads}
use Rattle.rasn_types.specs.Inline.{IsLong}
use Rattle.rasn_types.specs.Shapes.{Tree, every, any}
use Rattle.rasn_types.specs.Tags.{eoc, in_universal}
use Rattle.rasn_types.specs.Time.{DateText}
use Rattle.rasn_types.specs.Trees.{signed_range, unsigned_range}
use Rattle.rasn_de.specs.Any.{BorrowsOpenType}
use Rattle.rasn_de.specs.BitString.{DecodesBitString}
use Rattle.rasn_de.specs.declared.ber.de.parser.ParseError.TheVariants.{StringConversionFailed}
use Rattle.rasn_de.specs.Causes.{Cause, fault}
use Rattle.rasn_de.specs.CharacterString.{StringCheck, DecodesString, ByCharacters, ByAlphabet, BySize, ByLength, ByUnits, ByUtf8}
use Rattle.rasn_de.specs.Enumerated.{NullAt}
use Rattle.rasn_de.specs.Leaves.{BoolAt, LeafAt, FailsAs}
use Rattle.rasn_de.specs.NamedBits.{DecodesNamedBits}
use Rattle.rasn_de.specs.ObjectIdentifier.{DecodesObjectIdentifier}
use Rattle.rasn_de.specs.SequenceOf.{DecodesInTurn}
use Rattle.rasn_de.specs.State.{State}
use Rattle.rasn_de.specs.Time.{AtAnyOffset, DecodesTime}
use Rattle.rasn_de.specs.ValueErrors.{Errors, errors_of, integer_errors}
use Rattle.rasn_schema.specs.declared.types.LeafKind.{LeafKind}
use Rattle.rasn_schema.specs.declared.types.LeafKind.TheVariants.{Boolean, Null, ObjectIdentifier, BitString, NamedBits, OctetString, FixedOctetString, Integer, Signed32, Signed64, Unsigned32, Unsigned64, Numeric, Printable, Visible, Ia5, AnyOctets, Bmp, Utf8, UtcTime, GeneralizedTime, Date, Universal, RelativeOid, Real, Time, Duration, TimeOfDay, DateTime}
use Rattle.rasn_dynamic.specs.Inside.{DecodesTree}

-- the errors of a string whose octets pass this check
abbrev pub string_errors : StringCheck → Tag → Errors
string_errors Is tag = errors_of (DecodesString (λ (l : List ℕ). l) Is tag)

-- The octets are characters of four octets each, which is checked first, and their number is within the size.
abbrev pub ByQuads : Option (Bound ℕ) → StringCheck
ByQuads size = ByCharacters quads (in_universal 28) size

-- Contents octets that mean nothing of the type whose universal tag has this number.
abbrev pub ContentsIn : (List ℕ → Type 0) → ℕ → List ℕ → Result (List ℕ) Cause → Type 0
ContentsIn Are number l (Ok octets) = Are l
ContentsIn Are number l (Err e) = (Are l → ⊥) × (e ≡ fault (StringConversionFailed (in_universal number)))

abbrev pub contents_errors : (Codec → List ℕ → Type 0) → ℕ → Tag → Errors
contents_errors Are number tag old e new = FailsAs (LeafAt (ContentsIn (Are old.rule) number) old.rule tag old.rest) old e new

abbrev pub IsAnyReal : Codec → List ℕ → Type 0
IsAnyReal rule l = (octets : List ℕ) × IsReal rule l octets

-- Memory runs out, or the error is one of these.
abbrev pub RunsOutOr : Errors → Errors
RunsOutOr errors old e new = IsOutOfMemory e.kind ⊎ errors old e new

-- The errors of a value of this kind, under a tag and constraints: those of the type of Rattle that is read so. Of kinds
-- whose value is made of what was read, memory may run out for it.
unfoldable pub leaf_errors : LeafKind → Tag → Constraints → Errors
leaf_errors Boolean tag c = λ old. FailsAs (BoolAt old.rule tag old.rest) old
leaf_errors Null tag c = λ old. FailsAs (NullAt old.rule tag old.rest) old
leaf_errors ObjectIdentifier tag c = errors_of (DecodesObjectIdentifier tag)
leaf_errors BitString tag c = errors_of (DecodesBitString tag c)
leaf_errors NamedBits tag c = errors_of (DecodesNamedBits tag c)
leaf_errors OctetString tag c = string_errors (BySize c.size) tag
leaf_errors (FixedOctetString n) tag c = string_errors (ByLength n c.size) tag
leaf_errors Integer tag c = integer_errors IsLong 0 every tag c
leaf_errors Signed32 tag c = RunsOutOr (integer_errors (λ z. ⊥) 32 (signed_range 32) tag c)
leaf_errors Signed64 tag c = RunsOutOr (integer_errors (λ z. ⊥) 64 (signed_range 64) tag c)
leaf_errors Unsigned32 tag c = RunsOutOr (integer_errors (λ z. ⊥) 32 (unsigned_range 32) tag c)
leaf_errors Unsigned64 tag c = RunsOutOr (integer_errors (λ z. ⊥) 64 (unsigned_range 64) tag c)
leaf_errors Numeric tag c = string_errors (ByAlphabet letters.Numeric c.size) tag
leaf_errors Printable tag c = string_errors (ByAlphabet letters.Printable c.size) tag
leaf_errors Visible tag c = string_errors (ByAlphabet letters.Visible c.size) tag
leaf_errors Ia5 tag c = string_errors (ByAlphabet letters.Ia5 c.size) tag
leaf_errors AnyOctets tag c = string_errors (ByAlphabet letters.Every c.size) tag
leaf_errors Bmp tag c = string_errors (ByUnits c.size) tag
leaf_errors Utf8 tag c = string_errors (ByUtf8 c.size) tag
leaf_errors UtcTime tag c = λ old. errors_of (DecodesTime (AtAnyOffset (UtcText old.rule)) tag) old
leaf_errors GeneralizedTime tag c = λ old. errors_of (DecodesTime (GeneralizedText old.rule) tag) old
leaf_errors Date tag c = errors_of (DecodesTime DateText tag)
leaf_errors Universal tag c = RunsOutOr (string_errors (ByQuads c.size) tag)
leaf_errors RelativeOid tag c = errors_of (DecodesObjectIdentifier tag)
leaf_errors Real tag c = RunsOutOr (contents_errors IsAnyReal 9 tag)
leaf_errors Time tag c = contents_errors (λ rule. IsTimeText) 14 tag
leaf_errors Duration tag c = contents_errors (λ rule. IsTimeText) 34 tag
leaf_errors TimeOfDay tag c = contents_errors (λ rule. AreTimeDigits 6) 32 tag
leaf_errors DateTime tag c = contents_errors (λ rule. AreTimeDigits 14) 33 tag

-- Values are read as open types are, each of which takes octets, and the next one isn't.
abbrev pub unknown_errors : Errors
unknown_errors old e new = (ts : List Tree) × (here : State) × DecodesInTurn (DecodesTree (any None)) old ts here × (Ended here.closing here.rest → ⊥) × errors_of (BorrowsOpenType eoc) here e new
