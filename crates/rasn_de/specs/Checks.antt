-- What a call returns that checks a value and makes nothing of it.
use Rattle.std.specs.Prelude.{◌≡◌, ◌≢◌, ◌<◌, ◌^◌, ℕ, Bool, List, length, slice_index, Option, Some, None, Result, Ok, Err}
use Rattle.rasn_types.specs.declared.types.codec.Codec.{Codec}
use Rattle.rasn_types.specs.declared.types.tag.Tag.{Tag}
use Rattle.rasn_types.specs.declared.types.constraints.Bound.{Bound}
use Rattle.rasn_types.specs.declared.types.constraints.Constraints.{Constraints}
use Rattle.rasn_types.specs.BitString.{significant}
use Rattle.rasn_types.specs.declared.types.strings.alphabet.Alphabet.{Alphabet}
use Rattle.rasn_types.specs.CharacterString.{AreAdmitted, IsFirstForeign, units_of}
use Rattle.rasn_types.specs.Shapes.{Shape, Tree}
use Rattle.rasn_de.specs.declared.ber.de.parser.ParseError.{ParseError}
use Rattle.rasn_de.specs.declared.ber.de.parser.ParseError.TheVariants.{OutOfMemory}
use Rattle.std.specs.Borrow.{Bor}
use Rattle.rasn_de.specs.Segments.{string_at}
use Rattle.rasn_de.specs.OctetString.{octet_string_at}
use Rattle.rasn_de.specs.ParserViews.{SeesMore}
use Rattle.rasn_de.specs.State.{at, Call}
use Rattle.rasn_de.specs.Steps.{IsErrorOf}
use Rattle.rasn_de.specs.CharacterString.{StringCheck, ByAlphabet, ByLength, ByUnits, DecodesBorrowed, ChecksString}
use Rattle.rasn_de.specs.Decodes.{Decodes}
use Rattle.rasn_de.specs.NamedBits.{AreNamedBits}
use Rattle.rasn_de.specs.ObjectIdentifier.{ReadsArcs, FailsAtSubidentifier}

-- It returns what some result of the call that makes a value is.
abbrev pub ChecksBy : {T : Type 0} → Call T → Call (Unit {0})
ChecksBy {T} call old (Ok u) new = (v : T) × call old (Ok v) new
ChecksBy {T} call old (Err e) new = call old (Err e) new

-- Some value of the shape is decoded.
abbrev pub Checks : Shape → Call (Unit {0})
Checks shape = ChecksBy (Decodes shape (λ (t : Tree). t))

-- The contents of an OBJECT IDENTIFIER.
abbrev pub ChecksArcs : Codec → List ℕ → Result (Unit {0}) ParseError → Type 0
ChecksArcs rule c (Ok u) = (arcs : List ℕ) × ReadsArcs rule c arcs
ChecksArcs rule c (Err f) = FailsAtSubidentifier rule c f

-- The segments of a string, whose own tag may be another than theirs, are seen in their order. An error consumes nothing.
abbrev pub SeesString : {X : Type 0} → (Codec → List ℕ → Result (List X) ParseError) → Tag → Tag → (List X → Type 0) → (List X → Type 0) → Call (Unit {0})
SeesString {X} segment inner tag Old New old (Ok u) new =
    (xs : List X) × (string_at old.rule (segment old.rule) inner old.depth tag old.rest ≡ Ok (xs, new.rest)) × (new ≡ at old new.rest) × SeesMore xs Old New
SeesString segment inner tag Old New old (Err e) new =
    (f : ParseError) × IsErrorOf f old e × (new ≡ old) × (f ≢ OutOfMemory → string_at old.rule (segment old.rule) inner old.depth tag old.rest ≡ Err f)

-- The number of items that were seen. It is right only if they are fewer than most.
abbrev pub Counts : {X : Type 0} → ℕ → ℕ → List X → Type 0
Counts most n xs = length xs < most → n ≡ length xs

-- Whatever the encoding of a string is.
abbrev pub IsAnyEncoding : Codec → Tag → List ℕ → List ℕ → Type 0
IsAnyEncoding rule tag l ns = Unit {0}

-- A string whose octets pass this check is read, or the call fails as one that borrows the octets of a primitive string.
abbrev pub ChecksText : StringCheck → Tag → Call (Unit {0})
ChecksText Told tag = ChecksBy (DecodesBorrowed (λ (l : List ℕ). l) IsAnyEncoding Told tag)

-- The first octet that isn't in the alphabet with its position, if there is one.
abbrev pub IsForeign : Alphabet → List ℕ → Option (ℕ × ℕ) → Type 0
IsForeign a l None = AreAdmitted a l
IsForeign a l (Some p) = IsFirstForeign a l p.0 × (p.1 ≡ slice_index l p.0)

-- What is known of octets that were seen: their number, and the first that isn't in the alphabet. It is right only if they
-- are fewer than 2 ^ 64.
abbrev pub ScansAlphabet : Alphabet → ℕ → Option (ℕ × ℕ) → List ℕ → Type 0
ScansAlphabet a len foreign l = length l < 2 ^ 64 → (len ≡ length l) × IsForeign a l foreign

-- The octets that were seen are accepted or refused, if they are fewer than 2 ^ 64.
abbrev pub ChecksScanned : Alphabet → Option (Bound ℕ) → ℕ → Option (ℕ × ℕ) → Result (Unit {0}) ParseError → Type 0
ChecksScanned a size len foreign result = (l : List ℕ) → length l < 2 ^ 64 → ScansAlphabet a len foreign l → ChecksString (ByAlphabet a size) l l result

-- So many octets are accepted or refused as 16-bit units.
abbrev pub ChecksUnits : Option (Bound ℕ) → ℕ → Result (Unit {0}) ParseError → Type 0
ChecksUnits size len result = (l : List ℕ) → len ≡ length l → ChecksString (ByUnits size) l (units_of l) result

-- So many octets are accepted or refused as n octets.
abbrev pub ChecksLength : ℕ → Option (Bound ℕ) → ℕ → Result (Unit {0}) ParseError → Type 0
ChecksLength n size len result = (l : List ℕ) → len ≡ length l → ChecksString (ByLength n size) l l result

-- The number of bits that were seen, and of those up to the last that is 1. Each is right only if the bits aren't too many.
abbrev pub CountsNamed : ℕ → ℕ → List Bool → Type 0
CountsNamed len size bs = Counts (2 ^ 128) len bs × (length bs < 2 ^ 64 → size ≡ length (significant bs))

-- Bits of these numbers are accepted or refused as named bits.
abbrev pub ChecksNamedBits : Codec → Constraints → ℕ → ℕ → Result (Unit {0}) ParseError → Type 0
ChecksNamedBits rule bounds size len result = (bs : List Bool) → size ≡ length (significant bs) → len ≡ length bs → AreNamedBits rule bounds bs result

-- The octets of a primitive string are read; or it is constructed, and nothing is consumed; or there is none, and nothing is
-- consumed.
abbrev pub DecodesPrimitiveOctets : Tag → Call (Option (Bor (List ℕ)))
DecodesPrimitiveOctets tag old (Ok (Some s)) new = (octet_string_at old.rule old.depth tag old.rest ≡ Ok (s.now, new.rest)) × (new ≡ at old new.rest)
DecodesPrimitiveOctets tag old (Ok None) new = new ≡ old
DecodesPrimitiveOctets tag old (Err e) new =
    (f : ParseError) × IsErrorOf f old e × (new ≡ old) × (octet_string_at old.rule old.depth tag old.rest ≡ Err f) × (f ≢ OutOfMemory)
