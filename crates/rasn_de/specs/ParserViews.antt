-- The values of the code, seen as lists.
use Rattle.std.specs.Prelude.{◌≡◌, ℕ, true, false, ◌⊎◌, List, Result, Ok, Err, ◌++◌, ◌≢◌}
use Rattle.std.specs.Borrow.{Bor}
use Rattle.rasn_types.specs.declared.types.tag.Tag.{Tag}
use Rattle.rasn_de.specs.declared.ber.de.parser.ParseError.{ParseError}
use Rattle.rasn_de.specs.declared.ber.de.parser.ParseError.TheVariants.{OutOfMemory}
use Rattle.rasn_types.specs.Framing.{Extent, definite, indefinite}
use Rattle.rasn_types.specs.Tags.{Form, TagAndBit}
use Rattle.rasn_de.specs.Headers.{Identified, Header, identifier_at}
use Rattle.rasn_de.specs.declared.ber.de.parser.Contents.{Contents}
use Rattle.rasn_de.specs.declared.ber.de.parser.Contents.TheVariants.{Definite, Indefinite}
use Rattle.rasn_de.specs.declared.ber.de.parser.Value.{Value}

-- The result of a function, with view applied to its value, is the result of reading.
abbrev pub ParsesAs : {X Y : Type 0} → (X → Y) → Result X ParseError → Result Y ParseError → Type 0
ParsesAs view (Ok x) read = read ≡ Ok (view x)
ParsesAs view (Err e) read = read ≡ Err e

abbrev pub pair : {X : Type 0} → X × Bor (List ℕ) → X × List ℕ
pair p = (p.0, p.1.now)

abbrev pub both : Bor (List ℕ) × Bor (List ℕ) → List ℕ × List ℕ
both p = (p.0.now, p.1.now)

abbrev pub identified : TagAndBit × Bor (List ℕ) → Identified
identified p = record { tag = p.0.tag; bit = p.0.bit; rest = p.1.now }

abbrev pub extent : Contents → Extent
extent (Definite s) = definite s.now
extent Indefinite = indefinite

abbrev pub header_with : Value → List ℕ → Header
header_with v rest = record { tag = v.tag; bit = v.is_constructed; extent = extent v.contents; rest = rest }

abbrev pub header : Value × Bor (List ℕ) → Header
header p = header_with p.0 p.1.now

-- An error other than OutOfMemory is the first fault. OutOfMemory is returned only if bare, which is the same reading
-- with every allocation failing, returns it.
abbrev pub FailsToParse : {Y : Type 0} → Result Y ParseError → Result Y ParseError → ParseError → Type 0
FailsToParse read bare e = (e ≢ OutOfMemory → read ≡ Err e) × (e ≡ OutOfMemory → bare ≡ Err OutOfMemory)

-- What has seen a list has then seen that list followed by xs.
abbrev pub SeesMore : {X : Type 0} → List X → (List X → Type 0) → (List X → Type 0) → Type 0
SeesMore {X} xs Old New = (seen : List X) → Old seen → New (seen ++ xs)

-- What is read is seen, and the rest is returned.
abbrev pub ParsesSegments : {X : Type 0} → Result (List X × List ℕ) ParseError → Result (List X × List ℕ) ParseError → (List X → Type 0) → (List X → Type 0) → Result (Bor (List ℕ)) ParseError → Type 0
ParsesSegments {X} read bare Old New (Ok r) = (xs : List X) × (read ≡ Ok (xs, r.now)) × SeesMore xs Old New
ParsesSegments read bare Old New (Err e) = FailsToParse read bare e

abbrev pub ParsesSegment : {X : Type 0} → Result (List X) ParseError → Result (List X) ParseError → (List X → Type 0) → (List X → Type 0) → Result (Unit {0}) ParseError → Type 0
ParsesSegment {X} read bare Old New (Ok u) = (xs : List X) × (read ≡ Ok xs) × SeesMore xs Old New
ParsesSegment read bare Old New (Err e) = FailsToParse read bare e

abbrev pub IsNestedValue : Value → Type 0
IsNestedValue v = (v.is_constructed ≡ true) ⊎ (extent v.contents ≡ indefinite)

abbrev pub IsPlainValue : Value → List ℕ → Type 0
IsPlainValue v s = (v.is_constructed ≡ false) × (extent v.contents ≡ definite s)

abbrev pub identified_tag : Result Identified ParseError → Result Tag ParseError
identified_tag (Ok i) = Ok i.tag
identified_tag (Err e) = Err e

abbrev pub peeked_tag : Form → List ℕ → Result Tag ParseError
peeked_tag spelling l = identified_tag (identifier_at spelling l)
