-- Complete encodings that are skipped, and the faults at which skipping stops.
use Rattle.std.specs.Prelude.{◌≡◌, ℕ, zero, suc, ◌+◌, ◌⊎◌, List, ◌∷◌, ◌++◌, true, Result, Ok, Err}
use Rattle.std.specs.Borrow.{Bor}
use Rattle.rasn_types.specs.declared.types.tag.Tag.{Tag}
use Rattle.rasn_types.specs.declared.types.codec.Codec.{Codec}
use Rattle.rasn_de.specs.declared.ber.de.parser.ParseError.{ParseError}
use Rattle.rasn_types.specs.Tags.{loose}
use Rattle.rasn_types.specs.Framing.{Frame, indefinite, CompleteEncoding, CompleteEncodings, steps_in, steps_of}
use Rattle.rasn_de.specs.declared.ber.de.parser.headers.Expected.TheVariants.{AnyTag}
use Rattle.rasn_de.specs.Headers.{header_at}

-- The input begins with one complete encoding, which takes t steps.
pub record Skipped (rule : Codec) (input : List ℕ) (t : ℕ) (rest : List ℕ) : Type 0 where
  pub text : List ℕ
  pub whole : CompleteEncoding rule text
  pub is : input ≡ text ++ rest
  pub steps_are : t ≡ steps_in whole

-- Complete encodings up to their end-of-contents octets, with one more step for these octets.
pub record EncodingsToEnd (rule : Codec) (input : List ℕ) (t : ℕ) (rest : List ℕ) : Type 0 where
  pub nested : List ℕ
  pub inside : CompleteEncodings rule nested
  pub is : input ≡ nested ++ (0 ∷ 0 ∷ rest)
  pub steps_are : t ≡ 1 + steps_of inside

-- In the input, the list follows complete encodings, and a given number of headers whose values aren't closed.
abbrev pub IsNestedIn : Codec → ℕ → List ℕ → List ℕ → Type 0
IsNestedIn rule zero input l = (nested : List ℕ) × CompleteEncodings rule nested × (input ≡ nested ++ l)
IsNestedIn rule (suc m) input l =
    (nested : List ℕ) × (back : List ℕ) × (tag : Tag) × (body : List ℕ) × CompleteEncodings rule nested × (input ≡ nested ++ back) × Frame (loose rule) back tag true body indefinite × IsNestedIn rule m body l

-- At a place where a value must begin or end-of-contents octets must follow, neither is the case.
pub record IsUnparsable (rule : Codec) (body : List ℕ) (fault : ParseError) : Type 0 where
  pub levels : ℕ
  pub left : List ℕ
  pub there : IsNestedIn rule levels body left
  pub open_there : (more : List ℕ) → left ≡ 0 ∷ 0 ∷ more → ⊥
  pub refused : header_at (loose rule) AnyTag left ≡ Err fault

-- The first fault of an input that must begin with one complete encoding.
abbrev pub IsFault : Codec → List ℕ → ParseError → Type 0
IsFault rule input fault =
    (header_at (loose rule) AnyTag input ≡ Err fault)
    ⊎ ((tag : Tag) × (body : List ℕ) × Frame (loose rule) input tag true body indefinite × IsUnparsable rule body fault)

-- The result is the only reading. An error means that there is no reading, and is the first fault.
abbrev pub Exactly : (ℕ → List ℕ → Type 0) → (ParseError → Type 0) → Result (ℕ × List ℕ) ParseError → Type 0
Exactly reads refuses (Ok p) = reads p.0 p.1 × ((t : ℕ) (rest : List ℕ) → reads t rest → (t ≡ p.0) × (rest ≡ p.1))
Exactly reads refuses (Err e) = ((t : ℕ) (rest : List ℕ) → reads t rest → ⊥) × refuses e

abbrev pub passed : Result (ℕ × Bor (List ℕ)) ParseError → Result (ℕ × List ℕ) ParseError
passed (Ok p) = Ok (p.0, p.1.now)
passed (Err e) = Err e
