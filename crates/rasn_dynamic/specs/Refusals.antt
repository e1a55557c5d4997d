-- Why an input isn't read as a value of a type.
use Rattle.std.specs.Prelude.{◌≡◌, ◌⊎◌, ℕ, List}
use Rattle.rasn_types.specs.declared.types.codec.Codec.{Codec}
use Rattle.rasn_types.specs.declared.error.decode.DecodeError.{DecodeError}
use Rattle.rasn_types.specs.Errors.{IsOutOfMemory}
use Rattle.rasn.specs.Headline.{IsFollowed}
use Rattle.rasn.specs.declared.normal.NormaliseError.{NormaliseError}
use Rattle.rasn.specs.declared.normal.NormaliseError.TheVariants.{Decode as NotRead, Encode as NotWritten, NotCanonical}
use Rattle.rasn_schema.specs.declared.types.«Type».{«Type»}
use Rattle.rasn_dynamic.specs.Entry.{shape_of}
use Rattle.rasn_dynamic.specs.Faults.{IsLocated}
use Rattle.rasn_dynamic.specs.declared.refusal.Refusal.{Refusal}

-- The error is that of a value in the input which can't be read, while what was reached in it is.
abbrev pub FailsSomewhere : List «Type» → Codec → ℕ → List ℕ → DecodeError → Type 0
FailsSomewhere types rule id input e = (r : Refusal) × (r.error ≡ e) × IsLocated types rule id input r

-- The input isn't one value, alone: some value in it can't be read; or octets follow, and the error has their number.
abbrev pub FailsWhole : List «Type» → Codec → ℕ → List ℕ → DecodeError → Type 0
FailsWhole types rule id input e = FailsSomewhere types rule id input e ⊎ IsFollowed rule (shape_of types id) input e

-- The same of an input whose DER octets are asked for; or memory runs out while they are read back.
abbrev pub IsReadingError : List «Type» → Codec → ℕ → List ℕ → NormaliseError → Type 0
IsReadingError types rule id input (NotRead e) = FailsWhole types rule id input e ⊎ IsOutOfMemory e.kind
IsReadingError types rule id input (NotWritten e) = Unit {0}
IsReadingError types rule id input NotCanonical = Unit {0}
