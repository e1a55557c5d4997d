-- The DER encoding of the value that an input holds.
use Rattle.std.specs.Prelude.{◌≡◌, ◌⊎◌, ◌↔◌, ℕ, List, [], Option, Some, codes}
use Rattle.rasn_types.specs.declared.types.codec.Codec.{Codec}
use Rattle.rasn_types.specs.declared.types.codec.Codec.TheVariants.{Der}
use Rattle.rasn_types.specs.declared.error.decode.DecodeError.{DecodeError}
use Rattle.rasn_types.specs.Errors.{IsOutOfMemory, IsEncodeOutOfMemory}
use Rattle.rasn_types.specs.ErrorText.{shown_decode_error, shown_encode_error}
use Rattle.rasn_types.specs.Shapes.{Tree, Shape}
use Rattle.rasn_types.specs.Grammar.{Reads, top}
use Rattle.rasn_types.specs.Bytes.{Same, Bytes}
use Rattle.rasn_types.specs.Carried.{Carried}
use Rattle.rasn_types.specs.Lawful.{IsLawful}
use Rattle.rasn_de.specs.Outcomes.{Exact, Got, refusal}
use Rattle.rasn_de.specs.ValueErrors.{Errors}
use Rattle.rasn_enc.specs.Encoding.{NoEncoding}
use Rattle.rasn.specs.Headline.{IsFollowed}
use Rattle.rasn.specs.Refusals.{FailsAlone}
use Rattle.rasn.specs.declared.normal.NormaliseError.{NormaliseError}
use Rattle.rasn.specs.declared.normal.NormaliseError.TheVariants.{Decode, Encode, NotCanonical}

-- All of the input is read as this tree, and the input is read as no other.
abbrev pub Means : Codec → Shape → List ℕ → Tree → Type 0
Means rule s input t = Exact (Reads rule s 128 (top rule)) input (Got t [])

-- The octets are the DER octets of the value that is all of the input by these rules, and DER reads them as the same
-- value.
pub record IsNormal (rule : Codec) (s : Shape) (input octets : List ℕ) : Type 0 where
  pub value : Tree
  pub means : Means rule s input value
  pub written : Bytes Der s value octets
  pub again : Tree
  pub read_again : Means Der s octets again
  pub same : Same value again

-- The value has DER octets, but DER doesn't read them, alone, as the same value.
pub record IsNotCanonical (rule : Codec) (s : Shape) (input : List ℕ) : Type 0 where
  pub value : Tree
  pub means : Means rule s input value
  pub octets : List ℕ
  pub written : Bytes Der s value octets
  pub other : (again : Tree) → Reads Der s 128 (top Der) octets again [] → Same value again → ⊥

-- Why there is no normal encoding, if no allocation fails: the rules don't read the input, or octets follow the value;
-- the value has no DER octets; or DER doesn't read these back as the same value.
abbrev pub IsNoNormal : Codec → Shape → List ℕ → NormaliseError → Type 0
IsNoNormal rule s input (Decode e) = Exact (Reads rule s 128 (top rule)) input (refusal e.kind) ⊎ IsFollowed rule s input e
IsNoNormal rule s input (Encode e) = IsEncodeOutOfMemory e.kind ⊎ ((value : Tree) × Means rule s input value × NoEncoding Der s value)
IsNoNormal rule s input NotCanonical = IsNotCanonical rule s input

-- An allocation fails while DER reads back the DER octets of the value that is all of the input.
pub record FailsReadBack (errors : Errors) (rule : Codec) (s : Shape) (input : List ℕ) (e : DecodeError) : Type 0 where
  pub value : Tree
  pub means : Means rule s input value
  pub octets : List ℕ
  pub written : Bytes Der s value octets
  pub memory : IsOutOfMemory e.kind
  pub fails : FailsAlone errors Der s octets e

-- An error of a read is one of these, of the read of the input; or an allocation fails while the octets are read back.
abbrev pub IsReadingError : Errors → Codec → Shape → List ℕ → NormaliseError → Type 0
IsReadingError errors rule s input (Decode e) = FailsAlone errors rule s input e ⊎ FailsReadBack errors rule s input e
IsReadingError errors rule s input (Encode e) = Unit {0}
IsReadingError errors rule s input NotCanonical = Unit {0}

-- The error names the rules by which the input was read; or DER, if DER had to write the value or to read it back.
abbrev pub IsByRules : Codec → NormaliseError → Type 0
IsByRules rule (Decode e) = (e.codec ≡ rule) ⊎ (IsOutOfMemory e.kind × (e.codec ≡ Der))
IsByRules rule (Encode e) = e.codec ≡ Der
IsByRules rule NotCanonical = Unit {0}

abbrev pub IsOutOfMemoryAlone : NormaliseError → Type 0
IsOutOfMemoryAlone (Decode e) = IsOutOfMemory e.kind
IsOutOfMemoryAlone (Encode e) = IsEncodeOutOfMemory e.kind
IsOutOfMemoryAlone NotCanonical = ⊥

-- All of the input is read as this tree, which is carried under DER.
pub record IsCarriedIn (rule : Codec) (s : Shape) (input : List ℕ) (t : Tree) : Type 0 where
  pub reads : Reads rule s 128 (top rule) input t []
  pub carried : Carried Der s t

-- If the input is a carried value of a lawful shape, a carried tree has these DER octets exactly if it is the same as
-- the input's.
abbrev pub IsIdentified : Codec → Shape → List ℕ → List ℕ → Type 0
IsIdentified rule s input octets = IsLawful s → (t : Tree) → IsCarriedIn rule s input t → (u : Tree) (c : Carried Der s u) → (Same t u ↔ (octets ≡ c.octets))

-- DER reads the octets as a carried value, and they are its only normal encoding.
pub record IsStable (s : Shape) (octets : List ℕ) : Type 0 where
  pub value : Tree
  pub carried : IsCarriedIn Der s octets value
  pub again : IsNormal Der s octets octets
  pub only : (other : List ℕ) → IsNormal Der s octets other → other ≡ octets

-- If the input is a carried value of a lawful shape, the octets are their own normal encoding.
abbrev pub IsKept : Codec → Shape → List ℕ → List ℕ → Type 0
IsKept rule s input octets = IsLawful s → (t : Tree) → IsCarriedIn rule s input t → IsStable s octets

-- If the input is a carried value of a lawful shape and DER reads it, the octets are the input itself.
abbrev pub IsUnchanged : Codec → Shape → List ℕ → List ℕ → Type 0
IsUnchanged rule s input octets = IsLawful s → (t : Tree) → IsCarriedIn rule s input t → (u : Tree) → Reads Der s 128 (top Der) input u [] → octets ≡ input

-- If the input is a carried value of a lawful shape, the only failure is that of an allocation.
abbrev pub IsAnswered : Codec → Shape → List ℕ → NormaliseError → Type 0
IsAnswered rule s input e = IsLawful s → (t : Tree) → IsCarriedIn rule s input t → IsOutOfMemoryAlone e

-- Two inputs of carried values of a lawful shape, each read by any rules, have the same normal encoding exactly if
-- their values are the same.
abbrev pub SameExactlyIfEqual : Type 0
SameExactlyIfEqual = (s : Shape) → IsLawful s → (rule other : Codec) (input second : List ℕ) (t u : Tree) → IsCarriedIn rule s input t → IsCarriedIn other s second u
    → (a b : List ℕ) → IsNormal rule s input a → IsNormal other s second b → (Same t u ↔ (a ≡ b))

-- The text of an error is that of its cause.
abbrev pub shown_normalise_error : NormaliseError → Option (List ℕ)
shown_normalise_error (Decode error) = shown_decode_error error
shown_normalise_error (Encode error) = shown_encode_error error
shown_normalise_error NotCanonical = Some (codes "the value isn't read back from its DER octets")
