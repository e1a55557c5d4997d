-- Paths to parts as text: `extensions[1].extnValue`.
use Rattle.std.specs.Prelude.{◌≡◌, ◌≢◌, ◌<◌, ◌^◌, ◌⊎◌, ℕ, List, [], ◌∷◌, ◌++◌, Bool, true, false}
use Rattle.std.specs.Fmt.{decimal}
use Rattle.std.specs.List.{AllByRecursion}
use Rattle.std.specs.Str.{IsUtf8}
use Rattle.rasn_dynamic.specs.declared.steps.Step.{Step}
use Rattle.rasn_dynamic.specs.declared.steps.Step.TheVariants.{Name, Index}

-- an octet that isn't a point or an opening bracket
abbrev pub IsNameOctet : ℕ → Type 0
IsNameOctet c = (c ≢ 46) × (c ≢ 91)

-- A name isn't empty, and has no points and no opening brackets; an index is a number of 64 bits.
abbrev pub IsPlain : Step → Type 0
IsPlain (Name name) = (name.now ≢ []) × AllByRecursion IsNameOctet name.now
IsPlain (Index index) = index < 2 ^ 64

-- a point, unless nothing precedes
abbrev pub point : Bool → List ℕ
point true = []
point false = 46 ∷ []

-- The text of a step: a point precedes a name, unless the step is the first, and brackets are around an index.
abbrev pub step_text : Bool → Step → List ℕ
step_text is_first (Name name) = point is_first ++ name.now
step_text is_first (Index index) = 91 ∷ (decimal index ++ 93 ∷ [])

abbrev pub steps_text : Bool → List Step → List ℕ
steps_text is_first [] = []
steps_text is_first (step ∷ steps) = step_text is_first step ++ steps_text false steps

-- The text is that of these steps.
pub record AreStepsOf (text : List ℕ) (steps : List Step) : Type 0 where
  pub utf8 : IsUtf8 text
  pub plain : AllByRecursion IsPlain steps
  pub text_is : steps_text true steps ≡ text

-- ---- the step that a text begins with

-- A name ends at the end of the text, at a point, or at an opening bracket.
abbrev pub EndsName : List ℕ → Type 0
EndsName [] = Unit {0}
EndsName (c ∷ cs) = (c ≡ 46) ⊎ (c ≡ 91)

pub record IsFirstName (text name rest : List ℕ) : Type 0 where
  pub some : name ≢ []
  pub octets : AllByRecursion IsNameOctet name
  pub text_is : text ≡ name ++ rest
  pub ends : EndsName rest

pub record IsFirstIndex (text : List ℕ) (index : ℕ) (rest : List ℕ) : Type 0 where
  pub fits : index < 2 ^ 64
  pub text_is : text ≡ decimal index ++ 93 ∷ rest

-- The text is that of the step and the rest.
abbrev pub IsFirstStep : Bool → List ℕ → Step → List ℕ → Type 0
IsFirstStep is_first text (Name name) rest = (after : List ℕ) × (text ≡ point is_first ++ after) × IsFirstName after name.now rest
IsFirstStep is_first text (Index index) rest = (after : List ℕ) × (text ≡ 91 ∷ after) × IsFirstIndex after index rest
