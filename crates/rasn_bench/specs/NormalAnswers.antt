-- The results that the program prints for lines when it normalises.
use Rattle.std.specs.Prelude.{◌≡◌, ℕ, ◌⊎◌, List, codes, Vec, Result, Ok, Err}
use Rattle.std.specs.Global.{Global}
use Rattle.rasn_types.specs.declared.types.codec.Codec.{Codec}
use Rattle.rasn_types.specs.Shapes.{Shape}
use Rattle.rasn_bench.specs.declared.line.ValueType.{ValueType}
use Rattle.rasn_bench.specs.declared.normal_answer.NormalAnswer.{NormalAnswer}
use Rattle.rasn_bench.specs.declared.normal_answer.NormalAnswer.TheVariants.{Normal, Refused, Malformed}
use Rattle.rasn_bench.specs.Answers.{shape_of}
use Rattle.rasn_bench.specs.Lines.{Asks}
use Rattle.rasn.specs.Normal.{IsNormal, IsOutOfMemoryAlone}
use Rattle.rasn.specs.declared.normal.NormaliseError.{NormaliseError}

-- The result of normalising these octets. The cause `OutOfMemory` may be reported for any octets.
abbrev pub IsNormalAnswer : Codec → Shape → List ℕ → NormalAnswer → Type 0
IsNormalAnswer rule shape input (Normal octets) = IsNormal rule shape input octets.items
IsNormalAnswer rule shape input (Refused cause) = (cause.now ≡ codes "OutOfMemory") ⊎ ((octets : List ℕ) → IsNormal rule shape input octets → ⊥)
IsNormalAnswer rule shape input Malformed = ⊥

-- The result for the line, if its types have these shapes.
abbrev pub IsNormalAnswerBy : (ValueType → Shape) → List ℕ → NormalAnswer → Type 0
IsNormalAnswerBy shape line Malformed = (rule : Codec) (kind : ValueType) (octets : List ℕ) → Asks line rule kind octets → ⊥
IsNormalAnswerBy shape line answer = (rule : Codec) × (kind : ValueType) × (octets : List ℕ) × Asks line rule kind octets × IsNormalAnswer rule (shape kind) octets answer

abbrev pub IsNormalAnswerTo : List ℕ → NormalAnswer → Type 0
IsNormalAnswerTo line answer = IsNormalAnswerBy shape_of line answer

-- The result reports what normalising returned: the octets, or why there are none.
abbrev pub IsNormalisedAnswer : Result (Vec ℕ Global) NormaliseError → NormalAnswer → Type 0
IsNormalisedAnswer (Ok octets) (Normal written) = written ≡ octets
IsNormalisedAnswer (Err e) (Refused cause) = IsOutOfMemoryAlone e → cause.now ≡ codes "OutOfMemory"
IsNormalisedAnswer _ _ = ⊥
