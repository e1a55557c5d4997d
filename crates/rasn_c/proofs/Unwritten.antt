-- Octets that have no normal encoding.
use Rattle.std.proofs.Common.{inl, inr, ℕ, List}
use Rattle.rasn_types.specs.declared.types.codec.Codec.{Codec}
use Rattle.rasn_types.specs.Shapes.{Shape}
use Rattle.rasn.specs.declared.normal.NormaliseError.{NormaliseError}
use Rattle.rasn.specs.Normal.{IsNoNormal}
use Rattle.rasn.proofs.Normalised.{no_normal}
use Rattle.rasn_c.specs.declared.status.Status.{Status}
use Rattle.rasn_c.specs.declared.status.Status.TheVariants.{Ok, Refused, OutOfMemory, BufferTooSmall, UnknownType, UnknownRule, BadSchema, UnknownPath, Absent}
use Rattle.rasn_c.specs.Normal.{Asks, IsRefusal, IsUntouched, AnswersNormalise}

-- What is refused for another cause than memory has none.
pub refused : {type number : ℕ} {rule : Codec} {shape : Shape} {old new : List ℕ} {needed : ℕ} (input : List ℕ) (error : NormaliseError) (status : Status) → IsRefusal error status
    → Asks type number shape rule → IsNoNormal rule shape input error → IsUntouched old new needed → AnswersNormalise type number input old new needed status
refused {type} {number} {rule} {shape} input error Refused is asks none same = (
  (
    rule,
    shape,
    asks,
    λ normal m. elim (no_normal error none) [
      | inl memory ↦ is memory
      | inr missing ↦ missing normal m
    ],
  ),
  same,
)
refused {type} {number} {rule} {shape} input error OutOfMemory is asks none same = ((rule, shape, asks), same)
refused input error Ok is asks none same = absurd is
refused input error BufferTooSmall is asks none same = absurd is
refused input error UnknownType is asks none same = absurd is
refused input error UnknownRule is asks none same = absurd is
refused input error BadSchema is asks none same = absurd is
refused input error UnknownPath is asks none same = absurd is
refused input error Absent is asks none same = absurd is
