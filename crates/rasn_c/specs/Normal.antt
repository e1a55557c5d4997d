-- The one DER encoding of the value that octets encode, in a caller's buffer.
use Rattle.std.specs.Prelude.{◌≡◌, ◌<◌, ◌≤◌, ℕ, List, length}
use Rattle.rasn_types.specs.declared.types.codec.Codec.{Codec}
use Rattle.rasn_types.specs.Shapes.{Shape}
use Rattle.rasn.specs.declared.normal.NormaliseError.{NormaliseError}
use Rattle.rasn.specs.Normal.{IsNormal, IsOutOfMemoryAlone}
use Rattle.rasn_c.specs.Types.{IsShapeOf, IsUnknownType}
use Rattle.rasn_c.specs.Rules.{rule_number, IsUnknownRule}
use Rattle.rasn_c.specs.Buffers.{written_over}
use Rattle.rasn_c.specs.declared.status.Status.{Status}
use Rattle.rasn_c.specs.declared.status.Status.TheVariants.{Ok, Refused, OutOfMemory, BufferTooSmall, UnknownType, UnknownRule}

-- The type and the rules that a call names by their numbers.
pub record Asks (type number : ℕ) (shape : Shape) (rule : Codec) : Type 0 where
  pub shape_is : IsShapeOf type shape
  pub rule_is : number ≡ rule_number rule

-- The status of a refusal: a failed allocation exactly if nothing else is the cause.
abbrev pub IsRefusal : NormaliseError → Status → Type 0
IsRefusal error Refused = IsOutOfMemoryAlone error → ⊥
IsRefusal error OutOfMemory = IsOutOfMemoryAlone error
IsRefusal error _ = ⊥

-- The buffer is unchanged, and the length is 0.
pub record IsUntouched (old new : List ℕ) (needed : ℕ) : Type 0 where
  pub same : new ≡ old
  pub none : needed ≡ 0

-- The status of normalising octets: their DER octets are in the buffer, or don't fit in it, or there are none.
abbrev pub AnswersNormalise : ℕ → ℕ → List ℕ → List ℕ → List ℕ → ℕ → Status → Type 0
AnswersNormalise type number octets old new needed Ok = (rule : Codec) × (shape : Shape) × (normal : List ℕ) × Asks type number shape rule × IsNormal rule shape octets normal
    × (needed ≡ length normal) × (needed ≤ length old) × (new ≡ written_over normal old)
AnswersNormalise type number octets old new needed BufferTooSmall = (rule : Codec) × (shape : Shape) × (normal : List ℕ) × Asks type number shape rule × IsNormal rule shape octets normal
    × (needed ≡ length normal) × (length old < needed) × (new ≡ old)
AnswersNormalise type number octets old new needed Refused =
    ((rule : Codec) × (shape : Shape) × Asks type number shape rule × ((normal : List ℕ) → IsNormal rule shape octets normal → ⊥)) × IsUntouched old new needed
AnswersNormalise type number octets old new needed OutOfMemory = ((rule : Codec) × (shape : Shape) × Asks type number shape rule) × IsUntouched old new needed
AnswersNormalise type number octets old new needed UnknownType = IsUnknownType type × IsUntouched old new needed
AnswersNormalise type number octets old new needed UnknownRule = IsUnknownRule number × IsUntouched old new needed
AnswersNormalise type number octets old new needed _ = ⊥
