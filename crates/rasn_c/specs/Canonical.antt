-- The check that octets are the one DER encoding of a value of a type.
use Rattle.std.specs.Prelude.{ℕ, List, Bool, true, false, Option, Some, None, Result, Ok as Answers, Err}
use Rattle.std.specs.declared.alloc.AllocError.{AllocError}
use Rattle.rasn_types.specs.declared.types.codec.Codec.TheVariants.{Der}
use Rattle.rasn_types.specs.Shapes.{Shape}
use Rattle.rasn.specs.Normal.{IsNormal}
use Rattle.rasn_c.specs.Types.{IsShapeOf, IsUnknownType}
use Rattle.rasn_c.specs.declared.status.Status.{Status}
use Rattle.rasn_c.specs.declared.status.Status.TheVariants.{Ok, Refused, OutOfMemory, UnknownType}

-- The status of a check that octets are the one DER encoding of a value of the type with this number.
abbrev pub AnswersCheck : ℕ → List ℕ → Status → Type 0
AnswersCheck type octets Ok = (shape : Shape) × IsShapeOf type shape × IsNormal Der shape octets octets
AnswersCheck type octets Refused = (shape : Shape) × IsShapeOf type shape × (IsNormal Der shape octets octets → ⊥)
AnswersCheck type octets OutOfMemory = (shape : Shape) × IsShapeOf type shape
AnswersCheck type octets UnknownType = IsUnknownType type
AnswersCheck type octets _ = ⊥

-- The status of a check by its result: a failed allocation is nothing else, and nothing else is one.
abbrev pub check_status : Option (Result Bool AllocError) → Status
check_status (Some (Answers true)) = Ok
check_status (Some (Answers false)) = Refused
check_status (Some (Err e)) = OutOfMemory
check_status None = UnknownType
