-- The status that a function returns, and its number in C: `soq_status`.
use Rattle.std.specs.Prelude.{◌≡◌, ℕ}
use Rattle.rasn_c.specs.declared.status.Status.{Status}
use Rattle.rasn_c.specs.declared.status.Status.TheVariants.{Ok, Refused, OutOfMemory, BufferTooSmall, UnknownType, UnknownRule, BadSchema, UnknownPath, Absent}

abbrev pub status_number : Status → ℕ
status_number Ok = 0
status_number Refused = 1
status_number OutOfMemory = 2
status_number BufferTooSmall = 3
status_number UnknownType = 4
status_number UnknownRule = 5
status_number BadSchema = 6
status_number UnknownPath = 7
status_number Absent = 8

-- The number is that of a status for which `Is` holds.
pub record IsNumberOf (Is : Status → Type 0) (number : ℕ) : Type 0 where
  pub status : Status
  pub numbered : number ≡ status_number status
  pub is : Is status
