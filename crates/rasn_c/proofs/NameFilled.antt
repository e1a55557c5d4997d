-- The text of a name in a buffer.
use Rattle.std.proofs.Common.{ℕ, List}
use Rattle.rasn_c.specs.Buffers.{IsFilled}
use Rattle.rasn_c.specs.Names.{IsNamed, AnswersName}
use Rattle.rasn_c.specs.declared.status.Status.{Status}
use Rattle.rasn_c.specs.declared.status.Status.TheVariants.{Ok, Refused, OutOfMemory, BufferTooSmall, UnknownType, UnknownRule, BadSchema, UnknownPath, Absent}

pub filled : (status : Status) (code : ℕ) (octets old new ended : List ℕ) (needed : ℕ) → IsNamed code octets ended → IsFilled ended old new needed status → AnswersName code octets old new needed status
filled Ok code octets old new ended needed is (n, l, w) = (ended, is, n, l, w)
filled BufferTooSmall code octets old new ended needed is (n, l, w) = (ended, is, n, l, w)
filled Refused code octets old new ended needed is f = absurd f
filled OutOfMemory code octets old new ended needed is f = absurd f
filled UnknownType code octets old new ended needed is f = absurd f
filled UnknownRule code octets old new ended needed is f = absurd f
filled BadSchema code octets old new ended needed is f = absurd f
filled UnknownPath code octets old new ended needed is f = absurd f
filled Absent code octets old new ended needed is f = absurd f
