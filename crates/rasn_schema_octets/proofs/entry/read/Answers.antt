use Rattle.rasn_schema_octets.proofs.Whole.{has_error, none_has}
use Rattle.rasn_schema_octets.proofs.entry.read.Goals as goal

pub returns-in-Ok-clause-error : goal.returns-in-Ok-clause-error
returns-in-Ok-clause-error c = none_has _ _ _ c.checked.ensures.fault

pub returns-in-Err-clause-error : goal.returns-in-Err-clause-error
returns-in-Err-clause-error c = has_error _ c.in-Err.error c.in-Err.ensures.errors _ c.read_fault.ensures.error
