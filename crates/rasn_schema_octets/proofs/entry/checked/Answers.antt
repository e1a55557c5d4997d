use Rattle.rasn_schema_octets.proofs.Whole.{stop_is_wrong, types_refused}
use Rattle.rasn_schema_octets.proofs.entry.checked.Goals as goal

pub returns-in_err-types-clause-fault : goal.returns-in_err-types-clause-fault
returns-in_err-types-clause-fault c = stop_is_wrong _ _ _ c.from_residual.ensures.1 (types_refused c.args.form c.in_err-types.ensures)
