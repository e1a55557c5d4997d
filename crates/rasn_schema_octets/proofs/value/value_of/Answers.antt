use Rattle.std.proofs.Common.{inr}
use Rattle.rasn_de.proofs.Leaves.Returns.{residual}
use Rattle.rasn_schema_octets.proofs.Begins.{whole_refused, not_whole, some_left}
use Rattle.rasn_schema_octets.proofs.value.value_of.Goals as goal

pub returns-in_err-value-clause-refused : goal.returns-in_err-value-clause-refused
returns-in_err-value-clause-refused c = rw (residual _ c.from_residual.ensures.1) (whole_refused _ _ c.in_err-value.ensures.refused)

pub returns-clause-refused : goal.returns-clause-refused
returns-clause-refused c = inr (not_whole _ _ _ c.in_ok-value.value c.in_ok-value.ensures.ok (some_left c.in_ok-value.rest.now _ c.is_empty.ensures c.if-is_empty.false))
