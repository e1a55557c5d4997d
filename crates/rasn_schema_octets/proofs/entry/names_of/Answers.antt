use Rattle.rasn_de.proofs.Leaves.Returns.{residual}
use Rattle.rasn_schema_octets.proofs.Whole.{names_refused}
use Rattle.rasn_schema_octets.proofs.entry.names_of.Goals as goal

pub returns-in_err-parts_of-in-Some : goal.returns-in_err-parts_of-in-Some
returns-in_err-parts_of-in-Some c = rw (residual _ c.from_residual.ensures.1, c.in-Some.is) (names_refused _ _ c.into_inner.ensures c.in_err-parts_of-in-Some.ensures)
