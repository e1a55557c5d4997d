use Rattle.rasn_de.proofs.Leaves.Returns.{residual}
use Rattle.rasn_schema_octets.proofs.Said.{sequence_refused}
use Rattle.rasn_schema_octets.proofs.mirrored.sequence.Goals as goal

pub returns-in_err-parts_of : goal.returns-in_err-parts_of
returns-in_err-parts_of c = rw (residual _ c.from_residual.ensures.1) (sequence_refused _ _ c.in_err-parts_of.ensures)
