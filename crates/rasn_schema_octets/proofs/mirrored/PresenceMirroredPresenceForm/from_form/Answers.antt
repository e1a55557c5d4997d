use Rattle.std.proofs.Common.{rules}
use Rattle.rasn_de.proofs.Leaves.Returns.{residual}
use Rattle.rasn_schema_octets.proofs.Said.{nodes_refused}
use Rattle.rasn_schema_octets.proofs.mirrored.PresenceMirroredPresenceForm.from_form.Goals as goal

pub returns-in_err-value_of-in-Default : goal.returns-in_err-value_of-in-Default
returns-in_err-value_of-in-Default c = rw (residual _ c.from_residual.ensures.1, c.in-Default.is) (nodes_refused _ _ (search rules) c.in_err-value_of-in-Default.ensures.refused)
