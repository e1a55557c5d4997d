use Rattle.std.proofs.Common.{refl}
use Rattle.rasn_c.specs.Checking.{opens_of}
use Rattle.rasn_c.proofs.Checked.{departed_from}
use Rattle.rasn_c.proofs.checking.check_der.Goals as goal

pub returns-in-Err : goal.returns-in-Err
returns-in-Err c = departed_from (opens_of c.args.open_types) c.args.schema.now c.args.root c.args.octets.now c.in-Err.departure c.of_refusal.result (rw c.open_types_of.ensures at c.in-Err.ensures) c.of_refusal.result.status refl (rw c.indices_of-inner.ensures at c.of_refusal.ensures)
