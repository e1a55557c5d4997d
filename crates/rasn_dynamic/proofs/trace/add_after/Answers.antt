use Rattle.std.proofs.Common.{refl}
use Rattle.rasn_dynamic.proofs.trace.add_after.Goals as goal

pub returns-in-Some : goal.returns-in-Some
returns-in-Some c = rw c.in-Some.is (_, refl, refl, refl, refl, refl)
