use Rattle.std.proofs.Common.{refl}
use Rattle.rasn_dynamic.proofs.trace.mark.Goals as goal

pub returns-in-None : goal.returns-in-None
returns-in-None c = rw c.in-None.is (_, refl, refl, refl, c.new.ensures.items, refl)
