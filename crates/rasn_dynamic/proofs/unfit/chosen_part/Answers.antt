use Rattle.std.proofs.Common.{refl, sym}
use Rattle.rasn_schema.proofs.Lists.{read_at}
use Rattle.rasn_dynamic.proofs.unfit.chosen_part.Goals as goal

pub returns : goal.returns
returns c = rw c.in-Chosen.is (refl, sym c.deref.ensures, (c.in_ok-alternative.alternative.now, read_at _ _ _ c.in_ok-alternative.ensures.lookup.3.0 c.in_ok-alternative.ensures.lookup.1, refl))
