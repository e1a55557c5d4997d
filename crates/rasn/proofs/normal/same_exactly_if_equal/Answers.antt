use Rattle.rasn.proofs.Normalised.{same_exactly_if_equal as law}
use Rattle.rasn.proofs.normal.same_exactly_if_equal.Goals as goal

pub returns : goal.returns
returns c = law
