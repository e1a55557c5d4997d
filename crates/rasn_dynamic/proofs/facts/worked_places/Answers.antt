use Rattle.rasn_dynamic.proofs.Worked.{worked_places as law}
use Rattle.rasn_dynamic.proofs.facts.worked_places.Goals as goal

pub returns : goal.returns
returns c = law
