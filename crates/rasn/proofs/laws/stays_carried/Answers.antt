use Rattle.rasn.proofs.StrictDer.Carried.{stays_carried as law}
use Rattle.rasn.proofs.laws.stays_carried.Goals as goal

pub returns : goal.returns
returns c = law
