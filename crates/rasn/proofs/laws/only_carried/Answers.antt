use Rattle.rasn.proofs.StrictDer.Carried.{only_carried as law}
use Rattle.rasn.proofs.laws.only_carried.Goals as goal

pub returns : goal.returns
returns c = law
