use Rattle.rasn.proofs.StrictDer.AllCarried.{all_carried as law}
use Rattle.rasn.proofs.laws.all_carried.Goals as goal

pub returns : goal.returns
returns c = law
