use Rattle.rasn.proofs.LawsHold.Written.{canonical as law}
use Rattle.rasn.proofs.laws.canonical.Goals as goal

pub returns : goal.returns
returns c = law
