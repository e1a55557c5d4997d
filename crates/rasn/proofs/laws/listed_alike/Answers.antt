use Rattle.rasn.proofs.LawsHold.Written.{listed_alike as law}
use Rattle.rasn.proofs.laws.listed_alike.Goals as goal

pub returns : goal.returns
returns c = law
