use Rattle.rasn.proofs.LawsHold.Written.{one_encoding as law}
use Rattle.rasn.proofs.laws.one_encoding.Goals as goal

pub returns : goal.returns
returns c = law
