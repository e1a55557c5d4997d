use Rattle.rasn_dynamic.proofs.SameParts.{parts_determined as law}
use Rattle.rasn_dynamic.proofs.facts.parts_determined.Goals as goal

pub returns : goal.returns
returns c = law
