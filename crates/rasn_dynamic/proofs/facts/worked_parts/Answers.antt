use Rattle.rasn_dynamic.proofs.WorkedParts.{worked_parts as law}
use Rattle.rasn_dynamic.proofs.facts.worked_parts.Goals as goal

pub returns : goal.returns
returns c = law
