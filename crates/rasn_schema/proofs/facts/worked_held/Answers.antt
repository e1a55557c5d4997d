use Rattle.rasn_schema.proofs.WorkedHeld.{worked_held as law}
use Rattle.rasn_schema.proofs.facts.worked_held.Goals as goal

pub returns : goal.returns
returns c = law
