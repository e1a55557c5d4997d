use Rattle.rasn_schema.proofs.WorkedFitting.{worked_fitting as law}
use Rattle.rasn_schema.proofs.facts.worked_fitting.Goals as goal

pub returns : goal.returns
returns c = law
