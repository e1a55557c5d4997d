use Rattle.rasn_schema.proofs.WorkedLeaves.{worked_leaves as law}
use Rattle.rasn_schema.proofs.facts.worked_leaves.Goals as goal

pub returns : goal.returns
returns c = law
