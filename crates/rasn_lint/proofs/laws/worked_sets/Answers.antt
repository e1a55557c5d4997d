use Rattle.rasn_lint.proofs.WorkedSets.{worked_sets}
use Rattle.rasn_lint.proofs.laws.worked_sets.Goals as goal

pub returns : goal.returns
returns c = worked_sets
