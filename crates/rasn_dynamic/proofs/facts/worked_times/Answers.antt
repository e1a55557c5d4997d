use Rattle.rasn_dynamic.proofs.WorkedTimes.{worked}
use Rattle.rasn_dynamic.proofs.facts.worked_times.Goals as goal

pub returns : goal.returns
returns c = worked
