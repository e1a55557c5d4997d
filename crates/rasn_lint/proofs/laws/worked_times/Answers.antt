use Rattle.rasn_lint.proofs.WorkedTimes.{times}
use Rattle.rasn_lint.proofs.laws.worked_times.Goals as goal

pub returns : goal.returns
returns c = times
