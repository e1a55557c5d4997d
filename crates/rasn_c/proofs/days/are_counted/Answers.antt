use Rattle.rasn_c.proofs.Counted.{are_counted}
use Rattle.rasn_c.proofs.days.are_counted.Goals as goal

pub returns : goal.returns
returns c = are_counted
