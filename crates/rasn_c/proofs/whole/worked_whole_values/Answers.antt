use Rattle.rasn_c.proofs.WorkedWhole.{worked_whole as law}
use Rattle.rasn_c.proofs.whole.worked_whole_values.Goals as goal

pub returns : goal.returns
returns c = law
