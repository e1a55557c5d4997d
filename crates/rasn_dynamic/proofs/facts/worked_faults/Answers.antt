use Rattle.rasn_dynamic.proofs.WorkedFaults.{worked_faults as law}
use Rattle.rasn_dynamic.proofs.facts.worked_faults.Goals as goal

pub returns : goal.returns
returns c = law
