use Rattle.rasn.proofs.OneRefusal.Laws.{leaves as apart, decided, settled}
use Rattle.rasn.proofs.refusal_laws.leaves.Goals as goal

pub returns-clause-apart : goal.returns-clause-apart
returns-clause-apart c = apart

pub returns-clause-none : goal.returns-clause-none
returns-clause-none c = decided

pub returns-clause-settled : goal.returns-clause-settled
returns-clause-settled c = settled
