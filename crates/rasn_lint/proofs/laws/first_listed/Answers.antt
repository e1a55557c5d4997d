use Rattle.rasn_lint.proofs.Anew.{first_is_listed, closed_first_is_listed}
use Rattle.rasn_lint.proofs.laws.first_listed.Goals as goal

pub returns-clause-listed : goal.returns-clause-listed
returns-clause-listed c = first_is_listed

pub returns-clause-closed : goal.returns-clause-closed
returns-clause-closed c = closed_first_is_listed
