use Rattle.rasn_print.proofs.WorkedQueries.{worked_queries}
use Rattle.rasn_print.proofs.laws.worked_queries.Goals as goal

pub returns : goal.returns
returns c = worked_queries
