use Rattle.rasn_types.specs.Trees.{unconstrained}
use Rattle.rasn_c.proofs.leaves.UtcTimeLeaf.read.Goals as goal

pub returns-clause-reads : goal.returns-clause-reads
returns-clause-reads c = c.decode_utc_time.ensures.reads unconstrained
