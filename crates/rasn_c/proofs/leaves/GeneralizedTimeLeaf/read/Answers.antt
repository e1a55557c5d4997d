use Rattle.rasn_types.specs.Trees.{unconstrained}
use Rattle.rasn_c.proofs.leaves.GeneralizedTimeLeaf.read.Goals as goal

pub returns-clause-reads : goal.returns-clause-reads
returns-clause-reads c = c.decode_generalized_time.ensures.reads unconstrained
