use Rattle.rasn_dynamic.specs.LeafErrors.{leaf_errors}
use Rattle.rasn_dynamic.proofs.read_leaf.make_leaf.Goals as goal

pub returns-in-Boolean-clause-fails : goal.returns-in-Boolean-clause-fails
unfolding leaf_errors
returns-in-Boolean-clause-fails c = rw c.in-Boolean.is c.make_boolean.ensures.fails
