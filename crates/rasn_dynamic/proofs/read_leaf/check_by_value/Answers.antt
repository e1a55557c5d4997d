use Rattle.rasn_schema.specs.Trees.{tree_of}
use Rattle.rasn_dynamic.proofs.read_leaf.check_by_value.Goals as goal

pub returns-in-Ok-clause-reads : goal.returns-in-Ok-clause-reads
returns-in-Ok-clause-reads c = (tree_of c.in-Ok.value, c.in-Ok.ensures.reads)
