use Rattle.rasn_types.specs.Shapes.{every}
use Rattle.rasn_c.proofs.LeafMemory.{takes_long}
use Rattle.rasn_c.proofs.leaves.IntegerLeaf.read.Goals as goal

pub returns-clause-memory : goal.returns-clause-memory
returns-clause-memory c = takes_long 0 every c.args.tag c.args.decoder.now c.decode_integer.new.self c.decode_integer.result c.decode_integer.ensures.memory
