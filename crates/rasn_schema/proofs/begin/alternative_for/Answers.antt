use Rattle.std.proofs.Common.{arith}
use Rattle.rasn_schema.specs.Shapes.{shape_of_type}
use Rattle.rasn_schema.proofs.Alternatives.{first_of_none}
use Rattle.rasn_schema.proofs.Lists.{so_far_more, so_far_end, read_at}
use Rattle.rasn_schema.proofs.begin.alternative_for.Goals as goal

pub returns-then-begins : goal.returns-then-begins
returns-then-begins c = (c.index-alternatives-index.result, (read_at c.args.alternatives.now c.loop-index.index c.index-alternatives-index.result (let n = c.loop-index-test.true in omega arith) c.index-alternatives-index.is, c.if-begins.ensures, c.loop-index.invariant))

pub loop-index-preserved : goal.loop-index-preserved
loop-index-preserved c = so_far_more _ c.args.alternatives.now c.loop-index.index c.index-alternatives-index.result (read_at c.args.alternatives.now c.loop-index.index c.index-alternatives-index.result (let n = c.loop-index-test.true in omega arith) c.index-alternatives-index.is) c.if-begins.ensures c.loop-index.invariant

pub returns : goal.returns
returns c = first_of_none (shape_of_type c.args.types.now c.args.levels) c.args.tag c.args.alternatives.now (so_far_end _ c.args.alternatives.now c.loop-index.index (let n = c.loop-index-test.false in omega arith) c.loop-index.invariant)
