use Rattle.std.proofs.Common.{arith}
use Rattle.rasn_schema.proofs.Lists.{so_far_more, so_far_end, read_at}
use Rattle.rasn_schema.proofs.rules.misplaced_unknown.Goals as goal

pub returns-then-not-is_well_placed : goal.returns-then-not-is_well_placed
returns-then-not-is_well_placed c = (c.index-components-index.result, (read_at c.args.components.now c.loop-index.index c.index-components-index.result (let n = c.loop-index-test.true in omega arith) c.index-components-index.is), c.if-not-is_well_placed.ensures)

pub loop-index-preserved : goal.loop-index-preserved
loop-index-preserved c = so_far_more _ c.args.components.now c.loop-index.index c.index-components-index.result (read_at c.args.components.now c.loop-index.index c.index-components-index.result (let n = c.loop-index-test.true in omega arith) c.index-components-index.is) c.if-not-is_well_placed.ensures c.loop-index.invariant

pub returns : goal.returns
returns c = so_far_end _ c.args.components.now c.loop-index.index (let n = c.loop-index-test.false in omega arith) c.loop-index.invariant
