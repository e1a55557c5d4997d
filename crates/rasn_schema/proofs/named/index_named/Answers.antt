use Rattle.std.proofs.Common.{arith}
use Rattle.rasn_schema.proofs.Lists.{so_far_more, so_far_end, read_at}
use Rattle.rasn_schema.proofs.named.index_named.Goals as goal

pub returns-then-has_name : goal.returns-then-has_name
returns-then-has_name g c = ((c.index-list-index.result, (read_at c.args.list.now c.loop-index.index c.index-list-index.result (let n = c.loop-index-test.true in omega arith) c.index-list-index.is), c.if-has_name.ensures), c.loop-index.invariant)

pub loop-index-preserved : goal.loop-index-preserved
loop-index-preserved g c = so_far_more _ c.args.list.now c.loop-index.index c.index-list-index.result (read_at c.args.list.now c.loop-index.index c.index-list-index.result (let n = c.loop-index-test.true in omega arith) c.index-list-index.is) c.if-has_name.ensures c.loop-index.invariant

pub returns : goal.returns
returns g c = so_far_end _ c.args.list.now c.loop-index.index (let n = c.loop-index-test.false in omega arith) c.loop-index.invariant
