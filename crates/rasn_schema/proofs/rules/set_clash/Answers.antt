use Rattle.std.proofs.Common.{refl, arith}
use Rattle.rasn_schema.proofs.Lists.{so_far_more, so_far_end, read_at}
use Rattle.rasn_schema.proofs.rules.set_clash.Goals as goal

pub returns-in-Some : goal.returns-in-Some
returns-in-Some c = λ tag. (refl, c.in-Some.ensures.0, (c.index-components-index.result, c.in-Some.ensures.1.0, (read_at c.args.components.now c.loop-index.index c.index-components-index.result (let n = c.loop-index-test.true in omega arith) c.index-components-index.is), c.in-Some.ensures.1.1, c.in-Some.ensures.1.2))

pub loop-index-preserved : goal.loop-index-preserved
loop-index-preserved c = so_far_more _ c.args.components.now c.loop-index.index c.index-components-index.result (read_at c.args.components.now c.loop-index.index c.index-components-index.result (let n = c.loop-index-test.true in omega arith) c.index-components-index.is) c.in_default.ensures c.loop-index.invariant

pub returns : goal.returns
returns c = λ i j p q l d e. so_far_end _ c.args.components.now c.loop-index.index (let n = c.loop-index-test.false in omega arith) c.loop-index.invariant i p d j q l e
