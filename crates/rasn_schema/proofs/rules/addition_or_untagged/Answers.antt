use Rattle.std.proofs.Common.{refl, arith}
use Rattle.rasn_schema.proofs.Lists.{so_far_more, so_far_end, read_at}
use Rattle.rasn_schema.proofs.rules.addition_or_untagged.Goals as goal

pub returns-then-is_addition : goal.returns-then-is_addition
returns-then-is_addition c = λ tag. (refl, (c.index-components-index.result, (read_at c.args.components.now c.loop-index.index c.index-components-index.result (let n = c.loop-index-test.true in omega arith) c.index-components-index.is), c.if-is_addition.ensures))

pub returns-then-not-is_tagged_or_unknown : goal.returns-then-not-is_tagged_or_unknown
returns-then-not-is_tagged_or_unknown c = λ tag. (refl, (c.index-components-index.result, (read_at c.args.components.now c.loop-index.index c.index-components-index.result (let n = c.loop-index-test.true in omega arith) c.index-components-index.is), c.if-not-is_tagged_or_unknown.ensures))

pub loop-index-preserved : goal.loop-index-preserved
loop-index-preserved c = so_far_more _ c.args.components.now c.loop-index.index c.index-components-index.result (read_at c.args.components.now c.loop-index.index c.index-components-index.result (let n = c.loop-index-test.true in omega arith) c.index-components-index.is) (c.if-is_addition.ensures, c.if-not-is_tagged_or_unknown.ensures) c.loop-index.invariant

pub returns : goal.returns
returns c = so_far_end _ c.args.components.now c.loop-index.index (let n = c.loop-index-test.false in omega arith) c.loop-index.invariant
