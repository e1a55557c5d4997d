use Rattle.std.proofs.Common.{arith}
use Rattle.rasn_schema.proofs.Lists.{so_far_more, so_far_end, read_at}
use Rattle.rasn_schema.proofs.rules.clashing_component.Goals as goal

pub returns-then-not-is_distinct : goal.returns-then-not-is_distinct
returns-then-not-is_distinct c = (omega arith, (c.index-components-other.result, (read_at c.args.components.now c.loop-other.other c.index-components-other.result (let n = c.loop-other-test.true in omega arith) c.index-components-other.is), c.if-not-is_distinct.ensures))

pub loop-other-preserved : goal.loop-other-preserved
loop-other-preserved c = so_far_more _ c.args.components.now c.loop-other.other c.index-components-other.result (read_at c.args.components.now c.loop-other.other c.index-components-other.result (let n = c.loop-other-test.true in omega arith) c.index-components-other.is) (λ h. c.if-not-is_distinct.ensures) c.loop-other.invariant

pub returns : goal.returns
returns c = λ j q l e. so_far_end _ c.args.components.now c.loop-other.other (let n = c.loop-other-test.false in omega arith) c.loop-other.invariant j q e l
