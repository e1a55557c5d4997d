use Rattle.std.proofs.Common.{arith}
use Rattle.rasn_schema.proofs.Lists.{so_far_more, so_far_end, read_at}
use Rattle.rasn_schema.proofs.rules.same_number.Goals as goal

pub returns-then-is_same_number : goal.returns-then-is_same_number
returns-then-is_same_number c = (omega arith, (c.index-numbers-other.result, (read_at c.args.numbers.now c.loop-other.other c.index-numbers-other.result (let n = c.loop-other-test.true in omega arith) c.index-numbers-other.is), c.if-is_same_number.ensures))

pub loop-other-preserved : goal.loop-other-preserved
loop-other-preserved c = so_far_more _ c.args.numbers.now c.loop-other.other c.index-numbers-other.result (read_at c.args.numbers.now c.loop-other.other c.index-numbers-other.result (let n = c.loop-other-test.true in omega arith) c.index-numbers-other.is) (λ h. c.if-is_same_number.ensures) c.loop-other.invariant

pub returns : goal.returns
returns c = λ j n l e. so_far_end _ c.args.numbers.now c.loop-other.other (let n = c.loop-other-test.false in omega arith) c.loop-other.invariant j n e l
