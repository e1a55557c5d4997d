use Rattle.std.proofs.Common.{refl, arith}
use Rattle.rasn_schema.proofs.Lists.{so_far_more, so_far_end, read_at, not_empty}
use Rattle.rasn_schema.proofs.rules.numbers_fault.Goals as goal

pub returns-in-Some : goal.returns-in-Some
returns-in-Some c = (refl, c.in-Some.ensures.0, (c.index-numbers-index.result, c.in-Some.ensures.1.0, (read_at c.args.numbers.now c.loop-index.index c.index-numbers-index.result (let n = c.loop-index-test.true in omega arith) c.index-numbers-index.is), c.in-Some.ensures.1.1, c.in-Some.ensures.1.2))

pub loop-index-preserved : goal.loop-index-preserved
loop-index-preserved c = so_far_more _ c.args.numbers.now c.loop-index.index c.index-numbers-index.result (read_at c.args.numbers.now c.loop-index.index c.index-numbers-index.result (let n = c.loop-index-test.true in omega arith) c.index-numbers-index.is) c.in_default.ensures c.loop-index.invariant

pub returns : goal.returns
returns c = (c.if-is_no_tag.ensures, not_empty c.args.numbers.now c.if-is_empty.ensures, λ i j m n l d e. so_far_end _ c.args.numbers.now c.loop-index.index (let n = c.loop-index-test.false in omega arith) c.loop-index.invariant i m d j n l e)
