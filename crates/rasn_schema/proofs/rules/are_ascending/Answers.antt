use Rattle.std.proofs.Common.{◌-◌, arith}
use Rattle.rasn_schema.proofs.Lists.{read_at}
use Rattle.rasn_schema.proofs.Ascending.{ascend_one, ascend_more, ascend_all}
use Rattle.rasn_schema.proofs.rules.are_ascending.Goals as goal

pub loop-index-init : goal.loop-index-init
loop-index-init c = ascend_one c.args.numbers.now

pub loop-index-preserved : goal.loop-index-preserved
loop-index-preserved c =
    let l = c.args.numbers.now in
    let i = c.loop-index.index in
    let first = c.loop-index.auto.index in
    let end = c.loop-index-test.true in
    ascend_more l i c.index-numbers-index.result c.index-numbers-index-in-loop-index.result (omega (arith, first)) (read_at l (i - 1) c.index-numbers-index.result (omega (arith, end)) c.index-numbers-index.is)
    (read_at l i c.index-numbers-index-in-loop-index.result end c.index-numbers-index-in-loop-index.is) c.if-not-is_below.ensures c.loop-index.invariant

pub returns : goal.returns
returns c = λ h. ascend_all c.args.numbers.now c.loop-index.index (let n = c.loop-index-test.false in omega arith) c.loop-index.invariant
