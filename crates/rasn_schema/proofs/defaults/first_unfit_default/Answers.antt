use Rattle.std.proofs.Common.{arith}
use Rattle.rasn_schema.proofs.Lists.{so_far_more, so_far_end, read_at}
use Rattle.rasn_schema.proofs.defaults.first_unfit_default.Goals as goal

pub returns-in-Some : goal.returns-in-Some
returns-in-Some c = (c.index-types-number.result, read_at c.args.types.now c.loop-number.number c.index-types-number.result (let n = c.loop-number-test.true in omega arith) c.index-types-number.is, c.in-Some.ensures)

pub loop-number-preserved : goal.loop-number-preserved
loop-number-preserved c = so_far_more _ c.args.types.now c.loop-number.number c.index-types-number.result (read_at c.args.types.now c.loop-number.number c.index-types-number.result (let n = c.loop-number-test.true in omega arith) c.index-types-number.is) c.in_default.ensures c.loop-number.invariant

pub returns : goal.returns
returns c = so_far_end _ c.args.types.now c.loop-number.number (let n = c.loop-number-test.false in omega arith) c.loop-number.invariant
