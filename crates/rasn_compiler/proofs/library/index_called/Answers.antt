use Rattle.std.proofs.Common.{arith, sym}
use Rattle.std.proofs.lemmas.Option.{slice_get-get_or}
use Rattle.rasn_schema.proofs.Lists.{so_far_more, so_far_end}
use Rattle.rasn_compiler.proofs.library.index_called.Goals as goal

pub returns-then-is_called : goal.returns-then-is_called
returns-then-is_called c = ((_, sym (slice_get-get_or c.args.roots.now c.loop-index.index _ (let n = c.loop-index-test.true in omega arith)), c.if-is_called.ensures), c.loop-index.invariant)

pub loop-index-preserved : goal.loop-index-preserved
loop-index-preserved c = so_far_more _ c.args.roots.now c.loop-index.index _ (sym (slice_get-get_or c.args.roots.now c.loop-index.index _ (let n = c.loop-index-test.true in omega arith))) c.if-is_called.ensures c.loop-index.invariant

pub returns : goal.returns
returns c = so_far_end _ c.args.roots.now c.loop-index.index (let n = c.loop-index-test.false in omega arith) c.loop-index.invariant
