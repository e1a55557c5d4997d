use Rattle.std.proofs.Common.{refl, arith}
use Rattle.rasn_schema.proofs.Lists.{so_far_more, so_far_end, read_at}
use Rattle.rasn_schema.proofs.rules.late_or_untagged.Goals as goal

pub returns-then-alternative-id : goal.returns-then-alternative-id
returns-then-alternative-id c = (refl, (c.index-alternatives-index.result, (read_at c.args.alternatives.now c.loop-index.index c.index-alternatives-index.result (let n = c.loop-index-test.true in omega arith) c.index-alternatives-index.is), λ n. omega arith))

pub returns-then-not-is_tagged_or_open : goal.returns-then-not-is_tagged_or_open
returns-then-not-is_tagged_or_open c = (refl, (c.index-alternatives-index.result, (read_at c.args.alternatives.now c.loop-index.index c.index-alternatives-index.result (let n = c.loop-index-test.true in omega arith) c.index-alternatives-index.is), c.if-not-is_tagged_or_open.ensures))

pub loop-index-preserved : goal.loop-index-preserved
loop-index-preserved c = so_far_more _ c.args.alternatives.now c.loop-index.index c.index-alternatives-index.result (read_at c.args.alternatives.now c.loop-index.index c.index-alternatives-index.result (let n = c.loop-index-test.true in omega arith) c.index-alternatives-index.is) (omega arith, c.if-not-is_tagged_or_open.ensures) c.loop-index.invariant

pub returns : goal.returns
returns c = so_far_end _ c.args.alternatives.now c.loop-index.index (let n = c.loop-index-test.false in omega arith) c.loop-index.invariant
