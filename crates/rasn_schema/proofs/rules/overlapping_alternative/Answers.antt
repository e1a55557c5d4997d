use Rattle.std.proofs.Common.{arith}
use Rattle.rasn_schema.proofs.Lists.{so_far_more, so_far_end, read_at}
use Rattle.rasn_schema.proofs.rules.overlapping_alternative.Goals as goal
use Rattle.rasn_schema.proofs.rules.overlapping_alternative.Goals.{else-has_tag-via-then-has_tag+else-not-is_distinct, else-has_tag-via-else-has_tag}

pub returns-then-not-is_distinct : goal.returns-then-not-is_distinct
returns-then-not-is_distinct c = (omega arith, (c.index-alternatives-other.result, (read_at c.args.alternatives.now c.loop-other.other c.index-alternatives-other.result (let n = c.loop-other-test.true in omega arith) c.index-alternatives-other.is), c.if-has_tag.ensures, c.if-not-is_distinct.ensures))

pub loop-other-preserved : goal.loop-other-preserved
loop-other-preserved c = so_far_more _ c.args.alternatives.now c.loop-other.other c.index-alternatives-other.result (read_at c.args.alternatives.now c.loop-other.other c.index-alternatives-other.result (let n = c.loop-other-test.true in omega arith) c.index-alternatives-other.is) (elim c.else-has_tag.branch [ else-has_tag-via-then-has_tag+else-not-is_distinct w ↦ λ h t. w.if-not-is_distinct.ensures | else-has_tag-via-else-has_tag w ↦ λ h t. absurd (w.if-has_tag.ensures t) ]) c.loop-other.invariant

pub returns : goal.returns
returns c = λ j a l e t. so_far_end _ c.args.alternatives.now c.loop-other.other (let n = c.loop-other-test.false in omega arith) c.loop-other.invariant j a e l t
