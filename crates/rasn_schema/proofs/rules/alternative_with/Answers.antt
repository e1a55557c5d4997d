use Rattle.std.proofs.Common.{arith}
use Rattle.rasn_schema.proofs.Lists.{so_far_more, so_far_end, read_at}
use Rattle.rasn_schema.proofs.rules.alternative_with.Goals as goal
use Rattle.rasn_schema.proofs.rules.alternative_with.Goals.{else-begins-via-then-begins+else-has_tag, else-begins-via-else-begins}

pub returns-then-has_tag : goal.returns-then-has_tag
returns-then-has_tag c = (omega arith, (c.index-alternatives-other.result, (read_at c.args.alternatives.now c.loop-other.other c.index-alternatives-other.result (let n = c.loop-other-test.true in omega arith) c.index-alternatives-other.is), c.if-has_tag.ensures, c.if-begins.ensures))

pub loop-other-preserved : goal.loop-other-preserved
loop-other-preserved c = so_far_more _ c.args.alternatives.now c.loop-other.other c.index-alternatives-other.result (read_at c.args.alternatives.now c.loop-other.other c.index-alternatives-other.result (let n = c.loop-other-test.true in omega arith) c.index-alternatives-other.is) (elim c.else-begins.branch [ else-begins-via-then-begins+else-has_tag w ↦ λ h t. absurd (w.if-has_tag.ensures t) | else-begins-via-else-begins w ↦ λ h t. w.if-begins.ensures ]) c.loop-other.invariant

pub returns : goal.returns
returns c = λ j a l e t. so_far_end _ c.args.alternatives.now c.loop-other.other (let n = c.loop-other-test.false in omega arith) c.loop-other.invariant j a e l t
