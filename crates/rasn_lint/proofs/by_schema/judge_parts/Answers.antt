use Rattle.std.proofs.lemmas.List.{get_or_default}
use Rattle.rasn_lint.proofs.Judged.{one_more, no_more}
use Rattle.rasn_lint.proofs.by_schema.judge_parts.Goals as goal

pub loop-part-preserved : goal.loop-part-preserved
loop-part-preserved c = one_more c.args.is_read c.args.opens c.args.schema.now.types.items c.args.len c.args.parts.now c.loop-part.trail.items c.as_slice-before.result.now c.extend_trail.new.trail.items
    c.loop-part.path.items c.as_slice.result.now c.extend_path.new.path.items c.loop-part.part-index _ c.loop-part.list.items c.judge_part.new.list.items c.loop-part.invariant c.loop-part-test.true
    (get_or_default c.args.parts.now c.loop-part.part-index _ _ c.loop-part-test.true)
    c.as_slice-before.ensures.value c.as_slice.ensures.value c.in_ok-extend_path.ensures c.in_ok-extend_trail.ensures c.in_ok-judge_part.ensures

pub returns : goal.returns
returns c = no_more c.args.is_read c.args.opens c.args.schema.now.types.items c.args.len c.args.parts.now c.loop-part.trail.items c.loop-part.path.items c.loop-part.part-index c.loop-part.list.items c.loop-part.invariant
    c.loop-part-test.false
