use Rattle.std.proofs.lemmas.List.{get_or_default}
use Rattle.rasn_lint.proofs.LocalTimes.{goes_on, is_first}
use Rattle.rasn_lint.proofs.local_times.first_local.Goals as goal

pub returns-in-Some : goal.returns-in-Some
returns-in-Some c =
    is_first c.args.schema.now.types.items c.args.len c.args.parts.now c.loop-part.path.items c.extend_path.new.path.items c.in-Some.text.items c.loop-part.part-index _ c.refusal_of.result
    c.loop-part.invariant c.loop-part-test.true (get_or_default c.args.parts.now c.loop-part.part-index _ _ c.loop-part-test.true) c.in_ok-extend_path.ensures (rw c.in-Some.is at c.in_ok-text.ensures) c.refusal_of.ensures

pub loop-part-preserved : goal.loop-part-preserved
loop-part-preserved c =
    goes_on c.args.schema.now.types.items c.args.len c.args.parts.now c.loop-part.path.items c.extend_path.new.path.items c.loop-part.part-index _
    c.loop-part.invariant c.loop-part-test.true (get_or_default c.args.parts.now c.loop-part.part-index _ _ c.loop-part-test.true) c.in_ok-extend_path.ensures (rw c.in_default.is at c.in_ok-text.ensures)
