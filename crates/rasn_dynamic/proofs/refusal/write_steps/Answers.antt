use Rattle.std.proofs.Common.{◌≡◌, ◌+◌, Some, true, get_or, refl, sym, subst}
use Rattle.rasn_dynamic.specs.Shown.{step_from, way_text}
use Rattle.rasn_dynamic.proofs.Shown.{SoFar, step_more, no_step_more, no_step_left}
use Rattle.rasn_dynamic.proofs.refusal.write_steps.Goals as goal

pub returns-in_default : goal.returns-in_default
returns-in_default g c = λ plain ok.
    let s = c.loop-step.invariant plain in
    no_step_more g.W.Write.write_str_gives c.args.types.now c.args.inner.now c.args.steps.now (way_text c.args.types.now c.args.inner.now true c.args.from.0 c.args.steps.now) c.loop-step.step-index c.args.f.now c.loop-step.is_first c.loop-step.id.0 c.loop-step.f c.write_end.new.f s 0 c.loop-step-test.true c.in_default.ensures
    (c.write_end.ensures s.1.plain ok)

pub loop-step-preserved : goal.loop-step-preserved
loop-step-preserved g c = λ plain.
    let s = c.loop-step.invariant plain in
    let whole = way_text c.args.types.now c.args.inner.now true c.args.from.0 c.args.steps.now in
    let e : step_from c.args.types.now c.loop-step.id.0 (get_or c.args.steps.now c.loop-step.step-index 0) ≡ Some (c.in-Some.ty.now, c.in-Some.next) = c.in-Some.ensures in
    subst (λ b. SoFar g.W.Write.write_str_gives c.args.types.now c.args.inner.now c.args.steps.now whole (c.loop-step.step-index + 1) c.args.f.now b c.in-Some.next.0 c.write_part.new.f) (sym c.stays_first-is_first.ensures)
    (step_more g.W.Write.write_str_gives c.args.types.now c.args.inner.now c.args.steps.now whole c.loop-step.step-index c.args.f.now c.loop-step.is_first c.loop-step.id.0 c.loop-step.f c.write_part.new.f s 0 c.loop-step-test.true c.in-Some.ty.now c.in-Some.next e (c.in_ok-write_part.ensures s.1.plain refl))

pub returns : goal.returns
returns g c = λ plain ok.
    let s = c.loop-step.invariant plain in
    no_step_left g.W.Write.write_str_gives c.args.types.now c.args.inner.now c.args.steps.now (way_text c.args.types.now c.args.inner.now true c.args.from.0 c.args.steps.now) c.loop-step.step-index c.args.f.now c.loop-step.is_first c.loop-step.id.0 c.loop-step.f c.write_end-2.new.f s c.loop-step-test.false (c.write_end-2.ensures s.1.plain ok)
