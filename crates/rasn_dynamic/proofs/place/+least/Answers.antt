use Rattle.std.proofs.Common.{◌-◌, drop, get_or, sym, subst, refl, arith}
use Rattle.rasn_types.specs.Shapes.{IsFirst}
use Rattle.rasn_schema.specs.Shapes.{shape_of_type, alternatives_by}
use Rattle.rasn_schema.proofs.TypeShapes.{shape_below, shape_none, shape_cut}
use Rattle.rasn_dynamic.proofs.LeastTags.{least_own, least_of_choice, least_start, least_more}
use Rattle.rasn_dynamic.proofs.place.+least.Goals as goal

pub least_tag-returns-then-levels-eq0 : goal.least_tag-returns-then-levels-eq0
least_tag-returns-then-levels-eq0 t c = rw (shape_cut c.args.types.now c.args.levels c.args.id.0 c.if-levels-eq0.true, ← c.tag_at.ensures) c.least_of_nothing.ensures

pub least_tag-returns-in-Some : goal.least_tag-returns-in-Some
least_tag-returns-in-Some t c = rw (shape_below c.args.types.now c.args.levels (c.args.levels - 1) c.args.id.0 c.in-Some.ty.now (let n = c.if-levels-eq0.false in omega arith) c.in-Some.ensures) c.least_of_type.ensures

pub least_tag-returns-in-None : goal.least_tag-returns-in-None
least_tag-returns-in-None t c n h = subst (λ s. IsFirst s n) (sym (shape_none c.args.types.now c.args.levels c.args.id.0 c.if-levels-eq0.false c.in-None.ensures)) h

pub least_of_type-returns-in-Choice : goal.least_of_type-returns-in-Choice
least_of_type-returns-in-Choice t c = rw (c.in-Choice.is, ← c.deref.ensures.value) (least_of_choice (alternatives_by (shape_of_type c.args.types.now c.args.below) c.deref.result.now) c.least_of_all.result c.least_of_all.ensures)

pub least_of_type-returns-in_default : goal.least_of_type-returns-in_default
least_of_type-returns-in_default t c = rw c.tag.ensures (least_own (shape_of_type c.args.types.now c.args.below) c.args.ty.now c.in_default.not-Choice c.in_default.not-Unknown)

pub least_of_all-loop-left-init : goal.least_of_all-loop-left-init
least_of_all-loop-left-init t c = record { within = omega arith; holds = least_start (shape_of_type c.args.types.now c.args.below) c.args.alternatives.now _ refl }

pub least_of_all-loop-left-preserved : goal.least_of_all-loop-left-preserved
least_of_all-loop-left-preserved t c =
    let f = shape_of_type c.args.types.now c.args.below in
    let ks = c.args.alternatives.now in
    let a = get_or ks (c.loop-left.left - 1) c.index-alternatives-left.result in
    record {
      within = omega arith;
      holds = least_more f ks c.loop-left.left c.index-alternatives-left.result _ c.loop-left-test.true c.loop-left.invariant.within
          (c.lesser-least.ensures (f a.type_id.0) (alternatives_by f (drop c.loop-left.left ks)) c.least_tag.ensures c.loop-left.invariant.holds);
    }
