use Rattle.std.proofs.Common.{◌≡◌, ◌-◌, Some, subst, arith}
use Rattle.std.specs.Prelude.{slice_get}
use Rattle.rasn_dynamic.specs.declared.steps.Step.TheVariants.{Index}
use Rattle.rasn_schema.proofs.Lists.{nothing_left}
use Rattle.rasn_dynamic.proofs.Ways.{too_deep, some_left, no_type, first_item, not_tagged, no_way_found, no_step, way_found, way_in_tag, way_in_part}
use Rattle.rasn_dynamic.proofs.steps.append_way.Goals as goal

pub returns-then-left-eq0 : goal.returns-then-left-eq0
returns-then-left-eq0 c =
    no_way_found c.args.types.now c.args.levels c.args.id.0 c.args.steps.now c.args.path.now.items c.loop-rest.left c.loop-rest.next.0 c.loop-rest.rest.now c.loop-rest.path.items c.loop-rest.invariant c.loop-rest.path.items (too_deep c.args.types.now c.loop-rest.left c.loop-rest.next.0 c.loop-rest.rest.now c.if-left-eq0.true (some_left _ c.in-len1-up.len_at_least))

pub returns-in_default-type_at : goal.returns-in_default-type_at
returns-in_default-type_at c =
    no_way_found c.args.types.now c.args.levels c.args.id.0 c.args.steps.now c.args.path.now.items c.loop-rest.left c.loop-rest.next.0 c.loop-rest.rest.now c.loop-rest.path.items c.loop-rest.invariant c.loop-rest.path.items
    (no_type c.args.types.now c.loop-rest.left (c.loop-rest.left - 1) c.loop-rest.next.0 (let n = c.if-left-eq0.false in omega arith) c.loop-rest.rest.now _ _ (first_item _ (Index 0) c.in-len1-up.len_at_least) c.in_default-type_at.ensures)

pub loop-rest-preserved-in-Tagged : goal.loop-rest-preserved-in-Tagged
loop-rest-preserved-in-Tagged c =
    way_in_tag c.args.types.now c.args.levels c.args.id.0 c.args.steps.now c.args.path.now.items c.loop-rest.left c.loop-rest.next.0 c.loop-rest.rest.now c.loop-rest.path.items c.loop-rest.invariant
    (c.loop-rest.left - 1) (let n = c.if-left-eq0.false in omega arith) _ _ (first_item _ (Index 0) c.in-len1-up.len_at_least)
    c.in-Tagged.tag c.in-Tagged.inner (subst (λ z. Some z ≡ slice_get c.args.types.now c.loop-rest.next.0) c.in-Tagged.is c.in-Some.ensures) _ c.in_ok-append.ensures

pub returns-in_default-part_step : goal.returns-in_default-part_step
returns-in_default-part_step c =
    no_way_found c.args.types.now c.args.levels c.args.id.0 c.args.steps.now c.args.path.now.items c.loop-rest.left c.loop-rest.next.0 c.loop-rest.rest.now c.loop-rest.path.items c.loop-rest.invariant c.loop-rest.path.items
    (no_step c.args.types.now c.args.levels c.args.id.0 c.args.steps.now c.args.path.now.items c.loop-rest.left c.loop-rest.next.0 c.loop-rest.rest.now c.loop-rest.path.items c.loop-rest.invariant
    (c.loop-rest.left - 1) (let n = c.if-left-eq0.false in omega arith) _ _ (first_item _ _ c.in-len1-up.len_at_least)
    c.in-Some.ty.now c.in-Some.ensures (not_tagged _ c.in_default-ty.not-Tagged) c.in_default-part_step.ensures)

pub loop-rest-preserved : goal.loop-rest-preserved
loop-rest-preserved c =
    way_in_part c.args.types.now c.args.levels c.args.id.0 c.args.steps.now c.args.path.now.items c.loop-rest.left c.loop-rest.next.0 c.loop-rest.rest.now c.loop-rest.path.items c.loop-rest.invariant
    (c.loop-rest.left - 1) (let n = c.if-left-eq0.false in omega arith) _ _ (first_item _ _ c.in-len1-up.len_at_least)
    c.in-Some.ty.now c.in-Some.ensures (not_tagged _ c.in_default-ty.not-Tagged) c.in-Some-part_step.index c.in-Some-part_step.part c.in-Some-part_step.ensures _ c.in_ok-append-2.ensures

pub returns : goal.returns
returns c = way_found c.args.types.now c.args.levels c.args.id.0 c.args.steps.now c.args.path.now.items c.loop-rest.left c.loop-rest.next.0 c.loop-rest.rest.now c.loop-rest.path.items c.loop-rest.invariant (nothing_left _ c.in_default.len_below)
