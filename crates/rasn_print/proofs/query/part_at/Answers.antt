use Rattle.std.proofs.Common.{ap, ◌∙◌}
use Rattle.std.specs.Prelude.{slice_get}
use Rattle.rasn_schema.proofs.Lists.{read_at}
use Rattle.rasn_print.proofs.Queries.{only_one, more_within, asked}
use Rattle.rasn_print.proofs.query.part_at.Goals as goal

pub loop-next-init : goal.loop-next-init
loop-next-init c = λ x a. only_one c.args.view.now c.view.result x c.new-views.result.items c.push.new.self.items c.new-views.ensures.items c.in_ok-push.ensures.items
    c.view.ensures.schema c.view.ensures.type_id c.view.ensures.value a

pub returns-in-Some-part_after : goal.returns-in-Some-part_after
returns-in-Some-part_after c =
    let holder = c.in-Some-get.view.now in
    asked c.args.view.now holder c.in-Some-part_after.part c.args.path.now c.in-Some.steps.items c.as_slice.result.now (rw c.in-Some.is at c.in_ok-steps.ensures) c.as_slice.ensures.value
    (c.loop-next.invariant holder (c.loop-next.next, read_at c.deref.result.now c.loop-next.next holder c.in-Some-get.ensures.lookup.3.0 c.in-Some-get.ensures.lookup.1 ∙ ap (λ l. slice_get l c.loop-next.next) c.deref.ensures.value)) c.in-Some-part_after.ensures.schema c.in-Some-part_after.ensures.part c.in-Some-part_after.ensures.present

pub loop-next-preserved : goal.loop-next-preserved
loop-next-preserved c = λ x a.
    let holder = c.in-Some-get.view.now in
    more_within c.args.view.now holder c.view-view.result x c.loop-next.views.items (c.loop-next.invariant holder (c.loop-next.next, read_at c.deref.result.now c.loop-next.next holder c.in-Some-get.ensures.lookup.3.0 c.in-Some-get.ensures.lookup.1 ∙ ap (λ l. slice_get l c.loop-next.next) c.deref.ensures.value))
    c.view-view.ensures.schema c.view-view.ensures.type_id c.view-view.ensures.value (c.loop-next.invariant x) (c.in_ok-push_parts.ensures x a)
