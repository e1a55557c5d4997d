use Rattle.std.proofs.Common.{sym, ap, ◌∙◌}
use Rattle.rasn_schema.specs.declared.type_id.TypeId.{TypeId}
use Rattle.rasn_print.proofs.Queries.{leads_here, step_on}
use Rattle.rasn_print.proofs.query.part_after.Goals as goal

pub loop-step-init : goal.loop-step-init
loop-step-init c = record {
  part = leads_here _ _ _ _ _ (ap (λ (x : TypeId). x.0) (sym c.view-part.ensures.type_id)) (sym c.view-part.ensures.value);
  schema = c.view-part.ensures.schema;
}

pub loop-step-preserved : goal.loop-step-preserved
loop-step-preserved c = record {
  part = step_on c.args.view.now c.loop-step.part c.in_ok-part.part c.args.steps.now c.loop-step.step-index _ c.loop-step-test.true c.loop-step.invariant.schema c.loop-step.invariant.part
      c.in_ok-part.ensures.part;
  schema = c.in_ok-part.ensures.schema ∙ c.loop-step.invariant.schema;
}
