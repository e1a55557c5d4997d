use Rattle.std.proofs.Common.{◌≡◌, take}
use Rattle.rasn_print.specs.Queries.{LeadTo}
use Rattle.rasn_print.proofs.query.part_after.Given as goal

abbrev pub invariant-loop-step : goal.invariant-loop-step
invariant-loop-step l = record {
  part : LeadTo l.fn.view.schema.now.types.items (take l.step-index l.steps) l.fn.view.type_id.0 l.fn.view.value.now l.part.type_id.0 l.part.value.now;
  schema : l.part.schema.now ≡ l.fn.view.schema.now;
}
