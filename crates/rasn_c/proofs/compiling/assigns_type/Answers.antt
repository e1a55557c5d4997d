use Rattle.std.proofs.Common.{sym}
use Rattle.std.proofs.lemmas.Option.{slice_get-get_or}
use Rattle.rasn_schema.proofs.Lists.{so_far_end, so_far_more}
use Rattle.rasn_c.proofs.FirstWith.{fails, holds}
use Rattle.rasn_c.proofs.compiling.assigns_type.Goals as goal

pub returns-then-is_type_called : goal.returns-then-is_type_called
returns-then-is_type_called c = (
  c.loop-assignment.assignment-index,
  _,
  sym (slice_get-get_or c.args.assignments.now c.loop-assignment.assignment-index _ c.loop-assignment-test.true),
  holds c.is_type_called.result _ c.is_type_called.ensures c.if-is_type_called.true,
)

pub loop-assignment-preserved : goal.loop-assignment-preserved
loop-assignment-preserved c =
    so_far_more _ c.args.assignments.now c.loop-assignment.assignment-index _ (sym (slice_get-get_or c.args.assignments.now c.loop-assignment.assignment-index _ c.loop-assignment-test.true))
    (fails c.is_type_called.result _ c.is_type_called.ensures c.if-is_type_called.false) c.loop-assignment.invariant

pub returns : goal.returns
returns c = λ h. so_far_end _ c.args.assignments.now c.loop-assignment.assignment-index c.loop-assignment-test.false c.loop-assignment.invariant h.0 h.1 h.2 h.3
