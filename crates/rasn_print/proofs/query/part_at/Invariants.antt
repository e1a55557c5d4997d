use Rattle.rasn_schema.specs.declared.view.View.{View}
use Rattle.rasn_print.specs.Queries.{IsAmong, IsWithin}
use Rattle.rasn_print.proofs.query.part_at.Given as goal

abbrev pub invariant-loop-next : goal.invariant-loop-next
invariant-loop-next l = (x : View) → IsAmong l.views.items x → IsWithin l.fn.view x
