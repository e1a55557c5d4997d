use Rattle.std.proofs.Common.{◌≡◌, ◌⊎◌}
use Rattle.rasn_schema.specs.declared.view.View.{View}
use Rattle.rasn_print.specs.Queries.{IsAmong, Holds}
use Rattle.rasn_print.proofs.query.push_parts.Given as goal

abbrev pub invariant-loop-index : goal.invariant-loop-index
invariant-loop-index l = (part : View) → IsAmong l.views.items part → IsAmong l.initial.views.items part
    ⊎ ((part.schema.now ≡ l.fn.view.schema.now) × Holds l.fn.view.schema.now.types.items l.fn.view.type_id.0 l.fn.view.value.now part.type_id part.value.now)
