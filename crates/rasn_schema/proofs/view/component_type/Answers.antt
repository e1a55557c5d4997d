use Rattle.std.proofs.Common.{ap}
use Rattle.std.specs.Prelude.{option_map}
use Rattle.rasn_schema.specs.declared.types.Component.{Component}
use Rattle.rasn_schema.proofs.view.component_type.Goals as goal

pub returns-in_err-component : goal.returns-in_err-component
returns-in_err-component c = rw c.from_residual.ensures (ap (option_map (λ (q : Component). q.type_id)) c.in_err-component.ensures)

pub returns : goal.returns
returns c = ap (option_map (λ (q : Component). q.type_id)) c.in_ok-component.ensures
