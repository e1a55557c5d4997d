use Rattle.std.proofs.Common.{ap}
use Rattle.std.specs.Prelude.{option_map}
use Rattle.rasn_schema.specs.declared.types.Alternative.{Alternative}
use Rattle.rasn_schema.proofs.view.alternative_type.Goals as goal

pub returns-in_err-alternative : goal.returns-in_err-alternative
returns-in_err-alternative c = rw c.from_residual.ensures (ap (option_map (λ (q : Alternative). q.type_id)) c.in_err-alternative.ensures)

pub returns : goal.returns
returns c = ap (option_map (λ (q : Alternative). q.type_id)) c.in_ok-alternative.ensures
