use Rattle.rasn_schema.proofs.Parts.{no_named_part}
use Rattle.rasn_schema.proofs.view.View.get.Goals as goal

pub returns-in_err-ty-clause-part : goal.returns-in_err-ty-clause-part
returns-in_err-ty-clause-part c = rw c.from_residual.ensures (λ id part p. c.in_err-ty.ensures p.0 p.1)

pub returns-in_err-type_id-clause-part : goal.returns-in_err-type_id-clause-part
returns-in_err-type_id-clause-part c = rw c.from_residual-in_err-type_id.ensures (no_named_part c.args.self.now.schema.now.types.items c.args.self.now.type_id.0 c.in_ok-ty.ty.now c.in_ok-ty.ensures c.args.self.now.value.now c.args.name.now c.in_err-type_id.ensures)
