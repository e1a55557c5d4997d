use Rattle.rasn_schema.proofs.Parts.{no_part_of_type}
use Rattle.rasn_schema.proofs.view.View.at.Goals as goal

pub returns-in_err-ty-clause-part : goal.returns-in_err-ty-clause-part
returns-in_err-ty-clause-part c = rw c.from_residual.ensures (λ id part p. c.in_err-ty.ensures p.0.0 p.0.1)

pub returns-in_err-part_type-clause-part : goal.returns-in_err-part_type-clause-part
returns-in_err-part_type-clause-part c = rw c.from_residual-in_err-part_type.ensures (no_part_of_type c.args.self.now.schema.now.types.items c.args.self.now.type_id.0 c.in_ok-ty.ty.now c.in_ok-ty.ensures c.args.self.now.value.now c.args.index c.in_err-part_type.ensures)
