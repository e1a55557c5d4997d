use Rattle.rasn_dynamic.proofs.Ways.{no_named}
use Rattle.rasn_dynamic.proofs.steps.named_step.Goals as goal

pub returns-in_err-index : goal.returns-in_err-index
returns-in_err-index c = rw c.from_residual.ensures (λ k id h. c.in_err-index.ensures k h.0.0)

pub returns-in_err-part_type : goal.returns-in_err-part_type
returns-in_err-part_type c = rw c.from_residual-in_err-part_type.ensures (no_named c.args.ty.now c.args.name.now c.in_ok-index.index c.in_ok-index.ensures c.in_err-part_type.ensures)
