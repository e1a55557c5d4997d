use Rattle.rasn_schema.specs.Shapes.{shape_of_type}
use Rattle.rasn_schema.specs.Schemas.{IsChoice, IsWellFormed, own_at}
use Rattle.rasn_schema.proofs.Lists.{SoFar}
use Rattle.rasn_schema.proofs.rules.first_other_fault.Given as goal

abbrev pub invariant-loop-number : goal.invariant-loop-number
invariant-loop-number l = SoFar (λ k ty. (IsChoice ty → ⊥) → IsWellFormed (own_at l.types) (shape_of_type l.types l.levels) k ty) l.types l.number
