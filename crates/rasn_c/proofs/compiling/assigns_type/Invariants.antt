use Rattle.rasn_schema.proofs.Lists.{SoFar}
use Rattle.rasn_c.specs.Compiling.{IsTypeCalled}
use Rattle.rasn_c.proofs.compiling.assigns_type.Given as goal

abbrev pub invariant-loop-assignment : goal.invariant-loop-assignment
invariant-loop-assignment l = SoFar (λ j a. IsTypeCalled l.name a → ⊥) l.assignments l.assignment-index
