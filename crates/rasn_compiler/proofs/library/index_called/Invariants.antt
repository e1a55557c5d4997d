use Rattle.rasn_schema.proofs.Lists.{SoFar}
use Rattle.rasn_compiler.specs.Libraries.{IsCalled}
use Rattle.rasn_compiler.proofs.library.index_called.Given as goal

abbrev pub invariant-loop-index : goal.invariant-loop-index
invariant-loop-index l = SoFar (λ j r. IsCalled r l.name → ⊥) l.roots l.index
