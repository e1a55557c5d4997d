use Rattle.std.specs.Prelude.{option_copied}
use Rattle.rasn_schema.proofs.Lists.{SoFar}
use Rattle.rasn_c.specs.Compiling.{HasTypeCalled}
use Rattle.rasn_c.proofs.compiling.first_with.Given as goal

abbrev pub invariant-loop-module : goal.invariant-loop-module
invariant-loop-module l = SoFar (λ j m. HasTypeCalled (option_copied l.module_name) l.type_name m → ⊥) l.modules l.module-index
