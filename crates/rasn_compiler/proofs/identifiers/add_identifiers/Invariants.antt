use Rattle.std.proofs.Common.{List}
use Rattle.rasn_compiler.specs.Identifiers.{AreValuesOf, IsOneOf}
use Rattle.rasn_compiler.specs.declared.tree.Module.{Module}
use Rattle.rasn_compiler.proofs.identifiers.add_identifiers.Given as goal

abbrev pub invariant-loop-assignment : goal.invariant-loop-assignment
invariant-loop-assignment l = (all : List Module) → IsOneOf all l.owner → AreValuesOf all l.initial.found.items → AreValuesOf all l.found.items
