use Rattle.std.proofs.Common.{List}
use Rattle.rasn_compiler.specs.Sources.{HasName, AreOf}
use Rattle.rasn_compiler.specs.declared.modules.Source.{Source}
use Rattle.rasn_compiler.proofs.modules.Modules.read.Given as goal

abbrev pub invariant-loop : goal.invariant-loop
invariant-loop l = (all : List Source) → HasName all l.source.name.now → AreOf all l.initial.self.modules.items → AreOf all l.self.modules.items
