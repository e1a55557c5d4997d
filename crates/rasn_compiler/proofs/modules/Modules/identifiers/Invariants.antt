use Rattle.rasn_compiler.specs.Identifiers.{AreValuesOf}
use Rattle.rasn_compiler.proofs.modules.Modules.identifiers.Given as goal

abbrev pub invariant-loop-index : goal.invariant-loop-index
invariant-loop-index l = AreValuesOf l.self.modules.items l.found.items
