use Rattle.rasn_compiler.specs.Libraries.{AreNamed}
use Rattle.rasn_compiler.proofs.resolver.emit.roots_of.Given as goal

abbrev pub invariant-loop-index : goal.invariant-loop-index
invariant-loop-index l = AreNamed l.count l.collected.names.items l.collected.roots.items
