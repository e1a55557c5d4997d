use Rattle.rasn_compiler.specs.Sources.{AreOf}
use Rattle.rasn_compiler.proofs.modules.Modules.parse_with_built_in.Given as goal

abbrev pub invariant-loop-index : goal.invariant-loop-index
invariant-loop-index l = AreOf l.sources l.read.modules.items
