use Rattle.std.proofs.Common.{◌≡◌, ◌++◌, length}
use Rattle.rasn_dynamic.specs.Calls.{nones}
use Rattle.rasn_dynamic.proofs.set.no_components.Given as goal

abbrev pub invariant-loop-rest : goal.invariant-loop-rest
invariant-loop-rest l = l.found.items ++ nones l.rest ≡ nones l.components

abbrev pub decreases-loop-rest : goal.decreases-loop-rest
decreases-loop-rest l = length l.rest
