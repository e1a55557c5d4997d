use Rattle.std.proofs.Common.{◌≡◌, length}
use Rattle.rasn_dynamic.specs.Calls.{any_required}
use Rattle.rasn_dynamic.proofs.components.any_required.Given as goal

abbrev pub invariant-loop-rest : goal.invariant-loop-rest
invariant-loop-rest l = any_required l.components ≡ any_required l.rest

abbrev pub decreases-loop-rest : goal.decreases-loop-rest
decreases-loop-rest l = length l.rest
