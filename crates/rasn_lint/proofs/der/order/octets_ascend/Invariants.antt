use Rattle.std.proofs.Common.{length}
use Rattle.rasn_types.specs.Order.{IsLess}
use Rattle.rasn_lint.proofs.Order.{SoFar}
use Rattle.rasn_lint.proofs.der.order.octets_ascend.Given as goal

abbrev pub invariant-loop-component : goal.invariant-loop-component
invariant-loop-component l = SoFar IsLess l.fn.contents l.last l.rest

abbrev pub decreases-loop-component : goal.decreases-loop-component
decreases-loop-component l = length l.rest
