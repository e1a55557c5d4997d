use Rattle.std.proofs.Common.{length}
use Rattle.rasn_lint.proofs.Order.{RiseSoFar}
use Rattle.rasn_lint.proofs.der.order.tags_rise.Given as goal

abbrev pub invariant-loop-component : goal.invariant-loop-component
invariant-loop-component l = RiseSoFar l.fn.contents l.last l.rest

abbrev pub decreases-loop-component : goal.decreases-loop-component
decreases-loop-component l = length l.rest
