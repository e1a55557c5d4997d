use Rattle.rasn_schema.proofs.Reach.{OnTheWay}
use Rattle.rasn_schema.proofs.innermost.innermost_at.Given as goal

abbrev pub invariant-loop-left : goal.invariant-loop-left
invariant-loop-left l = OnTheWay l.types l.levels l.fn.id.0 l.value l.left l.next.0 l.inner

abbrev pub decreases-loop-left : goal.decreases-loop-left
decreases-loop-left l = l.left
