use Rattle.rasn_dynamic.proofs.Ways.{OnWay}
use Rattle.rasn_dynamic.proofs.steps.append_way.Given as goal

abbrev pub invariant-loop-rest : goal.invariant-loop-rest
invariant-loop-rest l = OnWay l.types l.levels l.fn.id.0 l.fn.steps l.fn.path.items l.left l.next.0 l.rest l.path.items

abbrev pub decreases-loop-rest : goal.decreases-loop-rest
decreases-loop-rest l = l.left
