use Rattle.rasn_schema.proofs.Doubles.{Halving}
use Rattle.rasn_schema.proofs.real.width_of.Given as goal

abbrev pub invariant-loop-rest : goal.invariant-loop-rest
invariant-loop-rest l = Halving l.number l.rest l.width

abbrev pub decreases-loop-rest : goal.decreases-loop-rest
decreases-loop-rest l = l.rest
