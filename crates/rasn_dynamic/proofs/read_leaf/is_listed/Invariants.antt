use Rattle.std.proofs.Common.{length}
use Rattle.rasn_dynamic.proofs.Numbers.{SameListed}
use Rattle.rasn_dynamic.proofs.read_leaf.is_listed.Given as goal

abbrev pub invariant-loop-rest : goal.invariant-loop-rest
invariant-loop-rest l = SameListed l.numbers l.rest l.number

abbrev pub decreases-loop-rest : goal.decreases-loop-rest
decreases-loop-rest l = length l.rest
