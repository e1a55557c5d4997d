use Rattle.std.proofs.Common.{length}
use Rattle.rasn_dynamic.proofs.Numbers.{AllFitIf}
use Rattle.rasn_dynamic.proofs.read_leaf.see_numbers.Given as goal

abbrev pub invariant-loop-rest : goal.invariant-loop-rest
invariant-loop-rest l = AllFitIf l.numbers l.rest

abbrev pub decreases-loop-rest : goal.decreases-loop-rest
decreases-loop-rest l = length l.rest
