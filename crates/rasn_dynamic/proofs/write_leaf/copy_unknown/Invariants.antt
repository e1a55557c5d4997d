use Rattle.std.proofs.Common.{length}
use Rattle.rasn_dynamic.proofs.Unknown.{CopiedSoFar}
use Rattle.rasn_dynamic.proofs.write_leaf.copy_unknown.Given as goal

abbrev pub invariant-loop-rest : goal.invariant-loop-rest
invariant-loop-rest l = CopiedSoFar l.values l.rest l.copies.items

abbrev pub decreases-loop-rest : goal.decreases-loop-rest
decreases-loop-rest l = length l.rest
