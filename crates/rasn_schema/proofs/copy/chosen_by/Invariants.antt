use Rattle.std.proofs.Common.{length}
use Rattle.rasn_schema.proofs.Copies.{IsInside}
use Rattle.rasn_schema.proofs.copy.chosen_by.Given as goal

abbrev pub invariant-loop-index : goal.invariant-loop-index
invariant-loop-index l = IsInside l.indices.items l.outer l.fn.indices.items l.fn.value

abbrev pub decreases-loop-index : goal.decreases-loop-index
decreases-loop-index l = length l.indices.items
