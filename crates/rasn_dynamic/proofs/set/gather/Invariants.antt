use Rattle.std.proofs.Common.{◌≡◌, length}
use Rattle.std.specs.Vec.Iter.{into_iter_items, into_iter_len}
use Rattle.rasn_dynamic.proofs.Pieces.{SettledSoFar}
use Rattle.rasn_dynamic.proofs.set.gather.Given as goal

abbrev pub invariant-loop-rest : goal.invariant-loop-rest
invariant-loop-rest g l = SettledSoFar g.M.Made.KEEP l.components l.rest l.fn.found.items (into_iter_items l.coming) l.values.items × (into_iter_len l.coming ≡ length l.rest)

abbrev pub decreases-loop-rest : goal.decreases-loop-rest
decreases-loop-rest g l = length l.rest
