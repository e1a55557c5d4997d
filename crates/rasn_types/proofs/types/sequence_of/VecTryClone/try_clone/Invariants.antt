use Rattle.std.proofs.Common.{◌≡◌, map, take}
use Rattle.rasn_types.proofs.types.sequence_of.VecTryClone.try_clone.Given as goal

abbrev pub invariant-loop-value : goal.invariant-loop-value
invariant-loop-value g l = map g.T.AsnType.tree l.copies.items ≡ map g.T.AsnType.tree (take l.value-index l.fn.self.items)
