use Rattle.std.specs.Vec.Iter.{into_iter_items, into_iter_len}
use Rattle.rasn_schema_octets.proofs.Listed.{MadeSoFar}
use Rattle.rasn_schema_octets.proofs.list.parts_of.Given as goal

abbrev pub invariant-loop-form : goal.invariant-loop-form
invariant-loop-form g l = MadeSoFar g.T.Mirrored.says g.T.Mirrored.is_shallow g.F.AsnType.tree l.fn.forms.items l.parts.items (into_iter_items l.coming)

abbrev pub decreases-loop-form : goal.decreases-loop-form
decreases-loop-form g l = into_iter_len l.coming
