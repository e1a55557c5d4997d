use Rattle.std.proofs.Common.{length, map}
use Rattle.rasn_enc.proofs.Constructed.SequenceOf.{AreTreesBefore}
use Rattle.rasn_enc.proofs.Constructed.SetOf.{SetOfSoFar}
use Rattle.rasn_enc.proofs.ber.enc.Encoder.append_in_order.Given as goal

abbrev pub invariant-loop-rest : goal.invariant-loop-rest
invariant-loop-rest g l = (k : SetOfSoFar g.E.AsnType.shape (map g.E.AsnType.tree l.values) (map g.E.AsnType.tree l.rest) l.fn.self l.self l.previous) × AreTreesBefore g.E.AsnType.tree l.values l.rest k.so_far.front

abbrev pub decreases-loop-rest : goal.decreases-loop-rest
decreases-loop-rest g l = length l.rest
