use Rattle.std.proofs.Common.{length, map}
use Rattle.rasn_enc.proofs.Constructed.SequenceOf.{ElementsSoFar, AreTreesBefore}
use Rattle.rasn_enc.proofs.ber.enc.Encoder.append_elements.Given as goal

abbrev pub invariant-loop-rest : goal.invariant-loop-rest
invariant-loop-rest g l = (k : ElementsSoFar g.E.AsnType.shape (map g.E.AsnType.tree l.values) (map g.E.AsnType.tree l.rest) l.fn.self l.self) × AreTreesBefore g.E.AsnType.tree l.values l.rest k.front

abbrev pub decreases-loop-rest : goal.decreases-loop-rest
decreases-loop-rest g l = length l.rest
