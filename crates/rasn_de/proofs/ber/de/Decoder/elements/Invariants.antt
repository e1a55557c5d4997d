use Rattle.std.proofs.Common.{length}
use Rattle.rasn_de.specs.ValueErrors.{DecodesOr}
use Rattle.rasn_de.specs.Beyond.{Held, BeyondElements}
use Rattle.rasn_de.specs.SequenceOf.{DecodesInTurn}
use Rattle.rasn_de.proofs.ber.de.Decoder.elements.Given as goal

abbrev pub invariant-loop-self : goal.invariant-loop-self
invariant-loop-self g l = DecodesInTurn (DecodesOr g.D.AsnType.shape g.D.AsnType.tree (g.D.Decode.errors g.D.AsnType.TAG g.D.AsnType.CONSTRAINTS)) l.fn.self l.values.items l.self × BeyondElements (Held g.D.AsnType.shape g.D.AsnType.tree (g.D.Decode.beyond g.D.AsnType.TAG)) l.fn.self l.values.items l.self

abbrev pub decreases-loop-self : goal.decreases-loop-self
decreases-loop-self g l = length l.self.rest
