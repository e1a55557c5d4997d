use Rattle.std.proofs.Common.{List, ℕ, length}
use Rattle.rasn_types.specs.Tags.{IsStrict}
use Rattle.rasn_types.specs.Order.{IsLess, AreAscending}
use Rattle.rasn_de.specs.ValueErrors.{DecodesOr}
use Rattle.rasn_de.specs.Beyond.{Held, BeyondElements}
use Rattle.rasn_de.specs.SequenceOf.{DecodesInTurnFrom}
use Rattle.rasn_types.proofs.SetOf.Ascending.{EndsBy}
use Rattle.rasn_de.proofs.ber.de.Decoder.elements_in_order.Given as goal

abbrev pub invariant-loop-last : goal.invariant-loop-last
invariant-loop-last g l = (bs : List (List ℕ)) × DecodesInTurnFrom (DecodesOr g.D.AsnType.shape g.D.AsnType.tree (g.D.Decode.errors g.D.AsnType.TAG g.D.AsnType.CONSTRAINTS)) l.fn.self l.values.items bs l.self
    × (IsStrict l.fn.self.rule → AreAscending IsLess bs) × EndsBy bs l.last × BeyondElements (Held g.D.AsnType.shape g.D.AsnType.tree (g.D.Decode.beyond g.D.AsnType.TAG)) l.fn.self l.values.items l.self

abbrev pub decreases-loop-last : goal.decreases-loop-last
decreases-loop-last g l = length l.self.rest
