use Rattle.std.proofs.Common.{List, ℕ, length}
use Rattle.rasn_de.specs.ValueErrors.{DecodesOr}
use Rattle.rasn_de.specs.SequenceOf.{DecodesInTurnFrom}
use Rattle.rasn_de.specs.Beyond.{Held, BeyondElements}
use Rattle.rasn_de.proofs.Headers.Tags.{Tagged}
use Rattle.rasn_de.proofs.ber.de.Decoder.components.Given as goal

abbrev pub invariant-loop-last : goal.invariant-loop-last
invariant-loop-last g l = (bs : List (List ℕ)) × DecodesInTurnFrom (DecodesOr g.FIELDS.AsnType.shape g.FIELDS.AsnType.tree (g.FIELDS.Decode.errors g.FIELDS.AsnType.TAG g.FIELDS.AsnType.CONSTRAINTS)) l.fn.self l.values.items bs l.self
    × Tagged l.fn.self bs l.last
    × BeyondElements (Held g.FIELDS.AsnType.shape g.FIELDS.AsnType.tree (g.FIELDS.Decode.beyond g.FIELDS.AsnType.TAG)) l.fn.self l.values.items l.self

abbrev pub decreases-loop-last : goal.decreases-loop-last
decreases-loop-last g l = length l.self.rest
