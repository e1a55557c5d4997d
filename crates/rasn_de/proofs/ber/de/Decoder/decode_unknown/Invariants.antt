use Rattle.std.proofs.Common.{length}
use Rattle.rasn_types.specs.Tags.{eoc}
use Rattle.rasn_de.specs.Any.{DecodesOpenType}
use Rattle.rasn_de.specs.SequenceOf.{DecodesInTurn}
use Rattle.rasn_de.proofs.ber.de.Decoder.decode_unknown.Given as goal

abbrev pub invariant-loop-self : goal.invariant-loop-self
invariant-loop-self l = DecodesInTurn (DecodesOpenType eoc) l.fn.self l.values.items l.self

abbrev pub decreases-loop-self : goal.decreases-loop-self
decreases-loop-self l = length l.self.rest
