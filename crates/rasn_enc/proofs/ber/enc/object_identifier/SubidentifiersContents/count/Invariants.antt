use Rattle.std.proofs.Common.{◌∷◌, length}
use Rattle.rasn_enc.proofs.Leaves.ObjectIdentifier.{CountedSoFar}
use Rattle.rasn_enc.proofs.ber.enc.object_identifier.SubidentifiersContents.count.Given as goal

abbrev pub invariant-loop-rest : goal.invariant-loop-rest
invariant-loop-rest l = CountedSoFar (l.self.first ∷ l.self.others.now) l.rest l.count

abbrev pub decreases-loop-rest : goal.decreases-loop-rest
decreases-loop-rest l = length l.rest
