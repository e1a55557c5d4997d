use Rattle.std.proofs.Common.{length}
use Rattle.rasn_enc.specs.SortedSet.{octets_in}
use Rattle.rasn_enc.proofs.Constructed.Unknown.{ValuesSoFar}
use Rattle.rasn_enc.proofs.ber.enc.Encoder.append_components.Given as goal

abbrev pub invariant-loop-rest : goal.invariant-loop-rest
invariant-loop-rest l = ValuesSoFar (octets_in l.components) (octets_in l.rest) l.fn.self l.self

abbrev pub decreases-loop-rest : goal.decreases-loop-rest
decreases-loop-rest l = length l.rest
