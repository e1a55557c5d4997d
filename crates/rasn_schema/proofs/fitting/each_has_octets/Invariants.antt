use Rattle.std.proofs.Common.{length}
use Rattle.rasn_schema.specs.Fitting.{AreOctets}
use Rattle.rasn_schema.proofs.Fitted.{EachSoFar}
use Rattle.rasn_schema.proofs.fitting.each_has_octets.Given as goal

abbrev pub invariant-loop-rest : goal.invariant-loop-rest
invariant-loop-rest l = EachSoFar AreOctets l.values l.rest

abbrev pub decreases-loop-rest : goal.decreases-loop-rest
decreases-loop-rest l = length l.rest
