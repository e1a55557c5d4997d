use Rattle.std.proofs.Common.{ℕ, List, length}
use Rattle.rasn_de.proofs.Leaves.ObjectIdentifier.{ArcsSoFar}
use Rattle.rasn_de.proofs.ber.de.parser.object_identifier.check_object_identifier.Given as goal

abbrev pub invariant-loop-rest : goal.invariant-loop-rest
invariant-loop-rest l = (arcs : List ℕ) × ArcsSoFar l.fn.rules l.fn.contents l.rest arcs

abbrev pub decreases-loop-rest : goal.decreases-loop-rest
decreases-loop-rest l = length l.rest
