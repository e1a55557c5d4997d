use Rattle.std.proofs.Common.{length}
use Rattle.rasn_lint.proofs.Contents.{IsWithin}
use Rattle.rasn_lint.proofs.der.contents.are_subidentifiers.Given as goal

abbrev pub invariant-loop-rest : goal.invariant-loop-rest
invariant-loop-rest l = IsWithin l.contents l.begins l.rest

abbrev pub decreases-loop-rest : goal.decreases-loop-rest
decreases-loop-rest l = length l.rest
