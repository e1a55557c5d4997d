use Rattle.std.proofs.Common.{◌≢◌}
use Rattle.rasn_schema.proofs.Lists.{SoFar}
use Rattle.rasn_schema.proofs.named.name_of_number.Given as goal

abbrev pub invariant-loop-named : goal.invariant-loop-named
invariant-loop-named l = SoFar (λ j n. n.number ≢ l.number) l.numbers l.named-index
