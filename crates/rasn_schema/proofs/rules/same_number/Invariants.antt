use Rattle.std.proofs.Common.{◌≢◌, ◌<◌}
use Rattle.rasn_schema.proofs.Lists.{SoFar}
use Rattle.rasn_schema.proofs.rules.same_number.Given as goal

abbrev pub invariant-loop-other : goal.invariant-loop-other
invariant-loop-other l = SoFar (λ j n. l.index < j → l.named.number ≢ n.number) l.numbers l.other
