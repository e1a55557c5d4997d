use Rattle.std.proofs.Common.{◌≢◌}
use Rattle.rasn_schema.proofs.Lists.{SoFar}
use Rattle.rasn_schema.proofs.named.index_named.Given as goal

abbrev pub invariant-loop-index : goal.invariant-loop-index
invariant-loop-index g l = SoFar (λ j n. g.N.Named.name n ≢ l.name) l.list l.index
