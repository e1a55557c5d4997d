use Rattle.std.proofs.Common.{◌≤◌}
use Rattle.rasn_schema.specs.declared.value.Value.{size-Value}
use Rattle.rasn_schema.proofs.value.Value.+drop.Given as goal

-- What is left is no deeper than the value.
abbrev pub invariant-loop-self : goal.invariant-loop-self
invariant-loop-self l = size-Value l.self ≤ size-Value l.initial.self
