use Rattle.std.specs.Prelude.{◌≡◌, []}
use Rattle.rasn_rattle.proofs.held_types.types_held.Given as goal

abbrev pub invariant-loop-root : goal.invariant-loop-root
invariant-loop-root l = l.wanted ≡ 0 → l.held.wanted.items ≡ []
