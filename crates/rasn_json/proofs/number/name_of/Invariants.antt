use Rattle.std.proofs.Common.{◌≡◌}
use Rattle.rasn_schema.proofs.Lists.{SoFar}
use Rattle.rasn_json.proofs.number.name_of.Given as goal

abbrev pub invariant-loop-named : goal.invariant-loop-named
invariant-loop-named l = SoFar (λ j m. m.number ≡ l.number → ⊥) l.numbers l.named-index
