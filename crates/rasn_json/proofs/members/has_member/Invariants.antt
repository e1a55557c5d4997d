use Rattle.rasn_schema.proofs.Lists.{SoFar}
use Rattle.std.proofs.Common.{◌≡◌}
use Rattle.rasn_json.specs.Reading.{names_of}
use Rattle.rasn_json.proofs.members.has_member.Given as goal

abbrev pub invariant-loop-member : goal.invariant-loop-member
invariant-loop-member l = SoFar (λ j s. s ≡ l.name → ⊥) (names_of l.members) l.member-index
