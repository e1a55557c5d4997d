use Rattle.std.proofs.Common.{◌≡◌, ◌++◌, List, [], reverse, length, string_bytes}
use Rattle.rasn_pkix.specs.declared.relative_distinguished_name.RelativeDistinguishedName.{RelativeDistinguishedName}
use Rattle.rasn_text.specs.Joined.{AreJoined, IsAppended}
use Rattle.rasn_text.specs.Names.{IsRelativeText}
use Rattle.rasn_text.proofs.name.relatives_text.Given as goal

-- The relative distinguished names from the last one on are written.
abbrev pub invariant-loop-relative : goal.invariant-loop-relative
invariant-loop-relative l = (done : List RelativeDistinguishedName) × (reverse l.sequence.items ≡ done ++ reverse l.rest) × IsAppended (AreJoined (λ r. IsRelativeText r.value) 44 done) [] (string_bytes l.text)

abbrev pub decreases-loop-relative : goal.decreases-loop-relative
decreases-loop-relative l = length l.rest
