use Rattle.std.proofs.Common.{◌≡◌, ◌≢◌, ◌++◌, ◌∷◌, [], length, map}
use Rattle.std.specs.List.{All, flat_map}
use Rattle.rasn_text.proofs.pem.lines_of.Given as goal

abbrev pub invariant-loop-line : goal.invariant-loop-line
invariant-loop-line l = (l.octets ≡ flat_map (λ x. x ++ 10 ∷ []) (map (λ x. x.now) l.lines.items) ++ l.rest) × All (All (λ c. c ≢ 10)) (map (λ x. x.now) l.lines.items)

abbrev pub decreases-loop-line : goal.decreases-loop-line
decreases-loop-line l = length l.rest
