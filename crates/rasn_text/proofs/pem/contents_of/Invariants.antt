use Rattle.std.proofs.Common.{◌≡◌, ◌++◌, ◌≤◌, ℕ, List, length, map}
use Rattle.std.specs.List.{All, filter, flat_map}
use Rattle.rasn_text.specs.Pem.{IsInside, is_symbol}
use Rattle.rasn_text.proofs.pem.contents_of.Given as goal

abbrev pub invariant-loop-rest : goal.invariant-loop-rest
invariant-loop-rest l = (length l.rest ≤ length l.lines)
    × (body : List (List ℕ)) × (map (λ x. x.now) l.lines ≡ body ++ map (λ x. x.now) l.rest) × All IsInside body × (l.symbols.items ≡ filter is_symbol (flat_map (λ x. x) body))

abbrev pub decreases-loop-rest : goal.decreases-loop-rest
decreases-loop-rest l = length l.rest
