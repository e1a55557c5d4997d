use Rattle.std.proofs.Common.{◌≡◌, ◌+◌, ◌-◌, ◌≤◌, ℕ, List, length}
use Rattle.rasn_text.specs.Pem.{AreBefore}
use Rattle.rasn_text.proofs.pem.line_start.Given as goal

-- The lines before the wanted one that aren't skipped yet.
abbrev pub invariant-loop-line : goal.invariant-loop-line
invariant-loop-line l = (length l.rest ≤ length l.octets)
    × ((front : List (List ℕ)) (rest : List ℕ) → AreBefore l.octets front rest → length front + 1 ≡ l.number → (left : List (List ℕ)) × AreBefore l.rest left rest × (length left + l.line ≡ l.number))

abbrev pub decreases-loop-line : goal.decreases-loop-line
decreases-loop-line l = l.number - l.line
