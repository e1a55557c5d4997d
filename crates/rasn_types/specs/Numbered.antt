-- ENUMERATED and OBJECT IDENTIFIER as types of values.
use Rattle.std.specs.Prelude.{ℕ, ◌≤◌, ℤ, pos, neg_ℤ, ◌^◌, ◌-◌, Bool, true, ◌&&◌, List, [], ◌∷◌}
use Rattle.std.specs.Int.Signed.{le_z}

-- Each number of the list fits in 64 bits.
abbrev pub fit_isize : List ℤ → Bool
fit_isize [] = true
fit_isize (z ∷ zs) = (le_z (neg_ℤ (pos (2 ^ 63))) z && le_z z (pos (2 ^ 63 - 1))) && fit_isize zs

-- At least two arcs, the first of which is at most 2 (X.660 7.6).
abbrev pub AreArcs : List ℕ → Type 0
AreArcs [] = ⊥
AreArcs (x ∷ []) = ⊥
AreArcs (x ∷ y ∷ l) = x ≤ 2
