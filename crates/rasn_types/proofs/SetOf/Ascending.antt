-- Runs of octets in ascending order (X.690 11.6).
use Rattle.std.proofs.Common.{◌≡◌, ℕ, List, [], ◌∷◌, ◌++◌, refl, subst}
use Rattle.rasn_types.specs.Order.{IsLess, AreAscending}

-- The piece is the last of these lists, or empty if there are none.
abbrev pub EndsBy : List (List ℕ) → List ℕ → Type 0
EndsBy [] piece = piece ≡ []
EndsBy (b ∷ []) piece = piece ≡ b
EndsBy (a ∷ b ∷ bs) piece = EndsBy (b ∷ bs) piece

pub ends_more : (bs : List (List ℕ)) (next : List ℕ) → EndsBy (bs ++ next ∷ []) next
ends_more [] next = refl
ends_more (b ∷ []) next = refl
ends_more (a ∷ b ∷ bs) next = ends_more (b ∷ bs) next

pub in_order : (bs : List (List ℕ)) (piece next : List ℕ) → AreAscending IsLess bs → EndsBy bs piece → (IsLess next piece → ⊥) → AreAscending IsLess (bs ++ next ∷ [])
in_order [] piece next d e n = tt
in_order (b ∷ []) piece next d e n = (subst (λ p. IsLess next p → ⊥) e n, tt)
in_order (a ∷ b ∷ bs) piece next d e n = (d.0, in_order (b ∷ bs) piece next d.1 e n)

pub nothing_less : (l : List ℕ) → IsLess l [] → ⊥
nothing_less [] h = h
nothing_less (x ∷ l) h = h

pub out_of_order : (bs : List (List ℕ)) (piece next : List ℕ) → EndsBy bs piece → IsLess next piece → AreAscending IsLess (bs ++ next ∷ []) → ⊥
out_of_order [] piece next e h d = nothing_less next (subst (IsLess next) e h)
out_of_order (b ∷ []) piece next e h d = d.0 (subst (IsLess next) e h)
out_of_order (a ∷ b ∷ bs) piece next e h d = out_of_order (b ∷ bs) piece next e h d.1

-- If a list is in ascending order, so is its front.
pub fall_front : (bs more : List (List ℕ)) → AreAscending IsLess (bs ++ more) → AreAscending IsLess bs
fall_front [] more d = tt
fall_front (b ∷ []) more d = tt
fall_front (a ∷ b ∷ bs) more d = (d.0, fall_front (b ∷ bs) more d.1)
