-- A list that isn't empty is its first element and those after it.
use Rattle.std.proofs.Common.{◌≡◌, ℕ, ◌≤◌, ◌<◌, ◌-◌, List, [], ◌∷◌, length, zero, suc, Some, take, drop, get_or, refl, sym, ap, subst, ◌∙◌, inl, inr, ◌+◌, ◌≢◌, ◌⊎◌, arith, false, nat_eq, true≢false}
use Rattle.std.specs.Prelude.{slice_get}
use Rattle.std.proofs.lemmas.Option.{slice_get_within, slice_get_read}
use Rattle.std.proofs.lemmas.List.{take_rest}

pub split : {X : Type 0} (l : List X) (x : X) → 1 ≤ length l → x ≡ get_or l 0 x → l ≡ x ∷ take (length l - 1) (drop 1 l)
split [] x h e = absurd (omega (arith, h))
split (y ∷ l) x h e = rw e (ap (λ m. y ∷ m) (sym (take_rest (y ∷ l) 1)))

pub nothing_left : {X : Type 0} (l : List X) → length l < 1 → l ≡ []
nothing_left [] h = refl
nothing_left (x ∷ l) h = absurd (omega (arith, h))

pub same_or_not : (a b : ℕ) → (a ≡ b) ⊎ (a ≢ b)
same_or_not zero zero = inl refl
same_or_not zero (suc b) = inr (λ e. omega (arith, e))
same_or_not (suc a) zero = inr (λ e. omega (arith, e))
same_or_not (suc a) (suc b) = up (same_or_not a b)
  where
    up : (a ≡ b) ⊎ (a ≢ b) → (suc a ≡ suc b) ⊎ (suc a ≢ suc b)
    up (inl e) = inl (ap suc e)
    up (inr n) = inr (λ e. n (omega (arith, e)))

-- ---- what a loop over a list keeps

-- Elements before index i are such.
abbrev pub SoFar : {X : Type 0} → (ℕ → X → Type 0) → List X → ℕ → Type 0
SoFar {X = X} P l i = (j : ℕ) (x : X) → j < i → Some x ≡ slice_get l j → P j x

pub some_is : {X : Type 0} (x y : X) → Some x ≡ Some y → x ≡ y
some_is x y e = cc

pub so_far_more : {X : Type 0} (P : ℕ → X → Type 0) (l : List X) (i : ℕ) (x : X) → Some x ≡ slice_get l i → P i x → SoFar P l i → SoFar P l (i + 1)
so_far_more P l i x e p s j y m g = go (same_or_not j i)
  where
    go : (j ≡ i) ⊎ (j ≢ i) → P j y
    go (inl h) = let k : Some y ≡ slice_get l i = subst (λ n. Some y ≡ slice_get l n) h g in
        subst (λ n. P n y) (sym h) (subst (P i) (some_is x y (e ∙ sym k)) p)
    go (inr h) = s j y (omega (arith, m, h)) g

pub so_far_end : {X : Type 0} (P : ℕ → X → Type 0) (l : List X) (i : ℕ) → length l ≤ i → SoFar P l i → (j : ℕ) (x : X) → Some x ≡ slice_get l j → P j x
so_far_end P l i m s j x e = s j x (let k : j < length l = slice_get_within l j x (sym e) in omega (arith, m, k)) e

-- the element that a loop reads
pub read_at : {X : Type 0} (l : List X) (i : ℕ) (x : X) → i < length l → x ≡ get_or l i x → Some x ≡ slice_get l i
read_at l i x h e = sym (slice_get_read l (length l) i x refl h e)

pub not_empty : {X : Type 0} (l : List X) → false ≡ nat_eq (length l) 0 → l ≢ []
not_empty [] h e = true≢false (sym h)
not_empty (x ∷ l) h e = cc

-- ---- all elements except the last

abbrev pub but_last : {X : Type 0} → List X → List X
but_last [] = []
but_last (x ∷ []) = []
but_last (x ∷ (y ∷ l)) = x ∷ but_last (y ∷ l)

pub in_but_last : {X : Type 0} (l : List X) (i : ℕ) (x : X) → Some x ≡ slice_get (but_last l) i → (Some x ≡ slice_get l i) × (suc i < length l)
in_but_last [] i x e = cc
in_but_last (y ∷ []) i x e = cc
in_but_last (y ∷ (z ∷ l)) zero x e = (e, omega arith)
in_but_last (y ∷ (z ∷ l)) (suc i) x e = let h = in_but_last (z ∷ l) i x e in (h.0, omega (arith, h.1))
