-- The test of octets.
use Rattle.std.proofs.Common.{◌≡◌, ◌<◌, ℕ, Bool, true, false, List, [], ◌∷◌, ◌++◌, inl, inr, arith, sym, ap, ◌∙◌, MatchBool, true≢false, Some, Ordering, Less, Equal, Greater, length, ◌-◌, take, length-append}
use Rattle.std.specs.Ordering.{nat_cmp, is_lt, is_some_and, as_partial_cmp, partial_ordering_then, MatchOrdering}
use Rattle.std.specs.Cmp.{ranks}
use Rattle.std.proofs.Math.Seq.{take-append_seam}
use Rattle.rasn_de.specs.State.{IsEnd}
use Rattle.std.specs.Cmp.Lexicographic.{slice_partial_cmp}
use Rattle.rasn_types.specs.Order.{IsLess}
use Rattle.rasn_types.proofs.SetOf.Ascending.{nothing_less}

abbrev pub less : List ℕ → List ℕ → Bool
less xs ys = is_some_and is_lt (slice_partial_cmp (as_partial_cmp nat_cmp) xs ys)

one_step : (o : Ordering) (xs ys : List ℕ) → Bool
one_step o xs ys = is_some_and is_lt (partial_ordering_then (Some o) (slice_partial_cmp (as_partial_cmp nat_cmp) xs ys))

less_at : (o : Ordering) (x y : ℕ) (xs ys : List ℕ) → MatchOrdering o (x < y) (x ≡ y) (y < x) → one_step o xs ys ≡ true → (less xs ys ≡ true → IsLess xs ys) → IsLess (x ∷ xs) (y ∷ ys)
unfolding one_step
less_at Less x y xs ys m e f = inl m
less_at Equal x y xs ys m e f = inr (m, f e)
less_at Greater x y xs ys m e f = absurd (true≢false (sym e))

not_at : (o : Ordering) (x y : ℕ) (xs ys : List ℕ) → MatchOrdering o (x < y) (x ≡ y) (y < x) → one_step o xs ys ≡ false → (less xs ys ≡ false → IsLess xs ys → ⊥) → IsLess (x ∷ xs) (y ∷ ys) → ⊥
unfolding one_step
not_at Less x y xs ys m e f h = true≢false e
not_at Equal x y xs ys m e f (inl g) = omega (arith, m, g)
not_at Equal x y xs ys m e f (inr g) = f e g.1
not_at Greater x y xs ys m e f (inl g) = omega (arith, m, g)
not_at Greater x y xs ys m e f (inr g) = let n = g.0 in omega (arith, m, n)

less_is : (a b : List ℕ) → less a b ≡ true → IsLess a b
unfolding one_step
less_is [] [] e = absurd (true≢false (sym e))
less_is (x ∷ a) [] e = absurd (true≢false (sym e))
less_is [] (y ∷ ys) e = tt
less_is (x ∷ xs) (y ∷ ys) e = less_at (nat_cmp x y) x y xs ys (ranks x y) e (less_is xs ys)

less_not : (a b : List ℕ) → less a b ≡ false → IsLess a b → ⊥
unfolding one_step
less_not a [] e h = nothing_less a h
less_not [] (y ∷ ys) e h = true≢false e
less_not (x ∷ xs) (y ∷ ys) e h = not_at (nat_cmp x y) x y xs ys (ranks x y) e (less_not xs ys) h

pub less_told : (b : Bool) (xs ys : List ℕ) → b ≡ less xs ys → MatchBool b (IsLess xs ys) (IsLess xs ys → ⊥)
less_told true xs ys e = less_is xs ys (sym e)
less_told false xs ys e = less_not xs ys (sym e)

-- what was passed of an input, cut off it
pub cut_before : (start rest : List ℕ) → IsEnd start rest → start ≡ take (length start - length rest) start ++ rest
cut_before start rest (front, e) =
    let n : length start - length rest ≡ length front = let k = ap length e ∙ length-append front rest in omega (arith, k) in
    e ∙ ap (λ l. l ++ rest) (sym (ap (λ m. take m start) n ∙ ap (take (length front)) e ∙ take-append_seam front rest))
