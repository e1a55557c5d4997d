-- Octet strings have only one ascending order.
use Rattle.std.proofs.Common.{◌≡◌, ℕ, zero, suc, ◌+◌, ◌<◌, ◌⊎◌, inl, inr, List, [], ◌∷◌, refl, sym, ap, ap₂, ◌∙◌, subst, arith, sum_by, IsPermutation}
use Rattle.std.proofs.lemmas.List.Sums.{sum_by-cons}
use Rattle.std.proofs.lemmas.List.Sorted.{sum_by-IsPermutation}
use Rattle.std.proofs.lemmas.Bool.{cases_order}
use Rattle.rasn_types.specs.Bytes.{IsLess, AreAscending}

less_either : (z y x : List ℕ) → IsLess z x → IsLess z y ⊎ IsLess y x
less_either z y [] h = absurd h
less_either [] [] (c ∷ x) h = inr tt
less_either [] (b ∷ y) (c ∷ x) h = inl tt
less_either (a ∷ z) [] (c ∷ x) h = inr tt
less_either (a ∷ z) (b ∷ y) (c ∷ x) h = go (less_either z y x) h (cases_order a b) (cases_order b c)
  where
    tail : (a ≡ c) × IsLess z x → a ≡ b → IsLess z y ⊎ IsLess y x → IsLess (a ∷ z) (b ∷ y) ⊎ IsLess (b ∷ y) (c ∷ x)
    tail k e (inl l) = inl (inr (e, l))
    tail k e (inr l) = inr (inr (sym e ∙ k.0, l))

    go : (IsLess z x → IsLess z y ⊎ IsLess y x) → (a < c) ⊎ ((a ≡ c) × IsLess z x) → (a ≡ b) ⊎ ((a < b) ⊎ (b < a)) → (b ≡ c) ⊎ ((b < c) ⊎ (c < b)) → IsLess (a ∷ z) (b ∷ y) ⊎ IsLess (b ∷ y) (c ∷ x)
    go f k (inr (inl l)) m = inl (inl l)
    go f k l (inr (inl m)) = inr (inl m)
    go f (inr k) (inl l) m = tail k l (f k.1)
    go f (inl k) (inl l) (inl m) = absurd (omega arith)
    go f (inl k) (inl l) (inr (inr m)) = absurd (omega arith)
    go f (inl k) (inr (inr l)) (inl m) = absurd (omega arith)
    go f (inl k) (inr (inr l)) (inr (inr m)) = absurd (omega arith)
    go f (inr k) (inr (inr l)) (inl m) = let e = k.0 in absurd (omega arith)
    go f (inr k) (inr (inr l)) (inr (inr m)) = let e = k.0 in absurd (omega arith)

neither_less : (x y : List ℕ) → (IsLess x y → ⊥) → (IsLess y x → ⊥) → x ≡ y
neither_less [] [] h k = refl
neither_less [] (b ∷ y) h k = absurd (h tt)
neither_less (a ∷ x) [] h k = absurd (k tt)
neither_less (a ∷ x) (b ∷ y) h k = go (neither_less x y) (cases_order a b)
  where
    go : ((IsLess x y → ⊥) → (IsLess y x → ⊥) → x ≡ y) → (a ≡ b) ⊎ ((a < b) ⊎ (b < a)) → a ∷ x ≡ b ∷ y
    go f (inl e) = ap₂ ◌∷◌ e (f (λ l. h (inr (e, l))) (λ l. k (inr (sym e, l))))
    go f (inr (inl l)) = absurd (h (inl l))
    go f (inr (inr l)) = absurd (k (inl l))

-- 1 if the two are equal, and otherwise 0.
is_one : ℕ → ℕ → ℕ
is_one zero zero = 1
is_one zero (suc n) = 0
is_one (suc m) zero = 0
is_one (suc m) (suc n) = is_one m n

is_one_itself : (n : ℕ) → is_one n n ≡ 1
unfolding is_one
is_one_itself zero = refl
is_one_itself (suc n) = is_one_itself n

is_one_then : (m n : ℕ) → (is_one m n ≡ 0) ⊎ (m ≡ n)
unfolding is_one
is_one_then zero zero = inr refl
is_one_then zero (suc n) = inl refl
is_one_then (suc m) zero = inl refl
is_one_then (suc m) (suc n) = go (is_one_then m n)
  where
    go : (is_one m n ≡ 0) ⊎ (m ≡ n) → (is_one m n ≡ 0) ⊎ (suc m ≡ suc n)
    go (inl e) = inl e
    go (inr e) = inr (ap suc e)

abbrev if_one : ℕ → ℕ → ℕ
if_one zero n = 0
if_one (suc m) n = n

same : List ℕ → List ℕ → ℕ
same [] [] = 1
same [] (b ∷ y) = 0
same (a ∷ x) [] = 0
same (a ∷ x) (b ∷ y) = if_one (is_one a b) (same x y)

same_itself : (x : List ℕ) → same x x ≡ 1
unfolding same
same_itself [] = refl
same_itself (a ∷ x) = ap (λ z. if_one z (same x x)) (is_one_itself a) ∙ same_itself x

same_then : (x y : List ℕ) → (same x y ≡ 0) ⊎ (x ≡ y)
unfolding same
same_then [] [] = inr refl
same_then [] (b ∷ y) = inl refl
same_then (a ∷ x) [] = inl refl
same_then (a ∷ x) (b ∷ y) = go (is_one_then a b) (same_then x y)
  where
    none : (m : ℕ) → if_one m 0 ≡ 0
    none zero = refl
    none (suc m) = refl

    go : (is_one a b ≡ 0) ⊎ (a ≡ b) → (same x y ≡ 0) ⊎ (x ≡ y) → (if_one (is_one a b) (same x y) ≡ 0) ⊎ (a ∷ x ≡ b ∷ y)
    go (inl e) f = inl (ap (λ z. if_one z (same x y)) e)
    go (inr e) (inr f) = inr (ap₂ ◌∷◌ e f)
    go (inr e) (inl f) = inl (ap (if_one (is_one a b)) f ∙ none (is_one a b))

count : List ℕ → List (List ℕ) → ℕ
count x l = sum_by (same x) l

count_cons : (x y : List ℕ) (l : List (List ℕ)) → count x (y ∷ l) ≡ same x y + count x l
unfolding count
count_cons x y l = sum_by-cons (same x) y l

count_none : (x : List ℕ) → count x [] ≡ 0
unfolding count
count_none x = refl

count_moved : (x : List ℕ) (k l : List (List ℕ)) → IsPermutation k l → count x k ≡ count x l
unfolding count
count_moved x k l p = sym (sum_by-IsPermutation (same x) k l p)

abbrev Among : List ℕ → List (List ℕ) → Type 0
Among x [] = ⊥
Among x (y ∷ l) = (x ≡ y) ⊎ Among x l

counted_step : (x y : List ℕ) (l : List (List ℕ)) → 0 < count x (y ∷ l) → (0 < count x l → Among x l) → (same x y ≡ 0) ⊎ (x ≡ y) → (x ≡ y) ⊎ Among x l
counted_step x y l h f (inl e) = inr (f (omega (arith, count_cons x y l)))
counted_step x y l h f (inr e) = inl e

counted : (x : List ℕ) (l : List (List ℕ)) → 0 < count x l → Among x l
counted x [] h = absurd (omega (arith, count_none x))
counted x (y ∷ l) h = counted_step x y l h (counted x l) (same_then x y)

-- No element is below the first.
first_least : (x : List ℕ) (l : List (List ℕ)) → AreAscending IsLess (x ∷ l) → (y : List ℕ) → Among y (x ∷ l) → IsLess y x → ⊥
first_least x l h y (inl e) k = itself x (subst (λ z. IsLess z x) e k)
  where
    itself : (x : List ℕ) → IsLess x x → ⊥
    itself [] h = h
    itself (a ∷ x) (inl h) = omega arith
    itself (a ∷ x) (inr h) = itself x h.1
first_least x [] h y (inr m) k = absurd m
first_least x (z ∷ l) h y (inr m) k = go (first_least z l h.1 y m) (less_either y z x k)
  where
    go : (IsLess y z → ⊥) → IsLess y z ⊎ IsLess z x → ⊥
    go rest (inl p) = rest p
    go rest (inr p) = h.0 p

out_of_order_less : (x : List ℕ) (l : List (List ℕ)) → AreAscending IsLess (x ∷ l) → AreAscending IsLess l
out_of_order_less x [] h = tt
out_of_order_less x (y ∷ l) h = h.1

by_counts : (k l : List (List ℕ)) → AreAscending IsLess k → AreAscending IsLess l → ((x : List ℕ) → count x k ≡ count x l) → k ≡ l
by_counts [] [] h i c = refl
by_counts [] (y ∷ l) h i c = absurd (omega (arith, c y, count_none y, count_cons y y l, same_itself y))
by_counts (x ∷ k) [] h i c = absurd (omega (arith, c x, count_none x, count_cons x x k, same_itself x))
by_counts (x ∷ k) (y ∷ l) h i c =
    let p : Among x (y ∷ l) = counted x (y ∷ l) (omega (arith, c x, count_cons x x k, same_itself x)) in
    let q : Among y (x ∷ k) = counted y (x ∷ k) (omega (arith, c y, count_cons y y l, same_itself y)) in
    let e : x ≡ y = neither_less x y (first_least y l i x p) (first_least x k h y q) in
    ap₂ ◌∷◌ e (by_counts k l (out_of_order_less x k h) (out_of_order_less y l i) (λ z.
    let f : same z x ≡ same z y = ap (same z) e in omega (arith, c z, count_cons z x k, count_cons z y l)))

pub ordered_one : (k l : List (List ℕ)) → AreAscending IsLess k → AreAscending IsLess l → IsPermutation k l → k ≡ l
ordered_one k l h i p = by_counts k l h i (λ x. count_moved x k l p)
