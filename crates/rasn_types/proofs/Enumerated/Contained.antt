-- A search in a list returns whether the number is in it.
use Rattle.std.proofs.Common.{◌≡◌, ℕ, zero, suc, Bool, true, false, ◌||◌, nat_eq, List, [], ◌∷◌, Contains, refl, sym, arith}
use Rattle.rasn_types.specs.Truth.{IsWhether}
use Rattle.std.specs.List.{list_any}
use Rattle.std.proofs.lemmas.Bool.{eqb-true, eq-eqb}

in_rest : (x : ℕ) (xs : List ℕ) (n : ℕ) → Contains xs n → Contains (x ∷ xs) n
in_rest x xs n (k, i, e) = (suc k, omega arith, e)

is_parsed : (xs : List ℕ) (n : ℕ) → list_any (λ y. nat_eq y n) xs ≡ true → Contains xs n
is_parsed [] n e = cc
is_parsed (x ∷ xs) n e = go (is_parsed xs n) (nat_eq x n) refl e
  where
    go : (list_any (λ y. nat_eq y n) xs ≡ true → Contains xs n) → (b : Bool) → nat_eq x n ≡ b → (b || list_any (λ y. nat_eq y n) xs) ≡ true → Contains (x ∷ xs) n
    go h true k f = (0, omega arith, eqb-true x n k)
    go h false k f = in_rest x xs n (h f)

finds : (xs : List ℕ) (n : ℕ) → Contains xs n → list_any (λ y. nat_eq y n) xs ≡ true
finds [] n (k, i, e) = absurd (omega arith)
finds (x ∷ xs) n (zero, i, e) = rw (eq-eqb x n e) refl
finds (x ∷ xs) n (suc k, i, e) = go (finds xs n (k, omega arith, e)) (nat_eq x n)
  where
    go : list_any (λ y. nat_eq y n) xs ≡ true → (b : Bool) → (b || list_any (λ y. nat_eq y n) xs) ≡ true
    go h true = refl
    go h false = h

pub any_tells : (b : Bool) (xs : List ℕ) (n : ℕ) → b ≡ list_any (λ y. nat_eq y n) xs → IsWhether b (Contains xs n)
any_tells true xs n e = is_parsed xs n (sym e)
any_tells false xs n e = λ c. let k = finds xs n c in cc
