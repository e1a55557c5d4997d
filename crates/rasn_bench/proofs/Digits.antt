-- Readings of digits, one after the other.
use Rattle.std.proofs.Common.{◌≡◌, ◌≤◌, ◌<◌, length, get_or, arith, ℕ, List, [], ◌∷◌, ◌++◌, Option, Some, None, refl, sym, ap, ◌∙◌, append_assoc}
use Rattle.rasn_bench.specs.Lines.{behind, pairs_at}

-- these octets, and then the others
abbrev pub before : List ℕ → Option (List ℕ) → Option (List ℕ)
before xs None = None
before xs (Some ys) = Some (xs ++ ys)

before_behind : (xs : List ℕ) (x : ℕ) (r : Option (List ℕ)) → before xs (behind (Some x) r) ≡ before (xs ++ x ∷ []) r
before_behind xs x None = refl
before_behind xs x (Some ys) = ap (λ l. Some l) (sym (append_assoc xs (x ∷ []) ys))

-- one more octet is read
pub one_more : (all rest xs ys : List ℕ) (x : ℕ) (l : List ℕ) → pairs_at all ≡ before xs (pairs_at rest) → pairs_at rest ≡ behind (Some x) (pairs_at l) → ys ≡ xs ++ x ∷ [] → pairs_at all ≡ before ys (pairs_at l)
one_more all rest xs ys x l h p q = h ∙ ap (λ z. before xs z) p ∙ before_behind xs x (pairs_at l) ∙ ap (λ z. before z (pairs_at l)) (sym q)

pub before-nil : (r : Option (List ℕ)) → r ≡ before [] r
before-nil None = refl
before-nil (Some ys) = refl

pub one_item : {X : Type 0} (xs : List X) (x : X) → 1 ≤ length xs → length xs < 2 → x ≡ get_or xs 0 x → xs ≡ x ∷ []
one_item [] x a b e = absurd (omega arith)
one_item (y ∷ []) x a b e = ap (λ z. z ∷ []) (sym e)
one_item (y ∷ z ∷ xs) x a b e = absurd (omega arith)
