-- Numbers of an ENUMERATED of which each is above the one before it.
use Rattle.std.proofs.Common.{◌≡◌, ◌⊎◌, ◌<◌, ◌≤◌, ◌+◌, ◌-◌, ◌<ℤ◌, ℕ, List, length, Some, inl, inr, sym, ap, ◌∙◌, subst, arith}
use Rattle.std.specs.Prelude.{slice_get}
use Rattle.std.proofs.lemmas.Int.{ints}
use Rattle.std.proofs.lemmas.Bool.{cases_order}
use Rattle.std.proofs.lemmas.Option.{slice_get_within}
use Rattle.rasn_schema.specs.declared.types.NamedNumber.{NamedNumber}
use Rattle.rasn_schema.specs.Schemas.{AreDistinctNumbers}
use Rattle.rasn_schema.proofs.Lists.{some_is}

-- Of the numbers before i each is above those before it.
abbrev pub Ascend : List NamedNumber → ℕ → Type 0
Ascend l i = (j k : ℕ) (m n : NamedNumber) → j < k → k < i → Some m ≡ slice_get l j → Some n ≡ slice_get l k → m.number <ℤ n.number

pub ascend_one : (l : List NamedNumber) → Ascend l 1
ascend_one l j k m n b c d e = absurd (omega arith)

before : (j i : ℕ) → j < i → (j ≡ i - 1) ⊎ (j < i - 1)
before j i h = go (cases_order j (i - 1))
  where
    go : (j ≡ i - 1) ⊎ ((j < i - 1) ⊎ (i - 1 < j)) → (j ≡ i - 1) ⊎ (j < i - 1)
    go (inl e) = inl e
    go (inr (inl l)) = inr l
    go (inr (inr g)) = absurd (omega arith)

module _ (l : List NamedNumber) (i : ℕ) (x y : NamedNumber) (some : 0 < i) (d : Some x ≡ slice_get l (i - 1)) (e : Some y ≡ slice_get l i) (above : x.number <ℤ y.number) (a : Ascend l i) where
  at_end : (j : ℕ) (m : NamedNumber) → (j ≡ i - 1) ⊎ (j < i - 1) → Some m ≡ slice_get l j → m.number <ℤ y.number
  at_end j m (inl h) f = subst (λ (z : NamedNumber). z.number <ℤ y.number) (some_is x m (d ∙ sym (subst (λ k. Some m ≡ slice_get l k) h f))) above
  at_end j m (inr h) f = let b = a j (i - 1) m x h (omega arith) f d in omega (arith, ints, b, above)

  pub ascend_more : Ascend l (i + 1)
  ascend_more j k m n b c f g = go (before k (i + 1) c)
    where
      go : (k ≡ i + 1 - 1) ⊎ (k < i + 1 - 1) → m.number <ℤ n.number
      go (inl h) =
          let is : k ≡ i = omega (arith, h) in
          let same : y ≡ n = some_is y n (e ∙ sym (subst (λ o. Some n ≡ slice_get l o) is g)) in
          subst (λ (z : NamedNumber). m.number <ℤ z.number) same (at_end j m (before j i (omega (arith, b, is))) f)
      go (inr h) = a j k m n b (omega (arith, h)) f g

pub ascend_all : (l : List NamedNumber) (i : ℕ) → length l ≤ i → Ascend l i → AreDistinctNumbers l
ascend_all l i le a j k m n b d e same =
    let within : k < length l = slice_get_within l k n (sym e) in
    let above = a j k m n b (omega (arith, within, le)) d e in
    omega (arith, ints, above, same)
