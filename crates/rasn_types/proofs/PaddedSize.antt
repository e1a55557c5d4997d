-- A size that a bound admits with larger ones.
use Rattle.std.proofs.Common.{◌≡◌, ℕ, ◌+◌, ◌-◌, ◌<◌, ◌≤◌, ◌⊎◌, inl, inr, Bool, true, false, Option, Some, None, sym, subst, arith}
use Rattle.std.specs.Option.{unwrap_or}
use Rattle.rasn_types.specs.Truth.{IsWhether}
use Rattle.rasn_types.specs.Shapes.{IsWithin}
use Rattle.rasn_types.specs.declared.types.constraints.Bounded.{Bounded}
use Rattle.rasn_types.specs.declared.types.constraints.Bounded.TheVariants.{Single, Range}

-- Some size from this one on is within the bound.
abbrev pub IsWithinPadded : Bounded ℕ → ℕ → Type 0
IsWithinPadded bounded size = (more : ℕ) × IsWithin ◌≤◌ bounded (size + more)

-- What a test of an order says.
abbrev pub Tells : Bool → ℕ → ℕ → Type 0
Tells b m n = ((b ≡ true) × (m ≤ n)) ⊎ ((b ≡ false) × (n < m))

one_padded : (b : Bool) (only size : ℕ) → Tells b size only → IsWhether b (IsWithinPadded (Single only) size)
one_padded b only size (inl (e, h)) = subst (λ x. IsWhether x (IsWithinPadded (Single only) size)) (sym e) (only - size, omega (arith, h))
one_padded b only size (inr (e, h)) = subst (λ x. IsWhether x (IsWithinPadded (Single only) size)) (sym e) (λ (more, k). absurd (omega (arith, h, k)))

pub single_padded : (bounded : Bounded ℕ) (b : Bool) (only size : ℕ) → bounded ≡ Single only → Tells b size only → IsWhether b (IsWithinPadded bounded size)
single_padded bounded b only size e h = subst (λ z. IsWhether b (IsWithinPadded z size)) (sym e) (one_padded b only size h)

none_above : (start : Option ℕ) (size : ℕ) → IsWithinPadded (Range start None) size
none_above None size = (0, (tt, tt))
none_above (Some low) size = (low, (omega arith, tt))

pub open_padded : (bounded : Bounded ℕ) (start end : Option ℕ) (size : ℕ) → bounded ≡ Range start end → end ≡ None → IsWithinPadded bounded size
open_padded bounded start end size e f =
    subst (λ z. IsWithinPadded z size) (sym e) (subst (λ z. IsWithinPadded (Range start z) size) (sym f) (none_above start size))

-- The lower end, or 0 if it is open.
abbrev pub IsLow : Option ℕ → ℕ → Type 0
IsLow None low = low ≡ 0
IsLow (Some l) low = low ≡ l

pub low_end : (start : Option ℕ) (low : ℕ) → low ≡ unwrap_or start 0 → IsLow start low
low_end None low e = e
low_end (Some l) low e = e

within_range : (start : Option ℕ) (low high size : ℕ) → IsLow start low → size ≤ high → low ≤ high → IsWithinPadded (Range start (Some high)) size
within_range None low high size e h k = (high - size, (tt, omega (arith, h)))
within_range (Some l) low high size e h k = (high - size, (omega (arith, e, h, k), omega (arith, h)))

empty_range : (start : Option ℕ) (low high size : ℕ) → IsLow start low → high < low → IsWithinPadded (Range start (Some high)) size → ⊥
empty_range None low high size e h w = absurd (omega (arith, e, h))
empty_range (Some l) low high size e h (more, (k, m)) = absurd (omega (arith, e, h, k, m))

some_range : (start : Option ℕ) (b : Bool) (low high size : ℕ) → IsLow start low → size ≤ high → Tells b low high → IsWhether b (IsWithinPadded (Range start (Some high)) size)
some_range start b low high size l h (inl (e, k)) = subst (λ x. IsWhether x (IsWithinPadded (Range start (Some high)) size)) (sym e) (within_range start low high size l h k)
some_range start b low high size l h (inr (e, k)) = subst (λ x. IsWhether x (IsWithinPadded (Range start (Some high)) size)) (sym e) (empty_range start low high size l k)

module _ (bounded : Bounded ℕ) (start end : Option ℕ) (high size : ℕ) (e : bounded ≡ Range start end) (f : end ≡ Some high) where
  at_range : (P : Bounded ℕ → Type 0) → P (Range start (Some high)) → P bounded
  at_range P p = subst P (sym e) (subst (λ z. P (Range start z)) (sym f) p)

  pub range_padded : (b : Bool) (low : ℕ) → IsLow start low → size ≤ high → Tells b low high → IsWhether b (IsWithinPadded bounded size)
  range_padded b low l h t = at_range (λ z. IsWhether b (IsWithinPadded z size)) (some_range start b low high size l h t)

  pub range_passed : high < size → IsWithinPadded bounded size → ⊥
  range_passed h = at_range (λ z. IsWithinPadded z size → ⊥) (λ (more, (l, k)). absurd (omega (arith, h, k)))
