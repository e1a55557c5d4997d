-- The test of octets, and runs that don't fall.
use Rattle.std.proofs.Common.{◌≡◌, ◌<◌, ◌⊎◌, ℕ, Bool, true, false, ◌||◌, ◌&&◌, List, [], ◌∷◌, inl, inr, arith, ltb, eqb, sym}
use Rattle.std.proofs.lemmas.Grind.{common_steps}
use Rattle.rasn_types.specs.Truth.{IsWhether}
use Rattle.rasn_types.specs.Bytes.{IsLess, AreAscending}
use Rattle.rasn_types.specs.Tags.{IsTagBelow}
use Rattle.rasn_types.specs.declared.types.tag.Tag.{Tag}
use Rattle.rasn_enc.specs.Order.{octets_less}

step_less : (x y : ℕ) (b : Bool) → ltb x y || (eqb x y && b) ≡ true → (x < y) ⊎ ((x ≡ y) × (b ≡ true))
step_less x y true e = grind (arith, common_steps)
step_less x y false e = grind (arith, common_steps)

step_not : (x y : ℕ) (b : Bool) → ltb x y || (eqb x y && b) ≡ false → (x < y → ⊥) × (x ≡ y → b ≡ false)
step_not x y true e = grind (arith, common_steps)
step_not x y false e = grind (arith, common_steps)

pub less_is : (a b : List ℕ) → octets_less a b ≡ true → IsLess a b
less_is a [] e = cc
less_is [] (y ∷ ys) e = tt
less_is (x ∷ xs) (y ∷ ys) e = elim (step_less x y (octets_less xs ys) e) [ inl h ↦ inl h | inr h ↦ inr (h.0, less_is xs ys h.1) ]

pub less_not : (a b : List ℕ) → octets_less a b ≡ false → IsLess a b → ⊥
less_not a [] e h = h
less_not [] (y ∷ ys) e h = cc
less_not (x ∷ xs) (y ∷ ys) e (inl h) = (step_not x y (octets_less xs ys) e).0 h
less_not (x ∷ xs) (y ∷ ys) e (inr h) = less_not xs ys ((step_not x y (octets_less xs ys) e).1 h.0) h.1

-- What is known of the rest of a run is known of the run.
pub record Same (all rest : List Tag) : Type 0 where
  pub on : AreAscending IsTagBelow rest → AreAscending IsTagBelow all
  pub back : AreAscending IsTagBelow all → AreAscending IsTagBelow rest

pub fall_told : (b : Bool) (x y : List ℕ) → b ≡ octets_less x y → IsWhether b (IsLess x y)
fall_told true x y e = less_is x y (sym e)
fall_told false x y e = less_not x y (sym e)
