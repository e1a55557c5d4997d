-- Alternatives by their indices.
use Rattle.std.proofs.Common.{◌≡◌, ℕ, zero, suc, List, [], ◌∷◌, Some, inl, inr, subst, refl}
use Rattle.std.specs.Prelude.{slice_get}
use Rattle.rasn_types.specs.declared.types.tag.Tag.{Tag}
use Rattle.rasn_types.specs.Shapes.{Shape, IsFirst, IsFirstOf}
use Rattle.rasn_schema.specs.declared.types.Alternative.{Alternative}
use Rattle.rasn_schema.specs.Shapes.{alternatives_by}
use Rattle.rasn_schema.proofs.Lists.{some_is}

module _ (f : ℕ → Shape) (tag : Tag) where
  pub first_of_all : (ks : List Alternative) (k : ℕ) (a : Alternative) → Some a ≡ slice_get ks k → IsFirst (f a.type_id.0) tag → IsFirstOf (alternatives_by f ks) tag
  first_of_all [] k a e h = absurd cc
  first_of_all (b ∷ ks) zero a e h = inl (subst (λ (x : Alternative). IsFirst (f x.type_id.0) tag) (some_is a b e) h)
  first_of_all (b ∷ ks) (suc k) a e h = inr (first_of_all ks k a e h)

  pub first_of_none : (ks : List Alternative) → ((k : ℕ) (a : Alternative) → Some a ≡ slice_get ks k → IsFirst (f a.type_id.0) tag → ⊥) → IsFirstOf (alternatives_by f ks) tag → ⊥
  first_of_none [] n h = h
  first_of_none (b ∷ ks) n (inl h) = n 0 b refl h
  first_of_none (b ∷ ks) n (inr h) = first_of_none ks (λ k a e g. n (suc k) a e g) h
