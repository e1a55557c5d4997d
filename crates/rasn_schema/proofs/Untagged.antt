-- The type inside explicit tags.
use Rattle.std.proofs.Common.{◌≡◌, ℕ, zero, suc, ◌<◌, List, length, Option, Some, None, MatchOption, refl, sym, subst, ◌∙◌, arith}
use Rattle.std.specs.Prelude.{slice_get}
use Rattle.std.specs.Borrow.{Bor}
use Rattle.rasn_types.specs.declared.types.tag.Tag.{Tag}
use Rattle.rasn_schema.specs.declared.type_id.TypeId.{TypeId}
use Rattle.rasn_schema.specs.declared.types.«Type».{«Type»}
use Rattle.rasn_schema.specs.declared.types.«Type».TheVariants.{Leaf, Enumerated, Any, Tagged, Choice, Sequence, Set, SequenceOf, SetOf, Unknown}
use Rattle.rasn_schema.specs.Shapes.{found_by, shape_of_type}
use Rattle.rasn_schema.specs.Schemas.{IsPrefix, IsSchema}
use Rattle.rasn_schema.specs.Held.{IsTagged, IsInside, IsUntagged}
use Rattle.rasn_schema.proofs.Lists.{some_is}

-- ---- what a step inside keeps

pub not_tagged : (ty : «Type») → ((tag : Tag) (inner : TypeId) → ty ≡ Tagged tag inner → ⊥) → IsTagged ty → ⊥
not_tagged (Tagged tag inner) n = λ h. n tag inner refl
not_tagged (Leaf kind tag c names) n = λ h. h
not_tagged (Enumerated tag ns) n = λ h. h
not_tagged (Any tag) n = λ h. h
not_tagged (Choice name ks) n = λ h. h
not_tagged (Sequence tag ps) n = λ h. h
not_tagged (Set name tag ps) n = λ h. h
not_tagged (SequenceOf tag k c) n = λ h. h
not_tagged (SetOf tag k c) n = λ h. h
not_tagged Unknown n = λ h. h

same_inner : (s t : Tag) (a b : TypeId) → Some (Tagged s a) ≡ Some (Tagged t b) → a ≡ b
same_inner s t a b e = cc

module _ (types : List «Type») (k : ℕ) where
  pub inside_none : None ≡ slice_get types k → (ty : «Type») → IsUntagged types k ty → ⊥
  unfolding IsInside
  inside_none e ty (zero, (s, n)) = let h : Some ty ≡ None = s ∙ sym e in cc
  inside_none e ty (suc tags, (tag, inner, s, h)) = let g : Some (Tagged tag inner) ≡ None = s ∙ sym e in cc

  pub inside_here : (ty : «Type») → Some ty ≡ slice_get types k → (IsTagged ty → ⊥) → IsUntagged types k ty
  unfolding IsInside
  inside_here ty e n = (zero, (e, n))

  module _ (tag : Tag) (inner : TypeId) (e : Some (Tagged tag inner) ≡ slice_get types k) where
    pub inside_more : (ty : «Type») → IsUntagged types inner.0 ty → IsUntagged types k ty
    unfolding IsInside
    inside_more ty (tags, h) = (suc tags, (tag, inner, e, h))

    pub inside_less : (ty : «Type») → IsUntagged types k ty → IsUntagged types inner.0 ty
    unfolding IsInside
    inside_less ty (zero, (s, n)) = absurd (n (subst IsTagged (some_is (Tagged tag inner) ty (e ∙ sym s)) tt))
    inside_less ty (suc tags, (other, other_inner, s, h)) = (tags, subst (λ (i : TypeId). IsInside types tags i.0 ty) (same_inner other tag other_inner inner (s ∙ sym e)) h)

    -- What is found inside is found.
    pub found_inside : (r : Option (Bor «Type»)) → MatchOption r ((ty : «Type») → IsUntagged types inner.0 ty → ⊥) (λ x. IsUntagged types inner.0 x.now)
        → MatchOption r ((ty : «Type») → IsUntagged types k ty → ⊥) (λ x. IsUntagged types k x.now)
    found_inside None h = λ ty u. h ty (inside_less ty u)
    found_inside (Some x) h = inside_more x.now h

-- There is one such type.
pub same_inside : (types : List «Type») (m n k : ℕ) (a b : «Type») → IsInside types m k a → IsInside types n k b → a ≡ b
unfolding IsInside
same_inside types zero zero k a b (s, p) (t, q) = some_is a b (s ∙ sym t)
same_inside types zero (suc n) k a b (s, p) (tag, inner, t, q) = absurd (p (subst IsTagged (some_is (Tagged tag inner) a (t ∙ sym s)) tt))
same_inside types (suc m) zero k a b (tag, inner, s, p) (t, q) = absurd (q (subst IsTagged (some_is (Tagged tag inner) b (s ∙ sym t)) tt))
same_inside types (suc m) (suc n) k a b (tag, inner, s, p) (other, other_inner, t, q) =
    same_inside types m n inner.0 a b p (subst (λ (i : TypeId). IsInside types n i.0 b) (same_inner other tag other_inner inner (t ∙ sym s)) q)

pub one_inside : (types : List «Type») (k : ℕ) (a b : «Type») → IsUntagged types k a → IsUntagged types k b → a ≡ b
one_inside types k a b (m, p) (n, q) = same_inside types m n k a b p q

-- ---- explicit tags end

-- The number of a type with an explicit tag, plus one: it gets lower from tag to tag.
unfoldable pub tags_below : Option «Type» → ℕ → ℕ
tags_below (Some (Tagged tag inner)) k = suc k
tags_below _ k = 0

pub tags_end : (types : List «Type») → IsSchema types → (k : ℕ) (tag : Tag) (inner : TypeId) → Some (Tagged tag inner) ≡ slice_get types k
    → tags_below (slice_get types inner.0) inner.0 < tags_below (slice_get types k) k
unfolding shape_of_type tags_below
tags_end types w k tag inner e = subst (λ o. tags_below (slice_get types inner.0) inner.0 < tags_below o k) e (go (slice_get types inner.0) refl)
  where
    go : (o : Option «Type») → slice_get types inner.0 ≡ o → tags_below o inner.0 < suc k
    go (Some (Tagged s j)) f =
        let h : inner.0 < k = (w.0 k (Tagged tag inner) e).1 (subst (λ o. IsPrefix (found_by (λ i. shape_of_type types (length types) i) o)) (sym f) tt) in omega arith
    go None f = omega arith
    go (Some (Leaf kind t c names)) f = omega arith
    go (Some (Enumerated t ns)) f = omega arith
    go (Some (Any t)) f = omega arith
    go (Some (Choice name ks)) f = omega arith
    go (Some (Sequence t ps)) f = omega arith
    go (Some (Set name t ps)) f = omega arith
    go (Some (SequenceOf t j c)) f = omega arith
    go (Some (SetOf t j c)) f = omega arith
    go (Some Unknown) f = omega arith
