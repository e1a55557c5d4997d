-- Lists in another order; and there is only one in which each element is before those after it.
use Rattle.std.proofs.Common.{◌≡◌, ◌<◌, ◌⊎◌, inl, inr, List, [], ◌∷◌, ◌++◌, refl, sym, ap, ap₂, ◌∙◌, subst, arith}
use Rattle.std.proofs.lemmas.Bool.{cases_order}
use Rattle.rasn_types.specs.Tags.{Tag, rank, IsTagBelow}
use Rattle.rasn_types.specs.Order.{Each, IsBeforeAll, AreInOrder, IsReordered}
use Rattle.rasn_types.specs.Bytes.{Component, ComesBefore}
use Rattle.rasn_types.proofs.Headers.Frames.{tag_one}

pub same_order : {X : Type 0} (xs : List X) → IsReordered xs xs
same_order [] = refl
same_order (x ∷ xs) = ([], xs, refl, same_order xs)

-- Lists that are related element by element stay so in another order.
pub insert_each : {X Y : Type 0} (R : X → Y → Type 0) (x : X) (y : Y) → R x y → (before after : List X) (ys : List Y) → Each R (before ++ after) ys
    → (front : List Y) × (back : List Y) × (ys ≡ front ++ back) × Each R (before ++ (x ∷ after)) (front ++ (y ∷ back))
insert_each R x y r [] after ys h = ([], ys, refl, (y, ys, refl, r, h))
insert_each R x y r (z ∷ before) after ys (w, more, e, s, h) =
    let o = insert_each R x y r before after more h in
    (w ∷ o.0, o.1, e ∙ ap (λ l. w ∷ l) o.2, (w, o.0 ++ (y ∷ o.1), refl, s, o.3))

pub each_reordered : {X Y : Type 0} (R : X → Y → Type 0) (xs xs' : List X) (ys : List Y) → IsReordered xs xs' → Each R xs ys → (ys' : List Y) × Each R xs' ys' × IsReordered ys ys'
each_reordered R [] xs' ys p h = ([], subst (λ l. Each R l []) (sym p) refl, subst (λ l. IsReordered l []) (sym h) refl)
each_reordered R (x ∷ xs) xs' ys (before, after, e, p) (y, more, f, r, h) =
    let o = each_reordered R xs (before ++ after) more p h in
    let i = insert_each R x y r before after o.0 o.1 in (
      i.0 ++ (y ∷ i.1),
      subst (λ l. Each R l (i.0 ++ (y ∷ i.1))) (sym e) i.3,
      subst (λ l. IsReordered l (i.0 ++ (y ∷ i.1))) (sym f) (i.0, i.1, refl, subst (IsReordered more) i.2 o.2),
    )

module _ {X : Type 0} (R : X → X → Type 0) where
  before_one : (x : X) (front : List X) (y : X) (back : List X) → IsBeforeAll R x (front ++ (y ∷ back)) → R x y
  before_one x [] y back h = h.0
  before_one x (z ∷ front) y back h = before_one x front y back h.1

  before_less : (x : X) (front : List X) (y : X) (back : List X) → IsBeforeAll R x (front ++ (y ∷ back)) → IsBeforeAll R x (front ++ back)
  before_less x [] y back h = h.1
  before_less x (z ∷ front) y back h = (h.0, before_less x front y back h.1)

  pub in_order_less : (front : List X) (y : X) (back : List X) → AreInOrder R (front ++ (y ∷ back)) → AreInOrder R (front ++ back)
  in_order_less [] y back h = h.1
  in_order_less (z ∷ front) y back h = (before_less z front y back h.0, in_order_less front y back h.1)

-- Two lists of the same elements are equal if no two elements may be in either order.
module _ {X : Type 0} (R S : X → X → Type 0) (clash : (x y : X) → R x y → S y x → ⊥) where
  place_one : (x : X) (a b c d : List X) → a ++ b ≡ c ++ d → AreInOrder R (a ++ (x ∷ b)) → AreInOrder S (c ++ (x ∷ d)) → a ++ (x ∷ b) ≡ c ++ (x ∷ d)
  place_one x [] b [] d e h k = ap (λ l. x ∷ l) e
  place_one x [] b (y ∷ c) d e h k = absurd (clash x y (subst (IsBeforeAll R x) e h.0).0 (before_one S y c x d k.0))
  place_one x (y ∷ a) b [] d e h k = absurd (clash y x (before_one R y a x b h.0) (subst (IsBeforeAll S x) (sym e) k.0).0)
  place_one x (y ∷ a) b (z ∷ c) d e h k =
      let p : y ≡ z = cc in
      let q : a ++ b ≡ c ++ d = cc in
      ap₂ ◌∷◌ p (place_one x a b c d q h.1 k.1)

  pub one_order : (xs ys zs : List X) → IsReordered xs ys → IsReordered xs zs → AreInOrder R ys → AreInOrder S zs → ys ≡ zs
  one_order [] ys zs p q h k = p ∙ sym q
  one_order (x ∷ xs) ys zs (a, b, e, p) (c, d, f, q) h k =
      let h' = subst (AreInOrder R) e h in
      let k' = subst (AreInOrder S) f k in
      let o = one_order xs (a ++ b) (c ++ d) p q (in_order_less R a x b h') (in_order_less S c x d k') in
      e ∙ (place_one x a b c d o h' k' ∙ sym f)

-- ---- the order of tags

pub not_both_below : (s t : Tag) → IsTagBelow s t → IsTagBelow t s → ⊥
not_both_below s t (inl h) (inl k) = omega (arith, h, k)
not_both_below s t (inl h) (inr k) = omega (arith, h, k.0)
not_both_below s t (inr h) (inl k) = omega (arith, h.0, k)
not_both_below s t (inr h) (inr k) = omega (arith, h.1, k.1)

pub not_below_itself : (t : Tag) → IsTagBelow t t → ⊥
not_below_itself t h = not_both_below t t h h

pub below_or_same : (s t : Tag) → IsTagBelow s t ⊎ (IsTagBelow t s ⊎ (s ≡ t))
below_or_same s t = go (cases_order (rank s.class) (rank t.class)) (cases_order s.value t.value)
  where
    go : (rank s.class ≡ rank t.class) ⊎ ((rank s.class < rank t.class) ⊎ (rank t.class < rank s.class)) → (s.value ≡ t.value) ⊎ ((s.value < t.value) ⊎ (t.value < s.value))
        → IsTagBelow s t ⊎ (IsTagBelow t s ⊎ (s ≡ t))
    go (inl e) (inl f) = inr (inr (tag_one s t e f))
    go (inl e) (inr (inl l)) = inl (inr (e, l))
    go (inl e) (inr (inr l)) = inr (inl (inr (sym e, l)))
    go (inr (inl l)) v = inl (inl l)
    go (inr (inr l)) v = inr (inl (inl l))

pub neither_below : (s t : Tag) → (IsTagBelow s t → ⊥) → (IsTagBelow t s → ⊥) → s ≡ t
neither_below s t h k = elim (below_or_same s t) [
  | inl l ↦ absurd (h l)
  | inr (inl l) ↦ absurd (k l)
  | inr (inr e) ↦ e
]

pub below_trans : (s t u : Tag) → IsTagBelow s t → IsTagBelow t u → IsTagBelow s u
below_trans s t u (inl h) (inl k) = inl (omega (arith, h, k))
below_trans s t u (inl h) (inr k) = inl (omega (arith, h, k.0))
below_trans s t u (inr h) (inl k) = inl (omega (arith, h.0, k))
below_trans s t u (inr h) (inr k) = inr (h.0 ∙ k.0, omega (arith, h.1, k.1))

-- ---- the order of components

pub not_both_before : (c d : Component) → ComesBefore c d → ComesBefore d c → ⊥
not_both_before c d (inl h) (inl k) = not_both_below c.tag d.tag h k
not_both_before c d (inl h) (inr k) = not_below_itself c.tag (subst (IsTagBelow c.tag) k.0 h)
not_both_before c d (inr h) (inl k) = not_below_itself d.tag (subst (IsTagBelow d.tag) h.0 k)
not_both_before c d (inr h) (inr k) = omega (arith, h.1, k.1)

-- Components have one order.
pub one_order_of_components : (cs ds es : List Component) → IsReordered cs ds → IsReordered cs es → AreInOrder ComesBefore ds → AreInOrder ComesBefore es → ds ≡ es
one_order_of_components = one_order ComesBefore ComesBefore not_both_before
