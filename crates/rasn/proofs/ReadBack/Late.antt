-- Components from a number on, in their order: those of unknown values.
use Rattle.std.proofs.Common.{◌≡◌, ℕ, suc, ◌+◌, ◌<◌, ◌≤◌, ◌⊎◌, inl, inr, List, [], ◌∷◌, ◌++◌, refl, sym, ap, ◌∙◌, subst, arith}
use Rattle.rasn_types.specs.declared.types.codec.Codec.{Codec}
use Rattle.rasn_types.specs.Order.{IsBeforeAll, AreInOrder, IsReordered}
use Rattle.rasn_types.specs.Shapes.{Tree, Parts, part, count}
use Rattle.rasn_types.specs.Shapes.Parts.{none}
use Rattle.rasn_types.specs.Bytes.{Component, ComponentsOf, UnknownComponents, ComesBefore}
use Rattle.rasn_types.proofs.InOrder.{same_order, one_order_of_components}

abbrev pub Late : ℕ → List Component → List Component → Type 0
Late n [] es = es ≡ []
Late n (d ∷ ds) es = ((n ≤ d.number) × (more : List Component) × (es ≡ d ∷ more) × Late n ds more) ⊎ ((d.number < n) × Late n ds es)

-- A component that is put in.
early_in : (n : ℕ) (x : Component) (front back es : List Component) → x.number < n → Late n (front ++ back) es → Late n (front ++ (x ∷ back)) es
early_in n x [] back es l h = inr (l, h)
early_in n x (y ∷ front) back es l (inl (m, more, e, h)) = inl (m, more, e, early_in n x front back more l h)
early_in n x (y ∷ front) back es l (inr (m, h)) = inr (m, early_in n x front back es l h)

late_in : (n : ℕ) (x : Component) (front back es : List Component) → n ≤ x.number → Late n (front ++ back) es
    → (a : List Component) × (b : List Component) × (es ≡ a ++ b) × Late n (front ++ (x ∷ back)) (a ++ (x ∷ b))
late_in n x [] back es l h = ([], es, refl, inl (l, es, refl, h))
late_in n x (y ∷ front) back es l (inl (m, more, e, h)) =
    let r = late_in n x front back more l h in
    (y ∷ r.0, r.1, e ∙ ap (λ z. y ∷ z) r.2, inl (m, r.0 ++ (x ∷ r.1), refl, r.3))
late_in n x (y ∷ front) back es l (inr (m, h)) = let r = late_in n x front back es l h in (r.0, r.1, r.2, inr (m, r.3))

late_reordered : (n : ℕ) (xs ds es : List Component) → IsReordered xs ds → Late n xs es → (fs : List Component) × Late n ds fs × IsReordered es fs
late_reordered n [] ds es p h = ([], subst (λ l. Late n l []) (sym p) refl, subst (λ l. IsReordered l []) (sym h) refl)
late_reordered n (x ∷ xs) ds es (a, b, e, p) (inl (l, more, f, h)) =
    let r = late_reordered n xs (a ++ b) more p h in
    let q = late_in n x a b r.0 l r.1 in
    (q.0 ++ (x ∷ q.1), subst (λ l. Late n l (q.0 ++ (x ∷ q.1))) (sym e) q.3, subst (λ l. IsReordered l (q.0 ++ (x ∷ q.1))) (sym f) (q.0, q.1, refl, subst (IsReordered more) q.2 r.2))
late_reordered n (x ∷ xs) ds es (a, b, e, p) (inr (l, h)) =
    let r = late_reordered n xs (a ++ b) es p h in
    (r.0, subst (λ l. Late n l r.0) (sym e) (early_in n x a b r.0 l r.1), r.2)

late_before : (n : ℕ) (c : Component) (ds es : List Component) → Late n ds es → IsBeforeAll ComesBefore c ds → IsBeforeAll ComesBefore c es
late_before n c [] es h b = subst (IsBeforeAll ComesBefore c) (sym h) tt
late_before n c (d ∷ ds) es (inl (l, more, e, h)) b = subst (IsBeforeAll ComesBefore c) (sym e) (b.0, late_before n c ds more h b.1)
late_before n c (d ∷ ds) es (inr (l, h)) b = late_before n c ds es h b.1

late_in_order : (n : ℕ) (ds es : List Component) → Late n ds es → AreInOrder ComesBefore ds → AreInOrder ComesBefore es
late_in_order n [] es h o = subst (AreInOrder ComesBefore) (sym h) tt
late_in_order n (d ∷ ds) es (inl (l, more, e, h)) o = subst (AreInOrder ComesBefore) (sym e) (late_before n d ds more h o.0, late_in_order n ds more h o.1)
late_in_order n (d ∷ ds) es (inr (l, h)) o = late_in_order n ds es h o.1

-- The components of parts have lower numbers.
parts_early : (rule : Codec) (ps : Parts) (k n : ℕ) (bs : List (List ℕ)) (cs es fs : List Component) → k + count ps ≤ n → ComponentsOf rule k ps bs cs → Late n es fs → Late n (cs ++ es) fs
parts_early rule none k n bs cs es fs l h i = subst (λ x. Late n (x ++ es) fs) (sym h) i
parts_early rule (part presence s ps) k n [] cs es fs l h i = subst (λ x. Late n (x ++ es) fs) (sym h) i
parts_early rule (part presence s ps) k n ([] ∷ bs) cs es fs l h i = parts_early rule ps (suc k) n bs cs es fs (omega (arith, l)) h i
parts_early rule (part presence s ps) k n ((o ∷ b) ∷ bs) cs es fs l (tag, more, e, placed, h) i =
    subst (λ x. Late n (x ++ es) fs) (sym e) (inr (omega (arith, l), parts_early rule ps (suc k) n bs more es fs (omega (arith, l)) h i))

unknown_late : (k n : ℕ) (us : List Tree) (es : List Component) → n ≤ k → UnknownComponents k us es → Late n es es
unknown_late k n [] es l h = subst (λ x. Late n x x) (sym h) refl
unknown_late k n (u ∷ us) es l (tag, b, more, e, begins, f, h) = subst (λ x. Late n x x) (sym f) (inl (l, more, refl, unknown_late (suc k) n us more (omega (arith, l)) h))

-- Unknown values that are in order are in the same order among all components.
pub unknown_among : (rule : Codec) (ps : Parts) (bs : List (List ℕ)) (us : List Tree) (cs es ds : List Component) → ComponentsOf rule 0 ps bs cs → UnknownComponents (count ps) us es → IsReordered (cs ++ es) ds
    → AreInOrder ComesBefore ds → AreInOrder ComesBefore es → Late (count ps) ds es
unknown_among rule ps bs us cs es ds m h p order rising =
    let n = count ps in
    let r = late_reordered n (cs ++ es) ds es p (parts_early rule ps 0 n bs cs es es (omega arith) m (unknown_late n n us es (omega arith) h)) in
    subst (Late n ds) (one_order_of_components es r.0 es r.2 (same_order es) (late_in_order n ds r.0 r.1 order) rising) r.1
