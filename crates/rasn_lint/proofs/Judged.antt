-- The departures of parts, one after the other.
use Rattle.std.proofs.Common.{◌≡◌, inl, inr, ℕ, List, [], ◌∷◌, ◌++◌, Bool, true, Option, Some, None, slice_get, ◌<◌, ◌≤◌, ◌+◌, suc, length, drop, get_or, drop-cons, add-one, refl, sym, ap, ◌∙◌, subst, append_assoc, append-nil}
use Rattle.std.proofs.lemmas.List.{drop_all}
use Rattle.std.specs.Prelude.{◌↔◌}
use Rattle.std.specs.List.{AllByRecursion}
use Rattle.rasn_types.specs.declared.types.tag.Tag.{Tag}
use Rattle.rasn_types.specs.Shapes.{numbers}
use Rattle.rasn_schema.specs.declared.types.«Type».{«Type»}
use Rattle.rasn_schema.specs.declared.types.«Type».TheVariants.{Leaf, Enumerated, Any, Tagged, Choice, Sequence, Set, SequenceOf, SetOf, Unknown}
use Rattle.rasn_dynamic.specs.declared.span.Span.{Span}
use Rattle.rasn_dynamic.specs.Walk.{path_after}
use Rattle.rasn_lint.specs.declared.by_schema.OpenTypes.{OpenTypes}
use Rattle.rasn_lint.specs.declared.by_schema.OpenTypes.TheVariants.{Unexamined, Examined}
use Rattle.rasn_lint.specs.declared.departure.Departure.{Departure}
use Rattle.rasn_lint.specs.declared.trail.Step.{Step}
use Rattle.rasn_lint.specs.Trail.{trail_after}
use Rattle.rasn_lint.specs.Judged.{AreJudged, AreOfPart, AreOpenDepartures}
use Rattle.rasn_lint.specs.Untyped.{HasOpen}
use Rattle.rasn_lint.specs.Lint.{HasFormed}
use Rattle.rasn_lint.specs.WellFormed.{IsWellFormed, AreEncodings}

-- One part more, where the path leads to it and the trail to the part before it; and no more.
module _ (is_read : Bool) (opens : OpenTypes) (types : List «Type») (len : ℕ) (parts : List Span) where
  -- What is found of the parts before this one, and of those from it on, is all.
  abbrev pub Continues : List Step → List ℕ → ℕ → List Departure → Type 0
  Continues trail path i list = (more : List Departure) → AreJudged is_read opens types len trail path (drop i parts) more → AreJudged is_read opens types len [] [] parts (list ++ more)

  pub one_more : (trail seen new_trail : List Step) (path seen_path new_path : List ℕ) (i : ℕ) (e : Span) (list new_list : List Departure) → Continues trail path i list → i < length parts → e ≡ get_or parts i e
      → seen ≡ trail → seen_path ≡ new_path → new_path ≡ path_after path e → new_trail ≡ trail_after trail e
      → ((ds : List Departure) × (new_list ≡ list ++ ds) × AreOfPart is_read opens types len seen seen_path e ds) → Continues new_trail new_path (i + 1) new_list
  one_more trail seen new_trail path seen_path new_path i e list new_list f within is p q r s (ds, z, h) more j =
      let next : drop i parts ≡ e ∷ drop (i + 1) parts = drop-cons parts i e within ∙ ap (λ x. x ∷ drop (suc i) parts) (sym is) ∙ ap (λ n. e ∷ drop n parts) (sym (add-one i)) in
      let mine : AreOfPart is_read opens types len trail (path_after path e) e ds = subst (λ x. AreOfPart is_read opens types len trail x e ds) (q ∙ r) (subst (λ x. AreOfPart is_read opens types len x seen_path e ds) p h) in
      let others : AreJudged is_read opens types len (trail_after trail e) (path_after path e) (drop (i + 1) parts) more =
      subst (λ x. AreJudged is_read opens types len (trail_after trail e) x (drop (i + 1) parts) more) r (subst (λ x. AreJudged is_read opens types len x new_path (drop (i + 1) parts) more) s j) in
      subst (λ x. AreJudged is_read opens types len [] [] parts x) (sym (ap (λ x. x ++ more) z ∙ append_assoc list ds more))
      (f (ds ++ more) (subst (λ x. AreJudged is_read opens types len trail path x (ds ++ more)) (sym next) (ds, more, refl, mine, others)))

  pub no_more : (trail : List Step) (path : List ℕ) (i : ℕ) (list : List Departure) → Continues trail path i list → length parts ≤ i → AreJudged is_read opens types len [] [] parts list
  no_more trail path i list f past =
      subst (λ x. AreJudged is_read opens types len [] [] parts x) (append-nil list)
      (f [] (subst (λ x. AreJudged is_read opens types len trail path x []) (sym (drop_all i parts past)) refl))

pub open_one : (tag : Tag) (o a b : List ℕ) → HasOpen tag o a → HasOpen tag o b → a ≡ b
open_one tag o a b (r, x) (s, y) = let h : numbers b ≡ numbers a = (x.1 (numbers b) s y.0).0 in cc

-- There is no departure inside a part exactly if the octets of its open type, or its unknown values, are well formed.
abbrev pub Formed : Option «Type» → Span → Type 0
Formed o e = ((tag : Tag) (inside : List ℕ) → o ≡ Some (Any tag) → HasOpen tag e.octets.now inside → IsWellFormed inside) × (o ≡ Some Unknown → AreEncodings e.octets.now)

pub formed_if : (o : Option «Type») (len : ℕ) (path : List ℕ) (e : Span) (ds : List Departure) → AreOpenDepartures len path e o ds → (ds ≡ []) ↔ Formed o e
formed_if None len path e ds h = (λ q. ((λ tag inside p. cc), λ p. cc), λ f. h)
formed_if (Some (Any tag)) len path e ds (inl (inside, has, iff, all)) = (
  λ q. (
    (λ t i p g.
        let s : t ≡ tag = cc in
        let k : inside ≡ i = open_one tag e.octets.now inside i has (subst (λ u. HasOpen u e.octets.now i) s g) in
        subst IsWellFormed k (iff.0 q)),
    λ p. cc,
  ),
  λ f. iff.1 (f.0 tag inside refl has),
)
formed_if (Some (Any tag)) len path e ds (inr (none, q)) = (
  λ z. (
    (λ t i p g.
        let s : t ≡ tag = cc in
        absurd (none i (subst (λ u. HasOpen u e.octets.now i) s g))),
    λ p. cc,
  ),
  λ f. q,
)
formed_if (Some (Leaf kind tag c names)) len path e ds h = (λ q. ((λ t inside p. cc), λ p. cc), λ f. h)
formed_if (Some (Enumerated tag ns)) len path e ds h = (λ q. ((λ t inside p. cc), λ p. cc), λ f. h)
formed_if (Some (Tagged tag id)) len path e ds h = (λ q. ((λ t inside p. cc), λ p. cc), λ f. h)
formed_if (Some (Choice name ks)) len path e ds h = (λ q. ((λ t inside p. cc), λ p. cc), λ f. h)
formed_if (Some (Sequence tag ps)) len path e ds h = (λ q. ((λ t inside p. cc), λ p. cc), λ f. h)
formed_if (Some (Set name tag ps)) len path e ds h = (λ q. ((λ t inside p. cc), λ p. cc), λ f. h)
formed_if (Some (SequenceOf tag id c)) len path e ds h = (λ q. ((λ t inside p. cc), λ p. cc), λ f. h)
formed_if (Some (SetOf tag id c)) len path e ds h = (λ q. ((λ t inside p. cc), λ p. cc), λ f. h)
formed_if (Some Unknown) len path e ds (iff, all) = (λ q. ((λ t inside p. cc), λ p. iff.0 q), λ f. iff.1 (f.1 refl))

-- Two lists without elements are one.
both_empty : {A : Type 0} (a b c : List A) → a ≡ b ++ c → b ≡ [] → c ≡ [] → a ≡ []
both_empty a b c p q r = p ∙ (ap (λ z. z ++ c) q ∙ r)

first_empty : {A : Type 0} (b c : List A) → b ++ c ≡ [] → b ≡ []
first_empty [] c p = refl
first_empty (x ∷ b) c p = cc

-- Of a message that DER reads there are only departures inside open types.
module _ (types : List «Type») (len : ℕ) where
  pub none_typed : (trail : List Step) (path : List ℕ) (es : List Span) (ds : List Departure) → AreJudged true Unexamined types len trail path es ds → ds ≡ []
  none_typed trail path [] ds h = h
  none_typed trail path (e ∷ es) ds (mine, others, p, m, h) =
      both_empty ds mine others p (both_empty mine m.typed m.inside m.are m.by_type m.by_octets) (none_typed (trail_after trail e) (path_after path e) es others h)

  pub none_if_formed : (trail : List Step) (path : List ℕ) (es : List Span) (ds : List Departure) → AreJudged true Examined types len trail path es ds
      → AllByRecursion (HasFormed types) es → ds ≡ []
  none_if_formed trail path [] ds h a = h
  none_if_formed trail path (e ∷ es) ds (mine, others, p, m, h) a =
      both_empty ds mine others p (both_empty mine m.typed m.inside m.are m.by_type ((formed_if (slice_get types e.id.0) len (path_after path e) e m.inside m.by_octets).1 a.0))
      (none_if_formed (trail_after trail e) (path_after path e) es others h a.1)

  pub formed_if_none : (trail : List Step) (path : List ℕ) (es : List Span) (ds : List Departure) → AreJudged true Examined types len trail path es ds
      → ds ≡ [] → AllByRecursion (HasFormed types) es
  formed_if_none trail path [] ds h q = tt
  formed_if_none trail path (e ∷ es) ds (mine, others, p, m, h) q =
      let both : mine ++ others ≡ [] = sym p ∙ q in
      let none : mine ≡ [] = first_empty mine others both in
      let left : others ≡ [] = sym (ap (λ z. z ++ others) none) ∙ both in
      let inside : m.inside ≡ [] = sym (ap (λ z. z ++ m.inside) m.by_type) ∙ (sym m.are ∙ none) in
      ((formed_if (slice_get types e.id.0) len (path_after path e) e m.inside m.by_octets).0 inside, formed_if_none (trail_after trail e) (path_after path e) es others h left)
