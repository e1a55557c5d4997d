-- What is written inside values that hold others.
use Rattle.std.proofs.Common.{◌≡◌, ◌≤◌, ◌⊎◌, inl, inr, ◌∷◌, [], ◌++◌, ℕ, List, map, length, Bool, true, false, true≢false, nat_eq, None, Some, Result, Ok, Err, OnOk, IfErr, refl, sym, ap, ◌∙◌, subst, rules, tests}
use Rattle.rasn_types.specs.declared.types.tag.Tag.{Tag}
use Rattle.rasn_types.specs.declared.types.constraints.Constraints.{Constraints}
use Rattle.rasn_types.specs.declared.error.encode.EncodeError.{EncodeError}
use Rattle.rasn_types.specs.Errors.{IsEncodeOutOfMemory}
use Rattle.rasn_types.specs.Contents.{joined_lists}
use Rattle.rasn_types.specs.Shapes.{Tree, items, joined, set_elements, Shape, prefix, seq, set, sorted_set, list, set_of, Parts, part, own_tag, Key, Presence, required, addition, optional_by, default_by, Admits}
use Rattle.rasn_types.specs.Bytes.{Bytes, WritesPart, Each, AreAscending, IsLess}
use Rattle.rasn_types.proofs.SetOf.Same.{items_one}
use Rattle.rasn_types.proofs.Encoding.SameAsItself.{one_writing}
use Rattle.rasn_enc.specs.View.{View, OpenList, fresh, appended, LeavesOthers}
use Rattle.rasn_enc.specs.Encoding.{AppendsEncoding, AppendsPart, EncodeFails, EncodePartFails}
use Rattle.rasn_enc.specs.Sequence.{EncodesParts}
use Rattle.rasn_enc.specs.SequenceOf.{FailsAtElements}
use Rattle.rasn_enc.proofs.OwnTypes.Sequence.{appended-nil, part_appended, parts_end}
use Rattle.rasn_enc.proofs.Constructed.SequenceOf.{ElementsSoFar, element_refused, each_at}
use Rattle.rasn_enc.proofs.Constructed.SetOf.{SetOfSoFar, set_elements_one, front_is, order_front, set_of_element_refused}
use Rattle.rasn_schema.specs.declared.types.Component.{Component}
use Rattle.rasn_schema.specs.declared.value.Value.{Value, Chosen'}
use Rattle.rasn_schema.specs.declared.types.«Type».{«Type»}
use Rattle.rasn_schema.specs.declared.types.«Type».TheVariants.{Choice}
use Rattle.rasn_schema.specs.Reach.{Reaches}
use Rattle.rasn_schema.proofs.TypeShapes.{shape_below}
use Rattle.rasn_schema.specs.Trees.{tree_of}
use Rattle.std.proofs.Common.{zero, suc, arith}
use Rattle.rasn_types.specs.Shapes.{chosen}
use Rattle.rasn_enc.specs.Choice.{IsAlternative}
use Rattle.rasn_schema.specs.Shapes.{shape_of_type, type_by, components_by, alternatives_by, choice_among, presence_by, presence_in, presence_of}
use Rattle.rasn_schema.proofs.Presences.{left_out_by}
use Rattle.rasn_types.specs.Trees.{list_tree}
use Rattle.std.specs.Prelude.{slice_get}
use Rattle.rasn_enc.specs.Primitive.{IsAllocError}
use Rattle.rasn_enc.specs.Errors.{FailsAtSize}
use Rattle.rasn_schema.specs.declared.types.Alternative.{Alternative}
use Rattle.rasn_schema.proofs.Lists.{some_is}
use Rattle.rasn_schema.specs.Fitting.{AlternativeFits, ComponentFits, ComponentsFit, EachFits, IsChosen}
use Rattle.rasn_dynamic.specs.Written.{WritesInside, EncodesPartIf, Encodes, EncodesIf, EncodesInside, EncodesInsideIf, EncodesPartsIf, EncodesElements, EncodesElementsIf, EncodesSetOf, EncodesSetOfIf, OnlyFitting, IsEnclosed, HoldsOthers}
use Rattle.rasn_schema.specs.Fitting.{IsLeftOutAs}
use Rattle.rasn_dynamic.proofs.OnlyFitting.{fits_as}
use Rattle.rasn_dynamic.proofs.OpenChoiceWritten.{among_encoded, among_refused}
use Rattle.rasn_schema.proofs.Fitted.{FitSoFar, EachSoFar}

octets_of_fresh : (l : OpenList) (keeps : Bool) → l ≡ fresh keeps → l.octets ≡ []
octets_of_fresh l keeps e = ap (λ (x : OpenList). x.octets) e

behind_nothing : (v w : View) (keeps : Bool) (octets : List ℕ) → v.last ≡ fresh keeps → w.last.octets ≡ v.last.octets ++ octets → octets ≡ w.last.octets
behind_nothing v w keeps octets f e = sym (e ∙ ap (λ l. l ++ octets) (octets_of_fresh v.last keeps f))

no_tags : (v : View) → v.last ≡ fresh false → v.last.tags ≡ None
no_tags v f = ap (λ (x : OpenList). x.tags) f

pub left_as_it_was : (v w : View) → w ≡ v → LeavesOthers v w
left_as_it_was v w e = record { rule = ap (λ (x : View). x.rule) e; below = ap (λ (x : View). x.below) e }

pub leaves_by : (v w : View) (octets : List ℕ) (tags : List Tag) → w ≡ appended v octets tags → LeavesOthers v w
leaves_by v w octets tags e = record { rule = ap (λ (x : View). x.rule) e; below = ap (λ (x : View). x.below) e }

pub leaves_both : {v u w : View} → LeavesOthers v u → LeavesOthers u w → LeavesOthers v w
leaves_both h k = record { rule = k.rule ∙ h.rule; below = k.below ∙ h.below }

-- ---- an explicit prefix

module _ (tag : Tag) (s : Shape) (t : Tree) (v w : View) (f : v.last ≡ fresh false) where
  prefix_does : (r : Result (Unit {0}) EncodeError) → Encodes s t v r w → EncodesInside (prefix tag s) t v r w
  unfolding WritesInside
  prefix_does (Ok x) k = record { ok = subst (Bytes v.rule s t) (behind_nothing v w false k.ok.octets f (ap (λ (x : View). x.last.octets) k.ok.appended)) k.ok.defined; refused = tt }
  prefix_does (Err e) k = record {
    ok = tt;
    refused = elim k.refused.why [
      | inl m ↦ inl m
      | inr (inl n) ↦ inr n.none
      | inr (inr n) ↦ absurd (n.keeps (no_tags v f))
    ];
  }

  prefix_keeps : {F : Type 0} (r : Result (Unit {0}) EncodeError) → EncodesIf F s t v r w → LeavesOthers v w
  prefix_keeps (Ok x) h = leaves_by v w _ _ (h.does h.fits).ok.appended
  prefix_keeps (Err e) h = left_as_it_was v w h.keeps

  pub prefix_inside : {F : Type 0} (r : Result (Unit {0}) EncodeError) → EncodesIf F s t v r w → EncodesInsideIf F (prefix tag s) t v r w
  prefix_inside r h = record { fits = h.fits; does = λ g. prefix_does r (h.does g); keeps = prefix_keeps r h; rules = h.rules }

-- ---- a SEQUENCE

module _ (tag : Tag) (ps : Parts) (t u : Tree) (e : t ≡ u) (v w : View) where
  pub seq_inside : v.last ≡ fresh false → (r : Result (Unit {0}) EncodeError) → EncodesParts ps u v r w → EncodesInside (seq tag ps) t v r w
  unfolding WritesInside
  seq_inside f (Ok x) k = record {
    ok = (k.ok.trees, k.ok.encoded, e ∙ k.ok.is, k.ok.written, sym (behind_nothing v w false (joined_lists k.ok.encoded) f (ap (λ (x : View). x.last.octets) k.ok.appended)));
    refused = tt;
  }
  seq_inside f (Err x) k = record {
    ok = tt;
    refused = elim k.refused.why [
      | inl m ↦ inl m
      | inr (inl n) ↦ inr (λ c b. n.none b.0 b.1 (sym e ∙ b.2) b.3)
      | inr (inr n) ↦ absurd (n.keeps (no_tags v f))
    ];
  }

-- The size isn't admitted.
pub size_refused : {F D : Type 0} (v : View) (c : Constraints) (size : ℕ) (x : EncodeError) → FailsAtSize c size v.rule x → (F → D) → OnlyFitting F D (LeavesOthers v v) v.rule (Err x)
size_refused v c size x m d = record { fits = tt; does = d; keeps = left_as_it_was v v refl; rules = ap (λ (y : EncodeError). y.codec) m.is }

-- ---- elements

module _ (tag : Tag) (s : Shape) (c : Constraints) (t : Tree) (l : List Value) (v w : View) (f : v.last ≡ fresh false) where
  abbrev trees : List Tree
  trees = map tree_of l

  abbrev AdmitsAll : Type 0
  AdmitsAll = Admits ◌≤◌ c.size (length trees)

  pub list_inside : t ≡ items trees → AdmitsAll → (r : Result (Unit {0}) EncodeError) → EncodesElements s trees v r w → EncodesInside (list tag s c.size) t v r w
  unfolding WritesInside
  list_inside e a (Ok x) k = record {
    ok = (trees, k.ok.encoded, e, a, k.ok.each, sym (behind_nothing v w false (joined_lists k.ok.encoded) f k.ok.octets));
    refused = tt;
  }
  list_inside e a (Err x) k = record {
    ok = tt;
    refused = let q = k.refused in elim q.why [
      | inl m ↦ inl m
      | inr n ↦ inr (λ o b.
          let g = each_at (Bytes v.rule s) q.front q.tree q.back b.1 (subst (λ m. Each (Bytes v.rule s) m b.1) (sym (items_one trees b.0 (sym e ∙ b.2)) ∙ q.is) b.4) in
          n.none g.0 g.1)
    ];
  }

  set_of_why : t ≡ set_elements (items trees) → (x : EncodeError) → FailsAtElements s trees v.rule x → IsEncodeOutOfMemory x.kind ⊎ ((o : List ℕ) → WritesInside v.rule (set_of tag s c.size) t o → ⊥)
  unfolding WritesInside
  set_of_why e x (inl q) = elim q.element.why [
    | inl m ↦ inl m
    | inr n ↦ inr (λ o b.
        let g = each_at (Bytes v.rule s) q.element.front q.element.tree q.element.back b.1
        (subst (λ m. Each (Bytes v.rule s) m b.1) (sym (items_one trees b.0 (set_elements_one (items trees) (items b.0) (sym e ∙ b.2))) ∙ q.element.is) b.4) in
        n.none g.0 g.1)
  ]
  set_of_why e x (inr q) = inr (λ o b.
      let g = front_is (Bytes v.rule s) (one_writing s v.rule) q.front q.tree q.back q.encoded b.1 q.octets q.before q.defined
      (subst (λ m. Each (Bytes v.rule s) m b.1) (sym (items_one trees b.0 (set_elements_one (items trees) (items b.0) (sym e ∙ b.2))) ∙ q.is) b.4) in
      q.falls (order_front q.encoded q.octets g.0 (subst (AreAscending IsLess) g.1 b.5)))

  pub set_of_inside : t ≡ set_elements (items trees) → AdmitsAll → (r : Result (Unit {0}) EncodeError) → EncodesSetOf s trees v r w → EncodesInside (set_of tag s c.size) t v r w
  unfolding WritesInside
  set_of_inside e a (Ok x) k = record {
    ok = (trees, k.ok.wrote.encoded, e, a, k.ok.wrote.each, k.ok.order, sym (behind_nothing v w false (joined_lists k.ok.wrote.encoded) f k.ok.wrote.octets));
    refused = tt;
  }
  set_of_inside e a (Err x) k = record { ok = tt; refused = set_of_why e x k.refused }

  pub list_unsized : t ≡ items trees → (AdmitsAll → ⊥) → (x : EncodeError) → EncodesInside (list tag s c.size) t v (Err x) v
  unfolding WritesInside
  list_unsized e n x = record {
    ok = tt;
    refused = inr (λ o b. n (subst (λ m. Admits ◌≤◌ c.size (length m)) (sym (items_one trees b.0 (sym e ∙ b.2))) b.3));
  }

  pub set_of_unsized : t ≡ set_elements (items trees) → (AdmitsAll → ⊥) → (x : EncodeError) → EncodesInside (set_of tag s c.size) t v (Err x) v
  unfolding WritesInside
  set_of_unsized e n x = record {
    ok = tt;
    refused = inr (λ o b. n (subst (λ m. Admits ◌≤◌ c.size (length m)) (sym (items_one trees b.0 (set_elements_one (items trees) (items b.0) (sym e ∙ b.2)))) b.3));
  }

-- ---- one component

module _ (s : Shape) (t : Tree) (v w : View) where
  pub part_left : (p : Presence) → IsLeftOutAs p t → AppendsPart p s t v v
  part_left required e = absurd e
  part_left (optional_by key) e = record { octets = []; defined = inl (e, refl); tags = []; heads = λ k. refl; tagged = λ k b. refl; appended = appended-nil v }
  part_left addition e = record { octets = []; defined = inl (e, refl); tags = []; heads = λ k. refl; tagged = λ k b. refl; appended = appended-nil v }
  part_left (default_by key d) e = record { octets = []; defined = inl (e, refl); tags = []; heads = λ k. refl; tagged = λ k b. refl; appended = appended-nil v }

  writes : (p : Presence) → (IsLeftOutAs p t → ⊥) → (R : Tree → List ℕ → Type 0) (o : List ℕ) → R t o → WritesPart p R t o
  writes required n R o h = h
  writes (optional_by key) n R o h = inr (n, h)
  writes addition n R o h = inr (n, h)
  writes (default_by key d) n R o h = inr (n, h)

  written : (p : Presence) → (IsLeftOutAs p t → ⊥) → (R : Tree → List ℕ → Type 0) (o : List ℕ) → WritesPart p R t o → R t o
  written required n R o h = h
  written (optional_by key) n R o (inl (e, f)) = absurd (n e)
  written (optional_by key) n R o (inr (m, h)) = h
  written addition n R o (inl (e, f)) = absurd (n e)
  written addition n R o (inr (m, h)) = h
  written (default_by key d) n R o (inl (e, f)) = absurd (n e)
  written (default_by key d) n R o (inr (m, h)) = h

  module _ (p : Presence) (n : IsLeftOutAs p t → ⊥) where
    pub part_put : (r : Result (Unit {0}) EncodeError) → OnOk r (AppendsEncoding s t v w) → OnOk r (AppendsPart p s t v w)
    part_put (Ok x) a = record { octets = a.octets; defined = writes p n (Bytes v.rule s) a.octets a.defined; tags = a.tags; heads = a.heads; tagged = a.tagged; appended = a.appended }
    part_put (Err x) a = tt

    pub part_not_put : (r : Result (Unit {0}) EncodeError) → IfErr r (EncodeFails s t v) → IfErr r (EncodePartFails p s t v)
    part_not_put (Ok x) h = tt
    part_not_put (Err x) h = record {
      why = elim h.why [
        | inl m ↦ inl m
        | inr (inl m) ↦ inr (inl (record { none = λ o b. m.none o (written p n (Bytes v.rule s) o b) }))
        | inr (inr m) ↦ inr (inr (record { bare = m.bare; some = λ o b. m.some o (written p n (Bytes v.rule s) o b); keeps = m.keeps }))
      ];
    }

-- ---- components, one after the other

-- Some components are written, and the rest is left.
pub record WrittenSoFar (f : ℕ → Shape) (all rest : List Component) (us left : List Value) (old here : View) : Type 0 where
  pub on : (r : Result (Unit {0}) EncodeError) (w : View) → EncodesParts (components_by f rest) (list_tree tree_of left) here r w → EncodesParts (components_by f all) (list_tree tree_of us) old r w

pub written_start : (f : ℕ → Shape) (all : List Component) (us : List Value) (old : View) → WrittenSoFar f all all us us old old
written_start f all us old = record { on = λ r w k. k }

module _ (f : ℕ → Shape) (all rest after : List Component) (p : Component) (us left others : List Value) (u : Value) (old here : View)
    (k : WrittenSoFar f all rest us left old here) (e : rest ≡ p ∷ after) (g : left ≡ u ∷ others) where
  back : (r : Result (Unit {0}) EncodeError) (w : View) → EncodesParts (part (presence_in f p) (f p.type_id.0) (components_by f after)) (joined (tree_of u) (list_tree tree_of others)) here r w
      → EncodesParts (components_by f all) (list_tree tree_of us) old r w
  back r w h = k.on r w (subst (λ l. EncodesParts (components_by f l) (list_tree tree_of left) here r w) (sym e)
      (subst (λ l. EncodesParts (components_by f (p ∷ after)) (list_tree tree_of l) here r w) (sym g) h))

  pub written_more : (mid : View) → AppendsPart (presence_in f p) (f p.type_id.0) (tree_of u) here mid → WrittenSoFar f all after us others old mid
  written_more mid a = record { on = λ r w h. back r w (part_appended (f p.type_id.0) (components_by f after) (tree_of u) (list_tree tree_of others) here mid w r a h) }

  pub written_fails : (x : EncodeError) (mid : View) → EncodePartFails (presence_in f p) (f p.type_id.0) (tree_of u) here x → mid ≡ here → EncodesParts (components_by f all) (list_tree tree_of us) old (Err x) mid
  written_fails x mid h q = back (Err x) mid (refused x h q)
    where
      refused : (x : EncodeError) → EncodePartFails (presence_in f p) (f p.type_id.0) (tree_of u) here x → mid ≡ here
          → EncodesParts (part (presence_in f p) (f p.type_id.0) (components_by f after)) (joined (tree_of u) (list_tree tree_of others)) here (Err x) mid
      refused x h q = Rattle.rasn_enc.proofs.OwnTypes.Sequence.part_refused (f p.type_id.0) (components_by f after) (tree_of u) (list_tree tree_of others) here mid (Err x) x h q refl

-- ---- the alternative that was chosen

module _ (f : ℕ → Shape) where
  alternative_at : (ks : List Alternative) (k : ℕ) (a : Alternative) → Some a ≡ slice_get ks k → IsAlternative (alternatives_by f ks) k (f a.type_id.0)
  alternative_at [] k a e = cc
  alternative_at (j ∷ ks) zero a e = ap (λ (x : Alternative). f x.type_id.0) (some_is j a (sym e))
  alternative_at (j ∷ ks) (suc k) a e = alternative_at ks k a e

  alternative_written : (ks : List Alternative) (k : ℕ) (a : Alternative) (t : Tree) (v w : View) (r : Result (Unit {0}) EncodeError) → Some a ≡ slice_get ks k
      → Encodes (f a.type_id.0) t v r w → Encodes (choice_among (alternatives_by f ks)) (chosen k t) v r w
  alternative_written ks k a t v w (Ok x) e h = record { ok = among_encoded (alternatives_by f ks) k (f a.type_id.0) t (alternative_at ks k a e) v w h.ok; refused = tt }
  alternative_written ks k a t v w (Err x) e h = record { ok = tt; refused = among_refused (alternatives_by f ks) k (f a.type_id.0) t (alternative_at ks k a e) v v x h.refused }

-- What is written of the value that is reached is what is written of the first one.
pub reached_written : (types : List «Type») (levels k n : ℕ) (v w : Value) (ty : «Type») → Reaches types levels k v n ty w → (a b : View) (r : Result (Unit {0}) EncodeError)
    → Encodes (type_by (shape_of_type types n) ty) (tree_of w) a r b → Encodes (shape_of_type types levels k) (tree_of v) a r b
unfolding Reaches
reached_written types zero k n v w ty l a b r h = absurd l
reached_written types (suc m) k n v w ty (inl (e, f, g)) a b r h =
    subst (λ s. Encodes s (tree_of v) a r b) (sym (shape_below types (suc m) m k ty refl e))
    (subst (λ x. Encodes (type_by (shape_of_type types m) ty) (tree_of x) a r b) g (subst (λ q. Encodes (type_by (shape_of_type types q) ty) (tree_of w) a r b) f h))
reached_written types (suc m) k n v w ty (inr (name, ks, e, c)) a b r h =
    subst (λ s. Encodes s (tree_of v) a r b) (sym (shape_below types (suc m) m k (Choice name ks) refl e))
    (go v c (λ j u l. reached_written types m j n u w ty l a b r h))
  where
    go : (x : Value) → IsChosen (AlternativeFits (λ j u. Reaches types m j u n ty w) ks.items) x
        → ((j : ℕ) (u : Value) → Reaches types m j u n ty w → Encodes (shape_of_type types m j) (tree_of u) a r b) → Encodes (choice_among (alternatives_by (shape_of_type types m) ks.items)) (tree_of x) a r b
    go (Chosen' i _ u) (q, at, l) more = alternative_written (shape_of_type types m) ks.items i q (tree_of u) a b r at (more q.type_id.0 u l)
    go _ l more = absurd l

-- No component and no value is left.
pub parts_ended : (f : ℕ → Shape) (rest : List Component) (left : List Value) (v : View) → rest ≡ [] → left ≡ [] → EncodesParts (components_by f rest) (list_tree tree_of left) v (Ok tt) v
parts_ended f rest left v e g = rw (e, g) (parts_end v)

pub none_when : {X : Type 0} (l : List X) (b : Bool) → b ≡ nat_eq (length l) 0 → b ≡ true → l ≡ []
none_when [] b e f = refl
none_when (x ∷ l) b e f = let n : length (x ∷ l) ≡ 0 = search (rules, tests) in absurd (omega (arith, n))

pub some_when : {X : Type 0} (l : List X) (b : Bool) → b ≡ nat_eq (length l) 0 → b ≡ false → l ≡ [] → ⊥
some_when [] b e f g = true≢false (sym e ∙ f)
some_when (x ∷ l) b e f g = cc

-- ---- values that fit

module _ (g : ℕ → Value → Type 0) where
  pub next_component : (rest after : List Component) (p : Component) (left others : List Value) (v : Value) → rest ≡ p ∷ after → left ≡ v ∷ others → ComponentsFit g rest left
      → ComponentFits g p v × ComponentsFit g after others
  next_component rest after p left others v e f h = subst (λ l. ComponentsFit g (p ∷ after) l) f (subst (λ l. ComponentsFit g l left) e h)

  pub fits_there : (p : Component) (v : Value) → (IsLeftOutAs (presence_of p.presence) (tree_of v) → ⊥) → ComponentFits g p v → g p.type_id.0 v
  fits_there p v n (inl l) = absurd (n l)
  fits_there p v n (inr h) = h

pub next_element : (P : Value → Type 0) (rest after : List Value) (v : Value) → rest ≡ v ∷ after → EachFits P rest → P v × EachFits P after
next_element P rest after v e h = subst (EachFits P) e h

pub holds_others : (s : Shape) (tag : Tag) → IsEnclosed s tag → HoldsOthers s
holds_others (prefix tag s) u h = tt
holds_others (seq tag ps) u h = tt
holds_others (set tag ps) u h = tt
holds_others (sorted_set extensible tag ps) u h = tt
holds_others (list tag s size) u h = tt
holds_others (set_of tag s size) u h = tt
holds_others _ u h = absurd h

-- ---- a component or an element isn't written

module _ (f : ℕ → Shape) (g : ℕ → Value → Type 0) (all rest after : List Component) (p : Component) (us left others : List Value) (u : Value) (old here : View)
    (k : WrittenSoFar f all rest us left old here) (e : rest ≡ p ∷ after) (i : left ≡ u ∷ others) (j : FitSoFar g all rest us left) (o : LeavesOthers old here) where
  pub component_refused : (x : EncodeError) (mid : View) → EncodesPartIf (ComponentFits g p u) (presence_in f p) (f p.type_id.0) (tree_of u) here (Err x) mid
      → EncodesPartsIf (ComponentsFit g all us) (components_by f all) (list_tree tree_of us) old (Err x) mid
  component_refused x mid h = record {
    fits = tt;
    does = λ a. written_fails f all rest after p us left others u old here k e i x mid (h.does (next_component g rest after p left others u e i (j.down a)).0).refused h.keeps;
    keeps = leaves_both o (left_as_it_was here mid h.keeps);
    rules = h.rules ∙ o.rule;
  }

module _ (P : Value → Type 0) (s : Shape) (all rest after : List Value) (u : Value) (old here : View) where
  pub element_not_written : ElementsSoFar s (map tree_of all) (map tree_of rest) old here → rest ≡ u ∷ after → EachSoFar P all rest → (x : EncodeError) (mid : View)
      → EncodesIf (P u) s (tree_of u) here (Err x) mid → EncodesElementsIf (EachFits P all) s (map tree_of all) old (Err x) mid
  element_not_written k e j x mid h = record {
    fits = tt;
    does = λ a. record {
      ok = tt;
      refused = element_refused s (map tree_of all) (map tree_of rest) (map tree_of after) (tree_of u) old here k (ap (map tree_of) e) x (h.does (next_element P rest after u e (j.down a)).0).refused;
    };
    keeps = leaves_both k.others (left_as_it_was here mid h.keeps);
    rules = h.rules ∙ k.others.rule;
  }

  pub set_element_not_written : (start : ℕ) → SetOfSoFar s (map tree_of all) (map tree_of rest) old here start → rest ≡ u ∷ after → EachSoFar P all rest → (x : EncodeError) (mid : View)
      → EncodesIf (P u) s (tree_of u) here (Err x) mid → EncodesSetOfIf (EachFits P all) s (map tree_of all) old (Err x) mid
  set_element_not_written start k e j x mid h = record {
    fits = tt;
    does = λ a. record {
      ok = tt;
      refused = inl (set_of_element_refused s (map tree_of all) (map tree_of rest) (map tree_of after) (tree_of u) old here start k (ap (map tree_of) e) x
          (h.does (next_element P rest after u e (j.down a)).0).refused);
    };
    keeps = leaves_both k.so_far.others (left_as_it_was here mid h.keeps);
    rules = h.rules ∙ k.so_far.others.rule;
  }

-- ---- one component

module _ (g : ℕ → Value → Type 0) (s : Shape) (p : Component) (u : Value) (v : View) (key : Key) where
  pub part_skipped : IsLeftOutAs (presence_of p.presence) (tree_of u) → EncodesPartIf (ComponentFits g p u) (presence_by key p.presence) s (tree_of u) v (Ok tt) v
  part_skipped e = record {
    fits = inl e;
    does = λ h. record { ok = part_left s (tree_of u) v v (presence_by key p.presence) (left_out_by own_tag key p.presence (tree_of u) e); refused = tt };
    keeps = tt;
    rules = tt;
  }

  pub part_written : (IsLeftOutAs (presence_of p.presence) (tree_of u) → ⊥) → (w : View) (r : Result (Unit {0}) EncodeError) → EncodesIf (g p.type_id.0 u) s (tree_of u) v r w
      → EncodesPartIf (ComponentFits g p u) (presence_by key p.presence) s (tree_of u) v r w
  part_written n w r h =
      let m : IsLeftOutAs (presence_by key p.presence) (tree_of u) → ⊥ = λ e. n (left_out_by key own_tag p.presence (tree_of u) e) in
      fits_as r inr (fits_there g p u n)
      (λ k. record { ok = part_put s (tree_of u) v w (presence_by key p.presence) m r k.ok; refused = part_not_put s (tree_of u) v w (presence_by key p.presence) m r k.refused }) h

pub not_opened : {F : Type 0} (s : Shape) (t : Tree) (v w : View) (e : EncodeError) → w ≡ v → IsAllocError v.rule e → EncodesIf F s t v (Err e) w
not_opened s t v w e k m = record {
  fits = tt;
  does = λ f. record { ok = tt; refused = record { why = inl (ap (λ (x : EncodeError). x.kind) m) } };
  keeps = k;
  rules = ap (λ (x : EncodeError). x.codec) m;
}
