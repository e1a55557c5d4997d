-- The components of a SET, each of which is written alone, are put in the order of their tags.
use Rattle.std.proofs.Common.{◌≡◌, ◌≢◌, ◌⊎◌, inl, inr, ℕ, zero, suc, ◌-◌, ◌<◌, ◌≤◌, Bool, true, false, true≢false, List, [], ◌∷◌, ◌++◌, map, length, drop, get_or, Option, Some, None, Vec, Result, Err, OnOk, IfOk, IfErr, refl, sym, ap, ap₂, subst, ◌∙◌, arith, length-append}
use Rattle.std.specs.Prelude.{slice_get}
use Rattle.std.proofs.Math.Seq.{drop-cons}
use Rattle.std.proofs.lemmas.List.{append-nil, drop_all}
use Rattle.std.proofs.lemmas.Result.{IfOk-weaker, IfErr-weaker, on_ok_weaker}
use Rattle.rasn_types.specs.declared.types.codec.Codec.{Codec}
use Rattle.rasn_types.specs.declared.types.tag.Tag.{Tag}
use Rattle.rasn_types.specs.declared.error.encode.EncodeError.{EncodeError}
use Rattle.rasn_types.specs.Errors.{IsEncodeOutOfMemory}
use Rattle.rasn_types.specs.Contents.{joined_lists}
use Rattle.rasn_types.specs.Trees.{list_tree}
use Rattle.rasn_types.specs.Shapes.{Shape, IsFirst, Tree, items, numbers, done, joined, Parts, part, count, Presence, looked_for}
use Rattle.rasn_types.specs.Shapes.Parts.{none}
use Rattle.rasn_types.specs.Bytes.{Bytes, WritesPart, IsPlacedBy}
use Rattle.rasn_enc.specs.View.{View, appended, fresh, LeavesOthers}
use Rattle.rasn_enc.specs.Primitive.{IsAllocError}
use Rattle.rasn_enc.specs.Any.{IsUntaggedInSetError}
use Rattle.rasn_enc.specs.Encoding.{NoEncodingOfPart}
use Rattle.rasn_enc.specs.SortedSet.{with_component, octets_in, HoldsParts, HaveNoPlaces, FailsAtComponents, HoldsUnknown, LackTag}
use Rattle.rasn_enc.specs.declared.ber.enc.set_parts.SetComponent.{SetComponent}
use Rattle.rasn_enc.proofs.OwnTypes.SortedSet.{holds_absent, holds_present, first_lacks, place_lacks, others_lack, no_parts, contents_held, unknown_held, unknown_fails}
use Rattle.rasn_schema.specs.declared.types.Component.{Component}
use Rattle.rasn_schema.specs.declared.types.«Type».{«Type»}
use Rattle.rasn_schema.specs.declared.types.«Type».TheVariants.{Leaf, Enumerated, Any, Tagged, Choice, Sequence, Set, SequenceOf, SetOf, Unknown}
use Rattle.rasn_schema.specs.declared.value.Value.{Value}
use Rattle.rasn_schema.specs.Trees.{tree_of}
use Rattle.rasn_schema.specs.Shapes.{shape_of_type, found_by, nothing, alternatives_by, components_by, presence_in, presence_of, is_unknown, ends_unknown, known_parts, set_among, tag_at}
use Rattle.rasn_schema.specs.Fitting.{IsLeftOutAs, ComponentFits, ComponentsFit, EachFits, AreOctets, AreItems, Fits, FitsFound}
use Rattle.rasn_schema.proofs.OpenEnds.{among_not_unknown}
use Rattle.rasn_schema.proofs.Lists.{but_last}
use Rattle.rasn_schema.proofs.UnknownEnds.{known_of}
use Rattle.rasn_dynamic.specs.Sets.{is_extensible, named_components}
use Rattle.rasn_dynamic.specs.Written.{WritesInside, EncodesInside, EncodesInsideIf, HoldsSet, FailsAtSet, AddsPart, FailsAtPart}
use Rattle.rasn_dynamic.proofs.Named.{named_by, named_is}
use Rattle.rasn_dynamic.proofs.WrittenInside.{left_as_it_was}

-- ---- the part among those after it

pub part_lacks : (p : Presence) (s : Shape) (t : Tree) (rule : Codec) (e : EncodeError) → IsEncodeOutOfMemory e.kind ⊎ NoEncodingOfPart p rule s t → FailsAtPart p s t rule e
part_lacks p s t rule e (inl m) = λ extensible ps tree. inl m
part_lacks p s t rule e (inr n) = λ extensible ps tree. inr (first_lacks extensible p s ps t tree rule n)

module _ {F : Type 0} (p : Presence) (s : Shape) (t : Tree) (rule : Codec) (octets : List ℕ) (o : F × WritesPart p (Bytes rule s) t octets) (xs : List SetComponent) where
  pub left_out : octets ≡ [] → F × AddsPart p s t rule xs xs
  left_out e = (o.0, λ extensible ps tree q. holds_absent extensible p s ps t tree rule xs q (subst (WritesPart p (Bytes rule s) t) e o.1))

  module _ (n : octets ≢ []) where
    pub put_among : (x : SetComponent) (ys : List SetComponent) → IsPlacedBy rule (IsFirst s) octets x.tag → x.octets.items ≡ octets → ys ≡ with_component x xs → F × AddsPart p s t rule xs ys
    put_among x ys i k e = (
      o.0,
      λ extensible ps tree q.
          subst (HoldsParts extensible (part p s ps) (joined t tree) rule) (sym e) (holds_present extensible p s ps t tree rule xs q x.tag octets x i o.1 n refl k),
    )

-- It is written, and has no place.
pub not_placed : (p : Presence) (s : Shape) (t : Tree) (rule : Codec) (octets : List ℕ) → WritesPart p (Bytes rule s) t octets → octets ≢ [] → ((tag : Tag) → IsPlacedBy rule (IsFirst s) octets tag → ⊥) → (e : EncodeError) → FailsAtPart p s t rule e
not_placed p s t rule octets w n l e = λ extensible ps tree. inr (place_lacks extensible p s ps t tree rule octets w n l)

-- ---- unknown components

unknown_found : (f : ℕ → Shape) (g : ℕ → Value → Type 0) (o : Option «Type») (v : Value) → is_unknown (found_by f o) ≡ true → FitsFound g o v ≡ AreItems (EachFits AreOctets) v
unknown_found f g None v e = cc
unknown_found f g (Some (Leaf kind tag c names)) v e = cc
unknown_found f g (Some (Enumerated tag ns)) v e = cc
unknown_found f g (Some (Any tag)) v e = cc
unknown_found f g (Some (Tagged tag k)) v e = cc
unknown_found f g (Some (Choice name ks)) v e = absurd (true≢false (sym e ∙ among_not_unknown (alternatives_by f ks.items)))
unknown_found f g (Some (Sequence tag ps)) v e = cc
unknown_found f g (Some (Set name tag ps)) v e = cc
unknown_found f g (Some (SequenceOf tag k c)) v e = cc
unknown_found f g (Some (SetOf tag k c)) v e = cc
unknown_found f g (Some Unknown) v e = refl

nothing_known : (o : Option Tag) → is_unknown (nothing o) ≡ false
nothing_known None = refl
nothing_known (Some tag) = refl

-- Values of such a type are lists of octets.
pub unknown_fits : (types : List «Type») (levels k : ℕ) (v : Value) → is_unknown (shape_of_type types levels k) ≡ true → Fits types levels k v ≡ AreItems (EachFits AreOctets) v
unfolding shape_of_type Fits
unknown_fits types zero k v e = absurd (true≢false (sym e ∙ nothing_known (looked_for (tag_at types k))))
unknown_fits types (suc m) k v e = unknown_found (shape_of_type types m) (Fits types m) (slice_get types k) v e

module _ {A : Type 0} (r : Result (Vec SetComponent A) EncodeError) (all given : List (List ℕ)) (t : Tree) (rule : Codec) (e : given ≡ all) (same : items (map numbers all) ≡ t) where
  pub unknown_ok : {F : Type 0} → F → IfOk r (λ v. HoldsUnknown given v.items) → IfOk r (λ v. F × HoldsParts true none (joined t done) rule v.items)
  unknown_ok f h = IfOk-weaker r _ _ (λ v q. (f, subst (λ z. HoldsParts true none (joined z done) rule v.items) same q)) (unknown_held r all given rule e h)

  pub unknown_refused : IfErr r (λ x. IsAllocError rule x ⊎ (IsUntaggedInSetError rule x × LackTag given)) → IfErr r (FailsAtComponents true none (joined t done) rule)
  unknown_refused h = subst (λ z. IfErr r (FailsAtComponents true none (joined z done) rule)) same (unknown_fails r all given rule e h)

-- ---- the components that the type names, and the last

module _ (f : ℕ → Shape) where
  unknown_last : (ps : List Component) → ends_unknown (components_by f ps) ≡ true → (p : Component) × (ps ≡ but_last ps ++ (p ∷ [])) × (is_unknown (f p.type_id.0) ≡ true)
  unknown_last [] e = cc
  unknown_last (p ∷ []) e = (p, refl, e)
  unknown_last (p ∷ (q ∷ ps)) e = let h = unknown_last (q ∷ ps) e in (h.0, ap (λ l. p ∷ l) h.1, h.2)

  drop_front : {X : Type 0} (l m : List X) → drop (length l) (l ++ m) ≡ m
  drop_front [] m = refl
  drop_front (x ∷ l) m = drop_front l m

  named_open : (ps : List Component) → is_extensible f ps ≡ true → named_components f ps ≡ but_last ps
  named_open ps e = named_by f ps ∙ ap (λ b. known_of b ps) e

  named_closed : (ps : List Component) → is_extensible f ps ≡ false → named_components f ps ≡ ps
  named_closed ps e = named_by f ps ∙ ap (λ b. known_of b ps) e

  -- The last component, after those that are named, is unknown values.
  module _ (ps named : List Component) (n : named ≡ named_components f ps) (e : is_extensible f ps ≡ true) where
    split_last : (p : Component) × (ps ≡ named ++ (p ∷ [])) × (is_unknown (f p.type_id.0) ≡ true)
    split_last = let h = unknown_last ps e in (h.0, h.1 ∙ ap (λ l. l ++ (h.0 ∷ [])) (sym (n ∙ named_open ps e)), h.2)

    pub one_more : length ps ≡ suc (length named)
    one_more = let h = split_last in let l = ap length h.1 in omega (arith, l, length-append named (h.0 ∷ []))

    pub last_unknown : (d : Component) → (drop (length named) ps ≡ get_or ps (length named) d ∷ []) × (is_unknown (f (get_or ps (length named) d).type_id.0) ≡ true)
    last_unknown d =
        let h = split_last in
        let e : drop (length named) ps ≡ h.0 ∷ [] = ap (drop (length named)) h.1 ∙ drop_front named (h.0 ∷ []) in
        let c : drop (length named) ps ≡ get_or ps (length named) d ∷ drop (suc (length named)) ps = drop-cons ps (length named) d (omega (arith, one_more)) in
        let j : h.0 ≡ get_or ps (length named) d = cc in
        (e ∙ ap (λ z. z ∷ []) j, subst (λ (z : Component). is_unknown (f z.type_id.0) ≡ true) j h.2)

  pub named_front : (ps named : List Component) → named ≡ named_components f ps → ps ≡ named ++ drop (length named) ps
  named_front ps named n = go (is_extensible f ps) refl
    where
      go : (b : Bool) → is_extensible f ps ≡ b → ps ≡ named ++ drop (length named) ps
      go true e = let h = split_last ps named n e in h.1 ∙ ap (λ l. named ++ l) (sym (ap (drop (length named)) h.1 ∙ drop_front named (h.0 ∷ [])))
      go false e =
          let i : named ≡ ps = n ∙ named_closed ps e in
          sym i ∙ (sym (append-nil named) ∙ ap (λ l. named ++ l) (sym (ap (drop (length named)) (sym i) ∙ drop_all (length named) named (omega arith))))

  pub named_within : (ps named : List Component) → named ≡ named_components f ps → length named ≤ length ps
  named_within ps named n = let l = ap length (named_front ps named n) in omega (arith, l, length-append named (drop (length named) ps))

-- ---- values that fit

module _ (g : ℕ → Value → Type 0) where
  same_number : (ps : List Component) (vs : List Value) → ComponentsFit g ps vs → length ps ≡ length vs
  same_number [] [] h = refl
  same_number [] (v ∷ vs) h = absurd h
  same_number (p ∷ ps) [] h = absurd h
  same_number (p ∷ ps) (v ∷ vs) h = ap suc (same_number ps vs h.1)

  pub other_number : (ps : List Component) (vs : List Value) → length vs ≢ length ps → ComponentsFit g ps vs → ⊥
  other_number ps vs n h = n (sym (same_number ps vs h))

  fit_at : (ps rest : List Component) (vs : List Value) (k : ℕ) (d : Component) (e : Value) → k < length ps → ComponentsFit g (ps ++ rest) vs → ComponentFits g (get_or ps k d) (get_or vs k e)
  fit_at [] rest vs k d e l h = absurd (omega (arith, l))
  fit_at (p ∷ ps) rest [] k d e l h = absurd h
  fit_at (p ∷ ps) rest (v ∷ vs) zero d e l h = h.0
  fit_at (p ∷ ps) rest (v ∷ vs) (suc k) d e l h = fit_at ps rest vs k d e (omega (arith, l)) h.1

  fit_last : (ps : List Component) (vs : List Value) (k : ℕ) (d : Component) (e : Value) → k < length ps → ComponentsFit g ps vs → ComponentFits g (get_or ps k d) (get_or vs k e)
  fit_last ps vs k d e l h = fit_at ps [] vs k d e l (subst (λ z. ComponentsFit g z vs) (sym (append-nil ps)) h)

-- ---- the loop: the components from one on are held

module _ (f : ℕ → Shape) (g : ℕ → Value → Type 0) (extensible : Bool) (all named : List Component) (values : List Value) (rule : Codec) where
  pub record HoldsFrom (left : ℕ) (xs : List SetComponent) : Type 0 where
    pub within : left ≤ length named
    pub few : length named ≤ length values
    pub fits : ComponentsFit g (drop left named ++ drop (length named) all) (drop left values)
    pub holds : HoldsParts extensible (components_by f (drop left named)) (list_tree tree_of (drop left values)) rule xs

  -- A component is put among those after it.
  abbrev pub IsAdded : Component → Value → List SetComponent → List SetComponent → Type 0
  IsAdded p v xs ys = ComponentFits g p v × AddsPart (presence_in f p) (f p.type_id.0) (tree_of v) rule xs ys

  more_at : (k : ℕ) (xs ys : List SetComponent) (d : Component) (e : Value) → HoldsFrom (suc k) xs → IsAdded (get_or named k d) (get_or values k e) xs ys → HoldsFrom k ys
  more_at k xs ys d e h a =
      let within = h.within in
      let few = h.few in
      let p = get_or named k d in
      let c : drop k named ≡ p ∷ drop (suc k) named = drop-cons named k d (omega (arith, within)) in
      let v : drop k values ≡ get_or values k e ∷ drop (suc k) values = drop-cons values k e (omega (arith, within, few)) in
      record {
        within = omega (arith, within);
        few = few;
        fits = subst (λ z. ComponentsFit g (z ++ drop (length named) all) (drop k values)) (sym c)
            (subst (λ z. ComponentsFit g (p ∷ (drop (suc k) named ++ drop (length named) all)) z) (sym v) (a.0, h.fits));
        holds = subst (λ z. HoldsParts extensible (components_by f z) (list_tree tree_of (drop k values)) rule ys) (sym c)
            (subst (λ z. HoldsParts extensible (components_by f (p ∷ drop (suc k) named)) (list_tree tree_of z) rule ys) (sym v)
            (a.1 extensible (components_by f (drop (suc k) named)) (list_tree tree_of (drop (suc k) values)) h.holds));
      }

  pub holds_more : (left : ℕ) (xs ys : List SetComponent) (p : Component) (v : Value) → 0 < left → HoldsFrom left xs → p ≡ get_or named (left - 1) p → v ≡ get_or values (left - 1) v
      → IsAdded p v xs ys → HoldsFrom (left - 1) ys
  holds_more zero xs ys p v l h i j a = absurd (omega (arith, l))
  holds_more (suc k) xs ys p v l h i j a =
      let n : suc k - 1 ≡ k = omega arith in
      subst (λ m. HoldsFrom m ys) (sym n) (more_at k xs ys p v h (subst (λ m. IsAdded (get_or named m p) (get_or values m v) xs ys) n
      (subst (λ z. IsAdded z (get_or values (suc k - 1) v) xs ys) i (subst (λ z. IsAdded p z xs ys) j a))))

  pub holds_all : (left : ℕ) (xs : List SetComponent) → left ≡ 0 → named ≡ named_components f all → extensible ≡ is_extensible f all → HoldsFrom left xs
      → ComponentsFit g all values × HoldsSet (components_by f all) (list_tree tree_of values) rule xs
  holds_all left xs z n i k =
      let h : HoldsFrom 0 xs = subst (λ m. HoldsFrom m xs) z k in (
        subst (λ l. ComponentsFit g l values) (sym (named_front f all named n)) h.fits,
        subst (λ b. HoldsParts b (known_parts (components_by f all)) (list_tree tree_of values) rule xs) i
            (subst (λ l. HoldsParts extensible l (list_tree tree_of values) rule xs) (ap (components_by f) n ∙ named_is f all) h.holds),
      )

  -- ---- errors

  lack_front : (ps : List Component) (vs : List Value) (k : ℕ) → k ≤ length ps → k ≤ length vs → HaveNoPlaces extensible (components_by f (drop k ps)) (list_tree tree_of (drop k vs)) rule
      → HaveNoPlaces extensible (components_by f ps) (list_tree tree_of vs) rule
  lack_front ps vs zero l m h = h
  lack_front [] vs (suc k) l m h = absurd (omega (arith, l))
  lack_front (p ∷ ps) [] (suc k) l m h = absurd (omega (arith, m))
  lack_front (p ∷ ps) (v ∷ vs) (suc k) l m h =
      others_lack extensible (presence_in f p) (f p.type_id.0) (components_by f ps) (tree_of v) (list_tree tree_of vs) rule (lack_front ps vs k (omega (arith, l)) (omega (arith, m)) h)

  fails_front : (k : ℕ) (x : EncodeError) → k ≤ length named → k ≤ length values → FailsAtComponents extensible (components_by f (drop k named)) (list_tree tree_of (drop k values)) rule x
      → FailsAtComponents extensible (components_by f named) (list_tree tree_of values) rule x
  fails_front k x l m (inl h) = inl h
  fails_front k x l m (inr h) = inr (lack_front named values k l m h)

  fails_set : (x : EncodeError) → named ≡ named_components f all → extensible ≡ is_extensible f all → FailsAtComponents extensible (components_by f named) (list_tree tree_of values) rule x
      → FailsAtSet (components_by f all) (list_tree tree_of values) rule x
  fails_set x n e h = subst (λ b. FailsAtComponents b (known_parts (components_by f all)) (list_tree tree_of values) rule x) e
      (subst (λ z. FailsAtComponents extensible z (list_tree tree_of values) rule x) (ap (components_by f) n ∙ named_is f all) h)

  module _ (n : named ≡ named_components f all) (i : extensible ≡ is_extensible f all) (x : EncodeError) where
    abbrev pub IsNotAdded : Component → Value → Type 0
    IsNotAdded p v = ComponentFits g p v → FailsAtPart (presence_in f p) (f p.type_id.0) (tree_of v) rule x

    fails_at : (k : ℕ) (xs : List SetComponent) (d : Component) (e : Value) → HoldsFrom (suc k) xs → IsNotAdded (get_or named k d) (get_or values k e) → ComponentsFit g all values → FailsAtSet (components_by f all) (list_tree tree_of values) rule x
    fails_at k xs d e h a fit =
        let within = h.within in
        let few = h.few in
        let p = get_or named k d in
        let c : drop k named ≡ p ∷ drop (suc k) named = drop-cons named k d (omega (arith, within)) in
        let v : drop k values ≡ get_or values k e ∷ drop (suc k) values = drop-cons values k e (omega (arith, within, few)) in
        let there = fit_at g named (drop (length named) all) values k d e (omega (arith, within)) (subst (λ z. ComponentsFit g z values) (named_front f all named n) fit) in
        fails_set x n i (fails_front k x (omega (arith, within)) (omega (arith, within, few))
        (subst (λ z. FailsAtComponents extensible (components_by f z) (list_tree tree_of (drop k values)) rule x) (sym c)
        (subst (λ z. FailsAtComponents extensible (components_by f (p ∷ drop (suc k) named)) (list_tree tree_of z) rule x) (sym v)
        (a there extensible (components_by f (drop (suc k) named)) (list_tree tree_of (drop (suc k) values))))))

    pub component_fails : (left : ℕ) (xs : List SetComponent) (p : Component) (v : Value) → 0 < left → HoldsFrom left xs → p ≡ get_or named (left - 1) p → v ≡ get_or values (left - 1) v
        → IsNotAdded p v → ComponentsFit g all values → FailsAtSet (components_by f all) (list_tree tree_of values) rule x
    component_fails zero xs p v l h j k a fit = absurd (omega (arith, l))
    component_fails (suc m) xs p v l h j k a fit =
        let o : suc m - 1 ≡ m = omega arith in
        fails_at m xs p v h (subst (λ z. IsNotAdded (get_or named z p) (get_or values z v)) o
        (subst (λ z. IsNotAdded z (get_or values (suc m - 1) v)) j (subst (λ z. IsNotAdded p z) k a))) fit

-- ---- before the loop: no component, or unknown ones

module _ (f : ℕ → Shape) (g : ℕ → Value → Type 0) (all named : List Component) (values : List Value) (rule : Codec) (n : named ≡ named_components f all) (same : length values ≡ length all) where
  pub none_held : (xs : List SetComponent) → is_extensible f all ≡ false → xs ≡ [] → HoldsFrom f g false all named values rule (length named) xs
  none_held xs e x =
      let i : named ≡ all = n ∙ named_closed f all e in
      let l = ap length i in
      let c : drop (length named) named ≡ [] = drop_all (length named) named (omega arith) in
      let d : drop (length named) all ≡ [] = drop_all (length named) all (omega (arith, l)) in
      let v : drop (length named) values ≡ [] = drop_all (length named) values (omega (arith, l, same)) in
      record {
        within = omega arith;
        few = omega (arith, l, same);
        fits = rw (c, d, v) tt;
        holds = rw (c, v, x) (no_parts rule);
      }

  module _ (e : is_extensible f all ≡ true) (q : Component) (v : Value) (i : q ≡ get_or all (length named) q) (j : v ≡ get_or values (length named) v) where
    no_named : drop (length named) named ≡ []
    no_named = drop_all (length named) named (omega arith)

    one_last : drop (length named) all ≡ q ∷ []
    one_last = (last_unknown f all named n e q).0 ∙ ap (λ z. z ∷ []) (sym i)

    one_value : drop (length named) values ≡ v ∷ []
    one_value =
        let l = one_more f all named n e in
        drop-cons values (length named) v (omega (arith, l, same)) ∙ ap₂ ◌∷◌ (sym j) (drop_all (suc (length named)) values (omega (arith, l, same)))

    pub is_last : is_unknown (f q.type_id.0) ≡ true
    is_last = subst (λ (z : Component). is_unknown (f z.type_id.0) ≡ true) (sym i) (last_unknown f all named n e q).1

    pub unknown_first : (xs : List SetComponent) → ComponentFits g q v → HoldsParts true none (joined (tree_of v) done) rule xs → HoldsFrom f g true all named values rule (length named) xs
    unknown_first xs fit h =
        let l = one_more f all named n e in
        record {
          within = omega arith;
          few = omega (arith, l, same);
          fits = rw (no_named, one_last, one_value) (fit, tt);
          holds = rw (no_named, one_value) h;
        }

    pub unknown_not : (x : EncodeError) → FailsAtComponents true none (joined (tree_of v) done) rule x → FailsAtSet (components_by f all) (list_tree tree_of values) rule x
    unknown_not x h =
        let l = one_more f all named n e in
        fails_set f g true all named values rule x n (sym e) (fails_front f g true all named values rule (length named) x (omega arith) (omega (arith, l, same)) (rw (no_named, one_value) h))

    -- Unknown components that aren't left out fit if they are such values.
    pub fit_from : (IsLeftOutAs (presence_of q.presence) (tree_of v) → ⊥) → ComponentsFit g all values → g q.type_id.0 v
    fit_from o fit =
        let l = one_more f all named n e in
        let h = fit_last g all values (length named) q v (omega (arith, l)) fit in
        elim (subst (λ z. ComponentFits g z v) (sym i) (subst (λ z. ComponentFits g (get_or all (length named) q) z) (sym j) h)) [
          | inl m ↦ absurd (o m)
          | inr m ↦ m
        ]

-- ---- the contents of the SET

module _ (tag : Tag) (ps : Parts) (t : Tree) (rule : Codec) where
  pub set_not_written : (x : EncodeError) → FailsAtSet ps t rule x → IsEncodeOutOfMemory x.kind ⊎ ((c : List ℕ) → WritesInside rule (set_among tag ps) t c → ⊥)
  unfolding WritesInside
  set_not_written x (inl m) = inl m
  set_not_written x (inr n) = inr (λ c (ts, us, bs, cs, es, ds, is, w, k, u, r, o, d). n.none ts us bs 0 (count (known_parts ps)) cs es is w k u)

  set_written : (xs : List SetComponent) → HoldsSet ps t rule xs → WritesInside rule (set_among tag ps) t (joined_lists (octets_in xs))
  unfolding WritesInside
  set_written xs q =
      let h = q.holds 0 (count (known_parts ps)) (omega arith) in
      (q.trees, q.unknowns, q.encoded, h.0, h.1, h.4.sorted, q.is, q.written, h.2, h.3, h.4.reordered, h.4.order, contents_held xs h.4.sorted h.4.held)

module _ {F : Type 0} (tag : Tag) (ps : Parts) (t : Tree) (v : View) where
  -- One of the components isn't written.
  pub set_refused : (x : EncodeError) → (F → FailsAtSet ps t v.rule x) → x.codec ≡ v.rule → EncodesInsideIf F (set_among tag ps) t v (Err x) v
  set_refused x h c = record { fits = tt; does = λ f. record { ok = tt; refused = set_not_written tag ps t v.rule x (h f) }; keeps = left_as_it_was v v refl; rules = c }

  module _ (f : v.last ≡ fresh false) (w : View) (xs : List SetComponent) (h : F × HoldsSet ps t v.rule xs) where
    contents_are : w ≡ appended v (joined_lists (octets_in xs)) [] → WritesInside v.rule (set_among tag ps) t w.last.octets
    contents_are a =
        let o : w.last.octets ≡ joined_lists (octets_in xs) = ap (λ (x : View). x.last.octets) a ∙ ap (λ (l : Rattle.rasn_enc.specs.View.OpenList). l.octets ++ joined_lists (octets_in xs)) f in
        subst (WritesInside v.rule (set_among tag ps) t) (sym o) (set_written tag ps t v.rule xs h.1)

    pub set_appended : (r : Result (Unit {0}) EncodeError) → OnOk r (w ≡ appended v (joined_lists (octets_in xs)) []) → LeavesOthers v w → IfErr r (IsAllocError v.rule) → EncodesInsideIf F (set_among tag ps) t v r w
    set_appended r a k m = record {
      fits = on_ok_weaker r (λ x. h.0) a;
      does = λ x. record { ok = on_ok_weaker r contents_are a; refused = IfErr-weaker r _ _ (λ y z. inl (ap (λ (q : EncodeError). q.kind) z)) m };
      keeps = k;
      rules = IfErr-weaker r _ _ (λ y z. ap (λ (q : EncodeError). q.codec) z) m;
    }

-- What is inside doesn't depend on the tag.
pub set_inside : (tag other : Tag) (ps : Parts) (t u : Tree) → t ≡ u → (v w : View) (r : Result (Unit {0}) EncodeError) → EncodesInside (set_among other ps) u v r w → EncodesInside (set_among tag ps) t v r w
unfolding WritesInside
set_inside tag other ps t u e v w r k = let h = subst (λ z. EncodesInside (set_among other ps) z v r w) (sym e) k in record { ok = h.ok; refused = h.refused }
