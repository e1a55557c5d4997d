-- What a tree that DER reads needs to be written: it is within the depth, and a default is the same as the value that it replaces.
use Rattle.std.proofs.Common.{◌≡◌, ℕ, suc, ◌-◌, ◌<◌, ◌⊎◌, ◌≢◌, inl, inr, List, [], ◌∷◌, ◌++◌, Bool, true, false, refl, sym, ap, ap₂, ◌∙◌, subst, arith, Some, None}
use Rattle.rasn_types.specs.declared.types.codec.Codec.TheVariants.{Der}
use Rattle.rasn_types.specs.Shapes.{Tree, numbers, joined, items, IsSetTree, set_elements, chosen, absent, Shape, leaf, any, prefix, choice, open_choice, option, seq, set, sorted_set, list, set_of, unknown, Parts, part, count, IsFirstOf, Presence, required, optional, addition, optional_by, default_by}
use Rattle.rasn_types.specs.Shapes.Parts.{none}
use Rattle.rasn_types.specs.Grammar.{family}
use Rattle.rasn_types.specs.Bytes.{Same, Each, WritesPart, PartsWritten, WritesChoice, Component, UnknownComponents, Bytes, fields_of}
use Rattle.rasn_types.specs.Carried.{PartIsWithinLimits, EachOf, LeafIsWithinLimits, IsOneEncoding, IsUnwritten, BeginsUnknown, NoneTaken, IsWithinLimits, AreWithinLimits, ChosenIsWithinLimits, IsUnknownValue, AreUnknownValues}
use Rattle.rasn_types.proofs.SetOf.Same.{items_one, same_sym, same_trans, each_moved}
use Rattle.rasn_types.proofs.SetTrees.{set_tree_one}
use Rattle.rasn_types.proofs.Encoding.SameOctets.{in_flat, flat_one, other_written}
use Rattle.rasn.proofs.ReadBack.Parts.{other_index, none_within, none_written}
use Rattle.rasn.specs.Laws.{IsOwnDefault, HasOwnDefaults, HaveOwnDefaults}

abbrev pub PartOwes : Presence → (Tree → Type 0) → Tree → Type 0
PartOwes required owes t = owes t
PartOwes (optional_by key) owes t = (t ≡ absent) ⊎ owes t
PartOwes addition owes t = (t ≢ absent) × owes t
PartOwes (default_by key d) owes t = Same t d ⊎ (owes t × (t ≡ d → Same t d))

unfoldable mutual
  pub Owes : Shape → ℕ → Tree → Type 0
  Owes (leaf kind tag bounds) depth t = LeafIsWithinLimits (family kind) Der kind depth t
  Owes (any tag) depth t = IsOneEncoding t
  Owes (prefix tag s) depth t = (0 < depth) × Owes s (depth - 1) t
  Owes (choice ps) depth t = OwesChoice 0 ps depth t
  Owes (open_choice ps) depth t = OwesChoice 0 ps depth t ⊎ ((u : Tree) × (t ≡ chosen (count ps) u) × IsUnknownValue Der (IsFirstOf ps) u)
  Owes (option tag s) depth t = (t ≡ absent) ⊎ Owes s depth t
  Owes (seq tag ps) depth t = (0 < depth) × (ts : List Tree) × (t ≡ items ts) × OwesParts ps (depth - 1) ts × NoneTaken Der ps ts
  Owes (set tag ps) depth t = (0 < depth) × (ts : List Tree) × (t ≡ items ts) × OwesParts ps (depth - 1) ts
  Owes (sorted_set extensible tag ps) depth t = (0 < depth) × (ts : List Tree) × (us : List Tree) × IsSetTree extensible ts us t × OwesParts ps (depth - 1) ts × AreUnknownValues Der (IsFirstOf ps) us
  Owes (list tag s size) depth t = (0 < depth) × (ts : List Tree) × (t ≡ items ts) × EachOf (Owes s (depth - 2)) ts
  Owes (set_of tag s size) depth t = (0 < depth) × (ts : List Tree) × (t ≡ set_elements (items ts)) × EachOf (Owes s (depth - 2)) ts
  Owes unknown depth t = (us : List Tree) × (t ≡ items us) × EachOf IsOneEncoding us

  pub OwesParts : Parts → ℕ → List Tree → Type 0
  OwesParts none depth ts = ts ≡ []
  OwesParts (part presence s ps) depth ts = (t : Tree) × (us : List Tree) × (ts ≡ t ∷ us) × PartOwes presence (Owes s depth) t × OwesParts ps depth us

  pub OwesChoice : ℕ → Parts → ℕ → Tree → Type 0
  OwesChoice k none depth t = ⊥
  OwesChoice k (part presence s ps) depth t = ((u : Tree) × (t ≡ chosen k u) × Owes s depth u) ⊎ OwesChoice (suc k) ps depth t

pub other_owed : (ps : Parts) (depth k j : ℕ) (t u : Tree) → j < k → t ≡ chosen j u → OwesChoice k ps depth t → ⊥
unfolding Owes
other_owed none depth k j t u h e m = m
other_owed (part presence s ps) depth k j t u h e (inl m) =
    let f = m.1 in let g : j ≡ k = cc in omega arith
other_owed (part presence s ps) depth k j t u h e (inr m) = other_owed ps depth (suc k) j t u (omega arith) e m

each_of : {P Q : Tree → Type 0} → ((t : Tree) → P t → Q t) → (ts : List Tree) → EachOf P ts → EachOf Q ts
each_of f [] h = tt
each_of f (t ∷ ts) h = (f t h.0, each_of f ts h.1)

-- ---- what is owed meets the depth

part_meets : (presence : Presence) {P Q : Tree → Type 0} → ((t : Tree) → P t → Q t) → (t : Tree) → PartOwes presence P t → PartIsWithinLimits presence Q t
part_meets required f t h = f t h
part_meets (optional_by key) f t (inl e) = inl e
part_meets (optional_by key) f t (inr h) = inr (f t h)
part_meets addition f t h = (h.0, f t h.1)
part_meets (default_by key d) f t (inl e) = inl e
part_meets (default_by key d) f t (inr h) = inr (f t h.0)

mutual
  unfolding Owes IsWithinLimits

  pub owed_meets : (s : Shape) (depth : ℕ) (t : Tree) → Owes s depth t → IsWithinLimits Der s depth t
  owed_meets (leaf kind tag bounds) depth t h = h
  owed_meets (any tag) depth t h = h
  owed_meets (prefix tag s) depth t h = (h.0, owed_meets s (depth - 1) t h.1)
  owed_meets (choice ps) depth t h = choice_meets ps depth 0 t h
  owed_meets (open_choice ps) depth t (inl h) = inl (choice_meets ps depth 0 t h)
  owed_meets (open_choice ps) depth t (inr h) = inr h
  owed_meets (option tag s) depth t (inl e) = inl e
  owed_meets (option tag s) depth t (inr h) = inr (owed_meets s depth t h)
  owed_meets (seq tag ps) depth t h = (h.0, h.1, h.2, parts_meet ps (depth - 1) h.1 h.3, h.4)
  owed_meets (set tag ps) depth t h = (h.0, h.1, h.2, parts_meet ps (depth - 1) h.1 h.3)
  owed_meets (sorted_set extensible tag ps) depth t h = (h.0, h.1, h.2, h.3, parts_meet ps (depth - 1) h.1 h.4, h.5)
  owed_meets (list tag s size) depth t h = (h.0, h.1, h.2, each_of (owed_meets s (depth - 2)) h.1 h.3)
  owed_meets (set_of tag s size) depth t h = (h.0, h.1, h.2, each_of (owed_meets s (depth - 2)) h.1 h.3)
  owed_meets unknown depth t h = h

  parts_meet : (ps : Parts) (depth : ℕ) (ts : List Tree) → OwesParts ps depth ts → AreWithinLimits Der ps depth ts
  parts_meet none depth ts h = h
  parts_meet (part presence s ps) depth ts (t, us, e, h, hs) = (t, us, e, part_meets presence (owed_meets s depth) t h, parts_meet ps depth us hs)

  choice_meets : (ps : Parts) (depth k : ℕ) (t : Tree) → OwesChoice k ps depth t → ChosenIsWithinLimits Der k ps depth t
  choice_meets none depth k t h = h
  choice_meets (part presence s ps) depth k t (inl (u, e, h)) = inl (u, e, owed_meets s depth u h)
  choice_meets (part presence s ps) depth k t (inr h) = inr (choice_meets ps depth (suc k) t h)

-- ---- where each default is the same as itself, what meets the depth owes no more

part_owes : (presence : Presence) → IsOwnDefault presence → {P Q : Tree → Type 0} → ((t : Tree) → P t → Q t) → (t : Tree) → PartIsWithinLimits presence P t → PartOwes presence Q t
part_owes required own f t h = f t h
part_owes (optional_by key) own f t (inl e) = inl e
part_owes (optional_by key) own f t (inr h) = inr (f t h)
part_owes addition own f t h = (h.0, f t h.1)
part_owes (default_by key d) own f t (inl e) = inl e
part_owes (default_by key d) own f t (inr h) = inr (f t h, λ e. subst (λ x. Same x d) (sym e) own)

mutual
  unfolding Owes IsWithinLimits

  pub meets_owed : (s : Shape) → HasOwnDefaults s → (depth : ℕ) (t : Tree) → IsWithinLimits Der s depth t → Owes s depth t
  meets_owed (leaf kind tag bounds) own depth t h = h
  meets_owed (any tag) own depth t h = h
  meets_owed (prefix tag s) own depth t h = (h.0, meets_owed s own (depth - 1) t h.1)
  meets_owed (choice ps) own depth t h = choice_owes ps own depth 0 t h
  meets_owed (open_choice ps) own depth t (inl h) = inl (choice_owes ps own depth 0 t h)
  meets_owed (open_choice ps) own depth t (inr h) = inr h
  meets_owed (option tag s) own depth t (inl e) = inl e
  meets_owed (option tag s) own depth t (inr h) = inr (meets_owed s own depth t h)
  meets_owed (seq tag ps) own depth t h = (h.0, h.1, h.2, parts_owe ps own (depth - 1) h.1 h.3, h.4)
  meets_owed (set tag ps) own depth t h = (h.0, h.1, h.2, parts_owe ps own (depth - 1) h.1 h.3)
  meets_owed (sorted_set extensible tag ps) own depth t h = (h.0, h.1, h.2, h.3, parts_owe ps own (depth - 1) h.1 h.4, h.5)
  meets_owed (list tag s size) own depth t h = (h.0, h.1, h.2, each_of (meets_owed s own (depth - 2)) h.1 h.3)
  meets_owed (set_of tag s size) own depth t h = (h.0, h.1, h.2, each_of (meets_owed s own (depth - 2)) h.1 h.3)
  meets_owed unknown own depth t h = h

  parts_owe : (ps : Parts) → HaveOwnDefaults ps → (depth : ℕ) (ts : List Tree) → AreWithinLimits Der ps depth ts → OwesParts ps depth ts
  parts_owe none own depth ts h = h
  parts_owe (part presence s ps) own depth ts (t, us, e, h, hs) = (t, us, e, part_owes presence own.0 (meets_owed s own.1 depth) t h, parts_owe ps own.2 depth us hs)

  choice_owes : (ps : Parts) → HaveOwnDefaults ps → (depth k : ℕ) (t : Tree) → ChosenIsWithinLimits Der k ps depth t → OwesChoice k ps depth t
  choice_owes none own depth k t h = h
  choice_owes (part presence s ps) own depth k t (inl (u, e, h)) = inl (u, e, meets_owed s own.1 depth u h)
  choice_owes (part presence s ps) own depth k t (inr h) = inr (choice_owes ps own.2 depth (suc k) t h)

-- ---- what is the same as a carried tree owes no more

items_alike : (ts : List Tree) (u : Tree) → Same (items ts) u → (us : List Tree) × (u ≡ items us) × Each Same ts us
items_alike [] u h = ([], h, refl)
items_alike (t ∷ ts) u (v, vs, e, s, h) =
    let r = items_alike ts vs h in
    (v ∷ r.0, subst (λ z. u ≡ joined v z) r.1 e, (v, r.0, refl, s, r.2))

-- What is the same as a SET has the same unknown values.
split_alike : (ts : List Tree) (x : Tree) (vs : List Tree) → Each Same (ts ++ (x ∷ [])) vs → (ts' : List Tree) × (y : Tree) × (vs ≡ ts' ++ (y ∷ [])) × Each Same ts ts' × Same x y
split_alike [] x vs (y, more, e, s, h) = ([], y, e ∙ ap (λ l. y ∷ l) h, refl, s)
split_alike (t ∷ ts) x vs (v, more, e, s, h) = let r = split_alike ts x more h in (v ∷ r.0, r.1, e ∙ ap (λ l. v ∷ l) r.2, (v, r.0, refl, s, r.3), r.4)

unknown_alike : (k : ℕ) (us vs : List Tree) (es : List Component) → UnknownComponents k us es → Each Same us vs → vs ≡ us
unknown_alike k [] vs es h same = same
unknown_alike k (u ∷ us) vs es (tag, b, more, e, begins, f, h) (v, rest, g, s, same) =
    g ∙ ap₂ ◌∷◌ (subst (λ z. Same z v) e s ∙ sym e) (unknown_alike (suc k) us rest more h same)

set_tree_alike : (extensible : Bool) (ts us : List Tree) (t u : Tree) (k : ℕ) (es : List Component) → UnknownComponents k us es → IsSetTree extensible ts us t → Same t u → (ts' : List Tree) × IsSetTree extensible ts' us u × Each Same ts ts'
set_tree_alike true ts us t u k es h tree same =
    let r = items_alike (ts ++ (items us ∷ [])) u (subst (λ z. Same z u) tree same) in
    let q = split_alike ts (items us) r.0 r.2 in
    let w = items_alike us q.1 q.4 in
    (q.0, r.1 ∙ (ap items q.2 ∙ ap (λ y. items (q.0 ++ (y ∷ []))) (w.1 ∙ ap items (unknown_alike k us w.0 es h w.2))), q.3)
set_tree_alike false ts us t u k es h tree same = let r = items_alike ts u (subst (λ z. Same z u) tree.1 same) in (r.0, (tree.0, r.1), r.2)

items_of : (t u : Tree) (ts us : List Tree) → t ≡ items ts → t ≡ items us → us ≡ ts
items_of t u ts us e f = items_one us ts (sym f ∙ e)

of_each : (P : Tree → Type 0) (ts us : List Tree) → Each (λ t u. P t) ts us → EachOf P ts
of_each P [] us h = tt
of_each P (t ∷ ts) us (u, us', e, p, h) = (p, of_each P ts us' h)

to_each : (P : Tree → Type 0) (ts : List Tree) → EachOf P ts → Each (λ t u. P t) ts ts
to_each P [] h = refl
to_each P (t ∷ ts) (p, h) = (t, ts, refl, p, to_each P ts h)

-- One value.
abbrev pub OwesLike : Shape → ℕ → Type 0
OwesLike s depth = (t u : Tree) (b : List ℕ) → Same t u → Bytes Der s t b → IsWithinLimits Der s depth t → Owes s depth u

part_like : (presence : Presence) (s : Shape) (depth : ℕ) → OwesLike s depth → (t u : Tree) (b : List ℕ) → Same t u → WritesPart presence (Bytes Der s) t b
    → PartIsWithinLimits presence (IsWithinLimits Der s depth) t → PartOwes presence (Owes s depth) u
part_like required s depth like t u b same w m = like t u b same w m
part_like (optional_by key) s depth like t u b same w (inl e) = inl (subst (λ z. Same z u) e same)
part_like (optional_by key) s depth like t u b same (inl (e, f)) (inr m) = inl (subst (λ z. Same z u) e same)
part_like (optional_by key) s depth like t u b same (inr (n, w)) (inr m) = inr (like t u b same w m)
part_like addition s depth like t u b same (inl (e, f)) m = absurd (m.0 e)
part_like addition s depth like t u b same (inr (n, w)) m = (λ e. n (same_sym t absent (subst (Same t) e same)), like t u b same w m.1)
part_like (default_by key d) s depth like t u b same (inl (e, f)) m = inl (same_trans u t d (same_sym t u same) e)
part_like (default_by key d) s depth like t u b same (inr (n, w)) (inl e) = absurd (n e)
part_like (default_by key d) s depth like t u b same (inr (n, w)) (inr m) = inr (like t u b same w m, λ e. absurd (n (subst (Same t) e same)))

elements_like : (s : Shape) (depth : ℕ) → OwesLike s depth → (ts us : List Tree) (bs : List (List ℕ)) → Each Same ts us → Each (Bytes Der s) ts bs
    → EachOf (IsWithinLimits Der s depth) ts → EachOf (Owes s depth) us
elements_like s depth like [] us bs same w m = subst (EachOf (Owes s depth)) (sym same) tt
elements_like s depth like (t ∷ ts) us bs (u, vs, e, a, same) (b, cs, f, w, ws) (m, ms) =
    subst (EachOf (Owes s depth)) (sym e) (like t u b a w m, elements_like s depth like ts vs cs same ws ms)

any_like : (depth : ℕ) → OwesLike (any None) depth
unfolding Owes IsWithinLimits Bytes fields_of
any_like depth t u b same w m = subst IsOneEncoding (w ∙ sym (subst (λ z. Same z u) w same)) m

-- Where no part is taken for present in a tree, none is in a tree that is the same.
unwritten_like : (presence : Presence) (t u : Tree) → Same t u → IsUnwritten presence u → IsUnwritten presence t
unwritten_like required t u same h = h
unwritten_like (optional_by key) t u same h = same_sym t absent (subst (Same t) h same)
unwritten_like addition t u same h = same_sym t absent (subst (Same t) h same)
unwritten_like (default_by key d) t u same h = same_trans t u d same h

begins_like : (ps : Parts) (ts us : List Tree) (o : List ℕ) → Each Same ts us → BeginsUnknown ps us o → BeginsUnknown ps ts o
begins_like none ts us o same h = absurd h
begins_like (part presence s ps) [] us o same h = absurd (subst (λ l. BeginsUnknown (part presence s ps) l o) same h)
begins_like (part presence s ps) (t ∷ ts) us o (v, vs, e, same, more) h = go (λ b. begins_like ps ts vs o more b) (subst (λ l. BeginsUnknown (part presence s ps) l o) e h)
  where
    go : (BeginsUnknown ps vs o → BeginsUnknown ps ts o) → BeginsUnknown (part presence s ps) (v ∷ vs) o → BeginsUnknown (part presence s ps) (t ∷ ts) o
    go rest (inl (f, w, g)) =
        let r : Same (joined (numbers o) w) t = subst (λ z. Same z t) g (same_sym t v same) in
        inl (f, r.1, r.2 ∙ ap (λ z. joined z r.1) r.3)
    go rest (inr (d, b)) = inr (unwritten_like presence t v same d, rest b)

taken_like : (ps : Parts) (ts us : List Tree) → Each Same ts us → NoneTaken Der ps ts → NoneTaken Der ps us
taken_like none ts us same h = tt
taken_like (part presence s ps) [] us same h = subst (NoneTaken Der (part presence s ps)) (sym same) tt
taken_like (part presence s ps) (t ∷ ts) us (v, vs, e, same, more) h =
    subst (NoneTaken Der (part presence s ps)) (sym e) ((λ d o b. h.0 (unwritten_like presence t v same d) o (begins_like ps ts vs o more b)), taken_like ps ts vs more h.1)

mutual
  unfolding Owes IsWithinLimits Bytes fields_of

  pub owes_like : (s : Shape) (depth : ℕ) → OwesLike s depth
  owes_like (leaf kind tag bounds) depth t u b same w m = subst (LeafIsWithinLimits (family kind) Der kind depth) (sym (flat_one t u (in_flat (family kind) Der kind tag t b w.1) same)) m
  owes_like (any None) depth t u b same w m = any_like depth t u b same w m
  owes_like (any (Some tag)) depth t u b same w m = subst IsOneEncoding (w.1 ∙ sym (subst (λ z. Same z u) w.1 same)) m
  owes_like (prefix tag s) depth t u b same w m = (m.0, owes_like s (depth - 1) t u w.0 same w.1 m.1)
  owes_like (choice ps) depth t u b same w m = choice_like ps depth 0 t u b same w m
  owes_like (open_choice ps) depth t u b same (inl w) (inl m) = inl (choice_like ps depth 0 t u b same w m)
  owes_like (open_choice ps) depth t u b same (inl w) (inr (v, e, m)) = absurd (none_written Der ps t v b e w)
  owes_like (open_choice ps) depth t u b same (inr e) (inl m) = absurd (none_within Der ps depth t (numbers b) e m)
  owes_like (open_choice ps) depth t u b same (inr e) (inr (v, f, m)) =
      let r : Same (chosen (count ps) (numbers b)) u = subst (λ z. Same z u) e same in
      let g : v ≡ numbers b = cc in
      inr (r.0, r.1, subst (IsUnknownValue Der (IsFirstOf ps)) (g ∙ sym r.2) m)
  owes_like (option tag s) depth t u b same w m = part_like optional s depth (owes_like s depth) t u b same w m
  owes_like (seq tag ps) depth t u b same (ts, bs, e, w, c) (deep, us, f, m, taken) =
      let r = items_alike ts u (subst (λ z. Same z u) e same) in (
        deep,
        r.0,
        r.1,
        parts_like ps (depth - 1) ts r.0 bs r.2 w (subst (AreWithinLimits Der ps (depth - 1)) (items_of t u ts us e f) m),
        taken_like ps ts r.0 r.2 (subst (NoneTaken Der ps) (items_of t u ts us e f) taken),
      )
  owes_like (set tag ps) depth t u b same (ts, bs, tags, e, w, q, n, o, c) (deep, us, f, m) =
      let r = items_alike ts u (subst (λ z. Same z u) e same) in
      (deep, r.0, r.1, parts_like ps (depth - 1) ts r.0 bs r.2 w (subst (AreWithinLimits Der ps (depth - 1)) (items_of t u ts us e f) m))
  owes_like (sorted_set extensible tag ps) depth t u b same (ts, us, bs, cs, es, ds, e, w, m, n, p, o, c) (deep, vs, ws, f, limits, others) =
      let r = set_tree_alike extensible ts us t u (count ps) es n e same in
      let q = set_tree_one extensible vs ws ts us t f e in (
        deep,
        r.0,
        us,
        r.1,
        parts_like ps (depth - 1) ts r.0 bs r.2 w (subst (AreWithinLimits Der ps (depth - 1)) q.0 limits),
        subst (AreUnknownValues Der (IsFirstOf ps)) q.1 others,
      )
  owes_like (list tag s size) depth t u b same (ts, bs, e, n, w, c) (deep, us, f, m) =
      let r = items_alike ts u (subst (λ z. Same z u) e same) in
      (deep, r.0, r.1, elements_like s (depth - 2) (owes_like s (depth - 2)) ts r.0 bs r.2 w (subst (EachOf (IsWithinLimits Der s (depth - 2))) (items_of t u ts us e f) m))
  owes_like (set_of tag s size) depth t u b same (ts, bs, e, n, w, o, c) (deep, us, f, m) =
      set_of_like (subst (λ z. Same z u) e same) (elements_like s (depth - 2) (owes_like s (depth - 2)) ts)
    where
      set_of_like : Same (set_elements (items ts)) u → ((us : List Tree) (bs : List (List ℕ)) → Each Same ts us → Each (Bytes Der s) ts bs → EachOf (IsWithinLimits Der s (depth - 2)) ts → EachOf (Owes s (depth - 2)) us)
          → (0 < depth) × (ts : List Tree) × (u ≡ set_elements (items ts)) × EachOf (Owes s (depth - 2)) ts
      set_of_like (vs, ws, g, p, h) like =
          let i : set_elements (items us) ≡ set_elements (items ts) = sym f ∙ e in
          let j : us ≡ ts = items_one us ts cc in
          let r = items_alike ts (items vs) h in
          let k : vs ≡ r.0 = items_one vs r.0 r.1 in
          let a : EachOf (Owes s (depth - 2)) vs = subst (EachOf (Owes s (depth - 2))) (sym k) (like r.0 bs r.2 w (subst (EachOf (IsWithinLimits Der s (depth - 2))) j m)) in
          let q = each_moved (λ x y. Owes s (depth - 2) x) vs vs ws (to_each (Owes s (depth - 2)) vs a) p in
          (deep, ws, g, of_each (Owes s (depth - 2)) ws q.0 q.1)
  owes_like unknown depth t u b same (ts, bs, e, w, c) (us, f, m) =
      let r = items_alike ts u (subst (λ z. Same z u) e same) in
      (r.0, r.1, elements_like (any None) depth (any_like depth) ts r.0 bs r.2 w (subst (EachOf IsOneEncoding) (items_of t u ts us e f) m))

  parts_like : (ps : Parts) (depth : ℕ) (ts us : List Tree) (bs : List (List ℕ)) → Each Same ts us → PartsWritten (fields_of Der ps) ts bs → AreWithinLimits Der ps depth ts → OwesParts ps depth us
  parts_like none depth ts us bs same (e, f) m = no_more ts us e same
    where
      no_more : (ts us : List Tree) → ts ≡ [] → Each Same ts us → us ≡ []
      no_more [] us e h = h
      no_more (t ∷ ts) us e h = cc
  parts_like (part presence s ps) depth ts us bs same (t, us', b, cs, e, f, w, ws) (t', us'', e', m, ms) =
      go (subst (λ z. Each Same z us) e same) (part_like presence s depth (owes_like s depth) t) (parts_like ps depth us')
    where
      go : Each Same (t ∷ us') us → ((u : Tree) (b : List ℕ) → Same t u → WritesPart presence (Bytes Der s) t b → PartIsWithinLimits presence (IsWithinLimits Der s depth) t → PartOwes presence (Owes s depth) u)
          → ((us : List Tree) (bs : List (List ℕ)) → Each Same us' us → PartsWritten (fields_of Der ps) us' bs → AreWithinLimits Der ps depth us' → OwesParts ps depth us)
          → OwesParts (part presence s ps) depth us
      go (v, vs, g, one, more) first rest =
          let x : t' ∷ us'' ≡ t ∷ us' = sym e' ∙ e in
          let p : t' ≡ t = cc in
          let q : us'' ≡ us' = cc in
          (v, vs, g, first v b one w (subst (PartIsWithinLimits presence (IsWithinLimits Der s depth)) p m), rest vs cs more ws (subst (AreWithinLimits Der ps depth) q ms))

  choice_like : (ps : Parts) (depth k : ℕ) (t u : Tree) (b : List ℕ) → Same t u → WritesChoice k (fields_of Der ps) t b → ChosenIsWithinLimits Der k ps depth t → OwesChoice k ps depth u
  choice_like none depth k t u b same w m = m
  choice_like (part presence s ps) depth k t u b same (inl (v, e, w)) (inl (x, f, m)) =
      let r : Same (chosen k v) u = subst (λ z. Same z u) e same in
      let g : x ≡ v = cc in
      inl (r.0, r.1, owes_like s depth v r.0 b r.2 w (subst (IsWithinLimits Der s depth) g m))
  choice_like (part presence s ps) depth k t u b same (inl (v, e, w)) (inr m) = absurd (other_index Der ps depth (suc k) k t v (omega arith) e m)
  choice_like (part presence s ps) depth k t u b same (inr w) (inl (x, f, m)) = absurd (other_written Der ps (suc k) k t x b (omega arith) f w)
  choice_like (part presence s ps) depth k t u b same (inr w) (inr m) = inr (choice_like ps depth (suc k) t u b same w m)
