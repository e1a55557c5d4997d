-- The components of a SET, one by one.
use Rattle.std.proofs.Common.{◌≡◌, ◌≢◌, ℕ, zero, suc, ◌<◌, ◌||◌, Bool, true, false, true≢false, inl, inr, List, [], ◌∷◌, ◌++◌, map, length, get_or, Option, Some, None, Vec, Global, Result, Ok, Err, refl, sym, ap, ap₂, ◌∙◌, subst, append_assoc, arith}
use Rattle.std.specs.Prelude.{slice_get, slice_set, IfOk, IfErr}
use Rattle.std.specs.String.{string_bytes}
use Rattle.std.proofs.lemmas.List.{append-nil}
use Rattle.rasn_types.specs.declared.types.codec.Codec.{Codec}
use Rattle.rasn_types.specs.declared.types.tag.Tag.{Tag}
use Rattle.rasn_types.specs.declared.error.decode.DecodeError.{DecodeError}
use Rattle.rasn_types.specs.Errors.{IsOutOfMemory}
use Rattle.rasn_types.specs.Shapes.{Tree, absent, Shape, presences, own_tag, Presence, required, IsFirst, IsFirstOf, IsAlwaysPresent}
use Rattle.rasn_types.specs.Readings.{IsMissing, AllMissing}
use Rattle.rasn_types.specs.Lawful.{IsLawful, HasTag, AreComponents, AreDistinguished}
use Rattle.rasn_de.specs.Choice.{IsOnlyAlternative}
use Rattle.rasn_de.specs.NamedErrors.{IsNamedError, IsMissingField}
use Rattle.rasn_de.specs.SetPartTypes.{held_tree, name_at, AreEmpty, IsFilled, IsPlacedAt, AreGathered, LacksSlot, IsLackOf}
use Rattle.rasn_schema.specs.declared.types.Component.{Component}
use Rattle.rasn_schema.specs.declared.types.Presence.{Presence as PartPresence}
use Rattle.rasn_schema.specs.declared.types.Presence.TheVariants.{Required, Optional, Addition, Default}
use Rattle.rasn_schema.specs.declared.value.Value.{Value}
use Rattle.rasn_schema.specs.Trees.{tree_of}
use Rattle.rasn_schema.specs.Shapes.{components_by, key_of, presence_in, presence_of, presences_in, IsReadable}
use Rattle.rasn_schema.proofs.Presences.{missing_by, required_by}
use Rattle.rasn_schema.proofs.Lists.{some_is}
use Rattle.rasn_dynamic.specs.Sets.{AreLawfulMembers}
use Rattle.rasn_dynamic.specs.Calls.{held, nones, names_of, is_required, any_required, HoldsSlot, HoldsSlots, IsComponentFor, IsValueOf, IsSettled, AreSettled, LacksNone, Gathers}

-- ---- indices

pub got_below : (ps : List Component) (k : ℕ) (p : Component) → Some p ≡ slice_get ps k → k < length ps
got_below [] k p e = cc
got_below (q ∷ ps) zero p e = omega arith
got_below (q ∷ ps) (suc k) p e = omega (arith, got_below ps k p e)

module _ (f : ℕ → Shape) (tag : Tag) where
  pub first_of_no_part : (ps : List Component) → ((k : ℕ) (p : Component) → Some p ≡ slice_get ps k → IsFirst (f p.type_id.0) tag → ⊥) → IsFirstOf (components_by f ps) tag → ⊥
  first_of_no_part [] n h = h
  first_of_no_part (p ∷ ps) n (inl h) = n 0 p refl h
  first_of_no_part (p ∷ ps) n (inr h) = first_of_no_part ps (λ k q e g. n (suc k) q e g) h

  pub first_of_part : (ps : List Component) (k : ℕ) (p : Component) → Some p ≡ slice_get ps k → IsFirst (f p.type_id.0) tag → IsFirstOf (components_by f ps) tag
  first_of_part [] k p e h = cc
  first_of_part (q ∷ ps) zero p e h = inl (let same : p ≡ q = cc in subst (λ x. IsFirst (f x.type_id.0) tag) same h)
  first_of_part (q ∷ ps) (suc k) p e h = inr (first_of_part ps k p e h)

  -- A component is the only one that may begin with its first tags.
  pub only_part : (ps : List Component) (k : ℕ) (p : Component) → AreDistinguished (components_by f ps) → IsComponentFor f ps tag k p → IsOnlyAlternative (components_by f ps) k (presence_in f p) (f p.type_id.0) tag
  only_part [] k p d (e, h) = cc
  only_part (q ∷ ps) zero p d (e, h) =
      let same : q ≡ p = cc in
      (ap (λ (x : Component). presence_in f x) same, ap (λ (x : Component). f x.type_id.0) same, h, λ g. d.0 tag (subst (λ x. IsFirst (f x.type_id.0) tag) (sym same) h) g)
  only_part (q ∷ ps) (suc k) p d (e, h) = ((λ g. d.0 tag g (first_of_part ps k p e h)), only_part ps k p d.1 (e, h))

pub none_of : (a b : Bool) → a || b ≡ false → (a ≡ false) × (b ≡ false)
none_of false b e = (refl, e)
none_of true b e = absurd (true≢false e)

-- The shape of a component has a tag, and is lawful.
pub member_is : (f : ℕ → Shape) (ps : List Component) (k : ℕ) (p : Component) → AreComponents (components_by f ps) → Some p ≡ slice_get ps k → HasTag (f p.type_id.0) × IsAlwaysPresent (f p.type_id.0) × IsLawful (f p.type_id.0)
unfolding IsLawful
member_is f [] k p h e = absurd cc
member_is f (q ∷ ps) zero p h e = subst (λ (z : Component). HasTag (f z.type_id.0) × IsAlwaysPresent (f z.type_id.0) × IsLawful (f z.type_id.0)) (some_is q p (sym e)) (h.1, h.2, h.3)
member_is f (q ∷ ps) (suc k) p h e = member_is f ps k p h.4 e

pub part_lawful : (f : ℕ → Shape) (ps : List Component) (k : ℕ) (p : Component) → AreLawfulMembers (components_by f ps) → Some p ≡ slice_get ps k → IsReadable (f p.type_id.0)
part_lawful f ps k p h e = let m = member_is f ps k p h.0 e in inl (m.1, m.2)

-- ---- what was read

pub nones_come : (f : ℕ → Shape) (ps : List Component) (vs : List (Option Value)) → vs ≡ nones ps → AreEmpty (components_by f ps) (held vs)
nones_come f [] vs e = ap held e
nones_come f (p ∷ ps) vs e = (held (nones ps), ap held e, nones_come f ps (nones ps) refl)

pub as_many_nones : (ps : List Component) → length (nones ps) ≡ length ps
as_many_nones [] = refl
as_many_nones (p ∷ ps) = ap suc (as_many_nones ps)

-- ---- after the last component

-- Some components are settled, and the rest is left.
pub record SettledSoFar (keep : Bool) (all rest : List Component) (found left : List (Option Value)) (vs : List Value) : Type 0 where
  pub as_many : length left ≡ length rest
  pub on : keep ≡ true → (us : List Value) → AreSettled rest left us → AreSettled all found (vs ++ us)
  pub lacks : (j : ℕ) → LacksSlot (presences_in rest) (held left) j → (k : ℕ) × LacksSlot (presences_in all) (held found) k × (name_at (names_of rest) j ≡ name_at (names_of all) k)
  -- None of those that are settled is missing.
  pub none_yet : LacksNone rest left → LacksNone all found

pub settled_start : (keep : Bool) (all : List Component) (found : List (Option Value)) (vs : List Value) → length found ≡ length all → vs ≡ [] → SettledSoFar keep all all found found vs
settled_start keep all found vs e f = record {
  as_many = e;
  on = λ k us g. subst (λ l. AreSettled all found (l ++ us)) (sym f) g;
  lacks = λ j l. (j, l, refl);
  none_yet = λ n. n;
}

some_is_held : (x : Option Value) → x ≢ None → held_tree tree_of x ≢ None
some_is_held None n e = n refl
some_is_held (Some v) n e = cc

is_none : (x : Option Value) → x ≡ None → held_tree tree_of x ≡ None
is_none x e = ap (held_tree tree_of) e

module _ (keep : Bool) (all rest after : List Component) (p : Component) (found left : List (Option Value)) (x : Option Value) (others : List (Option Value)) (vs : List Value)
    (k : SettledSoFar keep all rest found left vs) (e : rest ≡ p ∷ after) (f : left ≡ x ∷ others) where
  here_lacks : (j : ℕ) → LacksSlot (presences_in (p ∷ after)) (held (x ∷ others)) j → (i : ℕ) × LacksSlot (presences_in all) (held found) i × (name_at (names_of (p ∷ after)) j ≡ name_at (names_of all) i)
  here_lacks j l =
      let r = k.lacks j (subst (λ z. LacksSlot (presences_in z) (held left) j) (sym e) (subst (λ z. LacksSlot (presences_in (p ∷ after)) (held z) j) (sym f) l)) in
      (r.0, r.1, subst (λ z. name_at (names_of z) j ≡ name_at (names_of all) r.0) e r.2)

  pub settled_more : (v : Value) (ws : List Value) → (keep ≡ true → ws ≡ vs ++ v ∷ []) → (presence_of p.presence ≡ required → x ≢ None) → (keep ≡ true → IsValueOf (presence_of p.presence) x v)
      → SettledSoFar keep all after found others ws
  settled_more v ws g there m = record {
    as_many = let n : suc (length others) ≡ suc (length after) = sym (ap length f) ∙ k.as_many ∙ ap length e in omega (arith, n);
    on = λ q us h.
        subst (AreSettled all found) (sym (ap (λ l. l ++ us) (g q) ∙ append_assoc vs (v ∷ []) us))
        (k.on q (v ∷ us)
        (subst (λ l. AreSettled l left (v ∷ us)) (sym e) (subst (λ l. AreSettled (p ∷ after) l (v ∷ us)) (sym f) (v, us, refl, m q, h))));
    lacks = λ j l. here_lacks (suc j) ((λ q. some_is_held x (there q)), l);
    none_yet = λ n. k.none_yet (subst (λ l. LacksNone l left) (sym e) (subst (LacksNone (p ∷ after)) (sym f) (λ j. none_here n j)));
  }
    where
      none_here : LacksNone after others → (j : ℕ) → LacksSlot (presences_in (p ∷ after)) (held (x ∷ others)) j → ⊥
      none_here n zero (q, z) = some_is_held x (there q) z
      none_here n (suc j) (q, l) = n j l

  pub settled_fails : (rule : Codec) (y : DecodeError) → IsSettled keep (presence_of p.presence) (string_bytes p.name) rule x (Err y) → Gathers keep all rule found (Err y)
  settled_fails rule y (inl m) = inl m
  settled_fails rule y (inr (q, n, w)) = let r = here_lacks 0 (q, is_none x n) in inr (r.0, r.1, subst (λ z. IsNamedError (IsMissingField z) rule y) r.2 w)

no_left : (l : List (Option Value)) → length l ≡ 0 → l ≡ []
no_left [] e = refl
no_left (x ∷ l) e = cc

pub settled_end : (keep : Bool) (all rest : List Component) (found left : List (Option Value)) (vs : List Value) → SettledSoFar keep all rest found left vs → rest ≡ []
    → LacksNone all found × (keep ≡ true → AreSettled all found vs)
settled_end keep all rest found left vs k e =
    let n = no_left left (k.as_many ∙ ap length e) in (
      k.none_yet (subst (λ l. LacksNone l left) (sym e) (λ j l. l)),
      λ q. subst (AreSettled all found) (append-nil vs) (k.on q [] (subst (λ l. AreSettled l left []) (sym e) (subst (λ l. AreSettled [] l []) (sym n) refl))),
    )

-- ---- as trees

pub settled_trees : (ps : List Component) (found : List (Option Value)) (vs : List Value) → AreSettled ps found vs → AreGathered (presences_in ps) (held found) (map tree_of vs)
settled_trees [] [] vs e = ap (map tree_of) e
settled_trees [] (x ∷ found) vs h = h
settled_trees (p ∷ ps) [] vs h = h
settled_trees (p ∷ ps) (None ∷ found) vs (v, us, e, m, h) = (tree_of v, map tree_of us, ap (map tree_of) e, m, settled_trees ps found us h)
settled_trees (p ∷ ps) (Some w ∷ found) vs (v, us, e, m, h) = (map tree_of us, ap (map tree_of) e ∙ ap (λ z. tree_of z ∷ map tree_of us) m, settled_trees ps found us h)

pub settled_missing : (ps : List Component) (vs : List Value) → AreSettled ps (nones ps) vs → AllMissing (presences_in ps) (map tree_of vs)
settled_missing [] vs e = ap (map tree_of) e
settled_missing (p ∷ ps) vs (v, us, e, m, h) = (tree_of v, map tree_of us, ap (map tree_of) e, m, settled_missing ps us h)

-- What components are recognized by makes no difference to what is made of them.
gathered_same : (f : ℕ → Shape) (ps : List Component) (slots : List (Option Tree)) (ts : List Tree) → AreGathered (presences_in ps) slots ts → AreGathered (presences (components_by f ps)) slots ts
gathered_same f [] [] ts g = g
gathered_same f [] (x ∷ slots) ts g = g
gathered_same f (p ∷ ps) [] ts g = g
gathered_same f (p ∷ ps) (None ∷ slots) ts (t, us, e, m, g) = (t, us, e, missing_by own_tag (key_of (f p.type_id.0)) p.presence t m, gathered_same f ps slots us g)
gathered_same f (p ∷ ps) (Some u ∷ slots) ts (us, e, g) = (us, e, gathered_same f ps slots us g)

lacks_same : (f : ℕ → Shape) (ps : List Component) (slots : List (Option Tree)) (k : ℕ) → LacksSlot (presences_in ps) slots k → LacksSlot (presences (components_by f ps)) slots k
lacks_same f [] slots k l = l
lacks_same f (p ∷ ps) [] k l = l
lacks_same f (p ∷ ps) (x ∷ slots) zero (e, n) = (required_by own_tag (key_of (f p.type_id.0)) p.presence e, n)
lacks_same f (p ∷ ps) (x ∷ slots) (suc k) (n, l) = ((λ e. n (required_by (key_of (f p.type_id.0)) own_tag p.presence e)), lacks_same f ps slots k l)

-- Nothing is lacking if no component is required.
nothing_lacks : (ps : List Component) (k : ℕ) → any_required ps ≡ false → LacksSlot (presences_in ps) (held (nones ps)) k → ⊥
nothing_lacks [] k n l = l
nothing_lacks (p ∷ ps) zero n (e, f) = first p.presence e (none_of (is_required p.presence) (any_required ps) n).0
  where
    first : (q : PartPresence) → presence_of q ≡ required → is_required q ≡ false → ⊥
    first Required e n = true≢false n
    first Optional e n = cc
    first Addition e n = cc
    first (Default v) e n = cc
nothing_lacks (p ∷ ps) (suc k) n (e, l) = nothing_lacks ps k (none_of (is_required p.presence) (any_required ps) n).1 l

pub all_settled : (keep : Bool) (ps : List Component) (found : List (Option Value)) → found ≡ nones ps → (rule : Codec) (r : Result (Vec Value Global) DecodeError) → Gathers keep ps rule found r
    → keep ≡ true → IfOk r (λ vs. AreSettled ps (nones ps) vs.items)
all_settled keep ps found e rule (Ok vs) (n, a) k = subst (λ l. AreSettled ps l vs.items) e (a k)
all_settled keep ps found e rule (Err x) h k = tt

pub only_memory_lacks : (keep : Bool) (ps : List Component) → any_required ps ≡ false → (found : List (Option Value)) → found ≡ nones ps → (rule : Codec) (r : Result (Vec Value Global) DecodeError) → Gathers keep ps rule found r
    → IfErr r (λ x. IsOutOfMemory x.kind)
only_memory_lacks keep ps n found e rule (Ok vs) h = tt
only_memory_lacks keep ps n found e rule (Err x) (inl m) = m
only_memory_lacks keep ps n found e rule (Err x) (inr (k, l, w)) = absurd (nothing_lacks ps k n (subst (λ z. LacksSlot (presences_in ps) (held z) k) e l))

-- ---- slots

-- A component was read, or not; what its tree is makes no difference to which is missing.
same_none : (keep : Bool) (x : Option Value) (slot : Option Tree) → HoldsSlot keep x slot → (held_tree tree_of x ≡ None → slot ≡ None) × (slot ≡ None → held_tree tree_of x ≡ None)
same_none keep None slot e = ((λ h. e), λ h. refl)
same_none keep (Some v) slot (t, e, h) = ((λ n. absurd cc), λ n. absurd (let g : Some t ≡ None = sym e ∙ n in cc))

lacks_slots : (keep : Bool) (ps : List Presence) (found : List (Option Value)) (slots : List (Option Tree)) (k : ℕ) → HoldsSlots keep found slots → LacksSlot ps (held found) k → LacksSlot ps slots k
lacks_slots keep [] found slots k h l = absurd l
lacks_slots keep (p ∷ ps) [] slots k h l = absurd l
lacks_slots keep (p ∷ ps) (x ∷ found) slots zero (slot, others, e, h, hs) (q, n) = subst (λ z. LacksSlot (p ∷ ps) z zero) (sym e) (q, (same_none keep x slot h).0 n)
lacks_slots keep (p ∷ ps) (x ∷ found) slots (suc k) (slot, others, e, h, hs) (q, l) =
    subst (λ z. LacksSlot (p ∷ ps) z (suc k)) (sym e) ((λ r n. q r ((same_none keep x slot h).1 n)), lacks_slots keep ps found others k hs l)

-- If values are kept, the slots hold their trees.
pub held_slots : (found : List (Option Value)) (slots : List (Option Tree)) → HoldsSlots true found slots → slots ≡ held found
held_slots [] slots e = e
held_slots (None ∷ found) slots (slot, others, e, h, hs) = e ∙ ap₂ (λ x l. x ∷ l) h (held_slots found others hs)
held_slots (Some v ∷ found) slots (slot, others, e, (t, g, k), hs) = e ∙ ap₂ (λ x l. x ∷ l) (g ∙ ap (λ z. Some z) (sym (k refl))) (held_slots found others hs)

-- the tree of a component that may be absent
one_left : (p : PartPresence) → (presence_of p ≡ required → ⊥) → (t : Tree) × IsMissing (presence_of p) t
one_left Required n = absurd (n refl)
one_left Optional n = (absent, refl)
one_left Addition n = (absent, refl)
one_left (Default d) n = (tree_of d, refl)

-- If none is missing, all are made of the slots.
slots_gathered : (keep : Bool) (ps : List Component) (found : List (Option Value)) (slots : List (Option Tree)) → length found ≡ length ps → HoldsSlots keep found slots → LacksNone ps found
    → (ts : List Tree) × AreGathered (presences_in ps) slots ts
slots_gathered keep [] [] slots e h n = ([], subst (λ l. AreGathered [] l []) (sym h) refl)
slots_gathered keep [] (x ∷ found) slots e h n = absurd cc
slots_gathered keep (p ∷ ps) [] slots e h n = absurd cc
slots_gathered keep (p ∷ ps) (None ∷ found) slots e (slot, others, g, h, hs) n =
    let t = one_left p.presence (λ q. n zero (q, refl)) in
    let ts = slots_gathered keep ps found others (omega (arith, e)) hs (λ k l. n (suc k) ((λ q z. n zero (q, refl)), l)) in
    (t.0 ∷ ts.0, subst (λ l. AreGathered (presences_in (p ∷ ps)) l (t.0 ∷ ts.0)) (sym (g ∙ ap (λ x. x ∷ others) h)) (t.0, ts.0, refl, t.1, ts.1))
slots_gathered keep (p ∷ ps) (Some v ∷ found) slots e (slot, others, g, (t, h, i), hs) n =
    let ts = slots_gathered keep ps found others (omega (arith, e)) hs (λ k l. n (suc k) ((λ q z. absurd cc), l)) in
    (t ∷ ts.0, subst (λ l. AreGathered (presences_in (p ∷ ps)) l (t ∷ ts.0)) (sym (g ∙ ap (λ x. x ∷ others) h)) (ts.0, refl, ts.1))

-- What is made of the slots, and of the values if they are kept.
gathered_trees : (keep : Bool) (ps : List Component) (found : List (Option Value)) (slots : List (Option Tree)) (vs : List Value) → length found ≡ length ps → HoldsSlots keep found slots → LacksNone ps found
    → (keep ≡ true → AreSettled ps found vs) → (ts : List Tree) × (keep ≡ true → map tree_of vs ≡ ts) × AreGathered (presences_in ps) slots ts
gathered_trees true ps found slots vs e h n a = (map tree_of vs, (λ k. refl), subst (λ l. AreGathered (presences_in ps) l (map tree_of vs)) (sym (held_slots found slots h)) (settled_trees ps found vs (a refl)))
gathered_trees false ps found slots vs e h n a = let ts = slots_gathered false ps found slots e h n in (ts.0, (λ k. cc), ts.1)

pub made_parts : (keep : Bool) (f : ℕ → Shape) (ps : List Component) (rule : Codec) (found : List (Option Value)) (slots : List (Option Tree)) (vs : Vec Value Global) → length found ≡ length ps → HoldsSlots keep found slots → Gathers keep ps rule found (Ok vs)
    → (ts : List Tree) × (keep ≡ true → map tree_of vs.items ≡ ts) × AreGathered (presences (components_by f ps)) slots ts
made_parts keep f ps rule found slots vs e h (n, a) = let ts = gathered_trees keep ps found slots vs.items e h n a in (ts.0, ts.1, gathered_same f ps slots ts.0 ts.2)

pub lacks_part : (keep : Bool) (f : ℕ → Shape) (ps : List Component) (rule : Codec) (found : List (Option Value)) (slots : List (Option Tree)) (x : DecodeError) → HoldsSlots keep found slots → Gathers keep ps rule found (Err x)
    → IsLackOf (components_by f ps) (names_of ps) rule slots x
lacks_part keep f ps rule found slots x h (inl m) = inl m
lacks_part keep f ps rule found slots x h (inr (k, l, w)) = inr (k, lacks_same f ps slots k (lacks_slots keep (presences_in ps) found slots k h l), w)

pub nones_held : (keep : Bool) (ps : List Component) (found : List (Option Value)) → found ≡ nones ps → HoldsSlots keep found (held (nones ps))
nones_held keep ps found e = subst (λ l. HoldsSlots keep l (held (nones ps))) (sym e) (go ps)
  where
    go : (qs : List Component) → HoldsSlots keep (nones qs) (held (nones qs))
    go [] = refl
    go (q ∷ qs) = (None, held (nones qs), refl, refl, go qs)

-- A value is put in its place.
pub slots_placed : (keep : Bool) (before : List (Option Value)) (slots : List (Option Tree)) (k : ℕ) (v : Value) (t : Tree) → (keep ≡ true → tree_of v ≡ t) → HoldsSlots keep before slots → k < length before → get_or before k None ≡ None
    → (others : List (Option Tree)) × HoldsSlots keep (slice_set before k (Some v)) others × IsPlacedAt slots k t others
slots_placed keep [] slots k v t q h l e = absurd (omega (arith, l))
slots_placed keep (x ∷ before) slots zero v t q (slot, others, g, h, hs) l e =
    (Some t ∷ others, (Some t, others, refl, (t, refl, q), hs), subst (λ z. IsPlacedAt z zero t (Some t ∷ others)) (sym g) ((same_none keep x slot h).0 (ap (held_tree tree_of) e), refl))
slots_placed keep (x ∷ before) slots (suc k) v t q (slot, others, g, h, hs) l e =
    let r = slots_placed keep before others k v t q hs (omega (arith, l)) e in
    (slot ∷ r.0, (slot, r.0, refl, h, r.1), subst (λ z. IsPlacedAt z (suc k) t (slot ∷ r.0)) (sym g) (r.0, refl, r.2))

pub slots_filled : (keep : Bool) (before : List (Option Value)) (slots : List (Option Tree)) (k : ℕ) → HoldsSlots keep before slots → k < length before → get_or before k None ≢ None → IsFilled slots k
slots_filled keep [] slots k h l n = absurd (omega (arith, l))
slots_filled keep (x ∷ before) slots zero (slot, others, g, h, hs) l n = subst (λ z. IsFilled z zero) (sym g) (λ e. some_is_held x n ((same_none keep x slot h).1 e))
slots_filled keep (x ∷ before) slots (suc k) (slot, others, g, h, hs) l n = subst (λ z. IsFilled z (suc k)) (sym g) (slots_filled keep before others k hs (omega (arith, l)) n)
