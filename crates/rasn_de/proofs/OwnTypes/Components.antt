-- How components, gathered one by one, are the parts of a SET. A loop over the components has an optional value for each part, and keeps
-- of each `Slot`, with the readings `map COMPONENT_TREE YIELDED`; its function says `MakesSet PARTS TREE (map COMPONENT_TREE components.items) result`.
-- The proof has two lines for each part, of a component that is there twice and of the first one, a line for each required part that is
-- missing, and one for `Ok`:
--
--     component_twice COMPONENT_TREE PARTS K tt _ YIELDED _ COMPONENT _ refl EQUATION PART_TREE _ (search rules) SLOT _
--     slot_appended COMPONENT_TREE PART_TREE YIELDED COMPONENT VALUE K refl _ (search rules) SLOT, and for each other part
--     slot_kept COMPONENT_TREE PART_TREE YIELDED COMPONENT _ K _ refl HELD (λ e. omega (arith, e)) SLOT
--     component_missing PARTS K refl _ SLOT _
--     (_, refl, component_there _ _ K _ _ _ SLOT (component_default _ _ K+1 _ _ _ _ _ SLOT FOUND (component_optional _ K+2 _ _ _ _ SLOT (components_end _ _))))
--
-- FOUND says which value a part with a default was given: the one that was read, or else one with the default's tree.
use Rattle.std.proofs.Common.{◌≡◌, ◌+◌, ◌⊎◌, inl, inr, ℕ, zero, suc, List, [], ◌∷◌, ◌++◌, map, Option, Some, None, refl, sym, ap, ◌∙◌, subst, append_assoc, arith}
use Rattle.std.proofs.lemmas.List.{map-append}
use Rattle.rasn_types.specs.declared.error.decode.DecodeErrorKind.{DecodeErrorKind}
use Rattle.rasn_types.specs.Shapes.{Tree, chosen, Parts, part, presences, Presence, required, optional, default}
use Rattle.rasn_types.specs.Shapes.Parts.{none}
use Rattle.rasn_types.specs.Readings.{IsMissing, NoneOf, OneOf, ByPart}
use Rattle.rasn_types.specs.Trees.{option_tree}
use Rattle.rasn_de.specs.Outcomes.{Exact, refusal}
use Rattle.rasn_de.specs.Set.{AreParts}
use Rattle.rasn_de.specs.SetPartTypes.{IsPart}
use Rattle.rasn_de.proofs.Leaves.Outcomes.{Exact-none}

-- What was read of part k: one reading, with the tree of this value, or none.
abbrev pub Slot : {D : Type 0} → ℕ → (D → Tree) → Option D → List Tree → Type 0
Slot k tree None readings = NoneOf k readings
Slot k tree (Some v) readings = OneOf k (tree v) readings

-- Part k is required.
abbrev pub IsRequired : ℕ → Parts → Type 0
IsRequired k none = ⊥
IsRequired zero (part p s ps) = p ≡ required
IsRequired (suc k) (part p s ps) = IsRequired k ps

number_one : (j k : ℕ) (t u : Tree) → chosen j t ≡ chosen k u → j ≡ k
number_one j k t u e = cc

-- Another reading is put after these.
pub none_more : (k j : ℕ) (u : Tree) (rs : List Tree) → (j ≡ k → ⊥) → NoneOf k rs → NoneOf k (rs ++ chosen j u ∷ [])
none_more k j u [] n h = (λ v e. n (number_one j k u v e), tt)
none_more k j u (r ∷ rs) n h = (h.0, none_more k j u rs n h.1)

pub one_more : (k : ℕ) (t : Tree) (rs : List Tree) → NoneOf k rs → OneOf k t (rs ++ chosen k t ∷ [])
one_more k t rs h = record { before = rs; after = []; is = refl; none_before = h; none_after = tt }

pub kept_more : {D : Type 0} (k : ℕ) (tree : D → Tree) (held : Option D) (j : ℕ) (u : Tree) (rs : List Tree) → (j ≡ k → ⊥) → Slot k tree held rs → Slot k tree held (rs ++ chosen j u ∷ [])
kept_more k tree None j u rs n h = none_more k j u rs n h
kept_more k tree (Some v) j u rs n h = record {
  before = h.before;
  after = h.after ++ chosen j u ∷ [];
  is = ap (λ l. l ++ chosen j u ∷ []) h.is ∙ append_assoc h.before (chosen k (tree v) ∷ h.after) (chosen j u ∷ []);
  none_before = h.none_before;
  none_after = none_more k j u h.after n h.none_after;
}

-- The next component is put where none of its part was read, and says nothing of other parts.
module _ {C D : Type 0} (piece : C → Tree) (tree : D → Tree) (done : List C) (c : C) where
  more_is : (t : Tree) → piece c ≡ t → map piece (done ++ c ∷ []) ≡ map piece done ++ t ∷ []
  more_is t e = map-append piece done (c ∷ []) ∙ ap (λ z. map piece done ++ z ∷ []) e

  pub slot_appended : (v : D) (k : ℕ) → piece c ≡ chosen k (tree v) → (held : Option D) → held ≡ None → Slot k tree held (map piece done) → Slot k tree (Some v) (map piece (done ++ c ∷ []))
  slot_appended v k e held f s = subst (OneOf k (tree v)) (sym (more_is (chosen k (tree v)) e)) (one_more k (tree v) (map piece done) (subst (λ h. Slot k tree h (map piece done)) f s))

  pub slot_kept : (u : Tree) (k j : ℕ) → piece c ≡ chosen j u → (held : Option D) → (j ≡ k → ⊥) → Slot k tree held (map piece done) → Slot k tree held (map piece (done ++ c ∷ []))
  slot_kept u k j e held n s = subst (Slot k tree held) (sym (more_is (chosen j u) e)) (kept_more k tree held j u (map piece done) n s)

pub not_none : (k : ℕ) (t : Tree) (before after : List Tree) → NoneOf k (before ++ chosen k t ∷ after) → ⊥
not_none k t [] after h = h.0 t refl
not_none k t (b ∷ before) after h = not_none k t before after h.1

-- Of a reading and another one after it, neither is the one.
not_one : (k : ℕ) (t u v : Tree) (x y a b c : List Tree) → NoneOf k x → NoneOf k y → (a ++ chosen k u ∷ b) ++ chosen k v ∷ c ≡ x ++ chosen k t ∷ y → ⊥
not_one k t u v [] y [] b c h l e = not_none k v b c (subst (NoneOf k) (sym (let f : b ++ chosen k v ∷ c ≡ y = cc in f)) l)
not_one k t u v [] y (d ∷ a) b c h l e = not_none k v (a ++ chosen k u ∷ b) c (subst (NoneOf k) (sym (let f : (a ++ chosen k u ∷ b) ++ chosen k v ∷ c ≡ y = cc in f)) l)
not_one k t u v (z ∷ x) y [] b c h l e = h.0 u (sym (let f : chosen k u ≡ z = cc in f))
not_one k t u v (z ∷ x) y (d ∷ a) b c h l e = not_one k t u v x y a b c h.1 l cc

-- what a part's readings are
by_part_some : (ps : Parts) (k i n : ℕ) (rs ts : List Tree) → n ≡ i + k → IsPart k ps → ByPart i (presences ps) rs ts → ((t : Tree) × OneOf n t rs) ⊎ NoneOf n rs
by_part_some none k i n rs ts e q h = absurd q
by_part_some (part p s ps) zero i n rs ts e q (t, us, f, inl o, h) = inl (t, subst (λ m. OneOf m t rs) (let g : i ≡ n = omega arith in g) o)
by_part_some (part p s ps) zero i n rs ts e q (t, us, f, inr (o, w), h) = inr (subst (λ m. NoneOf m rs) (let g : i ≡ n = omega arith in g) o)
by_part_some (part p s ps) (suc k) i n rs ts e q (t, us, f, o, h) = by_part_some ps k (suc i) n rs us (omega arith) q h

by_part_required : (ps : Parts) (k i n : ℕ) (rs ts : List Tree) → n ≡ i + k → IsRequired k ps → ByPart i (presences ps) rs ts → NoneOf n rs → ⊥
by_part_required none k i n rs ts e q h o = q
by_part_required (part p s ps) zero i n rs ts e q (t, us, f, inl o, h) m =
    not_none i t o.before o.after (subst (NoneOf i) o.is (subst (λ z. NoneOf z rs) (let g : n ≡ i = omega arith in g) m))
by_part_required (part p s ps) zero i n rs ts e q (t, us, f, inr (o, w), h) m = subst (λ z. IsMissing z t) q w
by_part_required (part p s ps) (suc k) i n rs ts e q (t, us, f, o, h) m = by_part_required ps k (suc i) n rs us (omega arith) q h m

-- If a component of part k follows one of it, the components are no parts.
pub no_parts_twice : (ps : Parts) (k : ℕ) → IsPart k ps → (rs : List Tree) (t u : Tree) (more readings : List Tree) → readings ≡ rs ++ chosen k u ∷ more → OneOf k t rs → (v : Tree) → AreParts ps readings v → ⊥
no_parts_twice ps k q rs t u more readings e o v (ts, f, h) = go (by_part_some ps k 0 k readings ts (omega arith) q h)
  where
    is : readings ≡ (o.before ++ chosen k t ∷ o.after) ++ chosen k u ∷ more
    is = e ∙ ap (λ l. l ++ chosen k u ∷ more) o.is

    go : ((x : Tree) × OneOf k x readings) ⊎ NoneOf k readings → ⊥
    go (inl (x, p)) = not_one k x t u p.before p.after o.before o.after more p.none_before p.none_after (sym is ∙ p.is)
    go (inr p) = not_none k u rs more (subst (NoneOf k) e p)

-- A component is read whose part was read before.
pub component_twice : {C D : Type 0} (piece : C → Tree) (ps : Parts) (k : ℕ) → IsPart k ps → (all done rest : List C) (c : C) (u : Tree) → piece c ≡ chosen k u → all ≡ done ++ c ∷ rest
    → (tree : D → Tree) (held : Option D) → (held ≡ None → ⊥) → Slot k tree held (map piece done) → (kind : DecodeErrorKind) → Exact (λ input v left. AreParts ps (map piece all) v) [] (refusal kind)
component_twice piece ps k q all done rest c u f e tree None n s kind = absurd (n refl)
component_twice piece ps k q all done rest c u f e tree (Some v) n s kind = Exact-none kind (λ input v left. AreParts ps (map piece all) v) []
    (λ w r h. no_parts_twice ps k q (map piece done) (tree v) u (map piece rest) (map piece all)
    (ap (map piece) e ∙ map-append piece done (c ∷ rest) ∙ ap (λ t. map piece done ++ t ∷ map piece rest) f) s w h)

-- No component of part k is present, which is required.
pub component_missing : (ps : Parts) (k : ℕ) → IsRequired k ps → (readings : List Tree) → NoneOf k readings → (kind : DecodeErrorKind) → Exact (λ input v rest. AreParts ps readings v) [] (refusal kind)
component_missing ps k q readings o kind = Exact-none kind (λ input v rest. AreParts ps readings v) [] (λ v r (ts, f, h). by_part_required ps k 0 k readings ts (omega arith) q h o)

-- A part is present, or has the value that replaces it if it may be left out, and so have the others.
pub component_there : (p : Presence) (ps : List Presence) (k : ℕ) (t : Tree) (us readings : List Tree) → OneOf k t readings → ByPart (suc k) ps readings us → ByPart k (p ∷ ps) readings (t ∷ us)
component_there p ps k t us readings o h = (t, us, refl, inl o, h)

pub component_left_out : (p : Presence) (ps : List Presence) (k : ℕ) (t : Tree) (us readings : List Tree) → NoneOf k readings → IsMissing p t → ByPart (suc k) ps readings us → ByPart k (p ∷ ps) readings (t ∷ us)
component_left_out p ps k t us readings o m h = (t, us, refl, inr (o, m), h)

-- An optional part is what its slot holds.
pub component_optional : {D : Type 0} (ps : List Presence) (k : ℕ) (tree : D → Tree) (held : Option D) (us readings : List Tree) → Slot k tree held readings → ByPart (suc k) ps readings us
    → ByPart k (optional ∷ ps) readings (option_tree tree held ∷ us)
component_optional ps k tree None us readings o h = (option_tree tree None, us, refl, inr (o, refl), h)
component_optional ps k tree (Some v) us readings o h = (tree v, us, refl, inl o, h)

-- A part that has a default is what its slot holds, or the default where that holds nothing.
pub component_default : {D : Type 0} (d : Tree) (ps : List Presence) (k : ℕ) (tree : D → Tree) (held : Option D) (v : D) (us readings : List Tree) → Slot k tree held readings
    → (held ≡ Some v) ⊎ ((held ≡ None) × (tree v ≡ d)) → ByPart (suc k) ps readings us → ByPart k (default d ∷ ps) readings (tree v ∷ us)
component_default d ps k tree held v us readings o (inl e) h = (tree v, us, refl, inl (subst (λ x. Slot k tree x readings) e o), h)
component_default d ps k tree held v us readings o (inr (e, f)) h = (tree v, us, refl, inr (subst (λ x. Slot k tree x readings) e o, f), h)

pub components_end : (k : ℕ) (readings : List Tree) → ByPart k [] readings []
components_end k readings = refl
