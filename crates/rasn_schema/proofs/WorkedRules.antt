-- Types that were worked out by hand.
use Rattle.std.proofs.Common.{◌≡◌, ◌≢◌, Vec, String, Global, ℕ, zero, suc, ◌<◌, true, [], ◌∷◌, Option, Some, None, inl, inr, refl, sym, ap, ◌∙◌, subst, true≢false, arith}
use Rattle.std.specs.Prelude.{slice_get}
use Rattle.rasn_types.specs.declared.types.tag.Tag.{Tag}
use Rattle.rasn_types.specs.Tags.{eoc, in_universal}
use Rattle.rasn_types.specs.Shapes.{Shape, any, unknown, open_choice, IsFirst, required, addition}
use Rattle.rasn_types.specs.Shapes.Parts.{none as no_parts}
use Rattle.rasn_types.specs.Lawful.{HasTag}
use Rattle.rasn_schema.specs.declared.types.Alternative.{Alternative}
use Rattle.rasn_schema.specs.declared.types.Component.{Component}
use Rattle.rasn_schema.specs.declared.types.NamedNumber.{NamedNumber}
use Rattle.rasn_schema.specs.declared.types.«Type».{«Type»}
use Rattle.rasn_schema.specs.declared.types.«Type».TheVariants.{Any, Tagged, Choice, Set, Unknown}
use Rattle.rasn_schema.specs.declared.error.SchemaError.TheVariants.{ReservedTag}
use Rattle.rasn_schema.specs.declared.types.Presence.TheVariants.{Required}
use Rattle.rasn_schema.specs.declared.value.Value.{Value}
use Rattle.rasn_schema.specs.Shapes.{shape_of_type, presence_of, is_open, is_unknown}
use Rattle.rasn_schema.specs.Schemas.{IsPrefix, IsUnknown, IsRequired, IsTaggedOrUnknown, AreLowerAndTagged, AreDistinctAlternatives, AreDistinctNumbers, MayFollow, AreToldInOrder, EndsUnknown, AreTagged, AreDistinctComponents, IsWellFormed, AreWellFormed, components_in, IsDefaultWithout, HasUnfitDefault, HaveFitDefaults, IsSchema, own_at, begin_at}
use Rattle.rasn_schema.specs.Faults.{IsFaultOf, SomeFault, IsFault}
use Rattle.rasn_schema.specs.WorkedRules.{truth, after_open, before_set, WorkedRules}
use Rattle.rasn_schema.proofs.Lists.{some_is}
use Rattle.rasn_schema.proofs.Parts.{not_none}

-- ---- tags

one_is_not_five : in_universal 1 ≡ in_universal 5 → ⊥
one_is_not_five e = let v : 1 ≡ 5 = ap (λ (t : Tag). t.value) e in omega (arith, v)

-- ---- lists of one

-- An element of a list of one is that one.
of_one : {X : Type 0} (x y : X) (i : ℕ) → Some y ≡ slice_get (x ∷ []) i → y ≡ x
of_one x y zero e = some_is y x e
of_one x y (suc i) e = absurd (not_none y None refl e)

none_after : {X : Type 0} (x y : X) (i j : ℕ) → i < j → Some y ≡ slice_get (x ∷ []) j → ⊥
none_after x y i zero l e = omega (arith, l)
none_after x y i (suc j) l e = not_none y None refl e

required_no_addition : required ≡ addition → ⊥
required_no_addition e = cc

no_addition : (p : Component) → p.presence ≡ Required → presence_of p.presence ≡ addition → ⊥
no_addition p e g = required_no_addition (sym (ap presence_of e) ∙ g)

no_default : (p : Component) → p.presence ≡ Required → (P : Value → Type 0) → IsDefaultWithout P p.presence → ⊥
no_default p e P d = subst (IsDefaultWithout P) e d

lower : (a : Alternative) → a.type_id.0 ≡ 0 → AreLowerAndTagged (λ k. truth) 1 (a ∷ [])
lower a e i b at = (let f : b.type_id.0 ≡ a.type_id.0 = ap (λ (x : Alternative). x.type_id.0) (of_one a b i at) in omega (arith, e, f), λ n. absurd (n tt))

one_alternative : (f : ℕ → Shape) (a : Alternative) → AreDistinctAlternatives f (a ∷ [])
one_alternative f a i j b c l d e t = absurd (none_after a c i j l e)

one_number : (n : NamedNumber) → AreDistinctNumbers (n ∷ [])
one_number n i j b c l d e = absurd (none_after n c i j l e)

next : (p q : Component) → MayFollow (p ∷ (q ∷ [])) 0 1
next p q = (omega arith, λ m x a b e s. omega (arith, a, b))

one_component : (own : ℕ → Option Tag) (f : ℕ → Shape) (p : Component) → AreToldInOrder own f (p ∷ [])
one_component own f p i j q r d e a m = absurd (none_after p r i j m.0 e)

-- ---- a CHOICE that ends with an open type

module _ (f : ℕ → Shape) (a b : Alternative) (t : HasTag (f a.type_id.0)) (u : f b.type_id.0 ≡ any None) where
  two_lower : (id : ℕ) → a.type_id.0 < id → b.type_id.0 < id → AreLowerAndTagged f id (a ∷ (b ∷ []))
  two_lower id l m zero c e =
      let q : c ≡ a = some_is c a e in (subst (λ (x : Alternative). x.type_id.0 < id) (sym q) l, λ n. absurd (n (subst (λ (x : Alternative). HasTag (f x.type_id.0)) (sym q) t)))
  two_lower id l m (suc zero) c e =
      let q : c ≡ b = some_is c b e in (subst (λ (x : Alternative). x.type_id.0 < id) (sym q) m, λ n. (omega arith, refl, subst (λ (x : Alternative). is_open (f x.type_id.0) ≡ true) (sym q) (ap is_open u)))
  two_lower id l m (suc (suc i)) c e = absurd (not_none c None refl e)

  two_apart : AreDistinctAlternatives f (a ∷ (b ∷ []))
  two_apart i zero c d l e g h = absurd (omega (arith, l))
  two_apart i (suc zero) c d l e g h = absurd (subst HasTag u (subst (λ (x : Alternative). HasTag (f x.type_id.0)) (some_is d b g) h))
  two_apart i (suc (suc j)) c d l e g h = absurd (not_none d None refl g)

not_open_before_the_end : (a b : Alternative) → AreLowerAndTagged (λ k. any None) 1 (a ∷ (b ∷ [])) → ⊥
not_open_before_the_end a b h = let l = ((h 0 a refl).1 (λ t. t)).0 in omega (arith, l)

not_open_alone : (a : Alternative) → AreLowerAndTagged (λ k. any None) 1 (a ∷ []) → ⊥
not_open_alone a h = let l = ((h 0 a refl).1 (λ t. t)).0 in omega (arith, l)

none_that_ends_open : (a b : Alternative) → AreLowerAndTagged (λ k. open_choice no_parts) 1 (a ∷ (b ∷ [])) → ⊥
none_that_ends_open a b h = let e = ((h 1 b refl).1 (λ t. t)).2 in cc

no_components : (g : ℕ → Value → Type 0) (t ty : «Type») (i : ℕ) → components_in t ≡ [] → Some ty ≡ Some t → HasUnfitDefault g ty i → ⊥
no_components g t ty i n e (c, at, u) = not_none c None refl (at ∙ ap (λ l. slice_get l i) (ap components_in (some_is ty t e) ∙ n))

module _ (name : String Global) (ks : Vec Alternative Global) (a b : Alternative) (s : ks.items ≡ a ∷ (b ∷ [])) where
  abbrev begin : ℕ → Shape
  begin k = begin_at (after_open (Choice name ks)) k

  begin_open : begin 0 ≡ any None
  unfolding shape_of_type
  begin_open = refl

  begin_tagged : HasTag (begin 1) × (IsUnknown (begin 0) → ⊥) × (IsPrefix (begin 0) → 0 < 1)
  unfolding shape_of_type
  begin_tagged = (tt, (λ h. true≢false (sym h)), λ h. omega arith)

  extensible_formed : a.type_id.0 ≡ 1 → b.type_id.0 ≡ 0 → AreWellFormed (own_at (after_open (Choice name ks))) begin (after_open (Choice name ks))
  extensible_formed p q zero ty e = subst (IsWellFormed _ begin 0) (sym (some_is ty _ e)) tt
  extensible_formed p q (suc zero) ty e = subst (IsWellFormed _ begin 1) (sym (some_is ty _ e)) ((λ g. let v : 5 ≡ 0 = ap (λ (t : Tag). t.value) g in omega (arith, v)), begin_tagged.2, begin_tagged.1)
  extensible_formed p q (suc (suc zero)) ty e = subst (IsWellFormed _ begin 2) (sym (some_is ty _ e)) (
    (λ n. let g : a ∷ (b ∷ []) ≡ [] = sym s ∙ n in cc),
    subst (AreLowerAndTagged begin 2) (sym s) (two_lower begin a b tagged opens 2 (omega (arith, p)) (omega (arith, q))),
    subst (AreDistinctAlternatives begin) (sym s) (two_apart begin a b tagged opens),
  )
    where
      tagged : HasTag (begin a.type_id.0)
      tagged = subst (λ k. HasTag (begin k)) (sym p) begin_tagged.0

      opens : begin b.type_id.0 ≡ any None
      opens = ap begin q ∙ begin_open
  extensible_formed p q (suc (suc (suc k))) ty e = absurd (not_none ty None refl e)

  extensible_defaults : HaveFitDefaults (after_open (Choice name ks))
  extensible_defaults zero ty e i h = no_components _ (Any eoc) ty i refl e h
  extensible_defaults (suc zero) ty e i h = no_components _ (Tagged (in_universal 5) (record { 0 = 0 })) ty i refl e h
  extensible_defaults (suc (suc zero)) ty e i h = no_components _ (Choice name ks) ty i refl e h
  extensible_defaults (suc (suc (suc k))) ty e i h = absurd (not_none ty None refl e)

  not_open_first : a.type_id.0 ≡ 0 → IsSchema (after_open (Choice name ks)) → ⊥
  not_open_first p w =
      let l = subst (AreLowerAndTagged begin 2) s (w.0 2 (Choice name ks) refl).1 in
      let q = ((l 0 a refl).1 (λ t. subst HasTag (ap begin p ∙ begin_open) t)).0 in omega (arith, q)

-- ---- a SET with unknown values at its end

unknown_in_set : (p : Component) → p.presence ≡ Required → AreTagged (λ k. unknown) (p ∷ [])
unknown_in_set p e i q at = (no_addition q (ap (λ (x : Component). x.presence) (of_one p q i at) ∙ e), λ n. absurd (n refl))

module _ (p q r : Component) where
  -- what holds of each of three components
  of_three : (P : ℕ → Component → Type 0) → P 0 p → P 1 q → P 2 r → (i : ℕ) (x : Component) → Some x ≡ slice_get (p ∷ (q ∷ (r ∷ []))) i → P i x
  of_three P a b c zero x e = subst (P 0) (sym (some_is x p e)) a
  of_three P a b c (suc zero) x e = subst (P 1) (sym (some_is x q e)) b
  of_three P a b c (suc (suc zero)) x e = subst (P 2) (sym (some_is x r e)) c
  of_three P a b c (suc (suc (suc i))) x e = absurd (not_none x None refl e)

  module _ (f : ℕ → Shape) (a : p.presence ≡ Required) (b : q.presence ≡ Required) (c : r.presence ≡ Required)
      (m : f p.type_id.0 ≡ any (Some (in_universal 5))) (n : f q.type_id.0 ≡ any (Some (in_universal 1))) (u : f r.type_id.0 ≡ unknown) where
    three_tagged : AreTagged f (p ∷ (q ∷ (r ∷ [])))
    three_tagged = of_three (λ i x. (presence_of x.presence ≢ addition) × IsTaggedOrUnknown (f x.type_id.0))
        (no_addition p a, λ k. subst HasTag (sym m) tt) (no_addition q b, λ k. subst HasTag (sym n) tt) (no_addition r c, λ k. absurd (k (ap is_unknown u)))

    three_end : EndsUnknown f (p ∷ (q ∷ (r ∷ [])))
    three_end = of_three (λ i x. IsUnknown (f x.type_id.0) → (suc i ≡ 3) × IsRequired x.presence)
        (λ k. absurd (true≢false (sym k ∙ ap is_unknown m))) (λ k. absurd (true≢false (sym k ∙ ap is_unknown n))) (λ k. (refl, subst IsRequired (sym c) tt))

    -- the last one has no first tags, and the first two have one each
    three_distinct : AreDistinctComponents f (p ∷ (q ∷ (r ∷ [])))
    three_distinct i zero x y l e g t h k = absurd (omega (arith, l))
    three_distinct zero (suc zero) x y l e g t h k =
        let v = subst (λ (z : Component). IsFirst (f z.type_id.0) t) (some_is x p e) h in
        let w = subst (λ (z : Component). IsFirst (f z.type_id.0) t) (some_is y q g) k in
        one_is_not_five (sym (subst (λ s. IsFirst s t) n w) ∙ subst (λ s. IsFirst s t) m v)
    three_distinct (suc i) (suc zero) x y l e g t h k = absurd (omega (arith, l))
    three_distinct i (suc (suc zero)) x y l e g t h k = subst (λ s. IsFirst s t) u (subst (λ (z : Component). IsFirst (f z.type_id.0) t) (some_is y r g) k)
    three_distinct i (suc (suc (suc j))) x y l e g t h k = absurd (not_none y None refl g)

seventeen : in_universal 17 ≡ eoc → ⊥
seventeen e = let v : 17 ≡ 0 = ap (λ (t : Tag). t.value) e in omega (arith, v)

module _ (name : String Global) (ps : Vec Component Global) where
  abbrev set_begin : ℕ → Shape
  set_begin k = begin_at (before_set name ps) k

  begin_unknown : set_begin 0 ≡ unknown
  unfolding shape_of_type
  begin_unknown = refl

  begin_five : set_begin 1 ≡ any (Some (in_universal 5))
  unfolding shape_of_type
  begin_five = refl

  begin_one : set_begin 2 ≡ any (Some (in_universal 1))
  unfolding shape_of_type
  begin_one = refl

  one_tag_twice : (p q : Component) → ps.items ≡ p ∷ (q ∷ []) → p.type_id.0 ≡ 1 → q.type_id.0 ≡ 1 → IsSchema (before_set name ps) → ⊥
  one_tag_twice p q s i j w =
      let d = subst (AreDistinctComponents set_begin) s (w.0 3 (Set name (in_universal 17) ps) refl).3 in
      d 0 1 p q (omega arith) refl refl (in_universal 5) (subst (λ t. IsFirst t (in_universal 5)) (sym (ap set_begin i ∙ begin_five)) refl) (subst (λ t. IsFirst t (in_universal 5)) (sym (ap set_begin j ∙ begin_five)) refl)

  module _ (p q r : Component) (s : ps.items ≡ p ∷ (q ∷ (r ∷ []))) (a : p.presence ≡ Required) (b : q.presence ≡ Required) (c : r.presence ≡ Required) where
    set_formed : p.type_id.0 ≡ 1 → q.type_id.0 ≡ 2 → r.type_id.0 ≡ 0 → AreWellFormed (own_at (before_set name ps)) set_begin (before_set name ps)
    set_formed i j k zero ty e = subst (IsWellFormed _ set_begin 0) (sym (some_is ty _ e)) tt
    set_formed i j k (suc zero) ty e = subst (IsWellFormed _ set_begin 1) (sym (some_is ty _ e)) tt
    set_formed i j k (suc (suc zero)) ty e = subst (IsWellFormed _ set_begin 2) (sym (some_is ty _ e)) tt
    set_formed i j k (suc (suc (suc zero))) ty e = subst (IsWellFormed _ set_begin 3) (sym (some_is ty _ e)) (
      seventeen,
      subst (AreTagged set_begin) (sym s) (three_tagged p q r set_begin a b c (ap set_begin i ∙ begin_five) (ap set_begin j ∙ begin_one) (ap set_begin k ∙ begin_unknown)),
      subst (EndsUnknown set_begin) (sym s) (three_end p q r set_begin a b c (ap set_begin i ∙ begin_five) (ap set_begin j ∙ begin_one) (ap set_begin k ∙ begin_unknown)),
      subst (AreDistinctComponents set_begin) (sym s) (three_distinct p q r set_begin a b c (ap set_begin i ∙ begin_five) (ap set_begin j ∙ begin_one) (ap set_begin k ∙ begin_unknown)),
    )
    set_formed i j k (suc (suc (suc (suc m)))) ty e = absurd (not_none ty None refl e)

    set_defaults : HaveFitDefaults (before_set name ps)
    set_defaults zero ty e i h = no_components _ Unknown ty i refl e h
    set_defaults (suc zero) ty e i h = no_components _ (Any (in_universal 5)) ty i refl e h
    set_defaults (suc (suc zero)) ty e i h = no_components _ (Any (in_universal 1)) ty i refl e h
    set_defaults (suc (suc (suc zero))) ty e i (x, at, d) =
        let g : Some x ≡ slice_get (p ∷ (q ∷ (r ∷ []))) i = at ∙ ap (λ l. slice_get l i) (ap components_in (some_is ty (Set name (in_universal 17) ps) e) ∙ s) in
        no_default x (of_three p q r (λ j y. y.presence ≡ Required) a b c i x g) _ d
    set_defaults (suc (suc (suc (suc m)))) ty e i h = absurd (not_none ty None refl e)

-- ---- schemas

well_formed : (own : ℕ → Option Tag) (f : ℕ → Shape) → AreWellFormed own f (Any eoc ∷ [])
well_formed own f k ty e = subst (IsWellFormed own f k) (sym (of_one (Any eoc) ty k e)) tt

fit_defaults : (g : ℕ → Value → Type 0) (ty : «Type») (k i : ℕ) → Some ty ≡ slice_get (Any eoc ∷ []) k → HasUnfitDefault g ty i → ⊥
fit_defaults g ty k i e h = none (subst (λ t. HasUnfitDefault g t i) (of_one (Any eoc) ty k e) h)
  where
    none : HasUnfitDefault g (Any eoc) i → ⊥
    none (p, at, u) = not_none p None refl at

no_fault : (own : ℕ → Option Tag) (f : ℕ → Shape) → SomeFault own f (Any eoc ∷ []) (ReservedTag (record { 0 = 0 })) → ⊥
no_fault own f (k, ty, e, h) = subst (λ t. IsFaultOf own f k t (ReservedTag (record { 0 = 0 }))) (of_one (Any eoc) ty k e) h

no_fault_at_all : IsFault (Any eoc ∷ []) (ReservedTag (record { 0 = 0 })) → ⊥
no_fault_at_all (inl h) = no_fault _ _ h
no_fault_at_all (inr h) = h

pub worked_rules : WorkedRules
worked_rules = record {
  distinct = λ n a b. one_is_not_five (sym a ∙ b);
  not_distinct = λ h. h (in_universal 1) refl refl;
  tagged = tt;
  not_tagged = λ h. h;
  lower_and_tagged = lower;
  not_lower = λ a e h. let l = (h 0 a refl).0 in omega (arith, e, l);
  not_open_alone = not_open_alone;
  not_open_before_the_end = not_open_before_the_end;
  none_that_ends_open = none_that_ends_open;
  open_shape = refl;
  plain_shape = refl;
  one_alternative = one_alternative;
  alternatives_clash = λ a b h. h 0 1 a b (omega arith) refl refl tt (in_universal 1) refl refl;
  one_number = one_number;
  numbers_clash = λ m n e h. h 0 1 m n (omega arith) refl refl e;
  next_follows = next;
  none_follows_itself = λ ps h. omega (arith, h.0);
  not_past_one_that_is_there = λ p q r s h. h.1 1 q (omega arith) (omega arith) refl s;
  recognizable = (tt, λ h. h (in_universal 1) refl);
  not_recognizable = λ h. h.0;
  told_by_its_tag = one_is_not_five;
  not_told = λ h. h refl;
  one_component = one_component;
  components_clash = λ p q n h. h 0 1 p q refl refl n (next p q) refl;
  extensible_shape = λ tag. refl;
  closed_shape = λ tag. refl;
  unknown_in_set = unknown_in_set;
  untagged_in_set = λ p h. (h 0 p refl).1 (λ u. true≢false (sym u));
  addition_in_set = λ p e h. (h 0 p refl).0 (ap presence_of e);
  not_unknown_first = λ p q h. let l = (h 0 p refl refl).0 in omega (arith, l);
  set_clash = λ p q h. h 0 1 p q (omega arith) refl refl (in_universal 1) refl refl;
  first_tag = λ f. (refl, λ n h. h);
  not_no_tag = λ f h. h (in_universal 1) refl;
  deep = omega arith;
  not_deep = λ h. omega (arith, h);
  schema = (well_formed _ _, λ k ty e i h. fit_defaults _ ty k i e h);
  extensible = λ name ks a b s p q. (extensible_formed name ks a b s p q, extensible_defaults name ks a b s);
  not_open_first = λ name ks a b s p w. not_open_first name ks a b s p w;
  extensible_set = λ name ps p q r s a b c i j k. (set_formed name ps p q r s a b c i j k, set_defaults name ps p q r s a b c);
  no_set_with_one_tag_twice = one_tag_twice;
  no_schema = λ h. (h.0 0 (Tagged eoc (record { 0 = 0 })) refl).0 refl;
  fault = inl (0, Tagged eoc (record { 0 = 0 }), refl, (refl, refl));
  no_fault = no_fault_at_all;
}
