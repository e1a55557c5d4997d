-- Parts of values, by index and by name.
use Rattle.std.proofs.Common.{◌≡◌, ◌⊎◌, inl, inr, ℕ, ◌<◌, List, [], Option, Some, None, Vec, Global, refl, sym, subst, ◌∙◌}
use Rattle.std.specs.Prelude.{slice_get}
use Rattle.std.specs.String.{string_bytes}
use Rattle.std.proofs.lemmas.Bool.{cases_order}
use Rattle.rasn_schema.specs.declared.type_id.TypeId.{TypeId}
use Rattle.rasn_schema.specs.declared.types.Component.{Component}
use Rattle.rasn_schema.specs.declared.types.Alternative.{Alternative}
use Rattle.rasn_schema.specs.declared.types.«Type».{«Type»}
use Rattle.rasn_schema.specs.declared.types.«Type».TheVariants.{Leaf, Enumerated, Any, Tagged, Choice, Sequence, Set, SequenceOf, SetOf, Unknown}
use Rattle.rasn_schema.specs.declared.value.Value.{Value, Items, Elements, roll-Value, out-Value, roll-out-Value}
use Rattle.rasn_schema.specs.declared.value.Value.TheOpen.{Value-F, Boolean as Boolean-F, Null as Null-F, Integer as Integer-F, Bits as Bits-F, Octets as Octets-F, Text as Text-F, Units as Units-F, Arcs as Arcs-F, Instant as Instant-F, Day as Day-F, Items as Items-F, Elements as Elements-F, Chosen as Chosen-F, Absent as Absent-F}
use Rattle.rasn_schema.specs.Held.{held_in, IsUntagged, part_type, IsPartAt, IsComponentNamed, IsComponentValue, IsAlternativeNamed, IsPartNamed, IsNamedPartOf}
use Rattle.rasn_schema.proofs.Lists.{some_is}
use Rattle.rasn_schema.proofs.Untagged.{one_inside}

-- ---- what a value holds

pub held_nothing : (v : Value) → ((vs : Vec Value Global) → v ≡ Items vs → ⊥) → ((vs : Vec Value Global) → v ≡ Elements vs → ⊥) → held_in v ≡ []
unfolding roll-Value denote.Hole.Carrier.roll
held_nothing v n m = subst (λ w. held_in w ≡ []) (roll-out-Value v) (go (out-Value v) (roll-out-Value v))
  where
    go : (o : Value-F Value) → roll-Value o ≡ v → held_in (roll-Value o) ≡ []
    go (Boolean-F x) e = refl
    go Null-F e = refl
    go (Integer-F x) e = refl
    go (Bits-F x) e = refl
    go (Octets-F x) e = refl
    go (Text-F x) e = refl
    go (Units-F x) e = refl
    go (Arcs-F x) e = refl
    go (Instant-F x) e = refl
    go (Day-F x) e = refl
    go (Items-F vs) e = absurd (n vs (sym e))
    go (Elements-F vs) e = absurd (m vs (sym e))
    go (Chosen-F k w) e = refl
    go Absent-F e = refl

pub not_none : {X : Type 0} (x : X) (o : Option X) → None ≡ o → Some x ≡ o → ⊥
not_none x o e f = let h : Some x ≡ None = f ∙ sym e in cc

-- ---- parts by index

module _ (types : List «Type») (k : ℕ) (ty : «Type») (u : IsUntagged types k ty) (v : Value) where
  pub no_part_of_type : (i : ℕ) → None ≡ part_type ty i → (id : TypeId) (part : Value) → IsPartAt types k v i id part → ⊥
  no_part_of_type i n id part ((t, w, h), e) = not_none id (part_type ty i) n (subst (λ (s : «Type»). Some id ≡ part_type s i) (one_inside types k t ty w u) h)

  pub no_named_part : (name : List ℕ) → ((id : TypeId) (part : Value) → IsPartNamed ty name v id part → ⊥) → (id : TypeId) (part : Value) → IsNamedPartOf types k v name id part → ⊥
  no_named_part name n id part (t, w, h) = n id part (subst (λ (s : «Type»). IsPartNamed s name v id part) (one_inside types k t ty w u) h)

-- ---- parts by name

-- An element that is the first of which P holds has one index.
first_is : {X : Type 0} (P : X → Type 0) (l : List X) (i j : ℕ) (x y : X) → Some x ≡ slice_get l i → P x → ((m : ℕ) (z : X) → m < i → Some z ≡ slice_get l m → P z → ⊥)
    → Some y ≡ slice_get l j → P y → ((m : ℕ) (z : X) → m < j → Some z ≡ slice_get l m → P z → ⊥) → i ≡ j
first_is P l i j x y e p n f q m = go (cases_order i j)
  where
    go : (i ≡ j) ⊎ ((i < j) ⊎ (j < i)) → i ≡ j
    go (inl h) = h
    go (inr (inl h)) = absurd (m i x h e p)
    go (inr (inr h)) = absurd (n j y h f q)

module _ (ps : List Component) (name : List ℕ) (v : Value) where
  pub no_component_value : (i : ℕ) (id : TypeId) → IsComponentNamed ps name i id → None ≡ slice_get (held_in v) i → (other : TypeId) (part : Value) → IsComponentValue ps name v other part → ⊥
  no_component_value i id ((c, e, f, g), n) h other part (j, ((d, s, t, u), m), w) =
      not_none part (slice_get (held_in v) i) h (subst (λ k. Some part ≡ slice_get (held_in v) k) (sym (first_is (λ (x : Component). string_bytes x.name ≡ name) ps i j c d e f n s t m)) w)

pub other_alternative : (ks : List Alternative) (name : List ℕ) (i : ℕ) (a : Alternative) → Some a ≡ slice_get ks i → (string_bytes a.name ≡ name → ⊥) → (id : TypeId) → IsAlternativeNamed ks name i id → ⊥
other_alternative ks name i a e n id (b, f, g, h) = n (subst (λ (x : Alternative). string_bytes x.name ≡ name) (some_is b a (f ∙ sym e)) g)

pub no_such_part : (ty : «Type») (name : List ℕ) (v : Value) → ((tag : _) (ps : _) → ty ≡ Sequence tag ps → ⊥) → ((n : _) (tag : _) (ps : _) → ty ≡ Set n tag ps → ⊥)
    → ((n : _) (ks : _) → ty ≡ Choice n ks → ⊥) → (id : TypeId) (part : Value) → IsPartNamed ty name v id part → ⊥
no_such_part (Sequence tag ps) name v a b c id part h = a tag ps refl
no_such_part (Set n tag ps) name v a b c id part h = b n tag ps refl
no_such_part (Choice n ks) name v a b c id part h = c n ks refl
no_such_part (Leaf kind tag s names) name v a b c id part h = h
no_such_part (Enumerated tag ns) name v a b c id part h = h
no_such_part (Any tag) name v a b c id part h = h
no_such_part (Tagged tag k) name v a b c id part h = h
no_such_part (SequenceOf tag k s) name v a b c id part h = h
no_such_part (SetOf tag k s) name v a b c id part h = h
no_such_part Unknown name v a b c id part h = h
