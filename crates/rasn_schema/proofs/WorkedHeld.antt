-- Parts, names and copies of values that were worked out by hand.
use Rattle.std.proofs.Common.{◌≡◌, ◌≢◌, ℕ, zero, suc, List, [], ◌∷◌, Bool, true, false, String, Vec, Global, Some, None, refl, sym, ap, ◌∙◌, subst, arith}
use Rattle.std.specs.Prelude.{slice_get}
use Rattle.std.specs.String.{string_bytes}
use Rattle.rasn_types.specs.Tags.{eoc}
use Rattle.rasn_types.specs.Trees.{unconstrained}
use Rattle.rasn_schema.specs.declared.type_id.TypeId.{TypeId}
use Rattle.rasn_schema.specs.declared.types.Component.{Component}
use Rattle.rasn_schema.specs.declared.types.Alternative.{Alternative}
use Rattle.rasn_schema.specs.declared.types.«Type».{«Type»}
use Rattle.rasn_schema.specs.declared.types.«Type».TheVariants.{Any, Tagged, Choice, Sequence, SequenceOf}
use Rattle.rasn_schema.specs.declared.named.TypeName.{TypeName}
use Rattle.rasn_schema.specs.declared.value.Value.{Value, Octets, Text}
use Rattle.rasn_schema.specs.Held.{IsTagged, IsInside, IsUntagged, held_in, part_type, part_name, IsPartAt, IsComponentNamed, IsComponentValue, IsAlternativeNamed, IsPartNamed, IsNamedPartOf}
use Rattle.rasn_schema.specs.Named.{IsFirstNamed}
use Rattle.rasn_schema.specs.Copies.{IsCopy}
use Rattle.rasn_schema.specs.Made.{HasPart, IsMadeOf, IsReachedFrom}
use Rattle.rasn_types.specs.Truth.{IsWhether}
use Rattle.rasn_schema.specs.WorkedHeld.{tagged_any, list_alone, WorkedHeld}
use Rattle.rasn_schema.proofs.Lists.{some_is}
use Rattle.rasn_schema.proofs.Parts.{not_none}
use Rattle.rasn_schema.proofs.Values.{held_items}

-- ---- types inside tags

inside_a_tag : IsInside tagged_any 1 1 (Any eoc)
unfolding IsInside
inside_a_tag = (eoc, record { 0 = 0 }, refl, (refl, λ h. h))

no_tag_in_any : (n : ℕ) (tag : _) (inner : TypeId) → IsInside tagged_any n 0 (Tagged tag inner) → ⊥
unfolding IsInside
no_tag_in_any zero tag inner h = h.1 tt
no_tag_in_any (suc n) tag inner (t, i, e, h) = let f : Tagged t i ≡ Any eoc = cc in subst IsTagged f tt

not_the_tag_itself : (n : ℕ) → IsInside tagged_any n 1 (Tagged eoc (record { 0 = 0 })) → ⊥
unfolding IsInside
not_the_tag_itself zero h = h.1 tt
not_the_tag_itself (suc n) (t, i, e, h) =
    let f : Tagged t i ≡ Tagged eoc (record { 0 = 0 }) = some_is _ _ e in
    let j : i.0 ≡ 0 = ap (λ (x : TypeId). x.0) cc in
    no_tag_in_any n eoc (record { 0 = 0 }) (subst (λ k. IsInside tagged_any n k (Tagged eoc (record { 0 = 0 }))) j h)

missing : (ty : «Type») (n : ℕ) → IsInside [] n 0 ty → ⊥
unfolding IsInside
missing ty zero h = not_none ty None refl h.0
missing ty (suc n) (t, i, e, h) = not_none (Tagged t i) None refl e

list_itself : (id : TypeId) → IsUntagged (list_alone id) 0 (SequenceOf eoc id unconstrained)
unfolding IsInside
list_itself id = (0, (refl, λ h. h))

only_the_list : (id : TypeId) (n : ℕ) (ty : «Type») → IsInside (list_alone id) n 0 ty → SequenceOf eoc id unconstrained ≡ ty
unfolding IsInside
only_the_list id zero ty h = sym (some_is _ _ h.0)
only_the_list id (suc n) ty (t, i, e, h) = absurd (let f : Tagged t i ≡ SequenceOf eoc id unconstrained = some_is _ _ e in subst IsTagged f tt)

-- ---- parts

module _ (c d : Component) (ps : Vec Component Global) (e : ps.items ≡ c ∷ (d ∷ [])) where
  second_type : part_type (Sequence eoc ps) 1 ≡ Some d.type_id
  second_type = rw e refl

  no_third_type : part_type (Sequence eoc ps) 2 ≡ None
  no_third_type = rw e refl

alternative_name : (a : Alternative) (name : String Global) (ks : Vec Alternative Global) → ks.items ≡ a ∷ [] → part_name (Choice name ks) 0 ≡ Some (string_bytes a.name)
alternative_name a name ks e = rw e refl

third_element : (id : TypeId) (v w x y : Value) → held_in v ≡ w ∷ (x ∷ []) → IsPartAt (list_alone id) 0 v 2 id y → ⊥
third_element id v w x y e (t, at) = not_none y None refl (subst (λ l. Some y ≡ slice_get l 2) e at)

-- ---- names

only_component : (c : Component) (name : List ℕ) (i : ℕ) (id : TypeId) → string_bytes c.name ≢ name → IsComponentNamed (c ∷ []) name i id → ⊥
only_component c name zero id n ((d, e, f, g), m) = n (ap (λ (x : Component). string_bytes x.name) (some_is c d (sym e)) ∙ f)
only_component c name (suc i) id n ((d, e, f, g), m) = not_none d None refl e

only_alternative : (a : Alternative) (name : List ℕ) (i : ℕ) (id : TypeId) → string_bytes a.name ≢ name → IsAlternativeNamed (a ∷ []) name i id → ⊥
only_alternative a name zero id n (b, e, f, g) = n (ap (λ (x : Alternative). string_bytes x.name) (some_is a b (sym e)) ∙ f)
only_alternative a name (suc i) id n (b, e, f, g) = not_none b None refl e

component_value : (c : Component) (v w : Value) → held_in v ≡ w ∷ [] → IsComponentValue (c ∷ []) (string_bytes c.name) v c.type_id w
component_value c v w e = (0, ((c, refl, refl, refl), λ j d h g. absurd (omega (arith, h))), rw e refl)

component_named : (c : Component) (ps : Vec Component Global) (v w : Value) → ps.items ≡ c ∷ [] → held_in v ≡ w ∷ [] → IsPartNamed (Sequence eoc ps) (string_bytes c.name) v c.type_id w
component_named c ps v w e f = subst (λ l. IsComponentValue l (string_bytes c.name) v c.type_id w) (sym e) (component_value c v w f)

no_name : (element : TypeId) (name : List ℕ) (v w : Value) (id : TypeId) → IsNamedPartOf (list_alone element) 0 v name id w → ⊥
no_name element name v w id (ty, (n, u), h) = subst (λ t. IsPartNamed t name v id w) (sym (only_the_list element n ty u)) h

second_type_named : (m n : TypeName) → m.type_id ≢ n.type_id → string_bytes n.name ≡ string_bytes m.name → IsFirstNamed (m ∷ (n ∷ [])) (string_bytes m.name) n.type_id → ⊥
second_type_named m n d s (zero, t, at, e, i, first) = d (ap (λ (x : TypeName). x.type_id) (some_is m t (sym at)) ∙ i)
second_type_named m n d s (suc j, t, at, e, i, first) = first 0 m (omega arith) refl refl

-- ---- what types are made of

from_its_tag : IsReachedFrom tagged_any (record { 0 = 1 } ∷ []) 0
unfolding IsMadeOf
from_its_tag = (omega arith, 1, (0, record { 0 = 1 }, refl, refl), 1, (0, (Tagged eoc (record { 0 = 0 }), refl, 0, record { 0 = 0 }, refl, refl), refl))

tag_itself : IsReachedFrom tagged_any (record { 0 = 1 } ∷ []) 1
unfolding IsMadeOf
tag_itself = (omega arith, 1, (0, record { 0 = 1 }, refl, refl), 0, refl)

no_part_of_any : (m : ℕ) → HasPart tagged_any 0 m → ⊥
no_part_of_any m (ty, e, i, id, f, g) = not_none id None refl (subst (λ t. Some id ≡ part_type t i) (some_is ty (Any eoc) e) f)

only_any : (n : ℕ) → IsMadeOf tagged_any n 0 1 → ⊥
unfolding IsMadeOf
only_any zero h = omega (arith, h)
only_any (suc n) (j, p, h) = no_part_of_any j p

tag_not_reached : IsReachedFrom tagged_any (record { 0 = 0 } ∷ []) 1 → ⊥
tag_not_reached (l, k, (zero, id, e, h), n, w) = only_any n (subst (λ x. IsMadeOf tagged_any n x 1) (sym h ∙ ap (λ (x : TypeId). x.0) (some_is id (record { 0 = 0 }) e)) w)
tag_not_reached (l, k, (suc j, id, e, h), n, w) = not_none id None refl e

both : (k : ℕ) (b : Bool) → Some b ≡ slice_get (true ∷ (true ∷ [])) k → IsWhether b (IsReachedFrom tagged_any (record { 0 = 1 } ∷ []) k)
both zero true e = from_its_tag
both zero false e = cc
both (suc zero) true e = tag_itself
both (suc zero) false e = cc
both (suc (suc k)) b e = absurd (not_none b None refl e)

-- ---- copies

no_text : (o s : _) → IsCopy (Octets o) (Text s) → ⊥
no_text o s (p, e, h) = cc

pub worked_held : WorkedHeld
worked_held = record {
  inside_a_tag = (1, inside_a_tag);
  not_the_tag_itself = λ (n, h). not_the_tag_itself n h;
  nothing_inside_a_missing_type = λ ty (n, h). missing ty n h;
  held_in_a_list = held_items;
  nothing_held = refl;
  type_of_an_element = λ id. refl;
  type_inside_a_tag = λ id. refl;
  no_part_of_an_open_type = refl;
  type_of_the_second = second_type;
  no_type_of_a_third = no_third_type;
  name_of_an_alternative = alternative_name;
  no_name_of_an_element = λ id i. refl;
  second_element = λ id v w x e. ((SequenceOf eoc id unconstrained, list_itself id, refl), rw e refl);
  no_third_element = third_element;
  first_of_a_name = λ c d. ((c, refl, refl, refl), λ j x h g. absurd (omega (arith, h)));
  not_the_second_of_a_name = λ c d id h. h.1 0 c (omega arith) refl refl;
  value_of_a_name = component_value;
  no_value_of_another_name = λ c name v w id n h. only_component c name h.0 id n h.1;
  alternative_of_a_name = λ a. (a, refl, refl, refl);
  no_alternative_of_another_name = only_alternative;
  nothing_is_chosen_in_null = λ a name id w h. h;
  component_named = component_named;
  no_element_has_a_name = no_name;
  first_type_of_a_name = λ m n. (0, m, refl, refl, refl, λ i x h g. absurd (omega (arith, h)));
  not_the_second_type_of_a_name = second_type_named;
  nothing_is_named = λ name. tt;
  something_is_named = λ n ns e h. h 0 n (rw e refl) refl;
  copy_of_true = refl;
  one_is_no_copy_of_true = λ e. cc;
  copy_of_octets = λ o p e. (p, refl, e);
  text_is_no_copy_of_octets = no_text;
  set_is_no_copy_of_a_list = λ vs ws h. h;
  any_reached_from_its_tag = from_its_tag;
  tag_not_reached_from_any = tag_not_reached;
  nothing_reached_from_none = λ k (l, r, (j, id, e, h), n, w). not_none id None refl e;
  both_reached = (refl, both);
  not_both_reached = λ h. tag_not_reached (h.1 1 true refl);
}
