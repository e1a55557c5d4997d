-- Parts, names and copies of values that were worked out by hand, what types are made of, and what is none.
use Rattle.std.specs.Prelude.{◌≡◌, ◌≢◌, ℕ, pos, List, [], ◌∷◌, true, Vec, String, Some, None}
use Rattle.std.specs.Global.{Global}
use Rattle.std.specs.String.{string_bytes}
use Rattle.std.specs.Cow.{cow_slice_items}
use Rattle.rasn_types.specs.Tags.{eoc}
use Rattle.rasn_types.specs.Trees.{unconstrained}
use Rattle.rasn_schema.specs.declared.type_id.TypeId.{TypeId}
use Rattle.rasn_schema.specs.declared.types.Component.{Component}
use Rattle.rasn_schema.specs.declared.types.Alternative.{Alternative}
use Rattle.rasn_schema.specs.declared.types.«Type».{«Type»}
use Rattle.rasn_schema.specs.declared.types.«Type».TheVariants.{Any, Tagged, Choice, Sequence, SequenceOf}
use Rattle.rasn_schema.specs.declared.named.TypeName.{TypeName}
use Rattle.rasn_schema.specs.declared.value.Value.{Value, Boolean, Null, Integer, Octets, Text, Items, Elements}
use Rattle.rasn_schema.specs.Held.{IsUntagged, held_in, part_type, part_name, IsPartAt, IsComponentNamed, IsComponentValue, IsAlternativeNamed, IsChosenValue, IsPartNamed, IsNamedPartOf}
use Rattle.rasn_schema.specs.Named.{IsFirstNamed, IsUnnamed}
use Rattle.rasn_schema.specs.Copies.{IsCopy}
use Rattle.rasn_schema.specs.Made.{IsReachedFrom, AreReachedFrom}

-- An open type, which has number 0, and it in an explicit tag.
abbrev pub tagged_any : List «Type»
tagged_any = Any eoc ∷ (Tagged eoc (record { 0 = 0 }) ∷ [])

-- A SEQUENCE OF alone.
abbrev pub list_alone : TypeId → List «Type»
list_alone element = SequenceOf eoc element unconstrained ∷ []

pub record WorkedHeld : Type 0 where
  pub inside_a_tag : IsUntagged tagged_any 1 (Any eoc)
  pub not_the_tag_itself : IsUntagged tagged_any 1 (Tagged eoc (record { 0 = 0 })) → ⊥
  pub nothing_inside_a_missing_type : (ty : «Type») → IsUntagged [] 0 ty → ⊥
  pub held_in_a_list : (vs : Vec Value Global) → held_in (Items vs) ≡ vs.items
  pub nothing_held : held_in Null ≡ []
  pub type_of_an_element : (id : TypeId) → part_type (SequenceOf eoc id unconstrained) 7 ≡ Some id
  pub type_inside_a_tag : (id : TypeId) → part_type (Tagged eoc id) 7 ≡ Some id
  pub no_part_of_an_open_type : part_type (Any eoc) 0 ≡ None
  pub type_of_the_second : (c d : Component) (ps : Vec Component Global) → ps.items ≡ c ∷ (d ∷ []) → part_type (Sequence eoc ps) 1 ≡ Some d.type_id
  pub no_type_of_a_third : (c d : Component) (ps : Vec Component Global) → ps.items ≡ c ∷ (d ∷ []) → part_type (Sequence eoc ps) 2 ≡ None
  pub name_of_an_alternative : (a : Alternative) (name : String Global) (ks : Vec Alternative Global) → ks.items ≡ a ∷ [] → part_name (Choice name ks) 0 ≡ Some (string_bytes a.name)
  pub no_name_of_an_element : (id : TypeId) (i : ℕ) → part_name (SequenceOf eoc id unconstrained) i ≡ None
  pub second_element : (id : TypeId) (v w x : Value) → held_in v ≡ w ∷ (x ∷ []) → IsPartAt (list_alone id) 0 v 1 id x
  pub no_third_element : (id : TypeId) (v w x y : Value) → held_in v ≡ w ∷ (x ∷ []) → IsPartAt (list_alone id) 0 v 2 id y → ⊥
  pub first_of_a_name : (c d : Component) → IsComponentNamed (c ∷ (d ∷ [])) (string_bytes c.name) 0 c.type_id
  pub not_the_second_of_a_name : (c d : Component) (id : TypeId) → IsComponentNamed (c ∷ (d ∷ [])) (string_bytes c.name) 1 id → ⊥
  pub value_of_a_name : (c : Component) (v w : Value) → held_in v ≡ w ∷ [] → IsComponentValue (c ∷ []) (string_bytes c.name) v c.type_id w
  pub no_value_of_another_name : (c : Component) (name : List ℕ) (v w : Value) (id : TypeId) → string_bytes c.name ≢ name → IsComponentValue (c ∷ []) name v id w → ⊥
  pub alternative_of_a_name : (a : Alternative) → IsAlternativeNamed (a ∷ []) (string_bytes a.name) 0 a.type_id
  pub no_alternative_of_another_name : (a : Alternative) (name : List ℕ) (i : ℕ) (id : TypeId) → string_bytes a.name ≢ name → IsAlternativeNamed (a ∷ []) name i id → ⊥
  pub nothing_is_chosen_in_null : (a : Alternative) (name : List ℕ) (id : TypeId) (w : Value) → IsChosenValue (a ∷ []) name Null id w → ⊥
  pub component_named : (c : Component) (ps : Vec Component Global) (v w : Value) → ps.items ≡ c ∷ [] → held_in v ≡ w ∷ [] → IsPartNamed (Sequence eoc ps) (string_bytes c.name) v c.type_id w
  pub no_element_has_a_name : (element : TypeId) (name : List ℕ) (v w : Value) (id : TypeId) → IsNamedPartOf (list_alone element) 0 v name id w → ⊥
  pub first_type_of_a_name : (m n : TypeName) → IsFirstNamed (m ∷ (n ∷ [])) (string_bytes m.name) m.type_id
  pub not_the_second_type_of_a_name : (m n : TypeName) → m.type_id ≢ n.type_id → string_bytes n.name ≡ string_bytes m.name → IsFirstNamed (m ∷ (n ∷ [])) (string_bytes m.name) n.type_id → ⊥
  pub nothing_is_named : (name : List ℕ) → IsUnnamed None name
  pub something_is_named : (n : TypeName) (ns : Vec TypeName Global) → ns.items ≡ n ∷ [] → IsUnnamed (Some ns) (string_bytes n.name) → ⊥
  pub copy_of_true : IsCopy (Boolean true) (Boolean true)
  pub one_is_no_copy_of_true : IsCopy (Boolean true) (Integer (pos 1)) → ⊥
  pub copy_of_octets : (o p : _) → cow_slice_items p ≡ cow_slice_items o → IsCopy (Octets o) (Octets p)
  pub text_is_no_copy_of_octets : (o s : _) → IsCopy (Octets o) (Text s) → ⊥
  pub set_is_no_copy_of_a_list : (vs ws : Vec Value Global) → IsCopy (Items vs) (Elements ws) → ⊥
  pub any_reached_from_its_tag : IsReachedFrom tagged_any (record { 0 = 1 } ∷ []) 0
  pub tag_not_reached_from_any : IsReachedFrom tagged_any (record { 0 = 0 } ∷ []) 1 → ⊥
  pub nothing_reached_from_none : (k : ℕ) → IsReachedFrom tagged_any [] k → ⊥
  pub both_reached : AreReachedFrom tagged_any (record { 0 = 1 } ∷ []) (true ∷ (true ∷ []))
  pub not_both_reached : AreReachedFrom tagged_any (record { 0 = 0 } ∷ []) (true ∷ (true ∷ [])) → ⊥
