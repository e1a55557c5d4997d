-- Places and parts that were worked out by hand, and what is none.
use Rattle.std.specs.Prelude.{◌≡◌, ℕ, List, [], ◌∷◌, true, false, Some, None}
use Rattle.rasn_types.specs.declared.types.codec.Codec.TheVariants.{Ber, Der}
use Rattle.rasn_types.specs.Tags.{in_universal}
use Rattle.rasn_types.specs.Shapes.{Shape}
use Rattle.rasn_types.specs.Trees.{unconstrained}
use Rattle.rasn_de.specs.State.{State}
use Rattle.rasn_schema.specs.declared.type_id.TypeId.{TypeId}
use Rattle.rasn_schema.specs.declared.types.«Type».{«Type»}
use Rattle.rasn_schema.specs.declared.types.«Type».TheVariants.{SequenceOf}
use Rattle.rasn_dynamic.specs.declared.trace.UnreadValue.{UnreadValue}
use Rattle.rasn_dynamic.specs.Faults.{IsStepped, octets_after, IsWithin, IsOnly, Leads, start}
use Rattle.rasn_dynamic.specs.Parts.{IsHeader, IsSeen, LacksElement}
use Rattle.rasn_dynamic.specs.declared.steps.Step.TheVariants.{Index}
use Rattle.rasn_dynamic.specs.Steps.{IsWay, IsNoWay}

-- One type, a SEQUENCE OF.
abbrev pub list_alone : TypeId → List «Type»
list_alone element = SequenceOf (in_universal 16) element unconstrained ∷ []

-- A list of one BOOLEAN, its contents, and an empty list.
abbrev pub one_element : List ℕ
one_element = 48 ∷ 3 ∷ 1 ∷ 1 ∷ 255 ∷ []

abbrev pub the_element : List ℕ
the_element = 1 ∷ 1 ∷ 255 ∷ []

abbrev pub no_element : List ℕ
no_element = 48 ∷ 0 ∷ []

-- The state after the header of the first. A list takes two levels of depth.
abbrev pub inside_one : State
inside_one = record { rule = Ber; depth = 126; closing = false; whole = the_element; rest = the_element }

pub record WorkedPlaces : Type 0 where
  pub first_element : (element : TypeId) → Leads (list_alone element) (0 ∷ []) 1 0 (start Ber one_element) 0 element.0 inside_one
  pub none_in_an_empty_list : (element : TypeId) (below end : ℕ) (last : State) → Leads (list_alone element) (0 ∷ []) 1 0 (start Ber no_element) below end last → ⊥
  pub none_of_a_type_that_is_missing : (below end : ℕ) (last : State) → Leads [] (0 ∷ []) 1 0 (start Ber one_element) below end last → ⊥
  pub nothing_lacks_elements : (f : ℕ → Shape) (id : ℕ) → LacksElement f id (start Der []) 0
  pub contents_have_an_element : (f : ℕ → Shape) (id : ℕ) → LacksElement f id inside_one 0 → ⊥
  pub within : IsWithin one_element the_element 3
  pub not_within : (left : ℕ) → IsWithin (1 ∷ []) (2 ∷ []) left → ⊥
  pub seen : IsSeen one_element 5 the_element 5
  pub not_seen : IsSeen one_element 5 the_element 6 → ⊥
  pub two_octets : IsHeader (2 ∷ 1 ∷ 7 ∷ []) 2 false
  pub not_three_octets : IsHeader (2 ∷ 1 ∷ 7 ∷ []) 3 false → ⊥
  pub indefinite_length : IsHeader (48 ∷ 128 ∷ 0 ∷ 0 ∷ []) 2 true
  pub definite_length : IsHeader (2 ∷ 1 ∷ 7 ∷ []) 2 true → ⊥
  pub nothing_is_named_by_a_step : (k : ℕ) (f : UnreadValue) → IsStepped k None (Some f) → ⊥
  pub nothing_is_forgotten_by_a_step : (k : ℕ) (f : UnreadValue) → IsStepped k (Some f) None → ⊥
  pub third_part : (s : State) → IsOnly 3 7 s 3 7 s
  pub not_the_fourth : (s : State) → IsOnly 3 7 s 4 7 s → ⊥
  pub after_definite_contents : octets_after false 4 ≡ 4
  pub after_indefinite_contents : octets_after true 4 ≡ 0
  pub fifth_element : (element : TypeId) → IsWay (list_alone element) 1 0 (Index 4 ∷ []) (4 ∷ [])
  pub not_the_fourth_element : (element : TypeId) → IsWay (list_alone element) 1 0 (Index 4 ∷ []) (3 ∷ []) → ⊥
  pub no_way_into_a_missing_type : IsNoWay [] 1 0 (Index 4 ∷ [])
  pub way_into_a_list : (element : TypeId) → IsNoWay (list_alone element) 1 0 [] → ⊥
