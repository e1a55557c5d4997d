-- Lists of parts that were worked out by hand, and what is none.
use Rattle.std.specs.Prelude.{◌≡◌, ◌-◌, ◌^◌, ℕ, Bool, List, [], ◌∷◌, true, false, Some, None, Vec}
use Rattle.std.specs.Global.{Global}
use Rattle.rasn_types.specs.declared.types.codec.Codec.TheVariants.{Der}
use Rattle.rasn_types.specs.Framing.{NextTag}
use Rattle.rasn_types.specs.Trees.{unconstrained}
use Rattle.rasn_types.specs.Shapes.{Shape, leaf, any, boolean}
use Rattle.rasn_types.specs.declared.types.constraints.Constraints.{Constraints}
use Rattle.rasn_de.specs.State.{State}
use Rattle.rasn_types.specs.Tags.{form, in_universal}
use Rattle.rasn_schema.specs.declared.types.Alternative.{Alternative}
use Rattle.rasn_schema.specs.declared.types.Component.{Component}
use Rattle.rasn_schema.specs.declared.types.«Type».{«Type»}
use Rattle.rasn_schema.specs.declared.types.«Type».TheVariants.{Sequence, SequenceOf, Unknown}
use Rattle.rasn_schema.specs.declared.type_id.TypeId.{TypeId}
use Rattle.rasn_schema.specs.FirstTags.{IsAlternativeFor}
use Rattle.rasn_dynamic.specs.declared.part.Part.{Part}
use Rattle.rasn_dynamic.specs.declared.span.Span.{Span}
use Rattle.rasn_dynamic.specs.Faults.{start}
use Rattle.rasn_dynamic.specs.Listed.{capped, depth_at, wanted_of, InTurn, ElementsListed, MembersListed, PartsInside, Inside, IsCut}
use Rattle.rasn_dynamic.specs.Sets.{last_type}
use Rattle.rasn_dynamic.specs.Walk.{open_of, path_at_depth}
use Rattle.rasn_dynamic.specs.Parts.{AreContents, LacksAlternative}
use Rattle.rasn_dynamic.specs.LeadsTo.{LeadsTo}
use Rattle.rasn_dynamic.specs.SameParts.{IsSamePart, AreReadableTypes}

-- A SEQUENCE alone.
abbrev pub sequence_alone : Vec Component Global → List «Type»
sequence_alone ps = Sequence (in_universal 16) ps ∷ []

-- A BOOLEAN, and unknown values.
abbrev pub AreBooleanOrUnknown : (ℕ → Shape) → Alternative → Alternative → Type 0
AreBooleanOrUnknown f known last = (f known.type_id.0 ≡ leaf boolean (in_universal 1) unconstrained) × (f last.type_id.0 ≡ any None)

-- Nothing is read.
abbrev pub no_step : ℕ → State → State → List Span → Type 0
no_step k s next es = ⊥

-- A NULL.
abbrev pub a_null : List ℕ
a_null = 5 ∷ 0 ∷ []

-- A part with these octets, at the end of a message, of a type with the number 6.
abbrev pub IsNullAtEnd : ℕ → Span → Type 0
IsNullAtEnd k e = (e.id.0 ≡ 6) × (e.index ≡ k) × (e.depth ≡ 2 ^ 64 - 10) × (e.left ≡ 2) × (e.octets.now ≡ a_null)

-- What is inside doesn't matter.
abbrev pub anything_inside : ℕ → ℕ → State → List Span → Type 0
anything_inside id b s es = Unit {0}

-- These are the parts of the contents of a SET that names no component, where its contents are this NULL.
abbrev pub AreOfOpenSet : Bool → (ℕ → Shape) → List Span → Type 0
AreOfOpenSet extensible f es = MembersListed f 9 anything_inside extensible [] 6 0 (start Der a_null) es

pub record WorkedParts : Type 0 where
  pub within_64_bits : capped 2 3 ≡ 5
  pub not_past_64_bits : capped (2 ^ 64 - 1) 1 ≡ 2 ^ 64 - 1
  pub outermost : depth_at (2 ^ 64 - 1) ≡ 0
  pub two_levels_further_in : depth_at (2 ^ 64 - 3) ≡ 2
  pub all_listed : (e : Span) → wanted_of None (e ∷ []) ≡ e ∷ []
  pub unwanted_left_out : (types : Vec Bool Global) (e : Span) → types.items ≡ false ∷ (true ∷ []) → e.id.0 ≡ 0 → wanted_of (Some types) (e ∷ []) ≡ []
  pub unknown_value_is_open : (e : Span) → e.id.0 ≡ 0 → open_of (Unknown ∷ []) (e ∷ []) ≡ e ∷ []
  pub a_sequence_is_not_open : (ps : Vec Component Global) (e : Span) → e.id.0 ≡ 0 → open_of (sequence_alone ps) (e ∷ []) ≡ []
  pub path_of_an_inner_part : path_at_depth 2 (0 ∷ 4 ∷ 7 ∷ []) 3 ≡ 0 ∷ 3 ∷ []
  pub path_of_the_message : path_at_depth 0 (1 ∷ []) 5 ≡ []
  pub before_the_rest : IsCut (1 ∷ 2 ∷ 3 ∷ []) (3 ∷ []) (1 ∷ 2 ∷ [])
  pub not_one_octet_less : IsCut (1 ∷ 2 ∷ 3 ∷ []) (3 ∷ []) (1 ∷ []) → ⊥
  pub no_part_after_none : (s : State) → InTurn no_step 0 s s []
  pub not_one_part_after_none : (s : State) (e : Span) → InTurn no_step 0 s s (e ∷ []) → ⊥
  pub no_elements_in_nothing : (f : ℕ → Shape) (levels id b : ℕ) → ElementsListed f levels (Inside [] levels) id b (start Der []) []
  pub nothing_inside_a_missing_type : (levels id b : ℕ) (s : State) (es : List Span) → PartsInside [] levels id b s es → ⊥
  pub component_at_the_end_of_a_path : (ps : Vec Component Global) (p q : Component) → ps.items ≡ p ∷ (q ∷ []) → LeadsTo (sequence_alone ps) 0 (1 ∷ []) q
  pub not_after_the_last_component : (ps : Vec Component Global) (p q : Component) → ps.items ≡ p ∷ [] → LeadsTo (sequence_alone ps) 0 (1 ∷ []) q → ⊥
  pub no_component_without_a_path : (types : List «Type») (id : ℕ) (p : Component) → LeadsTo types id [] p → ⊥
  pub contents_of_a_number : (p : Part) → p.octets.now ≡ 2 ∷ 1 ∷ 7 ∷ [] → p.header_len ≡ 2 → p.is_indefinite ≡ false → AreContents p (7 ∷ [])
  pub not_without_the_last_octet : (p : Part) → p.octets.now ≡ 2 ∷ 1 ∷ 7 ∷ [] → p.header_len ≡ 2 → p.is_indefinite ≡ false → AreContents p [] → ⊥
  pub same_as_itself : (e : Span) → IsSamePart e e
  pub not_of_another_type : (a b : Span) → a.id.0 ≡ 0 → b.id.0 ≡ 1 → IsSamePart a b → ⊥
  pub not_at_another_place : (a b : Span) → a.left ≡ 7 → b.left ≡ 5 → IsSamePart a b → ⊥
  pub unknown_values_alone : AreReadableTypes (Unknown ∷ [])
  pub no_sequence_of_unknown_values : (id : TypeId) (c : Constraints) → id.0 ≡ 1 → AreReadableTypes (SequenceOf (in_universal 16) id c ∷ Unknown ∷ []) → ⊥
  pub unknown_component_is_a_part : (f : ℕ → Shape) (e : Span) → IsNullAtEnd 0 e → AreOfOpenSet true f (e ∷ [])
  pub not_with_another_index : (f : ℕ → Shape) (e : Span) → IsNullAtEnd 1 e → AreOfOpenSet true f (e ∷ []) → ⊥
  pub unknown_component_is_not_left_out : (f : ℕ → Shape) → AreOfOpenSet true f [] → ⊥
  pub no_unknown_component_of_a_closed_set : (f : ℕ → Shape) (es : List Span) → AreOfOpenSet false f es → ⊥
  pub last_of_two_types : (p q : Component) → q.type_id.0 ≡ 6 → last_type (p ∷ (q ∷ [])) ≡ 6
  pub not_the_first_of_two : (p q : Component) → p.type_id.0 ≡ 5 → q.type_id.0 ≡ 6 → last_type (p ∷ (q ∷ [])) ≡ 5 → ⊥
  pub contents_before_their_end : (p : Part) → p.octets.now ≡ 48 ∷ 128 ∷ 0 ∷ 0 ∷ [] → p.header_len ≡ 2 → p.is_indefinite ≡ true → AreContents p []
  pub unknown_alternative : (f : ℕ → Shape) (a b : Alternative) → AreBooleanOrUnknown f a b → IsAlternativeFor f (a ∷ (b ∷ [])) (in_universal 2) 1 b
  pub known_alternative : (f : ℕ → Shape) (a b : Alternative) → AreBooleanOrUnknown f a b → IsAlternativeFor f (a ∷ (b ∷ [])) (in_universal 1) 0 a
  pub not_unknown_with_its_tag : (f : ℕ → Shape) (a b : Alternative) → AreBooleanOrUnknown f a b → IsAlternativeFor f (a ∷ (b ∷ [])) (in_universal 1) 1 b → ⊥
  pub a_boolean_is_not_unknown : (f : ℕ → Shape) (a b : Alternative) (s : State) → AreBooleanOrUnknown f a b → NextTag (form s.rule) s.rest (in_universal 1) → LacksAlternative f (a ∷ (b ∷ [])) s 1
  pub nor_is_it_missing : (f : ℕ → Shape) (a b : Alternative) (s : State) → AreBooleanOrUnknown f a b → NextTag (form s.rule) s.rest (in_universal 1) → LacksAlternative f (a ∷ (b ∷ [])) s 0 → ⊥
