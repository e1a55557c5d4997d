-- Refusals and faults that were worked out by hand, and what is none.
use Rattle.std.specs.Prelude.{◌≡◌, ◌<◌, ℕ, Bool, true, false, List, [], ◌∷◌, Option, None, Vec, Result, Ok, Err}
use Rattle.std.specs.Global.{Global}
use Rattle.rasn_schema.specs.declared.types.NamedNumber.{NamedNumber}
use Rattle.rasn_types.specs.declared.types.codec.Codec.{Codec}
use Rattle.rasn_types.specs.declared.types.codec.Codec.TheVariants.{Der}
use Rattle.rasn_types.specs.declared.error.decode.DecodeError.{DecodeError}
use Rattle.rasn_types.specs.Errors.{IsOutOfMemory}
use Rattle.rasn_types.specs.declared.types.tag.Tag.{Tag}
use Rattle.rasn_types.specs.Framing.{NextTag}
use Rattle.rasn_types.specs.Tags.{form, eoc, in_universal}
use Rattle.rasn_types.specs.declared.types.constraints.Constraints.{Constraints}
use Rattle.rasn_de.specs.declared.ber.de.parser.ParseError.TheVariants.{UnexpectedEmptyInput}
use Rattle.rasn_de.specs.NamedErrors.{IsNamedError, IsNoValidChoice}
use Rattle.rasn.specs.WorkedRefusals.{WorkedRefusals}
use Rattle.rasn_types.specs.Shapes.{Shape, Tree, any}
use Rattle.rasn_de.specs.Any.{BorrowsOpenType}
use Rattle.rasn_de.specs.ValueErrors.{errors_of}
use Rattle.rasn_de.specs.State.{State}
use Rattle.rasn_de.specs.Steps.{IsErrorOf, PeeksTag}
use Rattle.rasn_schema.specs.declared.types.Alternative.{Alternative}
use Rattle.rasn_schema.specs.declared.types.Component.{Component}
use Rattle.rasn_schema.specs.declared.types.«Type».{«Type»}
use Rattle.rasn_schema.specs.declared.types.«Type».TheVariants.{Any, Leaf, Unknown}
use Rattle.rasn_schema.specs.declared.types.LeafKind.TheVariants.{Boolean}
use Rattle.rasn_schema.specs.Shapes.{shape_of_type, alternatives_by, ends_open, IsReadable}
use Rattle.rasn_schema.specs.declared.value.Value.{Value, Boolean as BooleanValue, Null}
use Rattle.rasn_dynamic.specs.declared.refusal.Refusal.{Refusal}
use Rattle.rasn_dynamic.specs.declared.walk.Refused.{Refused}
use Rattle.rasn_dynamic.specs.declared.span.Spans.{Spans}
use Rattle.rasn_dynamic.specs.declared.trace.UnreadValue.{UnreadValue}
use Rattle.rasn_dynamic.specs.declared.nested.NextPart.{NextPart}
use Rattle.rasn_dynamic.specs.declared.nested.Nested.{Nested}
use Rattle.rasn_dynamic.specs.LeafErrors.{leaf_errors, unknown_errors, RunsOutOr}
use Rattle.rasn_dynamic.specs.Refusals.{FailsSomewhere, FailsWhole}
use Rattle.rasn_dynamic.specs.Inside.{DecodesTree}
use Rattle.rasn_dynamic.specs.Unfit.{IsUnfitAt}
use Rattle.rasn_dynamic.specs.Nested.{IsChoiceHere, IsNoChoice, IsRefusedHere, Descends, ReadsPart, ReadsWithin}
use Rattle.rasn_dynamic.specs.Making.{outcome, reported}
use Rattle.rasn_dynamic.specs.Faults.{IsUnknown, IsMemberHere, StopsAtMember, StopsAtChoice, StopsInSequence, StopsInElements, StopsInside, FailsItself, FailsAt, IsLocated, start}

pub record WorkedFaults : Type 0 where
  pub no_memory_at_the_start : (r : Refusal) → IsOutOfMemory r.error.kind → r.id.0 ≡ 0 → r.offset ≡ 0 → r.steps.items ≡ [] → IsLocated (Unknown ∷ []) Der 0 [] r
  pub not_after_the_input : (types : List «Type») (rule : Codec) (id : ℕ) (r : Refusal) → 0 < r.offset → IsLocated types rule id [] r → ⊥
  pub missing_type_fails : (rule : Codec) (input : List ℕ) (r : Refusal) → IsErrorOf UnexpectedEmptyInput (start rule input) r.error → r.id.0 ≡ 0 → r.offset ≡ 0 → r.steps.items ≡ []
      → FailsSomewhere [] rule 0 input r.error
  pub missing_type_fails_only_so : (rule : Codec) (input : List ℕ) (e : DecodeError) → (IsErrorOf UnexpectedEmptyInput (start rule input) e → ⊥) → FailsSomewhere [] rule 0 input e → ⊥
  pub missing_type_fails_whole : (rule : Codec) (input : List ℕ) (r : Refusal) → IsErrorOf UnexpectedEmptyInput (start rule input) r.error → r.id.0 ≡ 0 → r.offset ≡ 0 → r.steps.items ≡ []
      → FailsWhole [] rule 0 input r.error
  pub missing_type_fails_whole_only_so : (rule : Codec) (input : List ℕ) (e : DecodeError) → (IsErrorOf UnexpectedEmptyInput (start rule input) e → ⊥) → FailsWhole [] rule 0 input e → ⊥
  pub boolean_fails : (c : Constraints) → WorkedRefusals (leaf_errors Boolean (in_universal 1) c)
  pub unknown_values_without_memory : (f : ℕ → Shape) (s : State) (e : DecodeError) → IsOutOfMemory e.kind → FailsItself f Unknown s e
  pub nothing_stops_inside_an_open_type : (f : ℕ → Shape) (s : State) (e : DecodeError) → StopsInside f (Any eoc) s e → ⊥
  pub missing_type_has_no_octets : (levels : ℕ) (s : State) (e : DecodeError) → IsErrorOf UnexpectedEmptyInput s e → FailsAt [] levels 0 s e
  pub missing_type_has_no_other_error : (levels : ℕ) (s : State) (e : DecodeError) → (IsErrorOf UnexpectedEmptyInput s e → ⊥) → FailsAt [] levels 0 s e → ⊥
  pub no_memory_at_a_choice : (f : ℕ → Shape) (name : List ℕ) (ks : List Alternative) (s : State) (e : DecodeError) → IsOutOfMemory e.kind → StopsAtChoice f name ks s e
  pub no_tag_is_unknown_to_an_open_choice : (f : ℕ → Shape) (ks : List Alternative) (s : State) → ends_open (alternatives_by f ks) ≡ true → IsUnknown f (alternatives_by f ks) s → ⊥
  pub each_tag_is_unknown_without_alternatives : (f : ℕ → Shape) (s : State) (tag : Tag) → NextTag (form s.rule) s.rest tag → IsUnknown f (alternatives_by f []) s
  pub no_memory_in_a_sequence : (f : ℕ → Shape) (s : State) (e : DecodeError) → IsOutOfMemory e.kind → StopsInSequence f [] s e
  pub nothing_stops_without_components : (f : ℕ → Shape) (s : State) (e : DecodeError) → (IsOutOfMemory e.kind → ⊥) → StopsInSequence f [] s e → ⊥
  pub no_memory_between_elements : (f : ℕ → Shape) (id : ℕ) (s : State) (e : DecodeError) → IsOutOfMemory e.kind → StopsInElements f id s e
  pub unknown_component_can_be_named : (f : ℕ → Shape) (s : State) (tag : Tag) → NextTag (form s.rule) s.rest tag
      → IsMemberHere f true [] 6 s 0 6 s
  pub not_in_a_closed_set : (f : ℕ → Shape) (s : State) → IsMemberHere f false [] 6 s 0 6 s → ⊥
  pub not_as_a_named_component : (f : ℕ → Shape) (s : State) (p : Component) → p.type_id.0 ≡ 5
      → IsMemberHere f true (p ∷ []) 6 s 0 6 s → ⊥
  pub unknown_tag_stops_at_a_closed_set : (f : ℕ → Shape) (s : State) (e : DecodeError) (tag : Tag)
      → NextTag (form s.rule) s.rest tag → (name : List ℕ) → IsNamedError (IsNoValidChoice name) s.rule e → StopsAtMember f name false [] s e
  pub no_other_name_at_a_closed_set : (f : ℕ → Shape) (s : State) (e : DecodeError) → (PeeksTag s (Err e) → ⊥) → (IsOutOfMemory e.kind → ⊥)
      → (name : List ℕ) → (IsNamedError (IsNoValidChoice name) s.rule e → ⊥) → StopsAtMember f name false [] s e → ⊥
  pub no_tag_stops_at_an_open_set : (f : ℕ → Shape) (s : State) (e : DecodeError) → (PeeksTag s (Err e) → ⊥)
      → (IsOutOfMemory e.kind → ⊥) → (name : List ℕ) → StopsAtMember f name true [] s e → ⊥
  pub no_memory_for_an_unknown_value : (s : State) (e : DecodeError) (new : State) → IsOutOfMemory e.kind → RunsOutOr unknown_errors s e new
  pub no_unknown_value_after_the_end : (s : State) (e : DecodeError) (new : State) → (IsOutOfMemory e.kind → ⊥) → (errors_of (BorrowsOpenType eoc) s e new → ⊥)
      → ((t : Tree) (next : State) → DecodesTree (any None) s (Ok t) next → ⊥) → RunsOutOr unknown_errors s e new → ⊥
  pub refused_at_the_outermost : (types : List «Type») (s : State) (outer : NextPart) (before after : Spans) (e : DecodeError) (new : Nested) → new.choices.items ≡ [] → new.part ≡ outer
      → IsRefusedHere types s outer e → Descends types s outer before (Err e) new after
  pub not_refused_by_other_rules : (types : List «Type») (s : State) (outer : NextPart) (before after : Spans) (e : DecodeError) (new : Nested) → (e.codec ≡ s.rule → ⊥)
      → Descends types s outer before (Err e) new after → ⊥
  pub null_is_no_boolean : (tag : Tag) (c : Constraints) (names : Vec NamedNumber Global) → IsUnfitAt (Leaf Boolean tag c names ∷ []) 1 0 Null []
  pub true_is_a_boolean : (tag : Tag) (c : Constraints) (names : Vec NamedNumber Global) (path : List ℕ) → IsUnfitAt (Leaf Boolean tag c names ∷ []) 1 0 (BooleanValue true) path → ⊥
  pub goes_into_no_choice : (types : List «Type») (s : State) (outer : NextPart) (before : Spans) (new : Nested) → new.choices.items ≡ [] → new.part ≡ outer
      → IsReadable (shape_of_type types outer.levels outer.id.0) → IsNoChoice types outer → Descends types s outer before (Ok tt) new before
  pub not_down_to_a_choice : (types : List «Type») (s : State) (outer : NextPart) (before after : Spans) (new : Nested) (text : List ℕ) (l : List Alternative)
      → IsChoiceHere types new.part text l → Descends types s outer before (Ok tt) new after → ⊥
  pub read_within_no_choice : (types : List «Type») (keep : Bool) (outer : NextPart) (s : State) (before : Spans) (r : Result Value DecodeError) (new : State) (fault : Option UnreadValue) (after : Spans)
      → ReadsPart types keep outer s before r new fault after → ReadsWithin types keep outer s before [] outer.index r new fault after
  pub not_read_with_another_index : (types : List «Type») (keep : Bool) (outer : NextPart) (s : State) (before : Spans) (index : ℕ) (r : Result Value DecodeError) (new : State) (fault : Option UnreadValue) (after : Spans)
      → (outer.index ≡ index → ⊥) → ReadsWithin types keep outer s before [] index r new fault after → ⊥
  pub value_in_its_place_is_returned : (u : Unit {0}) (v : Value) (e : DecodeError) → outcome (Ok u) v e ≡ Ok v
  pub error_in_its_place_is_returned : (r : Refused) (v : Value) (e : DecodeError) → outcome {S = Unit {0}} (Err r) v e ≡ Err e
  pub no_value_of_what_is_refused : (r : Refused) (v w : Value) (e : DecodeError) → outcome {S = Unit {0}} (Err r) v e ≡ Ok w → ⊥
  pub no_error_of_what_is_read : (u : Unit {0}) (v : Value) (e d : DecodeError) → outcome (Ok u) v e ≡ Err d → ⊥
  pub value_is_reported : (v : Value) (e : DecodeError) → reported (Ok v) e ≡ Ok v
  pub error_is_reported : (r : Refused) (e : DecodeError) → reported {T = Value} (Err r) e ≡ Err e
  pub no_value_is_reported_of_what_is_refused : (r : Refused) (w : Value) (e : DecodeError) → reported (Err r) e ≡ Ok w → ⊥
  pub no_error_is_reported_of_what_is_read : (v : Value) (e d : DecodeError) → reported (Ok v) e ≡ Err d → ⊥
