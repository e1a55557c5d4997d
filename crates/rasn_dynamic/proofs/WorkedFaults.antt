-- Refusals and faults that were worked out by hand.
use Rattle.std.proofs.Common.{◌≡◌, ℕ, zero, suc, Bool, true, false, ◌<◌, List, [], ◌∷◌, ◌++◌, length, length-append, append-nil, Vec, Global, Option, Some, None, Result, Ok, Err, inl, inr, refl, sym, ap, ◌∙◌, subst, arith}
use Rattle.std.specs.Prelude.{slice_get, reverse}
use Rattle.rasn_types.specs.declared.types.codec.Codec.{Codec}
use Rattle.rasn_types.specs.declared.types.codec.Codec.TheVariants.{Der}
use Rattle.rasn_types.specs.declared.error.decode.DecodeError.{DecodeError}
use Rattle.rasn_types.specs.declared.error.decode.DecodeErrorKind.{DecodeErrorKind}
use Rattle.rasn_types.specs.Errors.{IsOutOfMemory}
use Rattle.rasn_types.specs.Shapes.{Shape, Tree, any}
use Rattle.rasn_types.specs.declared.error.decode.DecodeErrorKind.TheVariants.{UnexpectedEmptyInput as EmptyInput}
use Rattle.rasn_types.specs.declared.types.tag.Tag.{Tag}
use Rattle.rasn_de.specs.declared.ber.de.parser.ParseError.TheVariants.{UnexpectedEmptyInput}
use Rattle.rasn_de.specs.Any.{BorrowsOpenType}
use Rattle.rasn_de.specs.ValueErrors.{errors_of}
use Rattle.rasn_types.specs.Readings.{Reading}
use Rattle.rasn_types.specs.Grammar.{Reads, top}
use Rattle.rasn_de.specs.State.{State}
use Rattle.rasn_de.specs.Steps.{IsErrorOf, PeeksTag}
use Rattle.rasn_de.specs.NamedErrors.{IsNamedError, IsNoValidChoice}
use Rattle.rasn_types.specs.Tags.{eoc, in_universal}
use Rattle.rasn_types.specs.declared.types.constraints.Constraints.{Constraints}
use Rattle.rasn.specs.WorkedRefusals.{WorkedRefusals}
use Rattle.rasn.proofs.Worked.Refusals.{worked}
use Rattle.rasn_de.specs.Outcomes.{Exact, refusal}
use Rattle.rasn_schema.specs.declared.types.Component.{Component}
use Rattle.rasn_schema.specs.declared.types.«Type».{«Type»}
use Rattle.rasn_schema.proofs.Lists.{some_is}
use Rattle.rasn_schema.proofs.Parts.{not_none}
use Rattle.rasn_schema.specs.Shapes.{shape_of_type, alternatives_by, IsReadable}
use Rattle.rasn_schema.specs.declared.types.LeafKind.TheVariants.{Boolean}
use Rattle.rasn_schema.specs.declared.types.«Type».TheVariants.{Leaf, Unknown}
use Rattle.rasn_dynamic.specs.declared.refusal.Refusal.{Refusal}
use Rattle.rasn_schema.specs.declared.value.Value.{Value, Boolean as BooleanValue, Null}
use Rattle.rasn_schema.specs.declared.types.NamedNumber.{NamedNumber}
use Rattle.rasn_dynamic.specs.Faults.{LeadsBy, LeadsToAny, LacksType, IsMemberHere, StopsAtMember, FailsAt, StopsInSequence, IsLocated, start}
use Rattle.rasn_dynamic.specs.declared.span.Spans.{Spans}
use Rattle.rasn_dynamic.specs.declared.trace.UnreadValue.{UnreadValue}
use Rattle.rasn_dynamic.specs.declared.nested.NextPart.{NextPart}
use Rattle.rasn_dynamic.specs.declared.nested.Nested.{Nested}
use Rattle.rasn_dynamic.specs.LeafErrors.{leaf_errors, unknown_errors, RunsOutOr}
use Rattle.rasn_dynamic.specs.Refusals.{FailsSomewhere, FailsWhole}
use Rattle.rasn_dynamic.specs.Inside.{DecodesTree}
use Rattle.rasn_dynamic.specs.Unfit.{IsUnfitAt}
use Rattle.rasn_dynamic.specs.Nested.{IsNoChoice, IsRefusedHere, LeadsInto, Descends, ReadsWithin}
use Rattle.rasn_dynamic.specs.WorkedFaults.{WorkedFaults}
use Rattle.rasn_dynamic.proofs.Faults.{fails_found, fails_missing}
use Rattle.rasn_dynamic.proofs.OpenChoice.{open_begins}
use Rattle.rasn_dynamic.proofs.Nothing.{refused_not_there}

no_way : (types : List «Type») (levels : ℕ) (s : State) (id : ℕ) → id ≡ 0 → LeadsToAny types [] levels 0 s levels id s
unfolding LeadsBy
no_way types levels s id e = (refl, sym e, refl)

anything : (R : Reading Tree) (input : List ℕ) (k : DecodeErrorKind) → IsOutOfMemory k → Exact R input (refusal k)
anything R input k e = subst (λ z. Exact R input (refusal z)) (sym e) tt

at_the_start : (r : Refusal) → IsOutOfMemory r.error.kind → r.id.0 ≡ 0 → r.offset ≡ 0 → r.steps.items ≡ [] → IsLocated (Unknown ∷ []) Der 0 [] r
at_the_start r m i o s = record {
  path = [];
  below = 18446744073709551615;
  last = start Der [];
  front = [];
  back = [];
  is = refl;
  offset = sym o;
  has_path = λ c. s;
  leads = no_way (Unknown ∷ []) 18446744073709551615 (start Der []) r.id.0 i;
  refused = anything (Reads Der (shape_of_type (Unknown ∷ []) 18446744073709551615 r.id.0) 128 (top Der)) [] r.error.kind m;
  itself = subst (λ n. FailsAt (Unknown ∷ []) 18446744073709551615 n (start Der []) r.error) (sym i) (fails_found (Unknown ∷ []) 18446744073709551615 0 18446744073709551614 Unknown (start Der []) r.error refl refl (start Der [], inl m));
}

missing_type : (rule : Codec) (input : List ℕ) (r : Refusal) → IsErrorOf UnexpectedEmptyInput (start rule input) r.error → r.id.0 ≡ 0 → r.offset ≡ 0 → r.steps.items ≡ [] → FailsSomewhere [] rule 0 input r.error
missing_type rule input r w i o s = (
  r,
  refl,
  record {
    path = [];
    below = 18446744073709551615;
    last = start rule input;
    front = [];
    back = [];
    is = sym (append-nil input);
    offset = sym o;
    has_path = λ c. s;
    leads = no_way [] 18446744073709551615 (start rule input) r.id.0 i;
    refused = subst (λ n. Exact (Reads rule (shape_of_type [] 18446744073709551615 n) 128 (top rule)) input (refusal r.error.kind)) (sym i) (refused_not_there [] 18446744073709551615 0 (start rule input) r.error.kind refl).exact;
    itself = subst (λ n. FailsAt [] 18446744073709551615 n (start rule input) r.error) (sym i) (fails_missing [] 18446744073709551615 0 (start rule input) r.error (inr refl) w);
  },
)

no_part : (path : List ℕ) (s : State) (below id : ℕ) (last : State) (e : DecodeError) → LeadsToAny [] path 18446744073709551615 0 s below id last → FailsAt [] below id last e → IsErrorOf UnexpectedEmptyInput s e
unfolding LeadsBy
no_part [] s below id last e (b, i, q) f = subst (λ z. IsErrorOf UnexpectedEmptyInput z e) (sym q) (f.missing (subst (λ n. LacksType [] below n) i (inr refl)))
no_part (k ∷ path) s below id last e (n, l, ty, g, inner, enters, next, here, part, stays, ends, leads) f = cc

missing_only : (rule : Codec) (input : List ℕ) (e : DecodeError) → (IsErrorOf UnexpectedEmptyInput (start rule input) e → ⊥) → FailsSomewhere [] rule 0 input e → ⊥
missing_only rule input e n (r, q, h) = n (subst (IsErrorOf UnexpectedEmptyInput (start rule input)) q (no_part h.path (start rule input) h.below r.id.0 h.last r.error h.leads h.itself))

missing_whole : (rule : Codec) (input : List ℕ) (e : DecodeError) → (IsErrorOf UnexpectedEmptyInput (start rule input) e → ⊥) → FailsWhole [] rule 0 input e → ⊥
missing_whole rule input e n (inl h) = missing_only rule input e n h
missing_whole rule input e n (inr h) = (refused_not_there [] 18446744073709551615 0 (start rule input) EmptyInput refl).exact h.t h.rest h.read.0

at_the_first : (s : State) (e : DecodeError) (new : State) → (IsOutOfMemory e.kind → ⊥) → (errors_of (BorrowsOpenType eoc) s e new → ⊥)
    → ((t : Tree) (next : State) → DecodesTree (any None) s (Ok t) next → ⊥) → RunsOutOr unknown_errors s e new → ⊥
at_the_first s e new m n none (inl o) = m o
at_the_first s e new m n none (inr ([], here, turn, more, h)) = n (subst (λ z. errors_of (BorrowsOpenType eoc) z e new) turn h)
at_the_first s e new m n none (inr (t ∷ ts, here, turn, more, h)) = none t turn.0 turn.2

outermost : (types : List «Type») (s : State) (outer : NextPart) (before after : Spans) (e : DecodeError) (new : Nested) → new.choices.items ≡ [] → new.part ≡ outer
    → IsRefusedHere types s outer e → Descends types s outer before (Err e) new after
outermost types s outer before after e new c p h =
    (before, subst (λ l. LeadsInto types s (reverse l) outer before new.part before) (sym c) (p, refl), subst (λ (z : NextPart). IsRefusedHere types s z e) (sym p) h)

null_unfit : (tag : Tag) (c : Constraints) (names : Vec NamedNumber Global) → IsUnfitAt (Leaf Boolean tag c names ∷ []) 1 0 Null []
unfolding IsUnfitAt
null_unfit tag c names = λ h. cc

true_fits : (tag : Tag) (c : Constraints) (names : Vec NamedNumber Global) (path : List ℕ) → IsUnfitAt (Leaf Boolean tag c names ∷ []) 1 0 (BooleanValue true) path → ⊥
unfolding IsUnfitAt
true_fits tag c names [] h = h refl
true_fits tag c names (i ∷ path) (j, w, p, h) = p

not_after : (types : List «Type») (rule : Codec) (id : ℕ) (r : Refusal) → 0 < r.offset → IsLocated types rule id [] r → ⊥
not_after types rule id r l h =
    let a = ap length h.is in
    let b = length-append h.front (h.last.rest ++ h.back) in
    let c = h.offset in
    omega (arith, a, b, c, l)

no_components : (f : ℕ → Shape) (s : State) (e : DecodeError) → (IsOutOfMemory e.kind → ⊥) → StopsInSequence f [] s e → ⊥
no_components f s e n (inl m) = n m
no_components f s e n (inr (done, p, after, here, is, turn, stops)) =
    let a = ap length is in
    let b = length-append done (p ∷ after) in
    omega (arith, a, b)

no_component : (k : ℕ) (p : Component) → Some p ≡ slice_get [] k → ⊥
no_component zero p e = not_none p None refl e
no_component (suc k) p e = not_none p None refl e

closed_set : (f : ℕ → Shape) (s : State) → IsMemberHere f false [] 6 s 0 6 s → ⊥
closed_set f s (inl (p, at, i, h)) = no_component 0 p at
closed_set f s (inr ((e, k, n, u), g)) = cc

named_component : (f : ℕ → Shape) (s : State) (p : Component) → p.type_id.0 ≡ 5 → IsMemberHere f true (p ∷ []) 6 s 0 6 s → ⊥
named_component f s p e (inl (q, at, i, g)) = omega (arith, i, e, ap (λ (x : Component). x.type_id.0) (some_is q p at))
named_component f s p e (inr ((x, k, n, u), g)) = omega (arith, k)

open_set : (f : ℕ → Shape) (s : State) (e : DecodeError) → (PeeksTag s (Err e) → ⊥) → (IsOutOfMemory e.kind → ⊥) → (name : List ℕ) → StopsAtMember f name true [] s e → ⊥
open_set f s e n m name (inl p) = n p
open_set f s e n m name (inr (inl (u, x))) = cc
open_set f s e n m name (inr (inr (inl o))) = m o
open_set f s e n m name (inr (inr (inr (k, p, at, h)))) = no_component k p at

other_name : (f : ℕ → Shape) (s : State) (e : DecodeError) → (PeeksTag s (Err e) → ⊥) → (IsOutOfMemory e.kind → ⊥) → (name : List ℕ) → (IsNamedError (IsNoValidChoice name) s.rule e → ⊥) → StopsAtMember f name false [] s e → ⊥
other_name f s e n m name w (inl p) = n p
other_name f s e n m name w (inr (inl ((u, named), x))) = w named
other_name f s e n m name w (inr (inr (inl o))) = m o
other_name f s e n m name w (inr (inr (inr (k, p, at, h)))) = no_component k p at

boolean : (c : Constraints) → WorkedRefusals (leaf_errors Boolean (in_universal 1) c)
unfolding leaf_errors
boolean c = worked

no_choice : (types : List «Type») (s : State) (outer : NextPart) (before : Spans) (new : Nested) → new.choices.items ≡ [] → new.part ≡ outer
    → IsReadable (shape_of_type types outer.levels outer.id.0) → IsNoChoice types outer → Descends types s outer before (Ok tt) new before
no_choice types s outer before new e p readable none = (
  subst (λ l. LeadsInto types s (reverse l) outer before new.part before) (sym e) (p, refl),
  subst (λ (z : NextPart). IsReadable (shape_of_type types z.levels z.id.0)) (sym p) readable,
  subst (IsNoChoice types) (sym p) none,
)

other_index : (types : List «Type») (keep : Bool) (outer : NextPart) (s : State) (before : Spans) (index : ℕ) (r : Result Value DecodeError) (new : State) (fault : Option UnreadValue) (after : Spans)
    → (outer.index ≡ index → ⊥) → ReadsWithin types keep outer s before [] index r new fault after → ⊥
other_index types keep outer s before index r new fault after n (inner, spans, i, (e, b), h) = n (ap (λ (z : NextPart). z.index) (sym e) ∙ i)

not_both : {T : Type 0} (v : T) (e : DecodeError) → Ok v ≡ Err e → ⊥
not_both v e h = cc

pub worked_faults : WorkedFaults
worked_faults = record {
  no_memory_at_the_start = at_the_start;
  not_after_the_input = not_after;
  missing_type_fails = missing_type;
  missing_type_fails_only_so = missing_only;
  missing_type_fails_whole = λ rule input r w i o s. inl (missing_type rule input r w i o s);
  missing_type_fails_whole_only_so = missing_whole;
  boolean_fails = boolean;
  unknown_values_without_memory = λ f s e m. (s, inl m);
  nothing_stops_inside_an_open_type = λ f s e h. h;
  missing_type_has_no_octets = λ levels s e w. fails_missing [] levels 0 s e (inr refl) w;
  missing_type_has_no_other_error = λ levels s e n h. n (h.missing (inr refl));
  no_memory_at_a_choice = λ f name ks s e m. inr (inr m);
  no_tag_is_unknown_to_an_open_choice = λ f ks s o h. h.2 (open_begins (alternatives_by f ks) h.0 o);
  each_tag_is_unknown_without_alternatives = λ f s tag n. (tag, n, λ h. h);
  no_memory_in_a_sequence = λ f s e m. inl m;
  nothing_stops_without_components = no_components;
  no_memory_between_elements = λ f id s e m. inl m;
  unknown_component_can_be_named = λ f s tag n. inr ((refl, refl, refl, (tag, n, λ h. h)), refl);
  not_in_a_closed_set = closed_set;
  not_as_a_named_component = named_component;
  unknown_tag_stops_at_a_closed_set = λ f s e tag n name w. inr (inl (((tag, n, λ h. h), w), refl));
  no_other_name_at_a_closed_set = other_name;
  no_tag_stops_at_an_open_set = open_set;
  no_memory_for_an_unknown_value = λ s e new m. inl m;
  no_unknown_value_after_the_end = at_the_first;
  refused_at_the_outermost = outermost;
  not_refused_by_other_rules = λ types s outer before after e new n d. n d.2.2;
  null_is_no_boolean = null_unfit;
  true_is_a_boolean = true_fits;
  goes_into_no_choice = no_choice;
  not_down_to_a_choice = λ types s outer before after new text l h d. d.2 text l h;
  read_within_no_choice = λ types keep outer s before r new fault after h. (outer, before, refl, (refl, refl), h);
  not_read_with_another_index = other_index;
  value_in_its_place_is_returned = λ u v e. refl;
  error_in_its_place_is_returned = λ r v e. refl;
  no_value_of_what_is_refused = λ r v w e h. not_both w e (sym h);
  no_error_of_what_is_read = λ u v e d h. not_both v d h;
  value_is_reported = λ v e. refl;
  error_is_reported = λ r e. refl;
  no_value_is_reported_of_what_is_refused = λ r w e h. not_both w e (sym h);
  no_error_is_reported_of_what_is_read = λ v e d h. not_both v d h;
}
