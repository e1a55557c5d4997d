-- What was worked out by hand.
use Rattle.std.proofs.Common.{◌≡◌, ℕ, List, [], ◌∷◌, length, length-append, true, false, Ok, inl, inr, refl, sym, ap, subst, ◌∙◌, arith}
use Rattle.rasn_types.specs.declared.types.codec.Codec.TheVariants.{Ber, Der}
use Rattle.rasn_types.specs.Tags.{in_universal, form}
use Rattle.rasn_types.specs.Framing.{Ended, definite, indefinite}
use Rattle.rasn_types.specs.Shapes.{Shape, Tree}
use Rattle.rasn_types.proofs.Headers.Frames.{frame_one}
use Rattle.rasn_de.specs.Headers.{Header}
use Rattle.rasn_de.specs.State.{State, Call}
use Rattle.rasn_de.specs.Constructed.{list_header, constructed_header_at, contents_state}
use Rattle.rasn_de.specs.SequenceOf.{DecodesInTurn}
use Rattle.rasn_de.proofs.Headers.Ends.{IsEnd-refl}
use Rattle.rasn_de.proofs.Headers.Frames.{header_spelled}
use Rattle.rasn_de.proofs.Constructed.Contents.{constructed_header_spelled}
use Rattle.rasn.proofs.ReadBack.Headers.{short, without}
use Rattle.rasn_types.specs.Trees.{unconstrained}
use Rattle.rasn_schema.specs.declared.type_id.TypeId.{TypeId}
use Rattle.rasn_schema.specs.declared.types.«Type».TheVariants.{SequenceOf}
use Rattle.rasn_dynamic.specs.Inside.{DecodesTree}
use Rattle.rasn_schema.specs.Shapes.{shape_of_type}
use Rattle.rasn_dynamic.specs.Faults.{IsWithin, IsPart, Enters, LeadsBy, Leads, start}
use Rattle.rasn_dynamic.specs.Parts.{IsHeader, LacksElement}
use Rattle.rasn_dynamic.specs.declared.steps.Step.TheVariants.{Index}
use Rattle.rasn_dynamic.specs.Steps.{IsStepOf, IsWay, IsNoWay}
use Rattle.rasn_dynamic.specs.Worked.{list_alone, one_element, the_element, no_element, inside_one, WorkedPlaces}

abbrev list_of : List ℕ → Header
list_of contents = record { tag = in_universal 16; bit = true; extent = definite contents; rest = [] }

one_opened : constructed_header_at (list_header (in_universal 16)) Ber 128 one_element ≡ Ok (list_of the_element)
one_opened =
    constructed_header_spelled (list_header (in_universal 16)) Ber 128 one_element (list_of the_element) (omega arith)
    (header_spelled (form Ber) _ one_element (in_universal 16) true [] (definite the_element) (omega arith, (omega arith, (omega arith, (omega arith, (omega arith, tt))))) refl (short 16 true the_element [] (omega arith) (omega arith) (omega arith)))
    refl

none_opened : constructed_header_at (list_header (in_universal 16)) Ber 128 no_element ≡ Ok (list_of [])
none_opened =
    constructed_header_spelled (list_header (in_universal 16)) Ber 128 no_element (list_of []) (omega arith)
    (header_spelled (form Ber) _ no_element (in_universal 16) true [] (definite []) (omega arith, (omega arith, tt)) refl (short 16 true [] [] (omega arith) (omega arith) (omega arith)))
    refl

not_ended : Ended false the_element → ⊥
not_ended (inl e) = cc
not_ended (inr (e, more, is)) = cc

first : (element : TypeId) → Leads (list_alone element) (0 ∷ []) 1 0 (start Ber one_element) 0 element.0 inside_one
unfolding LeadsBy
first element = (0, refl, _, refl, inside_one, (list_of the_element, one_opened, refl), element.0, inside_one, (refl, [], refl, refl, not_ended), refl, IsEnd-refl the_element, (refl, refl, refl))

no_more : (read : Call Tree) (ts : List Tree) (inner here : State) → length ts ≡ 0 → DecodesInTurn read inner ts here → here ≡ inner
no_more read [] inner here e d = d
no_more read (t ∷ ts) inner here e d = absurd (omega (arith, e))

opened_so : (h : Header) → constructed_header_at (list_header (in_universal 16)) Ber 128 no_element ≡ Ok h → list_of [] ≡ h
opened_so h o = let both = sym none_opened ∙ o in cc

none_first : (element : TypeId) (below end : ℕ) (last : State) → Leads (list_alone element) (0 ∷ []) 1 0 (start Ber no_element) below end last → ⊥
unfolding LeadsBy
none_first element below end last (n, l, ty, g, inner, e, next, here, part, stays, back, rest) =
    let same : ty ≡ SequenceOf (in_universal 16) element unconstrained = cc in
    let (h, opened, entered) = subst (λ z. Enters z (start Ber no_element) inner) same e in
    let (type, ts, count, turn, more) = subst (λ z. IsPart (shape_of_type (list_alone element) n) z inner 0 next here) same part in
    let header = opened_so h opened in
    let is : here ≡ contents_state (list_header (in_universal 16)) (start Ber no_element) h = no_more (DecodesTree (shape_of_type (list_alone element) n element.0)) ts inner here count turn ∙ entered in
    more (subst (λ (z : State). Ended z.closing z.rest) (sym is) (subst (λ (z : Header). Ended (contents_state (list_header (in_universal 16)) (start Ber no_element) z).closing (contents_state (list_header (in_universal 16)) (start Ber no_element) z).rest) header (inl refl)))

no_type : (below end : ℕ) (last : State) → Leads [] (0 ∷ []) 1 0 (start Ber one_element) below end last → ⊥
unfolding LeadsBy
no_type below end last (n, l, ty, g, inner, e, next, here, part, stays, back, rest) = cc

has_element : (f : ℕ → Shape) (id : ℕ) → LacksElement f id inside_one 0 → ⊥
has_element f id (ts, here, turn, ended, count) =
    let none : length ts ≡ 0 = omega (arith, count) in
    not_ended (subst (λ (z : State). Ended z.closing z.rest) (no_more (DecodesTree (f id)) ts inside_one here none turn) ended)

not_inside : (left : ℕ) → IsWithin (1 ∷ []) (2 ∷ []) left → ⊥
not_inside left ([], back, e, n) = let a : ◌≡◌ {A = ℕ} 1 2 = cc in omega (arith, a)
not_inside left (x ∷ front, back, e, n) =
    let a = ap length e in
    let b = length-append front (2 ∷ back) in
    omega (arith, a, b)

not_three : IsHeader (2 ∷ 1 ∷ 7 ∷ []) 3 false → ⊥
not_three (tag, bit, contents, rest, f, e) =
    let o = frame_one _ (short {spelling = form Ber} 2 false (7 ∷ []) [] (omega arith) (omega arith) (omega arith)) f in
    let x : definite (7 ∷ []) ≡ definite contents = o.extent in
    let g : 7 ∷ [] ≡ contents = cc in
    let a = ap length g in
    let b = ap length o.rest in
    omega (arith, a, b, e)

is_definite : IsHeader (2 ∷ 1 ∷ 7 ∷ []) 2 true → ⊥
is_definite (tag, bit, rest, f, e) =
    let o = frame_one _ (short {spelling = form Ber} 2 false (7 ∷ []) [] (omega arith) (omega arith) (omega arith)) f in
    let x : definite (7 ∷ []) ≡ indefinite = o.extent in
    cc

fifth : (element : TypeId) → IsWay (list_alone element) 1 0 (Index 4 ∷ []) (4 ∷ [])
unfolding IsWay
fifth element = (0, refl, Index 4, [], refl, inr (SequenceOf (in_universal 16) element unconstrained, element, refl, (λ h. h), (refl, refl), refl))

not_fourth : (element : TypeId) → IsWay (list_alone element) 1 0 (Index 4 ∷ []) (3 ∷ []) → ⊥
unfolding IsWay
not_fourth element (n, l, step, after, e, inl (tag, inner, g, zero_index, way)) = cc
not_fourth element (n, l, step, after, e, inr (ty, next, g, t, s, w)) =
    let type : ty ≡ SequenceOf (in_universal 16) element unconstrained = cc in
    let fourth : step ≡ Index 4 = cc in
    let i = subst (λ z. IsStepOf z (Index 4) 3 next) type (subst (λ z. IsStepOf ty z 3 next) fourth s) in
    let a = i.0 in
    omega (arith, a)

missing : IsNoWay [] 1 0 (Index 4 ∷ [])
unfolding IsNoWay
missing = (Index 4, [], refl, inl refl)

some_way : (element : TypeId) → IsNoWay (list_alone element) 1 0 [] → ⊥
unfolding IsNoWay
some_way element (step, after, e, more) = cc

pub worked_places : WorkedPlaces
worked_places = record {
  first_element = first;
  none_in_an_empty_list = none_first;
  none_of_a_type_that_is_missing = no_type;
  nothing_lacks_elements = λ f id. ([], start Der [], refl, inl refl, omega arith);
  contents_have_an_element = has_element;
  within = (48 ∷ 3 ∷ [], [], refl, refl);
  not_within = not_inside;
  seen = (48 ∷ 3 ∷ [], [], refl, refl);
  not_seen = λ w. let e = w.3 in omega (arith, e);
  two_octets = (in_universal 2, false, 7 ∷ [], [], short 2 false (7 ∷ []) [] (omega arith) (omega arith) (omega arith), refl);
  not_three_octets = not_three;
  indefinite_length = (in_universal 16, true, 0 ∷ 0 ∷ [], without 16 (0 ∷ 0 ∷ []) tt (omega arith) (omega arith), refl);
  definite_length = is_definite;
  nothing_is_named_by_a_step = λ k f e. cc;
  nothing_is_forgotten_by_a_step = λ k f w. let e = w.1 in cc;
  third_part = λ s. (refl, refl, refl);
  not_the_fourth = λ s w. let e = w.0 in omega (arith, e);
  after_definite_contents = refl;
  after_indefinite_contents = refl;
  fifth_element = fifth;
  not_the_fourth_element = not_fourth;
  no_way_into_a_missing_type = missing;
  way_into_a_list = some_way;
}
