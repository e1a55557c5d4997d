-- The list of the octets of a BOOLEAN with a long length, worked out by hand.
use Rattle.std.proofs.Common.{◌≡◌, inl, inr, ℕ, zero, suc, ◌<◌, pos, List, [], ◌∷◌, ◌++◌, length, true, false, Some, None, Vec, Global, refl, sym, ap, ◌∙◌, subst, arith}
use Rattle.std.specs.Prelude.{slice_get, slice_index_or}
use Rattle.std.specs.List.{All}
use Rattle.std.specs.List.Sorted.{IsNonDecreasingBy}
use Rattle.std.proofs.lemmas.List.Sorted.{IsPermutation-refl}
use Rattle.rasn_types.specs.declared.types.codec.Codec.TheVariants.{Ber, Der}
use Rattle.rasn_types.specs.declared.error.decode.DerDecodeErrorKind.TheVariants.{NonMinimalLength}
use Rattle.rasn_types.specs.Grammar.{Reads}
use Rattle.rasn_types.specs.Shapes.{number, boolean}
use Rattle.rasn_types.specs.Tags.{in_universal}
use Rattle.rasn_types.specs.Trees.{unconstrained}
use Rattle.rasn_de.specs.Headers.{identifier_by, tag_number_at}
use Rattle.rasn_de.specs.Outcomes.{Exact, Got}
use Rattle.rasn_de.specs.State.{State}
use Rattle.rasn.proofs.OneReading.Shapes.{one_leaf}
use Rattle.rasn.specs.WorkedShapes.{plain}
use Rattle.rasn_schema.specs.declared.types.NamedNumber.{NamedNumber}
use Rattle.rasn_schema.specs.declared.types.LeafKind.TheVariants.{Boolean}
use Rattle.rasn_schema.specs.declared.types.«Type».{«Type»}
use Rattle.rasn_schema.specs.declared.types.«Type».TheVariants.{Leaf}
use Rattle.rasn_schema.specs.Shapes.{shape_of_type}
use Rattle.rasn_dynamic.specs.declared.message.MessageParts.{MessageParts}
use Rattle.rasn_dynamic.specs.declared.span.Span.{Span}
use Rattle.rasn_dynamic.specs.Entry.{shape_of}
use Rattle.rasn_dynamic.specs.Faults.{start}
use Rattle.rasn_dynamic.specs.Listed.{PartListed, PartsInside, Inside}
use Rattle.rasn_dynamic.specs.Walk.{ArePartsOf, IsPlaced, path_at_depth, path_after}
use Rattle.rasn_lint.specs.declared.by_schema.OpenTypes.TheVariants.{Unexamined}
use Rattle.rasn_lint.specs.declared.departure.Departure.{Departure}
use Rattle.rasn_lint.specs.declared.departure.Aspect.TheVariants.{Header}
use Rattle.rasn_lint.specs.declared.judge.Faults.{Faults}
use Rattle.rasn_lint.specs.declared.judge.Site.{Site}
use Rattle.rasn_lint.specs.declared.leaf.Segments.TheVariants.{Whole}
use Rattle.rasn_lint.specs.Header.{is_constructed, IsTagFault, IsFormFault, IsLengthFault}
use Rattle.rasn_lint.specs.Judged.{IsSiteAt, IsDepartureAt, AreListed, AreFaultsOf, AreDepartures, AreOfPart}
use Rattle.rasn_lint.specs.Leaf.{IsMended, IsContentsFault}
use Rattle.rasn_lint.specs.Lint.{IsDer, AreAll, IsLint, offset_of}
use Rattle.rasn_lint.specs.Place.{der_error, order_if, default_if, type_of, IsOrderFault, IsDefaultFault}
use Rattle.rasn_lint.specs.Trail.{holder_in, before_in, step_before}
use Rattle.rasn_lint.specs.WorkedMessages.{a_boolean, short_true, long_true, IsLongAlone, IsOfLongLength}
use Rattle.rasn.proofs.Worked.StrictLeaves.{long_length}

module _ (names : Vec NamedNumber Global) (shape_is : shape_of (a_boolean names) 0 ≡ plain boolean 1) (not_read : IsDer (a_boolean names) 0 long_true → ⊥)
    (read : Reads Der (plain boolean 1) 128 false short_true (number (pos 1)) []) (long : IsLengthFault long_true (Some (der_error NonMinimalLength))) (mended : IsMended Whole (in_universal 1) long_true short_true)
    (ps : MessageParts) (e : Span) (d : Departure) (a : IsLongAlone ps e) (o : IsOfLongLength e d) where
  abbrev types : List «Type»
  types = a_boolean names

  -- ---- its parts

  -- What is left after it.
  abbrev last : State
  last = record { rule = Ber; depth = 128; closing = true; whole = long_true; rest = [] }

  exact : (s : State) → s.rule ≡ Ber → s.depth ≡ 128 → s.closing ≡ true → s.rest ≡ long_true → Exact (Reads s.rule (shape_of types 0) s.depth s.closing) s.rest (Got (number (pos 1)) [])
  exact s r n c l =
      let own : Exact (Reads Ber (shape_of types 0) 128 true) long_true (Got (number (pos 1)) []) = subst (λ z. Exact (Reads Ber z 128 true) long_true (Got (number (pos 1)) [])) (sym shape_is)
      (long_length.0, λ u m h. one_leaf Ber boolean (in_universal 1) unconstrained 128 true long_true u (number (pos 1)) m [] h long_length.0) in
      subst (λ z. Exact (Reads z (shape_of types 0) s.depth s.closing) s.rest (Got (number (pos 1)) [])) (sym r)
      (subst (λ z. Exact (Reads Ber (shape_of types 0) z s.closing) s.rest (Got (number (pos 1)) [])) (sym n)
      (subst (λ z. Exact (Reads Ber (shape_of types 0) 128 z) s.rest (Got (number (pos 1)) [])) (sym c)
      (subst (λ z. Exact (Reads Ber (shape_of types 0) 128 true) z (Got (number (pos 1)) [])) (sym l) own)))

  nothing_inside : (n : ℕ) (s : State) → PartsInside types (suc n) 0 0 s []
  unfolding PartsInside
  nothing_inside n s = (Leaf Boolean (in_universal 1) unconstrained names, refl, (0, s, (refl, refl), refl))

  deep : PartsInside types 18446744073709551615 0 0 (start Ber long_true) []
  deep = nothing_inside 18446744073709551614 (start Ber long_true)

  part_listed : PartListed (shape_of_type types 18446744073709551615) 18446744073709551615 (Inside types 18446744073709551615) 0 0 0 (start Ber long_true) last ps.list.items
  part_listed = record {
    part = e;
    inside = [];
    is = a.list;
    id_is = a.id;
    index = a.index;
    deep = a.depth;
    left = a.left;
    octets = ap (λ l. l ++ []) (sym a.octets);
    tree = number (pos 1);
    reads = record { stays = refl; end = (long_true, refl); exact = exact (start Ber long_true) refl refl refl refl };
    parts = deep;
  }

  placed : (x : Span) → x.octets.now ≡ long_true → x.left ≡ 4 → IsPlaced long_true x
  placed x q l = ([], [], ap (λ z. z ++ []) (sym q), ap (λ z. length (z ++ [])) q ∙ sym l)

  are_parts : ArePartsOf types Ber 0 long_true ps
  are_parts = record {
    last = last;
    listed = part_listed;
    placed = subst (All (IsPlaced long_true)) (sym a.list) (λ k x h. one_placed k x h);
    input_is = a.input;
    next = a.next;
    path = a.path;
  }
    where
      one_placed : (k : ℕ) (x : Span) → k < 1 → IsPlaced long_true (slice_index_or (e ∷ []) k x)
      one_placed zero x h = placed e a.octets a.left
      one_placed (suc k) x h = absurd (omega (arith, h))

  -- ---- what departs

  outermost : e.depth ≡ 0
  outermost = a.depth

  no_holder : holder_in [] e ≡ None
  no_holder = ap (λ n. step_before n []) outermost

  none_before : before_in [] e ≡ None
  none_before = ap (slice_get []) outermost

  tag_read : (l : List ℕ) → l ≡ long_true → IsTagFault l None
  unfolding identifier_by tag_number_at
  tag_read l q = subst (λ z. IsTagFault z None) (sym q) (in_universal 1, refl)

  judged : (l : List ℕ) → l ≡ long_true → IsContentsFault types 0 (Leaf Boolean (in_universal 1) unconstrained names) l None
  judged l q = subst (λ z. IsContentsFault types 0 (Leaf Boolean (in_universal 1) unconstrained names) z None) (sym q) (inl (short_true, mended, (number (pos 1), own)))
    where
      own : Exact (Reads Der (shape_of types 0) 128 false) short_true (Got (number (pos 1)) [])
      own = subst (λ z. Exact (Reads Der z 128 false) short_true (Got (number (pos 1)) [])) (sym shape_is)
          (read, λ u m h. one_leaf Der boolean (in_universal 1) unconstrained 128 false short_true u (number (pos 1)) m [] h read)

  abbrev faults : Faults
  faults = record { order = None; default = None; tag = None; form = None; length = Some (der_error NonMinimalLength); contents = None }

  abbrev site : Site
  site = record { offset = 0; id = e.id; path = record { ref_ptr = (0, 0); now = [] }; inner = None }

  are_faults : AreFaultsOf Unexamined types [] e (Leaf Boolean (in_universal 1) unconstrained names) faults
  are_faults = record {
    order = subst (λ z. IsOrderFault (order_if (type_of types (holder_in [] e))) e.octets.now z None) (sym none_before) refl;
    default = subst (λ z. IsDefaultFault types e.id.0 e.octets.now (default_if (type_of types z) e.index) None) (sym no_holder) refl;
    header = (tag_read e.octets.now a.octets, subst (λ l. IsFormFault (Leaf Boolean (in_universal 1) unconstrained names) (is_constructed l) None) (sym a.octets) refl, subst (λ l. IsLengthFault l (Some (der_error NonMinimalLength))) (sym a.octets) long);
    contents = subst (λ i. IsContentsFault types i (Leaf Boolean (in_universal 1) unconstrained names) e.octets.now None) (sym a.id) (judged e.octets.now a.octets);
  }

  is_site : IsSiteAt 4 e.left e (path_after [] e) None site
  is_site = record { offset = let n = a.left in omega (arith, n); id = refl; path_is = ap (λ n. path_at_depth n [] e.index) (sym outermost); inner_is = refl }

  departs : IsDepartureAt site Header (der_error NonMinimalLength) d
  departs = record { error_is = o.error; offset = o.offset; id = o.id; steps = o.steps; whole = o.whole; aspect_is = o.aspect; inner = o.inner }

  are_listed : AreListed site faults (d ∷ [])
  are_listed = record {
    order = [];
    default = [];
    tag = [];
    form = [];
    length = d ∷ [];
    contents = [];
    are = refl;
    in_order = refl;
    by_default = refl;
    by_tag = refl;
    by_form = refl;
    by_length = (d, refl, departs);
    in_contents = refl;
  }

  are_departures : AreDepartures Unexamined types 4 [] (path_after [] e) e (slice_get types e.id.0) (d ∷ [])
  are_departures = subst (λ z. AreDepartures Unexamined types 4 [] (path_after [] e) e z (d ∷ [])) (ap (slice_get types) (sym a.id)) (faults, site, are_faults, is_site, are_listed)

  of_part : AreOfPart false Unexamined types 4 [] (path_after [] e) e (d ∷ [])
  of_part = record { typed = d ∷ []; inside = []; are = refl; by_type = are_departures; by_octets = refl; complete = tt }

  are_all : AreAll Unexamined types 0 long_true ps.list.items (d ∷ [])
  are_all = subst (λ l. AreAll Unexamined types 0 long_true l (d ∷ [])) (sym a.list) (inr (not_read, inl ((d ∷ [], [], refl, of_part, refl), λ q. cc)))

  alone_in_order : IsNonDecreasingBy offset_of (d ∷ [])
  alone_in_order zero zero x h k = omega arith
  alone_in_order zero (suc j) x h k = absurd (omega (arith, k))
  alone_in_order (suc i) zero x h k = absurd (omega (arith, h))
  alone_in_order (suc i) (suc j) x h k = absurd (omega (arith, k))

  pub one_listed : IsLint Unexamined types 0 long_true (d ∷ [])
  unfolding are_parts
  one_listed = record {
    parts = ps;
    are_parts = are_parts;
    whole = refl;
    found = d ∷ [];
    all = are_all;
    same = IsPermutation-refl (d ∷ []);
    in_order = alone_in_order;
    clean = (λ q. cc, λ c. absurd (not_read c.0));
  }
