-- Lists of parts that were worked out by hand.
use Rattle.std.proofs.Common.{◌≡◌, ℕ, zero, suc, ◌<◌, List, [], ◌∷◌, ◌++◌, length, length-append, Bool, true, false, Vec, Global, Some, None, Ok, inl, inr, refl, sym, ap, ◌∙◌, subst, arith}
use Rattle.std.specs.Prelude.{if◌then◌else◌, slice_get}
use Rattle.std.proofs.lemmas.List.{append-nil, append_cancel_right}
use Rattle.rasn_types.specs.Tags.{form, loose_form, der_form, in_universal}
use Rattle.rasn_de.specs.State.{State, at}
use Rattle.rasn_schema.specs.declared.types.Component.{Component}
use Rattle.rasn_schema.specs.declared.types.«Type».{«Type»}
use Rattle.rasn_schema.specs.declared.types.«Type».TheVariants.{Sequence, SequenceOf, Unknown}
use Rattle.rasn_schema.specs.declared.type_id.TypeId.{TypeId}
use Rattle.rasn_schema.specs.Shapes.{nothing, found_by, tag_found, shape_of_type, IsReadable}
use Rattle.rasn_types.specs.Lawful.{IsLawful}
use Rattle.rasn_types.specs.Framing.{NextTag, Ended, plain}
use Rattle.rasn_types.specs.Grammar.{Reads}
use Rattle.rasn_types.specs.declared.types.tag.Tag.{Tag}
use Rattle.rasn_types.specs.Shapes.{Shape, Tree, numbers, any, IsFirst, list, unknown, looked_for}
use Rattle.rasn_types.specs.Shapes.Parts.{none}
use Rattle.rasn_types.proofs.Headers.Frames.{next_one, frame_next}
use Rattle.rasn.proofs.OneReading.Any.{any_one}
use Rattle.rasn.proofs.ReadBack.Headers.{short}
use Rattle.rasn_schema.specs.declared.types.Alternative.{Alternative}
use Rattle.rasn_schema.specs.FirstTags.{IsAlternativeFor}
use Rattle.rasn_types.specs.declared.types.constraints.Constraints.{Constraints}
use Rattle.rasn_schema.specs.Schemas.{components_in}
use Rattle.rasn_schema.proofs.Lists.{some_is}
use Rattle.rasn_schema.proofs.Parts.{not_none}
use Rattle.rasn_dynamic.specs.declared.part.Part.{Part}
use Rattle.rasn_dynamic.specs.declared.span.Span.{Span}
use Rattle.rasn_types.specs.declared.types.codec.Codec.TheVariants.{Der}
use Rattle.rasn_dynamic.specs.Faults.{start}
use Rattle.rasn_dynamic.specs.Listed.{is_true, InTurn, MemberListed, PartsInside}
use Rattle.rasn_dynamic.specs.Parts.{AreContents, LacksAlternative, end_len}
use Rattle.rasn_dynamic.specs.LeadsTo.{LeadsTo}
use Rattle.rasn_dynamic.specs.Walk.{is_open}
use Rattle.rasn_dynamic.specs.SameParts.{AreReadableTypes}
use Rattle.rasn_dynamic.specs.WorkedParts.{sequence_alone, AreBooleanOrUnknown, a_null, IsNullAtEnd, anything_inside, AreOfOpenSet, WorkedParts}
use Rattle.rasn_dynamic.specs.Inside.{DecodesTree}
use Rattle.rasn_dynamic.specs.Sets.{PassesUnknown}
use Rattle.rasn_dynamic.proofs.Members.{unknown_got, none_passed}
use Rattle.rasn_dynamic.proofs.OpenChoice.{one_alternative}

missing : (levels id b : ℕ) (s : State) (es : List Span) → PartsInside [] levels id b s es → ⊥
unfolding PartsInside
missing zero id b s es h = h
missing (suc n) id b s es (ty, at, h) = let none : slice_get [] id ≡ Some ty = at in cc

second : (ps : Vec Component Global) (p q : Component) → ps.items ≡ p ∷ (q ∷ []) → LeadsTo (sequence_alone ps) 0 (1 ∷ []) q
unfolding LeadsTo
second ps p q e = (Sequence (in_universal 16) ps, refl, inl (refl, rw e refl))

no_second : (ps : Vec Component Global) (p q : Component) → ps.items ≡ p ∷ [] → LeadsTo (sequence_alone ps) 0 (1 ∷ []) q → ⊥
unfolding LeadsTo
no_second ps p q e (ty, at, inl (n, h)) =
    not_none q None refl (subst (λ l. Some q ≡ slice_get l 1) e (subst (λ t. Some q ≡ slice_get (components_in t) 1) (some_is ty (Sequence (in_universal 16) ps) at) h))
no_second ps p q e (ty, at, inr (next, h, l)) = l

no_path : (types : List «Type») (id : ℕ) (p : Component) → LeadsTo types id [] p → ⊥
unfolding LeadsTo
no_path types id p h = h

module _ (p : Part) where
  between : (header contents end : List ℕ) → p.octets.now ≡ header ++ (contents ++ end) → p.header_len ≡ length header → (b : Bool) → p.is_indefinite ≡ b → length end ≡ end_len b → AreContents p contents
  between header contents end e h b i n = (header, end, e, sym h, n ∙ ap end_len (sym i))

  not_empty_here : p.octets.now ≡ 2 ∷ 1 ∷ 7 ∷ [] → p.header_len ≡ 2 → p.is_indefinite ≡ false → AreContents p [] → ⊥
  not_empty_here e h i (header, end, f, n, m) =
      let a = ap length (sym e ∙ f) in
      let b = length-append header end in
      let c = m ∙ ap end_len i in
      omega (arith, a, b, c, h, n)

nothing_at : (types : List «Type») (k : ℕ) → types ≡ [] → slice_get types k ≡ None
nothing_at [] zero e = refl
nothing_at [] (suc k) e = refl
nothing_at (ty ∷ types) k e = absurd cc

alone : AreReadableTypes (Unknown ∷ [])
unfolding shape_of_type IsLawful
alone zero zero = inl (tt, (tt, tt))
alone zero (suc k) = subst (λ o. IsReadable (nothing (looked_for (tag_found o)))) (sym (nothing_at [] k refl)) (inl (tt, (tt, tt)))
alone (suc n) zero = inr refl
alone (suc n) (suc k) = subst (λ o. IsReadable (found_by (λ j. shape_of_type (Unknown ∷ []) n j) o)) (sym (nothing_at [] k refl)) (inl (tt, (tt, tt)))

no_list : (id : TypeId) (c : Constraints) → id.0 ≡ 1 → AreReadableTypes (SequenceOf (in_universal 16) id c ∷ Unknown ∷ []) → ⊥
unfolding shape_of_type IsLawful
no_list id c e h = go (subst (λ k. IsReadable (list (in_universal 16) (shape_of_type (SequenceOf (in_universal 16) id c ∷ Unknown ∷ []) 1 k) c.size)) e (h 2 0))
  where
    go : IsReadable (list (in_universal 16) unknown c.size) → ⊥
    go (inl x) = x.1.1
    go (inr q) = cc

module _ (f : ℕ → Shape) (a b : Alternative) (h : AreBooleanOrUnknown f a b) where
  other_tag : IsFirst (f a.type_id.0) (in_universal 2) → ⊥
  other_tag g = let e : in_universal 2 ≡ in_universal 1 = subst (λ z. IsFirst z (in_universal 2)) h.0 g in let n : 2 ≡ 1 = ap (λ (t : Tag). t.value) e in omega (arith, n)

  not_before : (j : ℕ) (c : Alternative) → j < 1 → Some c ≡ slice_get (a ∷ (b ∷ [])) j → IsFirst (f c.type_id.0) (in_universal 2) → ⊥
  not_before zero c m e g = other_tag (subst (λ (z : Alternative). IsFirst (f z.type_id.0) (in_universal 2)) (some_is c a e) g)
  not_before (suc j) c m e g = absurd (omega (arith, m))

  is_unknown : IsAlternativeFor f (a ∷ (b ∷ [])) (in_universal 2) 1 b
  is_unknown = (refl, subst (λ z. IsFirst z (in_universal 2)) (sym h.1) tt, not_before)

  is_known : IsAlternativeFor f (a ∷ (b ∷ [])) (in_universal 1) 0 a
  is_known = (refl, subst (λ z. IsFirst z (in_universal 1)) (sym h.0) refl, λ j c m e g. omega (arith, m))

  not_unknown : IsAlternativeFor f (a ∷ (b ∷ [])) (in_universal 1) 1 b → ⊥
  not_unknown g = let e = one_alternative f (a ∷ (b ∷ [])) (in_universal 1) 0 1 a b is_known g in omega (arith, e)

  module _ (s : State) (n : NextTag (form s.rule) s.rest (in_universal 1)) where
    lacks_unknown : LacksAlternative f (a ∷ (b ∷ [])) s 1
    lacks_unknown = (0, a, (in_universal 1, n, is_known), λ e. omega (arith, e))

    has_known : LacksAlternative f (a ∷ (b ∷ [])) s 0 → ⊥
    has_known (j, c, (tag, m, g), d) =
        let same : tag ≡ in_universal 1 = next_one s.rest tag (in_universal 1) m n in
        d (one_alternative f (a ∷ (b ∷ [])) (in_universal 1) j 0 c a (subst (λ z. IsAlternativeFor f (a ∷ (b ∷ [])) z j c) same g) is_known)

-- ---- an unknown component of a SET

null_read : Reads Der (any None) 128 false a_null (numbers a_null) []
unfolding Reads
null_read = (a_null, refl, plain _ false [] (short {spelling = loose_form} 5 false [] [] (omega arith) (omega arith) (omega arith)), refl)

null_only : (u : Tree) (r : List ℕ) → Reads Der (any None) 128 false a_null u r → (u ≡ numbers a_null) × (r ≡ [])
unfolding Reads
null_only u r h = any_one Der a_null u (numbers a_null) r [] h null_read

null_decoded : DecodesTree (any None) (start Der a_null) (Ok (numbers a_null)) (at (start Der a_null) [])
null_decoded = record { stays = refl; end = (a_null, refl); exact = (null_read, null_only) }

null_passed : PassesUnknown true none (start Der a_null) (at (start Der a_null) [])
null_passed =
    (numbers a_null, unknown_got none (start Der a_null) (at (start Der a_null) []) _ (frame_next (short {spelling = der_form} 5 false [] [] (omega arith) (omega arith) (omega arith))) (λ h. h) (numbers a_null) null_decoded)

not_ended : (closing : Bool) → Ended closing a_null → ⊥
not_ended closing (inl e) = cc
not_ended closing (inr (c, more, e)) = cc

no_component : (k : ℕ) (p : Component) → Some p ≡ slice_get [] k → ⊥
no_component zero p e = not_none p None refl e
no_component (suc k) p e = not_none p None refl e

module _ (f : ℕ → Shape) where
  is_a_part : (e : Span) → IsNullAtEnd 0 e → AreOfOpenSet true f (e ∷ [])
  is_a_part e h = (
    1,
    at (start Der a_null) [],
    ([], e ∷ [], start Der a_null, refl, (refl, refl), inl (null_passed, record { part = e; is = refl; id_is = h.0; index = h.1; deep = h.2; left = h.3; octets = sym (append-nil e.octets.now ∙ h.4) })),
    inl refl,
  )

  -- Each turn is one part, with the index 0.
  abbrev Turn : Bool → ℕ → State → State → List Span → Type 0
  Turn extensible n s last es = InTurn (λ k. MemberListed f 9 anything_inside extensible [] 6 0) n s last es

  last_part : (extensible : Bool) (s next : State) (es : List Span) → MemberListed f 9 anything_inside extensible [] 6 0 s next es → (e : Span) × (es ≡ e ∷ []) × (e.index ≡ 0)
  last_part extensible s next es (inl (d, x)) = (x.part, x.is, x.index)
  last_part extensible s next es (inr (k, p, at, x)) = absurd (no_component k p at)

  no_other_index : (n : ℕ) (s last : State) (e : Span) → e.index ≡ 1 → Turn true n s last (e ∷ []) → ⊥
  no_other_index zero s last e i (p, q) = cc
  no_other_index (suc n) s last e i ([], mine, here, is, t, m) =
      let w = last_part true here last mine m in
      let same : e ≡ w.0 = (let q = is ∙ w.1 in cc) in
      omega (arith, sym i ∙ ap (λ (x : Span). x.index) same ∙ w.2)
  no_other_index (suc n) s last e i (x ∷ before, mine, here, is, t, m) =
      let w = last_part true here last mine m in
      let q = ap length (is ∙ ap (λ l. x ∷ (before ++ l)) w.1) in
      let r = length-append before (w.0 ∷ []) in
      omega (arith, q, r)

  no_part : (n : ℕ) (s last : State) → s.rest ≡ a_null → Turn true n s last [] → Ended last.closing last.rest → ⊥
  no_part zero s last r (p, q) h = not_ended last.closing (subst (Ended last.closing) (ap (λ (v : State). v.rest) p ∙ r) h)
  no_part (suc n) s last r (before, mine, here, is, t, m) h =
      let w = last_part true here last mine m in
      let q = ap length (is ∙ ap (λ l. before ++ l) w.1) in
      let x = length-append before (w.0 ∷ []) in
      omega (arith, q, x)

  closed : (n : ℕ) (s last : State) (es : List Span) → s.rest ≡ a_null → Turn false n s last es → Ended last.closing last.rest → ⊥
  closed zero s last es r (p, q) h = not_ended last.closing (subst (Ended last.closing) (ap (λ (v : State). v.rest) p ∙ r) h)
  closed (suc n) s last es r (before, mine, here, is, t, inl (d, x)) h = none_passed false none here last refl ⊥ d
  closed (suc n) s last es r (before, mine, here, is, t, inr (k, p, at, x)) h = no_component k p at

pub worked_parts : WorkedParts
worked_parts = record {
  within_64_bits = omega arith;
  not_past_64_bits = omega arith;
  outermost = refl;
  two_levels_further_in = refl;
  all_listed = λ e. refl;
  unwanted_left_out = λ types e l i. ap (λ z. if is_true (slice_get z e.id.0) then e ∷ [] else []) l ∙ ap (λ k. if is_true (slice_get (false ∷ (true ∷ [])) k) then e ∷ [] else []) i;
  unknown_value_is_open = λ e i. ap (λ k. if is_open (slice_get (Unknown ∷ []) k) then e ∷ [] else []) i;
  a_sequence_is_not_open = λ ps e i. ap (λ k. if is_open (slice_get (sequence_alone ps) k) then e ∷ [] else []) i;
  path_of_an_inner_part = refl;
  path_of_the_message = refl;
  before_the_rest = λ front e. append_cancel_right (1 ∷ 2 ∷ []) front (3 ∷ []) e;
  not_one_octet_less = λ h. let e = h (1 ∷ 2 ∷ []) refl in cc;
  no_part_after_none = λ s. (refl, refl);
  not_one_part_after_none = λ s e h. let q = h.1 in cc;
  no_elements_in_nothing = λ f levels id b. (0, start Der [], (refl, refl), inl refl);
  nothing_inside_a_missing_type = missing;
  component_at_the_end_of_a_path = second;
  not_after_the_last_component = no_second;
  no_component_without_a_path = no_path;
  contents_of_a_number = λ p e h i. between p (2 ∷ 1 ∷ []) (7 ∷ []) [] e h false i refl;
  not_without_the_last_octet = not_empty_here;
  same_as_itself = λ e. record { id = refl; index = refl; depth = refl; left = refl; octets = refl };
  not_of_another_type = λ a b p q h. let n = h.id in omega (arith, n, p, q);
  not_at_another_place = λ a b p q h. let n = h.left in omega (arith, n, p, q);
  unknown_values_alone = alone;
  no_sequence_of_unknown_values = no_list;
  unknown_component_is_a_part = is_a_part;
  not_with_another_index = λ f e h q. no_other_index f q.0 (start Der a_null) q.1 e h.1 q.2;
  unknown_component_is_not_left_out = λ f q. no_part f q.0 (start Der a_null) q.1 refl q.2 q.3;
  no_unknown_component_of_a_closed_set = λ f es q. closed f q.0 (start Der a_null) q.1 es refl q.2 q.3;
  last_of_two_types = λ p q e. e;
  not_the_first_of_two = λ p q e g h. omega (arith, g, h);
  contents_before_their_end = λ p e h i. between p (48 ∷ 128 ∷ []) [] (0 ∷ 0 ∷ []) e h true i refl;
  unknown_alternative = is_unknown;
  known_alternative = is_known;
  not_unknown_with_its_tag = not_unknown;
  a_boolean_is_not_unknown = λ f a b s h n. lacks_unknown f a b h s n;
  nor_is_it_missing = λ f a b s h n. has_known f a b h s n;
}
