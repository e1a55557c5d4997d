-- An extensible CHOICE, worked out by hand.
use Rattle.std.proofs.Common.{◌≡◌, inl, inr, ℕ, suc, List, [], ◌∷◌, false, None, refl, sym, ap, ◌∙◌, subst, arith}
use Rattle.std.specs.Prelude.{slice_get}
use Rattle.rasn_types.specs.declared.types.codec.Codec.{Codec}
use Rattle.rasn_types.specs.declared.types.codec.Codec.TheVariants.{Ber, Der}
use Rattle.rasn_types.specs.declared.types.tag.Tag.{Tag}
use Rattle.rasn_types.specs.Tags.{Form, eoc, in_universal}
use Rattle.rasn_types.specs.Framing.{Frame, definite, plain}
use Rattle.rasn_types.specs.Shapes.{Shape, Tree, numbers, chosen, part, required, IsFirstOf}
use Rattle.rasn_types.specs.Shapes.Parts.{none}
use Rattle.rasn_types.specs.Grammar.{Reads, parts_of, top}
use Rattle.rasn_types.proofs.Headers.Frames.{frame_next}
use Rattle.rasn.specs.WorkedShapes.{known_alternatives, extensible_choice}
use Rattle.rasn.proofs.ReadBack.Headers.{short}
use Rattle.rasn.proofs.Worked.OpenChoice.{worked}
use Rattle.rasn_schema.specs.declared.types.«Type».{«Type»}
use Rattle.rasn_schema.specs.declared.types.«Type».TheVariants.{Any, Choice}
use Rattle.rasn_schema.specs.Shapes.{shape_of_type, alternatives_by, choice_among}
use Rattle.rasn_dynamic.specs.Entry.{shape_of}
use Rattle.rasn_dynamic.specs.Faults.{start}
use Rattle.rasn_dynamic.specs.SameParts.{AreReadableTypes}
use Rattle.rasn_lint.specs.declared.by_schema.OpenTypes.{OpenTypes}
use Rattle.rasn_lint.specs.declared.by_schema.OpenTypes.TheVariants.{Unexamined, Examined}
use Rattle.rasn_lint.specs.Lint.{IsDer, IsLint, IsFirstDeparture}
use Rattle.rasn_lint.specs.Universal.{rule_in}
use Rattle.rasn_lint.specs.WellFormed.{IsWellFormed, none as no_more, one_more}
use Rattle.rasn_lint.specs.WorkedReplies.{reply_types, AreOfReply, WorkedReplies}
use Rattle.rasn_lint.proofs.Steps.{primitive_first}
use Rattle.rasn_lint.proofs.Holding.{holds}
use Rattle.rasn_lint.proofs.Kept.{FormedTree, kept}

among_three : (f : ℕ → Shape) (i j k : ℕ) → i ≡ 1 → j ≡ 2 → k ≡ 3
    → choice_among (part required (f i) (part required (f j) (part required (f k) none))) ≡ choice_among (part required (f 1) (part required (f 2) (part required (f 3) none)))
among_three f i j k p q r = ap (λ n. choice_among (part required (f n) (part required (f j) (part required (f k) none)))) p
    ∙ (ap (λ n. choice_among (part required (f 1) (part required (f n) (part required (f k) none)))) q
    ∙ ap (λ n. choice_among (part required (f 1) (part required (f 2) (part required (f n) none)))) r)

-- ---- 05 01 00

pub null_frame : {spelling : Form} → Frame spelling (5 ∷ 1 ∷ 0 ∷ []) (in_universal 5) false [] (definite (0 ∷ []))
null_frame = short 5 false (0 ∷ []) [] (omega arith) (omega arith) (omega arith)

not_named : IsFirstOf known_alternatives (in_universal 5) → ⊥
not_named (inl e) = let f = ap (λ (t : Tag). t.value) e in omega (arith, f)
not_named (inr (inl e)) = let f = ap (λ (t : Tag). t.value) e in omega (arith, f)
not_named (inr (inr e)) = e

abbrev null_tree : Tree
null_tree = chosen 2 (numbers (5 ∷ 1 ∷ 0 ∷ []))

null_read : (rule : Codec) → Reads rule extensible_choice 128 (top rule) (5 ∷ 1 ∷ 0 ∷ []) null_tree []
unfolding Reads parts_of
null_read rule = inr (numbers (5 ∷ 1 ∷ 0 ∷ []), refl, in_universal 5, frame_next null_frame, not_named, (5 ∷ 1 ∷ 0 ∷ [], refl, plain (in_universal 5) false (0 ∷ []) null_frame, refl))

pub no_null : IsWellFormed (5 ∷ 1 ∷ 0 ∷ []) → ⊥
unfolding rule_in
no_null h = let e = (primitive_first null_frame ((5 ∷ 1 ∷ 0 ∷ []) ∷ [], refl, one_more h no_more)).0 in cc

module _ (types : List «Type») (reply : AreOfReply types) where
  shape_is : shape_of types 0 ≡ extensible_choice
  unfolding shape_of_type
  shape_is =
      let all : List «Type» = reply_types reply.name reply.alternatives reply.names in
      let f : ℕ → Shape = λ j. shape_of_type all 18446744073709551614 j in
      ap (λ z. shape_of_type z 18446744073709551615 0) reply.are
      ∙ (ap (λ z. choice_among (alternatives_by f z)) reply.alternatives_are
      ∙ among_three f reply.first.type_id.0 reply.second.type_id.0 reply.unknown.type_id.0 reply.first_is reply.second_is reply.unknown_is)

  read : (octets : List ℕ) (t : Tree) → Reads Der extensible_choice 128 (top Der) octets t [] → IsDer types 0 octets
  read octets t r = (t, subst (λ s. Reads Der s 128 (top Der) octets t []) (sym shape_is) r)

  not_read : IsDer types 0 (159 ∷ 1 ∷ 1 ∷ 7 ∷ []) → ⊥
  not_read (t, r) = worked.long_tag.1 t [] (subst (λ s. Reads Der s 128 (top Der) (159 ∷ 1 ∷ 1 ∷ 7 ∷ []) t []) shape_is r)

  not_found : (opens : OpenTypes) → IsFirstDeparture opens types 0 (159 ∷ 1 ∷ 1 ∷ 7 ∷ []) None → ⊥
  not_found Unexamined h = not_read h.0
  not_found Examined h = not_read h.0

  -- What is inside an unknown alternative is well formed if the open types of the tree are.
  inside : (n : ℕ) (octets : List ℕ) → FormedTree types (suc (suc n)) 0 (chosen 2 (numbers octets)) → IsWellFormed octets
  unfolding FormedTree
  inside n octets h =
      let own = h (Choice reply.name reply.alternatives) (ap (λ z. slice_get z 0) reply.are) 2 reply.unknown (numbers octets) (sym (ap (λ z. slice_get z 2) reply.alternatives_are)) refl in
      subst (λ i. FormedTree types (suc n) i (numbers octets)) reply.unknown_is own (Any eoc) (ap (λ z. slice_get z 3) reply.are) octets refl

  ill_formed : AreReadableTypes types → IsLint Examined types 0 (5 ∷ 1 ∷ 0 ∷ []) [] → ⊥
  ill_formed readable l =
      let tree = subst (λ s. Reads Ber s 128 (top Ber) (5 ∷ 1 ∷ 0 ∷ []) null_tree []) (sym shape_is) (null_read Ber) in
      let h = holds Ber types readable 18446744073709551615 0 0 0 (start Ber (5 ∷ 1 ∷ 0 ∷ [])) l.are_parts.last l.parts.list.items l.are_parts.listed (top Ber) null_tree [] (omega arith, (omega arith, (omega arith, tt))) tree in
      no_null (inside 18446744073709551613 (5 ∷ 1 ∷ 0 ∷ []) (kept Ber types 18446744073709551615 0 null_tree l.parts.list.items h (l.clean.0 refl).1 null_tree (numbers (5 ∷ 1 ∷ 0 ∷ []), refl, refl)))

  pub worked_replies : WorkedReplies types
  worked_replies = record {
    unknown = λ ds l. l.clean.1 (read (129 ∷ 1 ∷ 7 ∷ []) _ (worked.unknown_read Der), tt);
    long_length = λ ds l. l.clean.1 (read (129 ∷ 129 ∷ 1 ∷ 7 ∷ []) _ worked.long_length, tt);
    long_tag_is_not_read = not_read;
    long_tag_is_listed = λ opens l. not_read (l.clean.0 refl).0;
    long_tag_is_found = not_found;
    ill_formed = λ ds l. l.clean.1 (read (5 ∷ 1 ∷ 0 ∷ []) null_tree (null_read Der), tt);
    ill_formed_is_listed = ill_formed;
  }
