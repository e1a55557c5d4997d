-- An unknown component of a SET, worked out by hand.
use Rattle.std.specs.Prelude.{slice_get}
use Rattle.std.proofs.Common.{◌≡◌, inl, inr, ℕ, suc, pos, List, [], ◌∷◌, ◌++◌, take, true, false, Option, Some, None, Result, Ok, refl, sym, ap, ◌∙◌, subst, arith}
use Rattle.rasn_types.specs.declared.types.codec.Codec.{Codec}
use Rattle.rasn_types.specs.declared.types.codec.Codec.TheVariants.{Ber, Cer, Der}
use Rattle.rasn_types.specs.declared.types.tag.Class.TheVariants.{Universal}
use Rattle.rasn_types.specs.declared.types.tag.Tag.{Tag}
use Rattle.rasn_types.specs.declared.error.decode.DecodeError.{DecodeError}
use Rattle.rasn_types.specs.declared.error.decode.DerDecodeErrorKind.TheVariants.{SetComponentsOutOfOrder}
use Rattle.rasn_types.specs.Tags.{Form, form, in_universal, IsTagBelow}
use Rattle.rasn_types.specs.Contents.{IsBool}
use Rattle.rasn_types.specs.Framing.{AreOctets, Frame, definite, plain, Begins}
use Rattle.rasn_types.specs.Shapes.{Shape, Tree, number, numbers, items, chosen, Parts, part, required, sorted_set, Same, IsFirstOf}
use Rattle.rasn_types.specs.Shapes.Parts.{none}
use Rattle.rasn_types.specs.Readings.{definite_form, ReadsChoice}
use Rattle.rasn_types.specs.Grammar.{Reads, parts_of, top, ReadsOpenChoice}
use Rattle.rasn_types.proofs.Headers.Frames.{frame_next}
use Rattle.rasn.specs.WorkedShapes.{truth}
use Rattle.rasn.proofs.ReadBack.Headers.{short, going, tag_begins}
use Rattle.rasn_de.specs.declared.ber.de.parser.ParseError.{ParseError}
use Rattle.rasn_de.specs.Headers.{identifier_by, tag_number_at}
use Rattle.rasn_de.specs.ParserViews.{peeked_tag}
use Rattle.rasn_schema.specs.declared.types.Component.{Component}
use Rattle.rasn_schema.specs.declared.types.Presence.TheVariants.{Required}
use Rattle.rasn_schema.specs.declared.types.«Type».{«Type»}
use Rattle.rasn_schema.specs.declared.types.«Type».TheVariants.{Set, Unknown}
use Rattle.rasn_schema.specs.Shapes.{shape_of_type, components_by, presence_by, presence_in, key_of, set_among, is_unknown, ends_unknown}
use Rattle.rasn_dynamic.specs.declared.span.Span.{Span}
use Rattle.rasn_dynamic.specs.Entry.{shape_of}
use Rattle.rasn_dynamic.specs.Faults.{start}
use Rattle.rasn_dynamic.specs.SameParts.{AreReadableTypes}
use Rattle.rasn_dynamic.specs.Sets.{is_extensible, last_type}
use Rattle.rasn_lint.specs.declared.by_schema.OpenTypes.TheVariants.{Examined}
use Rattle.rasn_lint.specs.declared.trail.Step.{Step}
use Rattle.rasn_lint.specs.declared.place.Order.TheVariants.{ByTag}
use Rattle.rasn_lint.specs.Lint.{IsLint}
use Rattle.rasn_lint.specs.Place.{der_error, HasLowerTag, IsOrderFault, order_if, type_of}
use Rattle.rasn_lint.specs.Trail.{step_of, step_before, trail_after}
use Rattle.rasn_lint.specs.WellFormed.{IsWellFormed}
use Rattle.rasn_lint.specs.WorkedSets.{set_types, AreOfSet, a_true, a_null, true_and_ill_null, AreInSet, HasPlaceError, WorkedSets}
use Rattle.rasn_lint.proofs.Holding.{holds}
use Rattle.rasn_lint.proofs.Kept.{FormedTree, kept}
use Rattle.rasn_lint.proofs.WorkedReplies.{null_frame, no_null}

abbrev ill_null : List ℕ
ill_null = 5 ∷ 1 ∷ 0 ∷ []

abbrev contents : List ℕ
contents = 1 ∷ 1 ∷ 255 ∷ ill_null

abbrev tree : Tree
tree = items (number (pos 1) ∷ items (numbers ill_null ∷ []) ∷ [])

-- ---- the reading

abbrev the_named : Parts
the_named = part required truth none

abbrev the_set : Shape
the_set = sorted_set true (in_universal 17) the_named

abbrev ReadsComponent : Codec → List ℕ → Tree → List ℕ → Type 0
ReadsComponent rule =
    ReadsOpenChoice rule (IsFirstOf the_named) 1 (ReadsChoice rule 0 (parts_of rule the_named 127 false))

is_true : (rule : Codec) → IsBool rule (255 ∷ []) (pos 1)
is_true Ber = (255, refl, inr ((λ e. cc), refl))
is_true Cer = inr (refl, refl)
is_true Der = inr (refl, refl)

true_frame : {spelling : Form} → Frame spelling contents (in_universal 1) false ill_null (definite (255 ∷ []))
true_frame = short 1 false (255 ∷ []) ill_null (omega arith) (omega arith) (omega arith)

true_read : (rule : Codec) → ReadsComponent rule contents (chosen 0 (number (pos 1))) ill_null
unfolding Reads parts_of
true_read rule = inl (inl (
  number (pos 1),
  refl,
  in_universal 1,
  frame_next true_frame,
  refl,
  ((false, 255 ∷ [], true_frame, (pos 1, refl, is_true rule), λ s. (refl, tt)), tt),
  λ z. tt,
))

not_named : IsFirstOf the_named (in_universal 5) → ⊥
not_named (inl e) = let f = ap (λ (t : Tag). t.value) e in omega (arith, f)
not_named (inr e) = e

null_read : (rule : Codec) → ReadsComponent rule ill_null (chosen 1 (numbers ill_null)) []
null_read rule = inr (
  numbers ill_null,
  refl,
  in_universal 5,
  frame_next null_frame,
  not_named,
  (ill_null, refl, plain (in_universal 5) false (0 ∷ []) null_frame, refl),
)

not_below : IsTagBelow (in_universal 5) (in_universal 1) → ⊥
not_below (inl k) = omega (arith, k)
not_below (inr k) = omega (arith, k.1)

true_begins : Begins a_true (in_universal 1)
true_begins = tag_begins Universal 1 false (1 ∷ 255 ∷ []) (omega arith)

null_begins : Begins ill_null (in_universal 5)
null_begins = tag_begins Universal 5 false (1 ∷ 0 ∷ []) (omega arith)

set_read : (rule : Codec) → Reads rule the_set 128 (top rule) true_and_ill_null tree []
unfolding Reads
set_read rule = (
  omega arith,
  definite_form contents (short 17 true contents [] (omega arith) (omega arith) (omega arith)) (
    chosen 0 (number (pos 1)) ∷ chosen 1 (numbers ill_null) ∷ [],
    number (pos 1) ∷ [],
    numbers ill_null ∷ [],
    refl,
    (
      going false 1 _ (omega arith),
      ill_null,
      true_read rule,
      (going false 5 _ (omega arith), [], null_read rule, (inl refl, refl)),
    ),
    (
      number (pos 1),
      [],
      refl,
      inl (record {
        before = [];
        after = chosen 1 (numbers ill_null) ∷ [];
        is = refl;
        none_before = tt;
        none_after = ((λ u e. cc), tt);
      }),
      refl,
    ),
    inr ((λ u e. cc), inl (numbers ill_null, [], refl, refl, refl)),
    λ z. (
      a_true ∷ ill_null ∷ [],
      (a_true, _, ill_null, refl, refl, true_read rule, (ill_null, [], [], refl, refl, null_read rule, (refl, refl))),
      (
        in_universal 1 ∷ in_universal 5 ∷ [],
        (in_universal 1, _, refl, true_begins, (in_universal 5, [], refl, null_begins, refl)),
        (not_below, tt),
      ),
    ),
  ),
)

-- It is the same as itself.
same_tree : Same tree tree
same_tree =
    (number (pos 1), _, refl, refl, (items (numbers ill_null ∷ []), _, refl, (numbers ill_null, _, refl, refl, refl), refl))

-- ---- two components, one after the other

true_tag : peeked_tag (form Ber) a_true ≡ Ok (in_universal 1)
unfolding identifier_by tag_number_at
true_tag = refl

null_tag : peeked_tag (form Ber) a_null ≡ Ok (in_universal 5)
unfolding identifier_by tag_number_at
null_tag = refl

true_lower : HasLowerTag a_true a_null
true_lower = (in_universal 1, in_universal 5, true_tag, null_tag, inr (refl, omega arith))

null_not_lower : HasLowerTag a_null a_true → ⊥
null_not_lower (s, t, p, q, below) =
    let a : ◌≡◌ {A = Result Tag ParseError} (Ok (in_universal 5)) (Ok s) = sym null_tag ∙ p in
    let b : ◌≡◌ {A = Result Tag ParseError} (Ok (in_universal 1)) (Ok t) = sym true_tag ∙ q in
    let c : s ≡ in_universal 5 = cc in
    let d : t ≡ in_universal 1 = cc in
    not_below (subst (λ z. IsTagBelow z (in_universal 1)) c (subst (IsTagBelow s) d below))

module _ (last : Step) where
  falls_after : (f : Option DecodeError) → last.octets.now ≡ a_null → IsOrderFault ByTag a_true (Some last) f
      → f ≡ Some (der_error SetComponentsOutOfOrder)
  falls_after None e h = absurd (h (subst (HasLowerTag a_true) (sym e) true_lower))
  falls_after (Some x) e h = ap Some h.1

  rises_after : (f : Option DecodeError) → last.octets.now ≡ a_true → IsOrderFault ByTag a_null (Some last) f → f ≡ None
  rises_after None e h = refl
  rises_after (Some x) e h = absurd (null_not_lower (subst (HasLowerTag a_null) e h.0))

-- ---- the types

abbrev shape_of_parts : Parts → Shape
shape_of_parts ps = set_among (in_universal 17) ps

-- The shape of the SET, whatever the numbers of its components' types are.
shape_by_numbers : (f : ℕ → Shape) (p q : Component) → p.presence ≡ Required → p.type_id.0 ≡ 1 → q.type_id.0 ≡ 2
    → shape_of_parts (components_by f (p ∷ q ∷ []))
    ≡ shape_of_parts (part required (f 1) (part (presence_by (key_of (f 2)) q.presence) (f 2) none))
shape_by_numbers f p q here i j =
    let last : Parts = part (presence_in f q) (f q.type_id.0) none in
    ap (λ n. shape_of_parts (part (presence_by (key_of (f n)) p.presence) (f n) last)) i
    ∙ (ap (λ r. shape_of_parts (part (presence_by (key_of (f 1)) r) (f 1) last)) here
    ∙ ap (λ n. shape_of_parts (part required (f 1) (part (presence_by (key_of (f n)) q.presence) (f n) none))) j)

module _ (types : List «Type») (o : AreOfSet types) where
  abbrev set : «Type»
  set = Set o.name (in_universal 17) o.components

  set_at : slice_get types 0 ≡ Some set
  set_at = ap (λ z. slice_get z 0) o.are

  shape_is : shape_of types 0 ≡ the_set
  unfolding shape_of_type
  shape_is =
      let all : List «Type» = set_types o.name o.components o.names in
      let f : ℕ → Shape = λ j. shape_of_type all 18446744073709551614 j in
      ap (λ z. shape_of_type z 18446744073709551615 0) o.are
      ∙ (ap (λ z. shape_of_parts (components_by f z)) o.components_are
      ∙ shape_by_numbers f o.boolean o.unknown o.required o.boolean_is o.unknown_is)

  read : (rule : Codec) → Reads rule (shape_of types 0) 128 (top rule) true_and_ill_null tree []
  read rule = subst (λ s. Reads rule s 128 (top rule) true_and_ill_null tree []) (sym shape_is) (set_read rule)

  last_is : last_type o.components.items ≡ 2
  last_is = ap last_type o.components_are ∙ o.unknown_is

  extensible : (n : ℕ) → is_extensible (shape_of_type types (suc n)) o.components.items ≡ true
  unfolding shape_of_type
  extensible n =
      let f : ℕ → Shape = λ j. shape_of_type types (suc n) j in
      ap (λ z. ends_unknown (components_by f z)) o.components_are
      ∙ (ap (λ k. is_unknown (f k)) o.unknown_is ∙ ap (λ z. is_unknown (shape_of_type z (suc n) 2)) o.are)

  -- The unknown component is well formed if the tree is.
  inside : (n : ℕ) → FormedTree types (suc (suc n)) 0 tree → IsWellFormed ill_null
  unfolding FormedTree
  inside n h =
      let one = ((h set set_at).1 (number (pos 1) ∷ []) (numbers ill_null ∷ []) (extensible n) refl).0 in
      let own = subst (λ k. FormedTree types (suc n) k (items (numbers ill_null ∷ []))) last_is one in
      let at : slice_get types 2 ≡ Some Unknown = ap (λ z. slice_get z 2) o.are in
      (own Unknown at (ill_null ∷ []) refl).0

  octets : AreOctets true_and_ill_null
  octets = (
    omega arith,
    (omega arith, (omega arith, (omega arith, (omega arith, (omega arith, (omega arith, (omega arith, tt))))))),
  )

  ill_formed : AreReadableTypes types → IsLint Examined types 0 true_and_ill_null [] → ⊥
  ill_formed readable l =
      let parts = l.parts.list.items in
      let h = holds Ber types readable 18446744073709551615 0 0 0 (start Ber true_and_ill_null) l.are_parts.last parts
      l.are_parts.listed (top Ber) tree [] octets (read Ber) in
      let formed = kept Ber types 18446744073709551615 0 tree parts h (l.clean.0 refl).1 tree same_tree in
      no_null (inside 18446744073709551613 formed)

  module _ (outer first second : Span) (are : AreInSet outer first second) where
    abbrev trail : List Step
    trail = trail_after (trail_after [] outer) first

    trail_is : trail ≡ step_of outer ∷ step_of first ∷ []
    trail_is =
        let a : outer.depth ≡ 0 = are.outermost in
        let b : first.depth ≡ 1 = are.first_inside in
        ap (λ n. take first.depth (take n [] ++ step_of outer ∷ []) ++ step_of first ∷ []) a
        ∙ ap (λ n. take n (step_of outer ∷ []) ++ step_of first ∷ []) b

    abbrev IsFaultAfter : List Step → ℕ → Option DecodeError → Type 0
    IsFaultAfter t n f = IsOrderFault (order_if (type_of types (step_before n t))) second.octets.now (slice_get t n) f

    -- The order is that of tags, and the first component is the one before.
    by_tag : (f : Option DecodeError) → IsFaultAfter trail second.depth f
        → IsOrderFault ByTag second.octets.now (Some (step_of first)) f
    by_tag f h =
        let d : second.depth ≡ 1 = are.second_inside in
        let own = subst (λ t. IsFaultAfter t 1 f) trail_is (subst (λ n. IsFaultAfter trail n f) d h) in
        subst (λ t. IsOrderFault (order_if t) second.octets.now (Some (step_of first)) f)
        (ap (slice_get types) are.id ∙ set_at) own

    rises : first.octets.now ≡ a_true → second.octets.now ≡ a_null → HasPlaceError types outer first second None
    rises p q opens ty f h =
        let own = subst (λ l. IsOrderFault ByTag l (Some (step_of first)) f.order) q (by_tag f.order h.order) in
        rises_after (step_of first) f.order p own

    falls : first.octets.now ≡ a_null → second.octets.now ≡ a_true
        → HasPlaceError types outer first second (Some (der_error SetComponentsOutOfOrder))
    falls p q opens ty f h =
        let own = subst (λ l. IsOrderFault ByTag l (Some (step_of first)) f.order) q (by_tag f.order h.order) in
        falls_after (step_of first) f.order p own

  pub worked_sets : WorkedSets types
  worked_sets = record {
    ill_formed = λ ds l. l.clean.1 ((tree, read Der), tt);
    ill_formed_is_listed = ill_formed;
    rises = λ set boolean null are p q. rises set boolean null are p q;
    falls = λ set boolean null are p q. falls set null boolean are q p;
  }
