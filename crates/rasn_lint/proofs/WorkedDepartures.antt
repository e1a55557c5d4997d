-- Departures worked out by hand.
use Rattle.std.specs.List.{AllByRecursion}
use Rattle.std.proofs.Common.{◌≡◌, ◌-◌, inl, inr, ◌⊎◌, ℕ, zero, suc, slice_get, append-nil, List, [], ◌∷◌, ◌++◌, length, true, false, Some, Vec, refl, sym, ap, ◌∙◌, subst, arith}
use Rattle.rasn_types.specs.Order.{IsLess}
use Rattle.std.specs.Global.{Global}
use Rattle.rasn_dynamic.specs.declared.span.Span.{Span}
use Rattle.rasn_lint.specs.declared.departure.Departure.{Departure}
use Rattle.rasn_lint.specs.declared.departure.Aspect.TheVariants.{Contents}
use Rattle.rasn_lint.specs.Header.{after_number}
use Rattle.rasn_lint.specs.Open.{IsFoundIn}
use Rattle.rasn_lint.specs.Worked.{one, two, WorkedDepartures}
use Rattle.std.proofs.Common.{Ok, Result}
use Rattle.rasn_types.specs.declared.types.codec.Codec.TheVariants.{Ber}
use Rattle.rasn_types.specs.declared.types.tag.Tag.{Tag}
use Rattle.rasn_types.specs.Framing.{Ended, Frame, with_length, definite, plain}
use Rattle.rasn_types.specs.Grammar.{Reads, ReadsAny, ReadsOpen}
use Rattle.rasn_types.specs.Readings.{ReadsMany}
use Rattle.rasn_types.specs.Shapes.{Tree, numbers, unknown, looked_for}
use Rattle.rasn_schema.specs.Shapes.{shape_of_type}
use Rattle.rasn_schema.specs.declared.types.«Type».TheVariants.{Any, Unknown}
use Rattle.rasn_dynamic.specs.Entry.{shape_of}
use Rattle.rasn_dynamic.proofs.SameParts.{encodings_one, unknown_read}
use Rattle.rasn_lint.specs.declared.by_schema.OpenTypes.TheVariants.{Examined}
use Rattle.rasn_lint.specs.Lint.{HasFormed, IsLint}
use Rattle.rasn_lint.specs.WellFormed.{AreWellFormed, AreEncodings}
use Rattle.rasn_types.specs.Tags.{basic_form, form, in_universal}
use Rattle.rasn_types.proofs.Headers.Frames.{frame_one}
use Rattle.rasn_types.specs.declared.error.decode.DecodeError.{DecodeError}
use Rattle.rasn_types.specs.declared.error.decode.DerDecodeErrorKind.TheVariants.{NonMinimalArc}
use Rattle.rasn_de.specs.declared.ber.de.parser.ParseError.{ParseError}
use Rattle.rasn_de.specs.declared.ber.de.parser.ParseError.TheVariants.{Incomplete, Der as DerFault}
use Rattle.rasn_de.specs.Causes.{error_kind}
use Rattle.rasn_de.specs.Any.{OpenAt}
use Rattle.rasn_de.specs.Headers.{identifier_by, tag_number_at}
use Rattle.rasn_de.specs.ParserViews.{peeked_tag}
use Rattle.rasn_lint.specs.Untyped.{HasContents, IsFollowedBy, FollowsAfter, IsValueIn, LeadsInto}
use Rattle.rasn_lint.specs.Listed.{DepartsItself, LeadsToOne, HasOne, HasAll}
use Rattle.rasn_lint.specs.Universal.{rule_in}
use Rattle.rasn_lint.proofs.Listed.{leads_nowhere, no_rest}
use Rattle.rasn_lint.proofs.Opened.{definite_parts, followed_shorter}
use Rattle.rasn_lint.proofs.Wholes.{skipped_whole, value_formed, no_value, first_or_later}
use Rattle.rasn_lint.proofs.Worked.{universal_id, boolean, no_boolean}

one_below_two : IsLess one two
one_below_two = inr (refl, inr (refl, inl (omega arith)))

not_below : (l : List ℕ) → IsLess l l → ⊥
not_below [] h = h
not_below (x ∷ l) (inl h) = omega (arith, h)
not_below (x ∷ l) (inr h) = not_below l h.1

two_not_below_one : IsLess two one → ⊥
two_not_below_one (inl h) = omega (arith, h)
two_not_below_one (inr (e, inl h)) = omega (arith, h)
two_not_below_one (inr (e, inr (f, inl h))) = omega (arith, h)
two_not_below_one (inr (e, inr (f, inr h))) = absurd h.1

-- After a header of two octets.
placed : (e : Span) → e.octets.now ≡ 48 ∷ 3 ∷ 1 ∷ 1 ∷ 1 ∷ [] → e.left ≡ 7 → IsFoundIn e (1 ∷ 1 ∷ 1 ∷ []) 5
placed e p q = (48 ∷ 3 ∷ [], [], p, sym (ap (λ n. n - 2) q))

misplaced : (e : Span) → e.octets.now ≡ 48 ∷ 3 ∷ 1 ∷ 1 ∷ 1 ∷ [] → e.left ≡ 7 → IsFoundIn e (1 ∷ 1 ∷ 1 ∷ []) 6 → ⊥
misplaced e p q (front, back, r, n) = go front (sym p ∙ r) (omega (arith, n, q))
  where
    go : (f : List ℕ) → 48 ∷ 3 ∷ 1 ∷ 1 ∷ 1 ∷ [] ≡ f ++ (1 ∷ 1 ∷ 1 ∷ back) → length f ≡ 1 → ⊥
    go [] h k = cc
    go (x ∷ []) h k = cc
    go (x ∷ y ∷ f) h k = omega (arith, k)

-- The first encoding in a SEQUENCE.
sequence_frame : Frame basic_form (48 ∷ 3 ∷ 1 ∷ 1 ∷ 1 ∷ []) (in_universal 16) true [] (definite (1 ∷ 1 ∷ 1 ∷ []))
sequence_frame = with_length (48 ∷ []) (3 ∷ []) (1 ∷ 1 ∷ 1 ∷ []) (universal_id 16 true (omega arith) (omega arith)) (inl (omega arith, refl, refl)) (λ s. absurd s) refl

only_contents : (u : Tree) (rest : List ℕ) → ReadsOpen Ber (in_universal 16) (48 ∷ 3 ∷ 1 ∷ 1 ∷ 1 ∷ []) u rest → (u ≡ numbers (1 ∷ 1 ∷ 1 ∷ [])) × (rest ≡ [])
only_contents u rest (bit, contents, e, strict, inl f) =
    let o = frame_one _ sequence_frame f in
    let x = o.extent in
    let k : 1 ∷ 1 ∷ 1 ∷ [] ≡ contents = cc in
    (e ∙ ap numbers (sym k), sym o.rest)
only_contents u rest (bit, contents, e, strict, inr (body, f, inside, is)) = let x = (frame_one _ sequence_frame f).extent in cc

sequence_tag : peeked_tag (form Ber) (48 ∷ 3 ∷ 1 ∷ 1 ∷ 1 ∷ []) ≡ Ok (in_universal 16)
unfolding identifier_by tag_number_at
sequence_tag = refl

in_sequence : LeadsInto (0 ∷ []) (48 ∷ 3 ∷ 1 ∷ 1 ∷ 1 ∷ []) (1 ∷ 1 ∷ 1 ∷ [])
in_sequence = (
  1 ∷ 1 ∷ 1 ∷ [],
  record {
    constructed = refl;
    tag = in_universal 16;
    contents = 1 ∷ 1 ∷ 1 ∷ [];
    has = (sequence_tag, ([], ((true, 1 ∷ 1 ∷ 1 ∷ [], refl, (λ s. refl), inl sequence_frame), only_contents)));
    follows = refl;
  },
  refl,
)

not_second : LeadsInto (1 ∷ []) (48 ∷ 3 ∷ 1 ∷ 1 ∷ 1 ∷ []) (1 ∷ 1 ∷ 1 ∷ []) → ⊥
not_second (first, h, e) = go h.has h.follows
  where
    go : HasContents h.tag (48 ∷ 3 ∷ 1 ∷ 1 ∷ 1 ∷ []) h.contents → FollowsAfter 1 h.contents first → ⊥
    go (p, (rest, o)) (more, f, q) =
        let t : ◌≡◌ {A = Result Tag ParseError} (Ok (in_universal 16)) (Ok h.tag) = sym sequence_tag ∙ p in
        let s : in_universal 16 ≡ h.tag = cc in
        let r = subst (λ x. OpenAt Ber (looked_for x) (48 ∷ 3 ∷ 1 ∷ 1 ∷ 1 ∷ []) (Ok (h.contents, rest))) (sym s) o in
        let c = only_contents (numbers h.contents) rest r.0 in
        let k : h.contents ≡ 1 ∷ 1 ∷ 1 ∷ [] = cc in
        let n = followed_shorter h.contents more f in
        let m = ap length k in
        let w = ap length (e ∙ q) in
        omega (arith, n, m, w)

-- The BOOLEAN there.
boolean_frame : Frame basic_form (1 ∷ 1 ∷ 1 ∷ []) (in_universal 1) false [] (definite (1 ∷ []))
boolean_frame = with_length (1 ∷ []) (1 ∷ []) (1 ∷ []) (universal_id 1 false (omega arith) (omega arith)) (inl (omega arith, refl, refl)) (λ s. absurd s) refl

only_octet : (u : Tree) (rest : List ℕ) → ReadsOpen Ber (in_universal 1) (1 ∷ 1 ∷ 1 ∷ []) u rest → (u ≡ numbers (1 ∷ [])) × (rest ≡ [])
only_octet u rest (bit, contents, e, strict, inl f) =
    let o = frame_one _ boolean_frame f in
    let x = o.extent in
    let k : 1 ∷ [] ≡ contents = cc in
    (e ∙ ap numbers (sym k), sym o.rest)
only_octet u rest (bit, contents, e, strict, inr (body, f, inside, is)) = let x = (frame_one _ boolean_frame f).extent in cc

boolean_tag : peeked_tag (form Ber) (1 ∷ 1 ∷ 1 ∷ []) ≡ Ok (in_universal 1)
unfolding identifier_by tag_number_at
boolean_tag = refl

wrong_there : DepartsItself Contents (1 ∷ 1 ∷ 1 ∷ [])
unfolding rule_in
wrong_there = (
  in_universal 1,
  1 ∷ [],
  (boolean_tag, ([], ((false, 1 ∷ [], refl, (λ s. absurd s), inl boolean_frame), only_octet))),
  ((λ n. n (0 ∷ []) (inl refl)), (λ e. cc), not_allowed),
)
  where
    not_allowed : ◌≡◌ {A = List ℕ} (1 ∷ []) (0 ∷ []) ⊎ ◌≡◌ {A = List ℕ} (1 ∷ []) (255 ∷ []) → ⊥
    not_allowed (inl e) = cc
    not_allowed (inr e) = cc

-- Unknown values: a BOOLEAN of 01, alone and after one of FF.
alone : IsFollowedBy (1 ∷ 1 ∷ 1 ∷ []) []
alone = (0, (definite_parts (1 ∷ 1 ∷ 1 ∷ []) (in_universal 1) false (1 ∷ []) [] boolean_frame).2)

first_of_two : Frame basic_form (1 ∷ 1 ∷ 255 ∷ 1 ∷ 1 ∷ 1 ∷ []) (in_universal 1) false (1 ∷ 1 ∷ 1 ∷ []) (definite (255 ∷ []))
first_of_two = with_length (1 ∷ []) (1 ∷ []) (255 ∷ []) (universal_id 1 false (omega arith) (omega arith)) (inl (omega arith, refl, refl)) (λ s. absurd s) refl

second_value : IsValueIn (1 ∷ 1 ∷ 255 ∷ 1 ∷ 1 ∷ 1 ∷ []) (1 ∷ 1 ∷ 1 ∷ [])
second_value =
    let first = (definite_parts (1 ∷ 1 ∷ 255 ∷ 1 ∷ 1 ∷ 1 ∷ []) (in_universal 1) false (255 ∷ []) (1 ∷ 1 ∷ 1 ∷ []) first_of_two).2 in
    (1, 1 ∷ 1 ∷ 1 ∷ [], [], (1 ∷ 1 ∷ 1 ∷ [], (0, first), refl), refl, alone)

true_frame : Frame basic_form (1 ∷ 1 ∷ 255 ∷ []) (in_universal 1) false [] (definite (255 ∷ []))
true_frame = with_length (1 ∷ []) (1 ∷ []) (255 ∷ []) (universal_id 1 false (omega arith) (omega arith)) (inl (omega arith, refl, refl)) (λ s. absurd s) refl

no_front : IsValueIn (1 ∷ 1 ∷ 255 ∷ []) (1 ∷ 1 ∷ []) → ⊥
no_front v = go (first_or_later (1 ∷ 1 ∷ 255 ∷ []) (1 ∷ 1 ∷ 255 ∷ []) [] (1 ∷ 1 ∷ []) refl (λ other f. skipped_whole (1 ∷ 1 ∷ 255 ∷ []) [] other (plain (in_universal 1) false (255 ∷ []) true_frame) f) v)
  where
    go : ◌≡◌ {A = List ℕ} (1 ∷ 1 ∷ []) (1 ∷ 1 ∷ 255 ∷ []) ⊎ IsValueIn [] (1 ∷ 1 ∷ []) → ⊥
    go (inl e) = let n = ap length e in omega (arith, n)
    go (inr h) = no_value [] refl (1 ∷ 1 ∷ []) h

alone_value : IsValueIn (1 ∷ 1 ∷ 1 ∷ []) (1 ∷ 1 ∷ 1 ∷ [])
alone_value = (0, 1 ∷ 1 ∷ 1 ∷ [], [], refl, refl, alone)

not_encodings : (l : List ℕ) → l ≡ 1 ∷ 1 ∷ 1 ∷ [] → AreEncodings l → ⊥
not_encodings l e (parts, is, formed) = no_boolean (value_formed parts formed (1 ∷ 1 ∷ 1 ∷ []) (sym e ∙ is) (1 ∷ 1 ∷ 1 ∷ []) alone_value)

formed_here : (e : Span) → e.octets.now ≡ 1 ∷ 1 ∷ 255 ∷ [] → HasFormed (Unknown ∷ []) e
formed_here e q = (
  λ tag inside is has. absurd (no_open e.id.0 tag is),
  λ is. ((1 ∷ 1 ∷ 255 ∷ []) ∷ [], q, AreWellFormed.one_more boolean AreWellFormed.none),
)
  where
    no_open : (k : ℕ) (tag : Tag) → slice_get (Unknown ∷ []) k ≡ Some (Any tag) → ⊥
    no_open zero tag p = let u : Unknown ≡ Any tag = cc in cc
    no_open (suc zero) tag p = cc
    no_open (suc (suc k)) tag p = cc

ill_formed_here : (e : Span) → e.id.0 ≡ 0 → e.octets.now ≡ 1 ∷ 1 ∷ 1 ∷ [] → HasFormed (Unknown ∷ []) e → ⊥
ill_formed_here e i q h = not_encodings e.octets.now q (h.1 (ap (slice_get (Unknown ∷ [])) i))

-- Their list isn't empty.
one_value : ReadsMany (ReadsAny Ber) true (1 ∷ 1 ∷ 1 ∷ []) (numbers (1 ∷ 1 ∷ 1 ∷ []) ∷ []) []
one_value = (not_ended_here, [], (1 ∷ 1 ∷ 1 ∷ [], refl, plain (in_universal 1) false (1 ∷ []) boolean_frame, refl), (inl refl, refl))
  where
    not_ended_here : Ended true (1 ∷ 1 ∷ 1 ∷ []) → ⊥
    not_ended_here (inl e) = cc
    not_ended_here (inr (c, more, e)) = cc

unknown_shape : shape_of (Unknown ∷ []) 0 ≡ unknown
unfolding shape_of_type
unknown_shape = refl

is_listed : IsLint Examined (Unknown ∷ []) 0 (1 ∷ 1 ∷ 1 ∷ []) [] → ⊥
is_listed l =
    let p = l.are_parts in
    let x = p.listed in
    let read = unknown_read Ber 128 true (1 ∷ 1 ∷ 1 ∷ []) x.tree p.last.rest (subst (λ s. Reads Ber s 128 true (1 ∷ 1 ∷ 1 ∷ []) x.tree p.last.rest) unknown_shape x.reads.exact.0) in
    let rest : p.last.rest ≡ [] = (encodings_one Ber Ber true true (1 ∷ 1 ∷ 1 ∷ []) read.0 (numbers (1 ∷ 1 ∷ 1 ∷ []) ∷ []) p.last.rest [] read.2 one_value).1 in
    let octets : x.part.octets.now ≡ 1 ∷ 1 ∷ 1 ∷ [] = sym (append-nil x.part.octets.now) ∙ (ap (λ z. x.part.octets.now ++ z) (sym rest) ∙ sym x.octets) in
    let formed = subst (AllByRecursion (HasFormed (Unknown ∷ []))) x.is (l.clean.0 refl).1 in
    ill_formed_here x.part x.id_is octets formed.0

wrong_boolean : LeadsToOne (0 ∷ []) (48 ∷ 3 ∷ 1 ∷ 1 ∷ 1 ∷ []) Contents
wrong_boolean = (1 ∷ 1 ∷ 1 ∷ [], (λ e. cc), in_sequence, wrong_there)

in_no_octets : HasAll [] []
in_no_octets i a (inl l) = absurd (leads_nowhere i a l)
in_no_octets i a (inr (e, q, rest, s, f)) = absurd (no_rest rest f)

elsewhere : (d : Departure) (v : Vec ℕ Global) → d.inner ≡ Some v → v.items ≡ 0 ∷ [] → HasOne (1 ∷ []) d.aspect (d ∷ []) → ⊥
elsewhere d v p q (inl (w, r, s, t)) = let e : v ≡ w = cc in let k = ap (λ (x : Vec ℕ Global). x.items) e in cc
elsewhere d v p q (inr h) = h

not_one : {A : Type 0} (x : A) → [] ≡ x ∷ [] → ⊥
not_one x e = omega (arith, ap length e)

pub departures : WorkedDepartures
unfolding after_number
departures = record {
  after_a_long_tag = refl;
  after_a_short_tag = refl;
  constructed = refl;
  primitive = refl;
  string_in_segments = λ c names. (λ e. cc, refl);
  string_at_once = λ c names. refl;
  segments_are_seen = λ c names h. cc;
  constructed_number = λ c names. (λ e. cc, refl);
  falls = λ s e. (subst (λ l. IsLess one l) (sym e) one_below_two, refl);
  rises = λ s e h. two_not_below_one (subst (λ l. IsLess two l) e h);
  equal_are_in_order = λ s e h. not_below one (subst (λ l. IsLess one l) e h);
  fall_is_seen = λ s e h. h (subst (λ l. IsLess one l) (sym e) one_below_two);
  any_order_of_a_sequence = λ s h. h;
  first_has_none_before = refl;
  at_its_place = placed;
  not_one_octet_before = misplaced;
  inside_a_sequence = in_sequence;
  not_the_second_one = not_second;
  nothing_in_no_octets = in_no_octets;
  left_out = λ h. h (0 ∷ []) Contents (inl wrong_boolean);
  second_of_two_values = second_value;
  not_a_front_of_a_value = no_front;
  no_values_in_no_octets = λ value v n. absurd (no_value [] refl value v);
  value_left_out = λ h. h (1 ∷ 1 ∷ 1 ∷ []) alone_value no_boolean [] Contents (inl (1 ∷ 1 ∷ 1 ∷ [], (λ e. cc), refl, wrong_there));
  formed_values = λ e q. (formed_here e q, tt);
  ill_formed_values = λ e i q h. ill_formed_here e i q h.0;
  ill_formed_values_are_listed = is_listed;
  of_the_header = refl;
  of_the_place = refl;
  not_of_the_contents = λ e. cc;
  bit_of_a_number = refl;
  segments_of_octets = refl;
  padded_arc = refl;
  cut_arc_is_not_padded = λ e. let k : error_kind (Incomplete 1) ≡ error_kind (DerFault NonMinimalArc) = ap (λ (x : DecodeError). x.kind) e in cc;
  at_its_indices = λ d v p q. inl (v, p, q, refl);
  not_at_others = elsewhere;
  trail_of_the_next_part = λ whole first second p q r. grind arith;
  nothing_without_an_error = λ site. refl;
  not_one_without_an_error = λ site d h. cc;
  not_none_with_an_error = λ site h. not_one h.0 h.1;
}
