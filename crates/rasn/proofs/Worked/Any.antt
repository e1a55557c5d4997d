-- Open types, extension additions and segments with their octets.
use Rattle.std.proofs.Common.{◌≡◌, ℕ, ◌<◌, inl, inr, List, [], ◌∷◌, ◌++◌, length, Bool, true, false, pos, Some, refl, sym, subst, arith, append_assoc, length-append}
use Rattle.rasn_types.specs.Tags.{Form, loose_form, form, in_universal}
use Rattle.rasn_types.specs.declared.types.codec.Codec.{Codec}
use Rattle.rasn_types.specs.declared.types.codec.Codec.TheVariants.{Ber, Cer, Der}
use Rattle.rasn_types.specs.declared.types.tag.Tag.{Tag}
use Rattle.rasn_types.specs.declared.types.tag.Class.TheVariants.{Context}
use Rattle.rasn_types.specs.Framing.{AreOctets, Extent, Frame, without_length, definite, indefinite, plain as whole, none as no_wholes, one_more}
use Rattle.rasn_types.specs.Shapes.{Tree, number, numbers, items, absent, integer, every, boolean, object_identifier, octet_string, any, prefix, part, required, addition}
use Rattle.rasn_types.specs.Shapes.Parts.{none}
use Rattle.rasn_types.specs.Readings.{ReadsContents, Reading, definite_form, indefinite_form, ReadsInOrder}
use Rattle.rasn_types.specs.Grammar.{Reads, parts_of}
use Rattle.rasn_types.specs.Bytes.{IndefiniteForm, Bytes, fields_of}
use Rattle.rasn_types.specs.Carried.{IsOneEncoding, Carried, IsWithinLimits, AreWithinLimits}
use Rattle.rasn_types.proofs.SetOf.Same.{items_one}
use Rattle.rasn_types.proofs.Headers.Frames.{frame_one, frame_next, not_ended}
use Rattle.rasn.specs.Worked.{IsCarriedAs, IsReadAs, IsRefusedBy}
use Rattle.rasn.specs.WorkedShapes.{plain, contextual, algorithm, extended}
use Rattle.rasn.specs.WorkedValues.{WorkedOpens}
use Rattle.rasn.proofs.ReadBack.Headers.{short, short_written, closed_written, spelled, context_apart, context_frame}
use Rattle.rasn.proofs.ReadBack.Taken.{parts_in, none_taken}
use Rattle.rasn.proofs.Worked.Cuts.{long_written}
use Rattle.rasn.proofs.Worked.Values.{identifier_written, one_arc, bytes_of, five_in_prefix}

-- 1.2.840.113549.1.1.1
rsa : Bytes Der (plain object_identifier 6) (numbers (1 ∷ 2 ∷ 840 ∷ 113549 ∷ 1 ∷ 1 ∷ 1 ∷ [])) (6 ∷ 9 ∷ 42 ∷ 134 ∷ 72 ∷ 134 ∷ 247 ∷ 13 ∷ 1 ∷ 1 ∷ 1 ∷ [])
rsa = identifier_written Der ((42 ∷ []) ∷ (134 ∷ 72 ∷ []) ∷ (134 ∷ 247 ∷ 13 ∷ []) ∷ (1 ∷ []) ∷ (1 ∷ []) ∷ (1 ∷ []) ∷ []) 42 (840 ∷ 113549 ∷ 1 ∷ 1 ∷ 1 ∷ []) (
  42,
  _,
  refl,
  one_arc 42 (omega arith),
  (λ e. omega arith),
  (
    840,
    _,
    refl,
    record { chain = inr (omega arith, inl (omega arith, refl)); is = refl; below = omega arith },
    (λ e. omega arith),
    (
      113549,
      _,
      refl,
      record { chain = inr (omega arith, inr (omega arith, inl (omega arith, refl))); is = refl; below = omega arith },
      (λ e. omega arith),
      (1, _, refl, one_arc 1 (omega arith), (λ e. omega arith), (1, _, refl, one_arc 1 (omega arith), (λ e. omega arith), (1, _, refl, one_arc 1 (omega arith), (λ e. omega arith), refl))),
    ),
  ),
) (omega arith, (omega arith, (omega arith, (omega arith, (omega arith, (omega arith, (omega arith, (omega arith, (omega arith, tt))))))))) (omega arith)

null_encoding : IsOneEncoding (numbers (5 ∷ 0 ∷ []))
null_encoding =
    record { octets = 5 ∷ 0 ∷ []; is = refl; tag = in_universal 5; bit = false; contents = []; frame = short {spelling = loose_form} 5 false [] [] (omega arith) (omega arith) (omega arith) }

identified : IsCarriedAs Der algorithm (items (numbers (1 ∷ 2 ∷ 840 ∷ 113549 ∷ 1 ∷ 1 ∷ 1 ∷ []) ∷ numbers (5 ∷ 0 ∷ []) ∷ []))
    (48 ∷ 13 ∷ 6 ∷ 9 ∷ 42 ∷ 134 ∷ 72 ∷ 134 ∷ 247 ∷ 13 ∷ 1 ∷ 1 ∷ 1 ∷ 5 ∷ 0 ∷ [])
unfolding Bytes fields_of IsWithinLimits
identified = (
  record {
    octets = 48 ∷ 13 ∷ 6 ∷ 9 ∷ 42 ∷ 134 ∷ 72 ∷ 134 ∷ 247 ∷ 13 ∷ 1 ∷ 1 ∷ 1 ∷ 5 ∷ 0 ∷ [];
    is = (
      numbers (1 ∷ 2 ∷ 840 ∷ 113549 ∷ 1 ∷ 1 ∷ 1 ∷ []) ∷ numbers (5 ∷ 0 ∷ []) ∷ [],
      (6 ∷ 9 ∷ 42 ∷ 134 ∷ 72 ∷ 134 ∷ 247 ∷ 13 ∷ 1 ∷ 1 ∷ 1 ∷ []) ∷ (5 ∷ 0 ∷ []) ∷ [],
      refl,
      (_, _, _, _, refl, refl, rsa, (_, _, _, _, refl, refl, inr ((λ e. cc), refl), (refl, refl))),
      short_written 16 true (6 ∷ 9 ∷ 42 ∷ 134 ∷ 72 ∷ 134 ∷ 247 ∷ 13 ∷ 1 ∷ 1 ∷ 1 ∷ 5 ∷ 0 ∷ []) (omega arith) (omega arith),
    );
    within_limits = (
      omega arith,
      numbers (1 ∷ 2 ∷ 840 ∷ 113549 ∷ 1 ∷ 1 ∷ 1 ∷ []) ∷ numbers (5 ∷ 0 ∷ []) ∷ [],
      refl,
      (_, _, refl, tt, (_, _, refl, inr null_encoding, refl)),
      none_taken Der (parts_in algorithm) (numbers (1 ∷ 2 ∷ 840 ∷ 113549 ∷ 1 ∷ 1 ∷ 1 ∷ []) ∷ numbers (5 ∷ 0 ∷ []) ∷ []) refl,
    );
  },
  refl,
)

-- 04 02 AB CD
inner : {spelling : Form} → Frame spelling (4 ∷ 2 ∷ 171 ∷ 205 ∷ []) (in_universal 4) false [] (definite (171 ∷ 205 ∷ []))
inner = short 4 false (171 ∷ 205 ∷ []) [] (omega arith) (omega arith) (omega arith)

open_to_the_end : IsReadAs Ber (any (Some (contextual 1))) (161 ∷ 128 ∷ 4 ∷ 2 ∷ 171 ∷ 205 ∷ 0 ∷ 0 ∷ []) (numbers (4 ∷ 2 ∷ 171 ∷ 205 ∷ [])) []
unfolding Reads parts_of
open_to_the_end = (
  true,
  4 ∷ 2 ∷ 171 ∷ 205 ∷ [],
  refl,
  (λ z. absurd z),
  inr (
    4 ∷ 2 ∷ 171 ∷ 205 ∷ 0 ∷ 0 ∷ [],
    without_length (161 ∷ []) (record { spells = spelled Context 1 true (omega arith); is_one = context_apart 1 }) refl tt refl,
    one_more (4 ∷ 2 ∷ 171 ∷ 205 ∷ []) [] (whole (in_universal 4) false (171 ∷ 205 ∷ []) inner) no_wholes refl,
    refl,
  ),
)

open_closed : IsCarriedAs Cer (any (Some (contextual 1))) (numbers (4 ∷ 2 ∷ 171 ∷ 205 ∷ [])) (161 ∷ 128 ∷ 4 ∷ 2 ∷ 171 ∷ 205 ∷ 0 ∷ 0 ∷ [])
unfolding Bytes fields_of IsWithinLimits
open_closed = (
  record {
    octets = 161 ∷ 128 ∷ 4 ∷ 2 ∷ 171 ∷ 205 ∷ 0 ∷ 0 ∷ [];
    is = (
      4 ∷ 2 ∷ 171 ∷ 205 ∷ [],
      refl,
      inr ((λ e. cc), record { id = 161 ∷ []; id_spells = spelled Context 1 true (omega arith); id_shortest = tt; id_octets = (omega arith, tt); is = refl }),
    );
    within_limits = record { octets = 4 ∷ 2 ∷ 171 ∷ 205 ∷ []; is = refl; tag = in_universal 4; bit = false; contents = 171 ∷ 205 ∷ []; frame = inner };
  },
  refl,
)

open_empty : (rule : Codec) → IsReadAs rule (any (Some (contextual 1))) (161 ∷ 0 ∷ []) (numbers []) []
unfolding Reads parts_of
open_empty rule = (true, [], refl, (λ z. refl), inl (context_frame 1 true [] [] (omega arith) (omega arith)))

empty_not_written : (rule : Codec) → Bytes rule (any (Some (contextual 1))) (numbers []) []
unfolding Bytes fields_of
empty_not_written rule = ([], refl, inl (refl, refl))

-- There is no value in empty octets.
nothing_is_next : {spelling : Form} {tag : Tag} {bit : Bool} {rest : List ℕ} {extent : Extent} → Frame spelling [] tag bit rest extent → ⊥
nothing_is_next {tag = tag} f = not_ended false [] tag (frame_next f) (inl refl)

empty_not_carried : (rule : Codec) → Carried rule (any (Some (contextual 1))) (numbers []) → ⊥
unfolding IsWithinLimits
empty_not_carried rule c =
    let m = c.within_limits in
    let k : m.octets ≡ [] = let j = m.is in cc in
    nothing_is_next (subst (λ l. Frame loose_form l m.tag m.bit [] (definite m.contents)) k m.frame)

true_written : Bytes Der (plain boolean 1) (number (pos 1)) (1 ∷ 1 ∷ 255 ∷ [])
unfolding Bytes fields_of
true_written = (tt, (255 ∷ [], record { is = (pos 1, refl, inr (refl, refl)); octets = (omega arith, tt); shortest = tt }, short_written 1 false (255 ∷ []) (omega arith) (omega arith)))

addition_there : IsCarriedAs Der extended (items (number (pos 1) ∷ number (pos 5) ∷ [])) (48 ∷ 8 ∷ 1 ∷ 1 ∷ 255 ∷ 160 ∷ 3 ∷ 2 ∷ 1 ∷ 5 ∷ [])
unfolding Bytes fields_of IsWithinLimits
addition_there = (
  record {
    octets = 48 ∷ 8 ∷ 1 ∷ 1 ∷ 255 ∷ 160 ∷ 3 ∷ 2 ∷ 1 ∷ 5 ∷ [];
    is = (
      number (pos 1) ∷ number (pos 5) ∷ [],
      (1 ∷ 1 ∷ 255 ∷ []) ∷ (160 ∷ 3 ∷ 2 ∷ 1 ∷ 5 ∷ []) ∷ [],
      refl,
      (_, _, _, _, refl, refl, true_written, (_, _, _, _, refl, refl, inr ((λ e. cc), bytes_of Der _ _ _ five_in_prefix), (refl, refl))),
      short_written 16 true (1 ∷ 1 ∷ 255 ∷ 160 ∷ 3 ∷ 2 ∷ 1 ∷ 5 ∷ []) (omega arith) (omega arith),
    );
    within_limits = (
      omega arith,
      number (pos 1) ∷ number (pos 5) ∷ [],
      refl,
      (_, _, refl, tt, (_, _, refl, ((λ e. cc), (omega arith, tt)), refl)),
      none_taken Der (parts_in extended) (number (pos 1) ∷ number (pos 5) ∷ []) refl,
    );
  },
  refl,
)

addition_left_out : Bytes Der extended (items (number (pos 1) ∷ absent ∷ [])) (48 ∷ 3 ∷ 1 ∷ 1 ∷ 255 ∷ [])
unfolding Bytes fields_of
addition_left_out = (
  number (pos 1) ∷ absent ∷ [],
  (1 ∷ 1 ∷ 255 ∷ []) ∷ [] ∷ [],
  refl,
  (_, _, _, _, refl, refl, true_written, (_, _, _, _, refl, refl, inl (refl, refl), (refl, refl))),
  short_written 16 true (1 ∷ 1 ∷ 255 ∷ []) (omega arith) (omega arith),
)

no_inside : {X : Type 0} (rule : Codec) (tag : Tag) (bit : Bool) (reads : Bool → Reading X) (input : List ℕ) (x : X) (rest : List ℕ) → [] ≡ input → ReadsContents rule tag bit reads input x rest → ⊥
no_inside rule tag bit reads input x rest e (definite_form c f h) = nothing_is_next (subst (λ l. Frame (form rule) l tag bit rest (definite c)) (sym e) f)
no_inside rule tag bit reads input x rest e (indefinite_form b f h) = nothing_is_next (subst (λ l. Frame (form rule) l tag bit b indefinite) (sym e) f)

-- After the BOOLEAN nothing remains.
awaited : (rule : Codec) (c : List ℕ) (ts : List Tree) (rest : List ℕ) → 1 ∷ 1 ∷ 255 ∷ [] ≡ c
    → ReadsInOrder rule (parts_of rule (part required (plain boolean 1) (part addition (prefix (contextual 0) (plain (integer every) 2)) none)) 127 false) false c ts rest → ⊥
unfolding Reads parts_of
awaited rule c ts rest e (t, us, middle, g, ((bit, contents, f, x, z), y), (t', us', middle', g', (deep, bit', w, h), more)) =
    let o = frame_one _ (subst (λ l. Frame (form rule) l (in_universal 1) false [] (definite (255 ∷ []))) e (short 1 false (255 ∷ []) [] (omega arith) (omega arith) (omega arith))) f in
    no_inside rule (contextual 0) bit' (λ c. Reads rule (plain (integer every) 2) 126 c) middle t' middle' o.rest h

addition_awaited : (rule : Codec) → IsRefusedBy rule extended (48 ∷ 3 ∷ 1 ∷ 1 ∷ 255 ∷ [])
unfolding Reads parts_of
addition_awaited rule t rest (deep, indefinite_form body f h) =
    let o = (frame_one _ (short {spelling = form rule} 16 true (1 ∷ 1 ∷ 255 ∷ []) [] (omega arith) (omega arith) (omega arith)) f).extent in cc
addition_awaited rule t rest (deep, definite_form c f (ts, e, inl ((r, closing, n), all, left))) = absurd (r (inl refl))
addition_awaited rule t rest (deep, definite_form c f (ts, e, inr (n, h))) =
    awaited rule c ts [] (same (1 ∷ 1 ∷ 255 ∷ []) c (frame_one _ (short {spelling = form rule} 16 true (1 ∷ 1 ∷ 255 ∷ []) [] (omega arith) (omega arith) (omega arith)) f).extent) h
  where
    same : (a b : List ℕ) → definite a ≡ definite b → a ≡ b
    same a b e = cc

-- The absent addition's clause.
missing : (rule : Codec) → AreWithinLimits rule (part required (plain boolean 1) (part addition (prefix (contextual 0) (plain (integer every) 2)) none)) 127 (number (pos 1) ∷ absent ∷ []) → ⊥
unfolding IsWithinLimits
missing rule (t, us, e, m, (t', us', e', (there, n), last)) =
    let f : absent ≡ t' = cc in
    there (sym f)

absent_not_carried : (rule : Codec) → Carried rule extended (items (number (pos 1) ∷ absent ∷ [])) → ⊥
unfolding IsWithinLimits
absent_not_carried rule c =
    let m = c.within_limits in
    let e = items_one (number (pos 1) ∷ absent ∷ []) m.1 m.2 in
    missing rule (subst (AreWithinLimits rule (part required (plain boolean 1) (part addition (prefix (contextual 0) (plain (integer every) 2)) none)) 127) (sym e) m.3)

two_segments : (front : List ℕ) (last : ℕ) → length front ≡ 1000 → AreOctets front → last < 256
    → IsCarriedAs Cer (plain octet_string 4) (numbers (front ++ (last ∷ []))) (36 ∷ 128 ∷ 4 ∷ 130 ∷ 3 ∷ 232 ∷ (front ++ (4 ∷ 1 ∷ last ∷ 0 ∷ 0 ∷ [])))
unfolding Bytes fields_of IsWithinLimits
two_segments front last n o h = (
  record {
    octets = 36 ∷ 128 ∷ 4 ∷ 130 ∷ 3 ∷ 232 ∷ (front ++ (4 ∷ 1 ∷ last ∷ 0 ∷ 0 ∷ []));
    is = (
      tt,
      (
        front ++ (last ∷ []),
        refl,
        inr (
          tt,
          omega (arith, length-append front (last ∷ []), n),
          front ∷ (last ∷ []) ∷ [],
          (4 ∷ 130 ∷ 3 ∷ 232 ∷ front) ∷ (4 ∷ 1 ∷ last ∷ []) ∷ [],
          refl,
          (n, (omega arith, omega arith)),
          (
            _,
            _,
            refl,
            (front, (refl, o), long_written 4 front (omega arith) n),
            (_, _, refl, (last ∷ [], (refl, (h, tt)), short_written 4 false (last ∷ []) (omega arith) (omega arith)), refl),
          ),
          subst (λ l. IndefiniteForm (in_universal 4) (4 ∷ 130 ∷ 3 ∷ 232 ∷ (front ++ (4 ∷ 1 ∷ last ∷ []))) (36 ∷ 128 ∷ 4 ∷ 130 ∷ 3 ∷ 232 ∷ l)) (append_assoc front (4 ∷ 1 ∷ last ∷ []) (0 ∷ 0 ∷ []))
              (closed_written 4 (4 ∷ 130 ∷ 3 ∷ 232 ∷ (front ++ (4 ∷ 1 ∷ last ∷ []))) (omega arith)),
        ),
      ),
    );
    within_limits = (tt, λ l e z k. omega arith);
  },
  refl,
)

pub worked : WorkedOpens
worked = record {
  identified = identified;
  open_to_the_end = open_to_the_end;
  open_closed = open_closed;
  open_empty = open_empty;
  empty_not_written = empty_not_written;
  empty_not_carried = empty_not_carried;
  addition_there = addition_there;
  addition_left_out = addition_left_out;
  addition_awaited = addition_awaited;
  absent_not_carried = absent_not_carried;
  two_segments = two_segments;
}
