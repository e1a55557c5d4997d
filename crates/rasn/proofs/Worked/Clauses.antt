-- Small clauses that contracts share: what they hold of, and what they don't.
use Rattle.std.proofs.Common.{◌≡◌, ◌≢◌, false, true, ℕ, ℤ, zero, suc, Some, ◌-◌, ◌^◌, ◌<◌, get_or, inl, inr, List, [], ◌∷◌, length, Result, Ok, Err, pos, negsuc, refl, sym, ap, ◌∙◌, arith, rules}
use Rattle.rasn_types.specs.declared.types.codec.Codec.TheVariants.{Ber, Der}
use Rattle.std.specs.declared.alloc.AllocError.{AllocError}
use Rattle.rasn_types.specs.declared.types.tag.Tag.{Tag}
use Rattle.rasn_types.specs.Contents.{RepeatsSign}
use Rattle.rasn_types.specs.Framing.{definite, Frame, with_length}
use Rattle.rasn_types.specs.Inline.{IsLong}
use Rattle.rasn_types.specs.Tags.{form, in_universal, eoc}
use Rattle.rasn_types.specs.Trees.{IsShortestOf}
use Rattle.rasn_types.proofs.Headers.Frames.{frame_one}
use Rattle.rasn_types.proofs.Integer.Shortest.{same_shortest}
use Rattle.rasn_de.specs.declared.ber.de.parser.ParseError.{ParseError}
use Rattle.rasn_de.specs.declared.ber.de.parser.ParseError.TheVariants.{OutOfMemory, Incomplete}
use Rattle.rasn_de.specs.Headers.{header_by, tag_number_at, identifier_by, length_at}
use Rattle.rasn_de.specs.Segments.{segments_at, string_of}
use Rattle.rasn_types.specs.CharacterString.{IsPrintable}
use Rattle.rasn_types.specs.Shapes.{Tree, number, chosen, absent, required, optional, default}
use Rattle.rasn_de.specs.SetPartTypes.{HasGap, LeavesGap}
use Rattle.rasn_de.specs.OctetString.{octet_string_at}
use Rattle.rasn.specs.WorkedClauses.{bare_octets, BeginsShortText, TakesText, ReturnsUnlessSeven, seeing, default_present, zeros_32, WorkedClauses}

star : IsPrintable 42 → ⊥
star (inl h) = omega (arith, h.0)
star (inr (inl h)) = omega (arith, h.0)
star (inr (inr (inl h))) = omega (arith, h.0)
star (inr (inr (inr h))) = grind (arith, rules)

-- what precedes the first `*`
first_letter : (k d : ℕ) → k < 1 → IsPrintable (get_or (65 ∷ 42 ∷ 64 ∷ 42 ∷ []) k d)
first_letter zero d h = inl (omega arith, omega arith)
first_letter (suc k) d h = absurd (omega (arith, h))

nothing : bare_octets (36 ∷ 0 ∷ []) ≡ Ok ([], [])
unfolding header_by tag_number_at identifier_by length_at segments_at string_of
nothing = refl

empty : bare_octets (36 ∷ 2 ∷ 4 ∷ 0 ∷ []) ≡ Ok ([], [])
unfolding header_by tag_number_at identifier_by length_at segments_at string_of
empty = refl

octet : bare_octets (36 ∷ 3 ∷ 4 ∷ 1 ∷ 5 ∷ []) ≡ Err OutOfMemory
unfolding header_by tag_number_at identifier_by length_at segments_at string_of
octet = refl

cut : bare_octets (36 ∷ 3 ∷ 4 ∷ 2 ∷ 5 ∷ []) ≡ Err (Incomplete 1)
unfolding header_by tag_number_at identifier_by length_at segments_at string_of
cut = refl

not_wanted : (p : List ℕ × List ℕ) (r : Result (List ℕ × List ℕ) ParseError) → r ≡ Ok p → r ≡ Err OutOfMemory → ⊥
not_wanted p r e h = cc

short : BeginsShortText (55 ∷ 34 ∷ 4 ∷ 32 ∷ zeros_32)
unfolding header_by tag_number_at identifier_by length_at segments_at string_of
short = (zeros_32, zeros_32, [], refl, refl, inl (omega arith))

not_eoc : in_universal 23 ≢ eoc
not_eoc e = let k : 23 ≡ 0 = ap (λ (t : Tag). t.value) e in omega (arith, k)

whole : Frame (form Ber) (23 ∷ 33 ∷ 0 ∷ zeros_32) (in_universal 23) false [] (definite (0 ∷ zeros_32))
whole =
    with_length (23 ∷ []) (33 ∷ []) (0 ∷ zeros_32)
    (record { spells = record { low = 23; leading = refl; number = inl (omega arith, refl, refl) }; is_one = not_eoc })
    (inl (omega arith, refl, refl)) (λ h. absurd h) refl

long_whole : BeginsShortText (23 ∷ 33 ∷ 0 ∷ zeros_32)
unfolding header_by tag_number_at identifier_by length_at segments_at string_of
long_whole = (0 ∷ zeros_32, 0 ∷ zeros_32, [], refl, refl, inr ([], 0 ∷ zeros_32, whole))

parts : Frame (form Ber) (55 ∷ 35 ∷ 4 ∷ 33 ∷ 0 ∷ zeros_32) (in_universal 23) true [] (definite (4 ∷ 33 ∷ 0 ∷ zeros_32))
parts =
    with_length (55 ∷ []) (35 ∷ []) (4 ∷ 33 ∷ 0 ∷ zeros_32)
    (record { spells = record { low = 23; leading = refl; number = inl (omega arith, refl, refl) }; is_one = not_eoc })
    (inl (omega arith, refl, refl)) (λ h. absurd h) refl

long_read : octet_string_at Ber 2 (in_universal 23) (55 ∷ 35 ∷ 4 ∷ 33 ∷ 0 ∷ zeros_32) ≡ Ok (0 ∷ zeros_32, [])
unfolding header_by tag_number_at identifier_by length_at segments_at string_of
long_read = refl

long_parts : BeginsShortText (55 ∷ 35 ∷ 4 ∷ 33 ∷ 0 ∷ zeros_32) → ⊥
long_parts (x, text, rest, e, m, inl s) =
    let r = long_read in
    let p : ◌≡◌ {A = List ℕ × List ℕ} (text, rest) (0 ∷ zeros_32, []) = cc in
    let k : length text ≡ 33 = ap (λ (z : List ℕ × List ℕ). length z.0) p in
    omega (arith, k, s)
long_parts (x, text, rest, e, m, inr (r, c, f)) = let b : false ≡ true = (frame_one _ f parts).bit in cc

short_segment : Frame (form Ber) (55 ∷ 34 ∷ 4 ∷ 32 ∷ zeros_32) (in_universal 23) true [] (definite (4 ∷ 32 ∷ zeros_32))
short_segment =
    with_length (55 ∷ []) (34 ∷ []) (4 ∷ 32 ∷ zeros_32)
    (record { spells = record { low = 23; leading = refl; number = inl (omega arith, refl, refl) }; is_one = not_eoc })
    (inl (omega arith, refl, refl)) (λ h. absurd h) refl

primitive_read : octet_string_at Ber 2 (in_universal 23) (23 ∷ 33 ∷ 0 ∷ zeros_32) ≡ Ok (0 ∷ zeros_32, [])
unfolding header_by tag_number_at identifier_by length_at segments_at string_of
primitive_read = refl

taken : TakesText (23 ∷ 33 ∷ 0 ∷ zeros_32) true (record (seeing Ber (23 ∷ 33 ∷ 0 ∷ zeros_32)) { rest = [] })
taken = (0 ∷ zeros_32, (0 ∷ zeros_32, primitive_read, refl, refl))

refused : ReturnsUnlessSeven Der (pos 8) (Err default_present) → ⊥
refused h = elim h.1 [
  | inl m ↦ (let k : ◌≡◌ {A = Result ℤ AllocError} (Err m.0) (Ok (pos 7)) = m.1 in cc)
  | inr m ↦ (let d : ◌≡◌ {A = Result ℤ AllocError} (Ok m.0) (Ok (pos 7)) = m.1 in let s : number m.0 ≡ number (pos 8) = m.2 in let e : ◌≡◌ {A = ℕ} 7 8 = cc in omega (arith, e))
]

-- 2^183 and -2^183 - 1 in their fewest octets, and the numbers next to them, which take one octet less
falls : RepeatsSign 0 128 → ⊥
falls (inl h) = omega (arith, h.1)
falls (inr h) = omega (arith, h.0)

rises : RepeatsSign 255 127 → ⊥
rises (inl h) = omega (arith, h.0)
rises (inr h) = omega (arith, h.1)

goes_on : RepeatsSign 127 255 → ⊥
goes_on (inl h) = omega (arith, h.0)
goes_on (inr h) = omega (arith, h.0)

turns : RepeatsSign 128 0 → ⊥
turns (inl h) = omega (arith, h.0)
turns (inr h) = omega (arith, h.0)

above : IsShortestOf (pos (2 ^ 183)) (0 ∷ 128 ∷ 0 ∷ 0 ∷ 0 ∷ 0 ∷ 0 ∷ 0 ∷ 0 ∷ 0 ∷ 0 ∷ 0 ∷ 0 ∷ 0 ∷ 0 ∷ 0 ∷ 0 ∷ 0 ∷ 0 ∷ 0 ∷ 0 ∷ 0 ∷ 0 ∷ 0 ∷ [])
above = record { is = refl; shortest = falls; octets = search (arith, rules) }

below : IsShortestOf (negsuc (2 ^ 183)) (255 ∷ 127 ∷ 255 ∷ 255 ∷ 255 ∷ 255 ∷ 255 ∷ 255 ∷ 255 ∷ 255 ∷ 255 ∷ 255 ∷ 255 ∷ 255 ∷ 255 ∷ 255 ∷ 255 ∷ 255 ∷ 255 ∷ 255 ∷ 255 ∷ 255 ∷ 255 ∷ 255 ∷ [])
below = record { is = refl; shortest = rises; octets = search (arith, rules) }

greatest : IsShortestOf (pos (2 ^ 183 - 1)) (127 ∷ 255 ∷ 255 ∷ 255 ∷ 255 ∷ 255 ∷ 255 ∷ 255 ∷ 255 ∷ 255 ∷ 255 ∷ 255 ∷ 255 ∷ 255 ∷ 255 ∷ 255 ∷ 255 ∷ 255 ∷ 255 ∷ 255 ∷ 255 ∷ 255 ∷ 255 ∷ [])
greatest = record { is = refl; shortest = goes_on; octets = search (arith, rules) }

least : IsShortestOf (negsuc (2 ^ 183 - 1)) (128 ∷ 0 ∷ 0 ∷ 0 ∷ 0 ∷ 0 ∷ 0 ∷ 0 ∷ 0 ∷ 0 ∷ 0 ∷ 0 ∷ 0 ∷ 0 ∷ 0 ∷ 0 ∷ 0 ∷ 0 ∷ 0 ∷ 0 ∷ 0 ∷ 0 ∷ 0 ∷ [])
least = record { is = refl; shortest = turns; octets = search (arith, rules) }

-- An integer of 23 octets isn't long.
inline : (z : ℤ) (l : List ℕ) → IsShortestOf z l → length l ≡ 23 → IsLong z → ⊥
inline z l s n (k, t, m) = let e = same_shortest k l t.octets s.octets t.shortest s.shortest (t.is ∙ sym s.is) in omega (arith, n, m, ap length e)

first_and_second : (t u : Tree) → chosen 1 t ≡ chosen 0 u → ⊥
first_and_second t u e = cc

second_and_first : (t u : Tree) → chosen 0 t ≡ chosen 1 u → ⊥
second_and_first t u e = cc

optional_alone : LeavesGap 0 (required ∷ optional ∷ []) (chosen 0 absent ∷ []) → ⊥
optional_alone (inl (t, (n, o))) = n absent refl
optional_alone (inr (inl (t, n))) = t
optional_alone (inr (inr h)) = h

no_slot_empty : HasGap (required ∷ default absent ∷ []) (Some absent ∷ Some absent ∷ []) → ⊥
no_slot_empty (inl (t, e)) = cc
no_slot_empty (inr (inl (t, e))) = cc
no_slot_empty (inr (inr h)) = h

pub worked : WorkedClauses
worked = record {
  least_offset = search (arith, rules);
  below_offset = λ h. omega (arith, h.0);
  greatest_offset = search (arith, rules);
  above_offset = λ h. omega (arith, h.1);
  first_foreign = (omega arith, (λ k d from to. first_letter k d to), star);
  second_foreign = λ h. star (h.1 1 0 (omega arith) (omega arith));
  admitted = λ h. h.2 (inl (omega arith, omega arith));
  some_meaning = (refl, omega arith);
  other_meaning = λ h. omega (arith, h.0);
  lacking_meaning = λ h. h (omega arith);
  shown = refl;
  nothing_inside = nothing;
  empty_segment = empty;
  octet_in_segment = octet;
  nothing_collected = λ h. not_wanted _ _ nothing h.1;
  empty_collected = λ h. not_wanted _ _ empty h.1;
  cut_collected = λ h. let e : ◌≡◌ {A = Result (List ℕ × List ℕ) ParseError} (Err (Incomplete 1)) (Err OutOfMemory) = sym cut ∙ h.1 in cc;
  short_segments = short;
  long_segments = long_parts;
  long_primitive = long_whole;
  primitive_taken = taken;
  short_left = λ h. h.1 ([], definite (4 ∷ 32 ∷ zeros_32), short_segment) short;
  long_left = (refl, λ c b. long_parts b);
  two_held = (λ h. refl, λ h. refl);
  one_counted = λ h. omega (arith, h.0 (omega arith));
  another_held = λ h. let k : ◌≡◌ {A = List ℕ} (5 ∷ 6 ∷ []) (5 ∷ 7 ∷ []) = h.1 (omega arith) in let e : ◌≡◌ {A = ℕ} 6 7 = cc in omega (arith, e);
  many_seen = (λ h. absurd (omega (arith, h)), λ h. absurd (omega (arith, h)));
  short_text = (omega arith, 5 ∷ [], refl);
  short_denied = λ h. h (omega arith) (5 ∷ []) refl;
  long_text = λ h. omega (arith, h.0);
  long_denied = λ h. absurd (omega (arith, h));
  eight_returned = (refl, λ s. (pos 7, refl, λ (e : number (pos 7) ≡ number (pos 8)). let k : ◌≡◌ {A = ℕ} 7 8 = cc in omega (arith, k)));
  eight_refused = refused;
  seven_returned = λ h. let d = h.1 tt in let k : ◌≡◌ {A = Result ℤ AllocError} (Ok d.0) (Ok (pos 7)) = d.1 in let e : d.0 ≡ pos 7 = cc in d.2 (ap number e);
  seven_refused = (tt, inr (pos 7, refl, refl, refl));
  seven_in_ber = (refl, λ s. absurd s);
  seven_refused_in_ber = λ h. h.0;
  eight_of_seven = λ h. let p : pos 8 ≡ pos 7 = h.0 in let e : ◌≡◌ {A = ℕ} 8 7 = cc in omega (arith, e);
  boolean_identifier = (refl, omega arith, refl, refl);
  constructed_boolean = λ h. let k : 33 ≡ 1 = ap (λ (t : Tag). t.value) h.0 in omega (arith, k);
  primitive_sequence = λ h. let k : true ≡ false = h.3 in cc;
  required_needs = tt;
  default_needs = tt;
  optional_needs_none = λ h. h;
  required_gap = inl (tt, (first_and_second absent, tt));
  default_gap = inr (inl (tt, (second_and_first absent, tt)));
  optional_left_out = optional_alone;
  empty_slot = inr (inl (tt, refl));
  filled_slots = no_slot_empty;
  long_number = (_, above, omega arith);
  long_below = (_, below, omega arith);
  greatest_inline = inline _ _ greatest refl;
  least_inline = inline _ _ least refl;
}
