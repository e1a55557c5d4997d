-- Defaults, SET and SET OF that DER doesn't read.
use Rattle.std.proofs.Common.{◌≡◌, ℕ, ◌+◌, ◌*◌, ◌<◌, ◌≢◌, inl, inr, List, [], ◌∷◌, ◌++◌, true, false, pos, rules, refl, sym, ap, ap₂, ◌∙◌, subst, arith}
use Rattle.std.proofs.lemmas.List.{append_cancel_right}
use Rattle.rasn_types.specs.Tags.{basic_form}
use Rattle.rasn_types.specs.declared.types.codec.Codec.TheVariants.{Ber, Der}
use Rattle.rasn_types.specs.Framing.{number_in, AreOctets, NextTag}
use Rattle.rasn_types.specs.Shapes.{Tree, number, numbers, items, set_elements, chosen, part, required, every, integer, octet_string}
use Rattle.rasn_types.specs.Shapes.Parts.{none}
use Rattle.rasn_types.specs.Contents.{signed}
use Rattle.rasn_types.specs.Readings.{definite_form, indefinite_form, ReadsFrom, ReadsChoice, ReadsSet}
use Rattle.rasn_types.specs.Grammar.{Reads, parts_of}
use Rattle.rasn_types.specs.Bytes.{Bytes, fields_of, AreAscending, IsLess}
use Rattle.rasn_types.specs.Carried.{IsWithinLimits, Carried}
use Rattle.rasn_types.specs.Lawful.{IsLawful}
use Rattle.rasn_types.proofs.Headers.Frames.{frame_next}
use Rattle.rasn_types.proofs.SetOf.Same.{items_one}
use Rattle.rasn.specs.Worked.{IsRefusedBy, IsLenient, plain, seven, octets_in_set_of, contextual}
use Rattle.rasn.proofs.ReadBack.Taken.{parts_in, none_taken}
use Rattle.rasn.proofs.ReadBack.Headers.{no_eoc, short, going, short_written, context_frame, context_apart}
use Rattle.rasn.proofs.Worked.Lenient.{lenient}
use Rattle.rasn.proofs.StrictDer.Leaves.{framed, no_open, tail_octets}
use Rattle.rasn.proofs.Worked.Parts.{default_spelled, default_not_written, set_of_out_of_order, octet_written}
use Rattle.rasn_types.specs.Shapes.{Interval, IsIn}
use Rattle.rasn_types.specs.Trees.{unsigned_range}
use Rattle.rasn.specs.WorkedShapes.{tagged, small, three_of_set, seven_of_set}
use Rattle.rasn.specs.Worked.{one_two_three, falling_octets}
use Rattle.rasn.proofs.Worked.Shapes.{seven_lawful, octets_lawful, set_of_lawful, three_lawful}
use Rattle.rasn.proofs.Worked.Sets.{set_rises}
use Rattle.rasn.proofs.LawsHold.Written.{included, one_reading}
use Rattle.rasn.proofs.StrictDer.Shapes.{set_elements_one}
use Rattle.rasn.proofs.StrictDer.Carried.{all_told}

pub default_there : IsLenient seven (48 ∷ 3 ∷ 2 ∷ 1 ∷ 7 ∷ []) (items (number (pos 7) ∷ []))
unfolding IsWithinLimits
default_there = lenient seven seven_lawful (48 ∷ 3 ∷ 2 ∷ 1 ∷ 7 ∷ []) (omega arith, (omega arith, (omega arith, (omega arith, (omega arith, tt))))) (items (number (pos 7) ∷ []))
    (default_spelled Ber (λ z. z)) (record {
      octets = 48 ∷ 0 ∷ [];
      is = default_not_written;
      within_limits = (omega arith, number (pos 7) ∷ [], refl, (number (pos 7), [], refl, inl refl, refl), none_taken Der (parts_in seven) (number (pos 7) ∷ []) refl);
    }) (λ e. cc)

one_octet_carried : (depth o : ℕ) → IsWithinLimits Der (plain octet_string 4) depth (numbers (o ∷ []))
unfolding IsWithinLimits
one_octet_carried depth o = (tt, λ l e z. absurd z)

-- An element's octets are those that are written of it.
element_octets : (o : ℕ) → o < 256 → (input b rest : List ℕ) → AreOctets input → input ≡ b ++ rest → Reads Der (plain octet_string 4) 126 false input (numbers (o ∷ [])) rest
    → b ≡ 4 ∷ 1 ∷ o ∷ []
element_octets o h input b rest are e r =
    append_cancel_right b (4 ∷ 1 ∷ o ∷ []) rest (sym e ∙ all_told (plain octet_string 4) octets_lawful 126 false input (numbers (o ∷ [])) rest (4 ∷ 1 ∷ o ∷ []) are r (octet_written Der o h) (one_octet_carried 126 o))

set_of_order : (c rest : List ℕ) (bs : List (List ℕ)) → AreOctets c → ReadsFrom (Reads Der (plain octet_string 4) 126 false) c (numbers (2 ∷ []) ∷ numbers (1 ∷ []) ∷ []) rest bs → AreAscending IsLess bs → ⊥
set_of_order c rest bs o (a, az, m, e, f, h, (b, bz, n, e', f', h', (g, k))) d =
    let p = element_octets 2 (omega arith) c a m o f h in
    let q = element_octets 1 (omega arith) m b n (tail_octets c a m f o) f' h' in
    let r : bs ≡ (4 ∷ 1 ∷ 2 ∷ []) ∷ (4 ∷ 1 ∷ 1 ∷ []) ∷ [] = e ∙ (ap₂ ◌∷◌ p (e' ∙ ap₂ ◌∷◌ q g)) in
    (subst (AreAscending IsLess) r d).0 (inr (refl, inr (refl, inl (omega arith))))

falls : (input : List ℕ) (t : Tree) (rest : List ℕ) → AreOctets input → t ≡ set_elements (items (numbers (2 ∷ []) ∷ numbers (1 ∷ []) ∷ [])) → Reads Der octets_in_set_of 128 false input t rest → ⊥
unfolding Reads parts_of
falls input t rest o e (deep, indefinite_form body f r) = no_open f
falls input t rest o e (deep, definite_form c f (ts, g, n, many, order)) =
    let w = order tt in
    let z : ts ≡ numbers (2 ∷ []) ∷ numbers (1 ∷ []) ∷ [] = items_one ts (numbers (2 ∷ []) ∷ numbers (1 ∷ []) ∷ []) (set_elements_one ts (numbers (2 ∷ []) ∷ numbers (1 ∷ []) ∷ []) (sym g ∙ e)) in
    let h = framed o f in
    set_of_order c [] w.0 h.octets (subst (λ l. ReadsFrom (Reads Der (plain octet_string 4) 126 false) c l [] w.0) z w.1) w.2

set_of_refused : IsRefusedBy Der octets_in_set_of (49 ∷ 6 ∷ 4 ∷ 1 ∷ 2 ∷ 4 ∷ 1 ∷ 1 ∷ [])
set_of_refused t rest r =
    let input = 49 ∷ 6 ∷ 4 ∷ 1 ∷ 2 ∷ 4 ∷ 1 ∷ 1 ∷ [] in
    let one = one_reading octets_in_set_of set_of_lawful Ber 128 true input (set_elements (items (numbers (2 ∷ []) ∷ numbers (1 ∷ []) ∷ []))) t [] rest (set_of_out_of_order Ber (λ z. z))
    (included octets_in_set_of set_of_lawful Der 128 input t rest r) in
    falls input t rest (omega arith, (omega arith, (omega arith, (omega arith, (omega arith, (omega arith, (omega arith, (omega arith, tt)))))))) (sym one.0) r

pub set_of_falls : IsLenient octets_in_set_of (49 ∷ 6 ∷ 4 ∷ 1 ∷ 2 ∷ 4 ∷ 1 ∷ 1 ∷ []) (set_elements (items (numbers (2 ∷ []) ∷ numbers (1 ∷ []) ∷ [])))
set_of_falls = (set_of_out_of_order Ber (λ z. z), set_of_refused)

-- A component under BER.
component : (range : Interval) (n o : ℕ) → n < 31 → o < 128 → IsIn range (signed (o ∷ [])) → (rest : List ℕ)
    → Reads Ber (tagged (integer range) n) 127 false ((64 * 2 + (32 * 0 + n)) ∷ 1 ∷ o ∷ rest) (number (signed (o ∷ []))) rest
unfolding Reads parts_of
component range n o h k within rest = ((false, o ∷ [], context_frame n false (o ∷ []) rest h (omega arith), (refl, (λ e. cc), within), λ z. absurd z), tt)

component_next : (n o : ℕ) → n < 31 → (rest : List ℕ) → NextTag basic_form ((64 * 2 + (32 * 0 + n)) ∷ 1 ∷ o ∷ rest) (contextual n)
component_next n o h rest = frame_next (context_frame {spelling = basic_form} n false (o ∷ []) rest h (omega arith))

other : (j k : ℕ) → j ≢ k → (t u : Tree) → chosen j t ≡ chosen k u → ⊥
other j k n t u e = n cc

set_contents : ReadsSet Ber (required ∷ required ∷ required ∷ []) (ReadsChoice Ber 0 (parts_of Ber (part required (small 0) (part required (small 1) (part required (small 2) none))) 127 false)) false
    (130 ∷ 1 ∷ 3 ∷ 129 ∷ 1 ∷ 2 ∷ 128 ∷ 1 ∷ 1 ∷ []) one_two_three []
unfolding Reads parts_of
set_contents = (
  chosen 2 (number (pos 3)) ∷ chosen 1 (number (pos 2)) ∷ chosen 0 (number (pos 1)) ∷ [],
  number (pos 1) ∷ number (pos 2) ∷ number (pos 3) ∷ [],
  refl,
  (
    going false 130 _ (omega arith),
    129 ∷ 1 ∷ 2 ∷ 128 ∷ 1 ∷ 1 ∷ [],
    inr (inr (inl (number (pos 3), refl, contextual 2, component_next 2 3 (omega arith) _, refl, component (unsigned_range 8) 2 3 (omega arith) (omega arith) (search rules, search rules) _, λ z. tt))),
    (
      going false 129 _ (omega arith),
      128 ∷ 1 ∷ 1 ∷ [],
      inr (inl (number (pos 2), refl, contextual 1, component_next 1 2 (omega arith) _, refl, component (unsigned_range 8) 1 2 (omega arith) (omega arith) (search rules, search rules) _, λ z. tt)),
      (
        going false 128 _ (omega arith),
        [],
        inl (number (pos 1), refl, contextual 0, component_next 0 1 (omega arith) [], refl, component (unsigned_range 8) 0 1 (omega arith) (omega arith) (search rules, search rules) [], λ z. tt),
        (inl refl, refl),
      ),
    ),
  ),
  (
    number (pos 1),
    number (pos 2) ∷ number (pos 3) ∷ [],
    refl,
    inl (record {
      before = chosen 2 (number (pos 3)) ∷ chosen 1 (number (pos 2)) ∷ [];
      after = [];
      is = refl;
      none_before = ((λ u e. other 2 0 (λ z. omega arith) _ u e), ((λ u e. other 1 0 (λ z. omega arith) _ u e), tt));
      none_after = tt;
    }),
    (
      number (pos 2),
      number (pos 3) ∷ [],
      refl,
      inl (record {
        before = chosen 2 (number (pos 3)) ∷ [];
        after = chosen 0 (number (pos 1)) ∷ [];
        is = refl;
        none_before = ((λ u e. other 2 1 (λ z. omega arith) _ u e), tt);
        none_after = ((λ u e. other 0 1 (λ z. omega arith) _ u e), tt);
      }),
      (
        number (pos 3),
        [],
        refl,
        inl (record {
          before = [];
          after = chosen 1 (number (pos 2)) ∷ chosen 0 (number (pos 1)) ∷ [];
          is = refl;
          none_before = tt;
          none_after = ((λ u e. other 1 2 (λ z. omega arith) _ u e), ((λ u e. other 0 2 (λ z. omega arith) _ u e), tt));
        }),
        refl,
      ),
    ),
  ),
  λ z. absurd z,
)

pub set_out_of_order : IsLenient three_of_set falling_octets one_two_three
unfolding Reads parts_of
set_out_of_order = lenient three_of_set three_lawful falling_octets
    (omega arith, (omega arith, (omega arith, (omega arith, (omega arith, (omega arith, (omega arith, (omega arith, (omega arith, (omega arith, (omega arith, tt))))))))))) one_two_three
    (omega arith, definite_form (130 ∷ 1 ∷ 3 ∷ 129 ∷ 1 ∷ 2 ∷ 128 ∷ 1 ∷ 1 ∷ []) (short 17 true (130 ∷ 1 ∷ 3 ∷ 129 ∷ 1 ∷ 2 ∷ 128 ∷ 1 ∷ 1 ∷ []) [] (omega arith) (omega arith) (omega arith)) set_contents)
    set_rises.0 (λ e. omega (arith, ap (λ l. number_in 256 l) (sym set_rises.1 ∙ e)))

seven_of_set_lawful : IsLawful seven_of_set
unfolding IsLawful
seven_of_set_lawful = (no_eoc 17 (omega arith), ((λ e. cc), tt, tt, (context_apart 0, tt), (λ m n p q. absurd q), tt))

seven_carried : Carried Der seven_of_set (items (number (pos 7) ∷ []))
unfolding Bytes fields_of IsWithinLimits
seven_carried = record {
  octets = 49 ∷ 0 ∷ [];
  is = (number (pos 7) ∷ [], [] ∷ [], [], refl, (_, _, _, _, refl, refl, inl (refl, refl), (refl, refl)), ((λ z. refl), tt), refl, tt, short_written 17 true [] (omega arith) (omega arith));
  within_limits = (omega arith, number (pos 7) ∷ [], refl, (_, _, refl, inl refl, refl));
}

pub default_in_set : IsLenient seven_of_set (49 ∷ 3 ∷ 128 ∷ 1 ∷ 7 ∷ []) (items (number (pos 7) ∷ []))
unfolding Reads parts_of seven_carried
default_in_set = lenient seven_of_set seven_of_set_lawful (49 ∷ 3 ∷ 128 ∷ 1 ∷ 7 ∷ []) (omega arith, (omega arith, (omega arith, (omega arith, (omega arith, tt))))) (items (number (pos 7) ∷ [])) (
  omega arith,
  definite_form (128 ∷ 1 ∷ 7 ∷ []) (short 17 true (128 ∷ 1 ∷ 7 ∷ []) [] (omega arith) (omega arith) (omega arith)) (
    chosen 0 (number (pos 7)) ∷ [],
    number (pos 7) ∷ [],
    refl,
    (
      going false 128 _ (omega arith),
      [],
      inl (number (pos 7), refl, contextual 0, component_next 0 7 (omega arith) [], refl, component every 0 7 (omega arith) (omega arith) tt [], λ z. absurd z),
      (inl refl, refl),
    ),
    (number (pos 7), [], refl, inl (record { before = []; after = []; is = refl; none_before = tt; none_after = tt }), refl),
    λ z. absurd z,
  ),
) seven_carried (λ e. cc)
