-- SETs in the order of their tags, with their octets.
use Rattle.std.proofs.Common.{◌≡◌, ℕ, ◌+◌, ◌*◌, ◌<◌, inl, inr, List, [], ◌∷◌, ◌++◌, Bool, true, false, pos, rules, refl, sym, ap, ◌∙◌, subst, arith}
use Rattle.rasn_types.specs.Tags.{Form, in_universal, IsTagBelow}
use Rattle.rasn_types.specs.declared.types.codec.Codec.{Codec}
use Rattle.rasn_types.specs.declared.types.codec.Codec.TheVariants.{Ber, Cer, Der}
use Rattle.rasn_types.specs.declared.types.tag.Tag.{Tag}
use Rattle.rasn_types.specs.declared.types.tag.Class.TheVariants.{Universal, Context}
use Rattle.rasn_types.specs.Framing.{Frame, definite, Begins, plain as whole}
use Rattle.rasn_types.specs.Shapes.{Tree, number, numbers, items, chosen, IsIn, IsFirst, IsFirstOf, integer, every, sorted_set, Parts}
use Rattle.rasn_types.specs.Readings.{definite_form, indefinite_form, AllOf, AreInTagOrder, ReadsChoice}
use Rattle.rasn_types.specs.Order.{Each, AreAscending}
use Rattle.rasn_types.specs.Contents.{signed}
use Rattle.rasn_types.specs.Trees.{unsigned_range}
use Rattle.rasn_types.specs.Grammar.{Reads, parts_of, top, ReadsOpenChoice}
use Rattle.rasn_types.specs.Bytes.{Component as Written, Bytes, fields_of}
use Rattle.rasn_types.specs.Carried.{IsWithinLimits, Carried}
use Rattle.rasn_types.proofs.Lawful.{lawful}
use Rattle.rasn_types.proofs.Headers.Frames.{frame_next, begins_one}
use Rattle.rasn_types.proofs.SetTrees.{set_tree_one}
use Rattle.rasn_types.proofs.Encoding.SameAsItself.{one_writing}
use Rattle.rasn.specs.Worked.{IsCarriedAs, IsLenient, IsReadAs, IsRefusedBy, three_two_one, rising_octets, falling_octets}
use Rattle.rasn.specs.WorkedShapes.{contextual, tagged, small, truth, whole_number, truth_or_number, put_in_order, two_of_set, extensible_set, interleaved}
use Rattle.rasn.specs.WorkedValues.{seven_and_five, one_three_and, WorkedSortedSets}
use Rattle.rasn.proofs.ReadBack.Headers.{short, going, short_written, closed_written, tag_begins, context_frame}
use Rattle.rasn.proofs.LawsHold.Written.{one_reading}
use Rattle.rasn.proofs.Worked.Values.{integer_written, bytes_of}
use Rattle.rasn.proofs.Worked.Lenient.{lenient}

small_written : (rule : Codec) (n o : ℕ) → n < 31 → o < 128 → IsIn (unsigned_range 8) (signed (o ∷ [])) → Bytes rule (small n) (number (signed (o ∷ []))) ((64 * 2 + (32 * 0 + n)) ∷ 1 ∷ o ∷ [])
small_written rule n o h k within = integer_written rule Context n (unsigned_range 8) o h k refl within

zero_written : Bytes Der (small 0) (number (pos 1)) (128 ∷ 1 ∷ 1 ∷ [])
zero_written = small_written Der 0 1 (omega arith) (omega arith) (search rules, search rules)

one_written : Bytes Der (small 1) (number (pos 2)) (129 ∷ 1 ∷ 2 ∷ [])
one_written = small_written Der 1 2 (omega arith) (omega arith) (search rules, search rules)

two_written : Bytes Der (small 2) (number (pos 3)) (130 ∷ 1 ∷ 3 ∷ [])
two_written = small_written Der 2 3 (omega arith) (omega arith) (search rules, search rules)

-- A component: the tag that decides where it is, its number, and its octets.
abbrev pub placed : Tag → ℕ → List ℕ → Written
placed tag k octets = record { tag = tag; number = k; octets = octets }

zero_begins : Begins (128 ∷ 1 ∷ 1 ∷ []) (contextual 0)
zero_begins = tag_begins Context 0 false (1 ∷ 1 ∷ []) (omega arith)

two_begins : Begins (130 ∷ 1 ∷ 3 ∷ []) (contextual 2)
two_begins = tag_begins Context 2 false (1 ∷ 3 ∷ []) (omega arith)

put_in_order_carried : IsCarriedAs Der put_in_order three_two_one rising_octets
unfolding Bytes fields_of IsWithinLimits
put_in_order_carried = (
  record {
    octets = rising_octets;
    is = (
      number (pos 3) ∷ number (pos 2) ∷ number (pos 1) ∷ [],
      [],
      (130 ∷ 1 ∷ 3 ∷ []) ∷ (129 ∷ 1 ∷ 2 ∷ []) ∷ (128 ∷ 1 ∷ 1 ∷ []) ∷ [],
      placed (contextual 2) 0 (130 ∷ 1 ∷ 3 ∷ []) ∷ placed (contextual 1) 1 (129 ∷ 1 ∷ 2 ∷ []) ∷ placed (contextual 0) 2 (128 ∷ 1 ∷ 1 ∷ []) ∷ [],
      [],
      placed (contextual 0) 2 (128 ∷ 1 ∷ 1 ∷ []) ∷ placed (contextual 1) 1 (129 ∷ 1 ∷ 2 ∷ []) ∷ placed (contextual 2) 0 (130 ∷ 1 ∷ 3 ∷ []) ∷ [],
      (refl, refl),
      (_, _, _, _, refl, refl, two_written, (_, _, _, _, refl, refl, one_written, (_, _, _, _, refl, refl, zero_written, (refl, refl)))),
      (_, _, refl, two_begins, (_, _, refl, tag_begins Context 1 false (1 ∷ 2 ∷ []) (omega arith), (_, _, refl, zero_begins, refl))),
      refl,
      (
        placed (contextual 0) 2 (128 ∷ 1 ∷ 1 ∷ []) ∷ placed (contextual 1) 1 (129 ∷ 1 ∷ 2 ∷ []) ∷ [],
        [],
        refl,
        (placed (contextual 0) 2 (128 ∷ 1 ∷ 1 ∷ []) ∷ [], [], refl, ([], [], refl, refl)),
      ),
      ((inl (inr (refl, omega arith)), (inl (inr (refl, omega arith)), tt)), ((inl (inr (refl, omega arith)), tt), (tt, tt))),
      short_written 17 true (128 ∷ 1 ∷ 1 ∷ 129 ∷ 1 ∷ 2 ∷ 130 ∷ 1 ∷ 3 ∷ []) (omega arith) (omega arith),
    );
    within_limits = (
      omega arith,
      number (pos 3) ∷ number (pos 2) ∷ number (pos 1) ∷ [],
      [],
      (refl, refl),
      (_, _, refl, tt, (_, _, refl, tt, (_, _, refl, tt, refl))),
      (tt, ([], refl, ([], refl, tt))),
    );
  },
  refl,
)

apart_at : (front : List ℕ) (a b : ℕ) (x y : List ℕ) → a < b → front ++ (b ∷ x) ≡ front ++ (a ∷ y) → ⊥
apart_at [] a b x y l e = let f : b ≡ a = cc in omega (arith, l, f)
apart_at (c ∷ front) a b x y l e = apart_at front a b x y l cc

-- The value determines its octets.
never_out_of_order : Bytes Der put_in_order three_two_one falling_octets → ⊥
never_out_of_order b =
    apart_at (49 ∷ 9 ∷ []) 128 130 _ _ (omega arith) (one_writing put_in_order Der three_two_one falling_octets rising_octets b (bytes_of Der put_in_order three_two_one rising_octets put_in_order_carried))

-- ---- a CHOICE between whose tags another component is

five_written : (rule : Codec) → Bytes rule whole_number (number (pos 5)) (2 ∷ 1 ∷ 5 ∷ [])
five_written rule = integer_written rule Universal 2 every 5 (omega arith) (omega arith) refl tt

seven_written : (rule : Codec) → Bytes rule (tagged (integer every) 0) (number (pos 7)) (128 ∷ 1 ∷ 7 ∷ [])
seven_written rule = integer_written rule Context 0 every 7 (omega arith) (omega arith) refl tt

truth_written : Bytes Der truth (number (pos 1)) (1 ∷ 1 ∷ 255 ∷ [])
unfolding Bytes fields_of
truth_written = (tt, (255 ∷ [], record { is = (pos 1, refl, inr (refl, refl)); octets = (omega arith, tt); shortest = tt }, short_written 1 false (255 ∷ []) (omega arith) (omega arith)))

choice_before : IsCarriedAs Der interleaved (items (chosen 0 (number (pos 1)) ∷ number (pos 5) ∷ [])) (49 ∷ 6 ∷ 1 ∷ 1 ∷ 255 ∷ 2 ∷ 1 ∷ 5 ∷ [])
unfolding Bytes fields_of IsWithinLimits
choice_before = (
  record {
    octets = 49 ∷ 6 ∷ 1 ∷ 1 ∷ 255 ∷ 2 ∷ 1 ∷ 5 ∷ [];
    is = (
      chosen 0 (number (pos 1)) ∷ number (pos 5) ∷ [],
      [],
      (1 ∷ 1 ∷ 255 ∷ []) ∷ (2 ∷ 1 ∷ 5 ∷ []) ∷ [],
      placed (in_universal 1) 0 (1 ∷ 1 ∷ 255 ∷ []) ∷ placed (in_universal 2) 1 (2 ∷ 1 ∷ 5 ∷ []) ∷ [],
      [],
      placed (in_universal 1) 0 (1 ∷ 1 ∷ 255 ∷ []) ∷ placed (in_universal 2) 1 (2 ∷ 1 ∷ 5 ∷ []) ∷ [],
      (refl, refl),
      (_, _, _, _, refl, refl, inl (number (pos 1), refl, truth_written), (_, _, _, _, refl, refl, five_written Der, (refl, refl))),
      (_, _, refl, tag_begins Universal 1 false (1 ∷ 255 ∷ []) (omega arith), (_, _, refl, tag_begins Universal 2 false (1 ∷ 5 ∷ []) (omega arith), refl)),
      refl,
      ([], _, refl, ([], [], refl, refl)),
      ((inl (inr (refl, omega arith)), tt), (tt, tt)),
      short_written 17 true (1 ∷ 1 ∷ 255 ∷ 2 ∷ 1 ∷ 5 ∷ []) (omega arith) (omega arith),
    );
    within_limits = (
      omega arith,
      chosen 0 (number (pos 1)) ∷ number (pos 5) ∷ [],
      [],
      (refl, refl),
      (_, _, refl, inl (number (pos 1), refl, tt), (_, _, refl, tt, refl)),
      (tt, ([], refl, ([], refl, tt))),
    );
  },
  refl,
)

choice_after : IsCarriedAs Der interleaved seven_and_five (49 ∷ 6 ∷ 2 ∷ 1 ∷ 5 ∷ 128 ∷ 1 ∷ 7 ∷ [])
unfolding Bytes fields_of IsWithinLimits
choice_after = (
  record {
    octets = 49 ∷ 6 ∷ 2 ∷ 1 ∷ 5 ∷ 128 ∷ 1 ∷ 7 ∷ [];
    is = (
      chosen 1 (number (pos 7)) ∷ number (pos 5) ∷ [],
      [],
      (128 ∷ 1 ∷ 7 ∷ []) ∷ (2 ∷ 1 ∷ 5 ∷ []) ∷ [],
      placed (contextual 0) 0 (128 ∷ 1 ∷ 7 ∷ []) ∷ placed (in_universal 2) 1 (2 ∷ 1 ∷ 5 ∷ []) ∷ [],
      [],
      placed (in_universal 2) 1 (2 ∷ 1 ∷ 5 ∷ []) ∷ placed (contextual 0) 0 (128 ∷ 1 ∷ 7 ∷ []) ∷ [],
      (refl, refl),
      (_, _, _, _, refl, refl, inr (inl (number (pos 7), refl, seven_written Der)), (_, _, _, _, refl, refl, five_written Der, (refl, refl))),
      (_, _, refl, tag_begins Context 0 false (1 ∷ 7 ∷ []) (omega arith), (_, _, refl, tag_begins Universal 2 false (1 ∷ 5 ∷ []) (omega arith), refl)),
      refl,
      (placed (in_universal 2) 1 (2 ∷ 1 ∷ 5 ∷ []) ∷ [], [], refl, ([], [], refl, refl)),
      ((inl (inl (omega arith)), tt), (tt, tt)),
      short_written 17 true (2 ∷ 1 ∷ 5 ∷ 128 ∷ 1 ∷ 7 ∷ []) (omega arith) (omega arith),
    );
    within_limits = (
      omega arith,
      chosen 1 (number (pos 7)) ∷ number (pos 5) ∷ [],
      [],
      (refl, refl),
      (_, _, refl, inr (inl (number (pos 7), refl, tt)), (_, _, refl, tt, refl)),
      (tt, ([], refl, ([], refl, tt))),
    );
  },
  refl,
)

-- The least of the tags of the CHOICE is universal 1.
least_of_choice : (n : Tag) → IsFirst truth_or_number n → IsTagBelow n (in_universal 1) → ⊥
least_of_choice n (inl e) h = not_below (subst (λ t. IsTagBelow t (in_universal 1)) e h)
  where
    not_below : IsTagBelow (in_universal 1) (in_universal 1) → ⊥
    not_below (inl k) = omega (arith, k)
    not_below (inr k) = omega (arith, k.1)
least_of_choice n (inr (inl e)) h = not_below (subst (λ t. IsTagBelow t (in_universal 1)) e h)
  where
    not_below : IsTagBelow (contextual 0) (in_universal 1) → ⊥
    not_below (inl k) = omega (arith, k)
    not_below (inr k) = omega (arith, k.0)
least_of_choice n (inr (inr e)) h = e

least_of_number : (n : Tag) → IsFirst whole_number n → IsTagBelow n (in_universal 2) → ⊥
least_of_number n e h = not_below (subst (λ t. IsTagBelow t (in_universal 2)) e h)
  where
    not_below : IsTagBelow (in_universal 2) (in_universal 2) → ⊥
    not_below (inl k) = omega (arith, k)
    not_below (inr k) = omega (arith, k.1)

choice_in_one_place : IsCarriedAs Cer interleaved seven_and_five (49 ∷ 128 ∷ 128 ∷ 1 ∷ 7 ∷ 2 ∷ 1 ∷ 5 ∷ 0 ∷ 0 ∷ [])
unfolding Bytes fields_of IsWithinLimits
choice_in_one_place = (
  record {
    octets = 49 ∷ 128 ∷ 128 ∷ 1 ∷ 7 ∷ 2 ∷ 1 ∷ 5 ∷ 0 ∷ 0 ∷ [];
    is = (
      chosen 1 (number (pos 7)) ∷ number (pos 5) ∷ [],
      [],
      (128 ∷ 1 ∷ 7 ∷ []) ∷ (2 ∷ 1 ∷ 5 ∷ []) ∷ [],
      placed (in_universal 1) 0 (128 ∷ 1 ∷ 7 ∷ []) ∷ placed (in_universal 2) 1 (2 ∷ 1 ∷ 5 ∷ []) ∷ [],
      [],
      placed (in_universal 1) 0 (128 ∷ 1 ∷ 7 ∷ []) ∷ placed (in_universal 2) 1 (2 ∷ 1 ∷ 5 ∷ []) ∷ [],
      (refl, refl),
      (_, _, _, _, refl, refl, inr (inl (number (pos 7), refl, seven_written Cer)), (_, _, _, _, refl, refl, five_written Cer, (refl, refl))),
      (_, _, refl, (inl refl, least_of_choice), (_, _, refl, (refl, least_of_number), refl)),
      refl,
      ([], _, refl, ([], [], refl, refl)),
      ((inl (inr (refl, omega arith)), tt), (tt, tt)),
      closed_written 17 (128 ∷ 1 ∷ 7 ∷ 2 ∷ 1 ∷ 5 ∷ []) (omega arith),
    );
    within_limits = (
      omega arith,
      chosen 1 (number (pos 7)) ∷ number (pos 5) ∷ [],
      [],
      (refl, refl),
      (_, _, refl, inr (inl (number (pos 7), refl, tt)), (_, _, refl, tt, refl)),
      (tt, ([], refl, ([], refl, tt))),
    );
  },
  refl,
)

choice_never_before : Bytes Der interleaved seven_and_five (49 ∷ 6 ∷ 128 ∷ 1 ∷ 7 ∷ 2 ∷ 1 ∷ 5 ∷ []) → ⊥
choice_never_before b = apart_at (49 ∷ 6 ∷ []) 2 128 _ _ (omega arith)
    (one_writing interleaved Der seven_and_five (49 ∷ 6 ∷ 128 ∷ 1 ∷ 7 ∷ 2 ∷ 1 ∷ 5 ∷ []) (49 ∷ 6 ∷ 2 ∷ 1 ∷ 5 ∷ 128 ∷ 1 ∷ 7 ∷ []) b (bytes_of Der interleaved seven_and_five _ choice_after))

choice_never_after : Bytes Cer interleaved seven_and_five (49 ∷ 128 ∷ 2 ∷ 1 ∷ 5 ∷ 128 ∷ 1 ∷ 7 ∷ 0 ∷ 0 ∷ []) → ⊥
choice_never_after b = apart_at (49 ∷ 128 ∷ []) 2 128 _ _ (omega arith)
    (one_writing interleaved Cer seven_and_five (49 ∷ 128 ∷ 128 ∷ 1 ∷ 7 ∷ 2 ∷ 1 ∷ 5 ∷ 0 ∷ 0 ∷ []) (49 ∷ 128 ∷ 2 ∷ 1 ∷ 5 ∷ 128 ∷ 1 ∷ 7 ∷ 0 ∷ 0 ∷ []) (bytes_of Cer interleaved seven_and_five _ choice_in_one_place) b)

-- ---- an unknown component

abbrev Component : Codec → List ℕ → Tree → List ℕ → Type 0
Component rule = ReadsOpenChoice rule (IsFirstOf two_of_set) 2 (ReadsChoice rule 0 (parts_of rule two_of_set 127 false))

small_read : (rule : Codec) (n o : ℕ) (rest : List ℕ) → n < 31 → IsIn (unsigned_range 8) (signed (o ∷ [])) → Reads rule (small n) 127 false ((64 * 2 + (32 * 0 + n)) ∷ 1 ∷ o ∷ rest) (number (signed (o ∷ []))) rest
unfolding Reads parts_of
small_read rule n o rest h within = ((false, o ∷ [], context_frame n false (o ∷ []) rest h (omega arith), (refl, (λ e. cc), within), λ z. (refl, tt)), tt)

zero_read : (rule : Codec) (rest : List ℕ) → Component rule (128 ∷ 1 ∷ 1 ∷ rest) (chosen 0 (number (pos 1))) rest
unfolding parts_of
zero_read rule rest =
    inl (inl (number (pos 1), refl, contextual 0, frame_next (context_frame 0 false (1 ∷ []) rest (omega arith) (omega arith)), refl, small_read rule 0 1 rest (omega arith) (search rules, search rules), λ z. tt))

two_read : (rule : Codec) (rest : List ℕ) → Component rule (130 ∷ 1 ∷ 3 ∷ rest) (chosen 1 (number (pos 3))) rest
unfolding parts_of
two_read rule rest =
    inl (inr (inl (number (pos 3), refl, contextual 2, frame_next (context_frame 2 false (3 ∷ []) rest (omega arith) (omega arith)), refl, small_read rule 2 3 rest (omega arith) (search rules, search rules), λ z. tt)))

not_known : IsFirstOf two_of_set (contextual 1) → ⊥
not_known (inl e) = let f = ap (λ (t : Tag). t.value) e in omega (arith, f)
not_known (inr (inl e)) = let f = ap (λ (t : Tag). t.value) e in omega (arith, f)
not_known (inr (inr e)) = e

framed : {spelling : Form} (rest : List ℕ) → Frame spelling (129 ∷ 1 ∷ 7 ∷ rest) (contextual 1) false rest (definite (7 ∷ []))
framed rest = context_frame 1 false (7 ∷ []) rest (omega arith) (omega arith)

unknown_read : (rule : Codec) (rest : List ℕ) → Component rule (129 ∷ 1 ∷ 7 ∷ rest) (chosen 2 (numbers (129 ∷ 1 ∷ 7 ∷ []))) rest
unknown_read rule rest = inr (numbers (129 ∷ 1 ∷ 7 ∷ []), refl, contextual 1, frame_next (framed rest), not_known, (129 ∷ 1 ∷ 7 ∷ [], refl, whole (contextual 1) false (7 ∷ []) (framed []), refl))

rises : (low high : ℕ) → low < high → IsTagBelow (contextual high) (contextual low) → ⊥
rises low high h (inl k) = omega (arith, k)
rises low high h (inr k) = omega (arith, h, k.1)

unknown_between : (rule : Codec) → IsReadAs rule extensible_set (49 ∷ 9 ∷ 128 ∷ 1 ∷ 1 ∷ 129 ∷ 1 ∷ 7 ∷ 130 ∷ 1 ∷ 3 ∷ []) (one_three_and ((129 ∷ 1 ∷ 7 ∷ []) ∷ [])) []
unfolding Reads
unknown_between rule = (
  omega arith,
  definite_form (128 ∷ 1 ∷ 1 ∷ 129 ∷ 1 ∷ 7 ∷ 130 ∷ 1 ∷ 3 ∷ []) (short 17 true (128 ∷ 1 ∷ 1 ∷ 129 ∷ 1 ∷ 7 ∷ 130 ∷ 1 ∷ 3 ∷ []) [] (omega arith) (omega arith) (omega arith)) (
    chosen 0 (number (pos 1)) ∷ chosen 2 (numbers (129 ∷ 1 ∷ 7 ∷ [])) ∷ chosen 1 (number (pos 3)) ∷ [],
    number (pos 1) ∷ number (pos 3) ∷ [],
    numbers (129 ∷ 1 ∷ 7 ∷ []) ∷ [],
    refl,
    (
      going false 128 _ (omega arith),
      129 ∷ 1 ∷ 7 ∷ 130 ∷ 1 ∷ 3 ∷ [],
      zero_read rule (129 ∷ 1 ∷ 7 ∷ 130 ∷ 1 ∷ 3 ∷ []),
      (going false 129 _ (omega arith), 130 ∷ 1 ∷ 3 ∷ [], unknown_read rule (130 ∷ 1 ∷ 3 ∷ []), (going false 130 _ (omega arith), [], two_read rule [], (inl refl, refl))),
    ),
    (
      number (pos 1),
      number (pos 3) ∷ [],
      refl,
      inl (record { before = []; after = chosen 2 (numbers (129 ∷ 1 ∷ 7 ∷ [])) ∷ chosen 1 (number (pos 3)) ∷ []; is = refl; none_before = tt; none_after = ((λ u e. cc), ((λ u e. cc), tt)) }),
      (
        number (pos 3),
        [],
        refl,
        inl (record { before = chosen 0 (number (pos 1)) ∷ chosen 2 (numbers (129 ∷ 1 ∷ 7 ∷ [])) ∷ []; after = []; is = refl; none_before = ((λ u e. cc), ((λ u e. cc), tt)); none_after = tt }),
        refl,
      ),
    ),
    inr ((λ u e. cc), inl (numbers (129 ∷ 1 ∷ 7 ∷ []), [], refl, refl, inr ((λ u e. cc), refl))),
    λ z. (
      (128 ∷ 1 ∷ 1 ∷ []) ∷ (129 ∷ 1 ∷ 7 ∷ []) ∷ (130 ∷ 1 ∷ 3 ∷ []) ∷ [],
      (
        128 ∷ 1 ∷ 1 ∷ [],
        _,
        129 ∷ 1 ∷ 7 ∷ 130 ∷ 1 ∷ 3 ∷ [],
        refl,
        refl,
        zero_read rule (129 ∷ 1 ∷ 7 ∷ 130 ∷ 1 ∷ 3 ∷ []),
        (129 ∷ 1 ∷ 7 ∷ [], _, 130 ∷ 1 ∷ 3 ∷ [], refl, refl, unknown_read rule (130 ∷ 1 ∷ 3 ∷ []), (130 ∷ 1 ∷ 3 ∷ [], [], [], refl, refl, two_read rule [], (refl, refl))),
      ),
      (
        contextual 0 ∷ contextual 1 ∷ contextual 2 ∷ [],
        (contextual 0, _, refl, zero_begins, (contextual 1, _, refl, tag_begins Context 1 false (1 ∷ 7 ∷ []) (omega arith), (contextual 2, [], refl, two_begins, refl))),
        (rises 0 1 (omega arith), (rises 1 2 (omega arith), tt)),
      ),
    ),
  ),
)

unknown_carried : IsCarriedAs Der extensible_set (one_three_and ((129 ∷ 1 ∷ 7 ∷ []) ∷ [])) (49 ∷ 9 ∷ 128 ∷ 1 ∷ 1 ∷ 129 ∷ 1 ∷ 7 ∷ 130 ∷ 1 ∷ 3 ∷ [])
unfolding Bytes fields_of IsWithinLimits
unknown_carried = (
  record {
    octets = 49 ∷ 9 ∷ 128 ∷ 1 ∷ 1 ∷ 129 ∷ 1 ∷ 7 ∷ 130 ∷ 1 ∷ 3 ∷ [];
    is = (
      number (pos 1) ∷ number (pos 3) ∷ [],
      numbers (129 ∷ 1 ∷ 7 ∷ []) ∷ [],
      (128 ∷ 1 ∷ 1 ∷ []) ∷ (130 ∷ 1 ∷ 3 ∷ []) ∷ [],
      placed (contextual 0) 0 (128 ∷ 1 ∷ 1 ∷ []) ∷ placed (contextual 2) 1 (130 ∷ 1 ∷ 3 ∷ []) ∷ [],
      placed (contextual 1) 2 (129 ∷ 1 ∷ 7 ∷ []) ∷ [],
      placed (contextual 0) 0 (128 ∷ 1 ∷ 1 ∷ []) ∷ placed (contextual 1) 2 (129 ∷ 1 ∷ 7 ∷ []) ∷ placed (contextual 2) 1 (130 ∷ 1 ∷ 3 ∷ []) ∷ [],
      refl,
      (_, _, _, _, refl, refl, zero_written, (_, _, _, _, refl, refl, two_written, (refl, refl))),
      (_, _, refl, zero_begins, (_, _, refl, two_begins, refl)),
      (_, _, _, refl, tag_begins Context 1 false (1 ∷ 7 ∷ []) (omega arith), refl, refl),
      ([], _, refl, (placed (contextual 1) 2 (129 ∷ 1 ∷ 7 ∷ []) ∷ [], [], refl, ([], [], refl, refl))),
      ((inl (inr (refl, omega arith)), (inl (inr (refl, omega arith)), tt)), ((inl (inr (refl, omega arith)), tt), (tt, tt))),
      short_written 17 true (128 ∷ 1 ∷ 1 ∷ 129 ∷ 1 ∷ 7 ∷ 130 ∷ 1 ∷ 3 ∷ []) (omega arith) (omega arith),
    );
    within_limits = (
      omega arith,
      number (pos 1) ∷ number (pos 3) ∷ [],
      numbers (129 ∷ 1 ∷ 7 ∷ []) ∷ [],
      refl,
      (_, _, refl, tt, (_, _, refl, tt, refl)),
      (
        (
          record {
            one = record { octets = 129 ∷ 1 ∷ 7 ∷ []; is = refl; tag = contextual 1; bit = false; contents = 7 ∷ []; frame = framed [] };
            tag = contextual 1;
            next = frame_next (framed []);
            other = not_known;
          },
          tt,
        ),
        ((129 ∷ 1 ∷ 7 ∷ []) ∷ [], (_, _, refl, refl, refl), (contextual 1 ∷ [], (_, _, refl, tag_begins Context 1 false (1 ∷ 7 ∷ []) (omega arith), refl), tt)),
      ),
    );
  },
  refl,
)

-- 80 01 01, 82 01 03, 81 01 07
falling_in_ber : IsReadAs Ber extensible_set (49 ∷ 9 ∷ 128 ∷ 1 ∷ 1 ∷ 130 ∷ 1 ∷ 3 ∷ 129 ∷ 1 ∷ 7 ∷ []) (one_three_and ((129 ∷ 1 ∷ 7 ∷ []) ∷ [])) []
unfolding Reads
falling_in_ber = (
  omega arith,
  definite_form (128 ∷ 1 ∷ 1 ∷ 130 ∷ 1 ∷ 3 ∷ 129 ∷ 1 ∷ 7 ∷ []) (short 17 true (128 ∷ 1 ∷ 1 ∷ 130 ∷ 1 ∷ 3 ∷ 129 ∷ 1 ∷ 7 ∷ []) [] (omega arith) (omega arith) (omega arith)) (
    chosen 0 (number (pos 1)) ∷ chosen 1 (number (pos 3)) ∷ chosen 2 (numbers (129 ∷ 1 ∷ 7 ∷ [])) ∷ [],
    number (pos 1) ∷ number (pos 3) ∷ [],
    numbers (129 ∷ 1 ∷ 7 ∷ []) ∷ [],
    refl,
    (
      going false 128 _ (omega arith),
      130 ∷ 1 ∷ 3 ∷ 129 ∷ 1 ∷ 7 ∷ [],
      zero_read Ber (130 ∷ 1 ∷ 3 ∷ 129 ∷ 1 ∷ 7 ∷ []),
      (going false 130 _ (omega arith), 129 ∷ 1 ∷ 7 ∷ [], two_read Ber (129 ∷ 1 ∷ 7 ∷ []), (going false 129 _ (omega arith), [], unknown_read Ber [], (inl refl, refl))),
    ),
    (
      number (pos 1),
      number (pos 3) ∷ [],
      refl,
      inl (record { before = []; after = chosen 1 (number (pos 3)) ∷ chosen 2 (numbers (129 ∷ 1 ∷ 7 ∷ [])) ∷ []; is = refl; none_before = tt; none_after = ((λ u e. cc), ((λ u e. cc), tt)) }),
      (
        number (pos 3),
        [],
        refl,
        inl (record { before = chosen 0 (number (pos 1)) ∷ []; after = chosen 2 (numbers (129 ∷ 1 ∷ 7 ∷ [])) ∷ []; is = refl; none_before = ((λ u e. cc), tt); none_after = ((λ u e. cc), tt) }),
        refl,
      ),
    ),
    inr ((λ u e. cc), inr ((λ u e. cc), inl (numbers (129 ∷ 1 ∷ 7 ∷ []), [], refl, refl, refl))),
    λ z. absurd z,
  ),
)

unknown_falls : IsLenient extensible_set (49 ∷ 9 ∷ 128 ∷ 1 ∷ 1 ∷ 130 ∷ 1 ∷ 3 ∷ 129 ∷ 1 ∷ 7 ∷ []) (one_three_and ((129 ∷ 1 ∷ 7 ∷ []) ∷ []))
unfolding unknown_carried
unknown_falls = lenient extensible_set (lawful _ refl) (49 ∷ 9 ∷ 128 ∷ 1 ∷ 1 ∷ 130 ∷ 1 ∷ 3 ∷ 129 ∷ 1 ∷ 7 ∷ [])
    (omega arith, (omega arith, (omega arith, (omega arith, (omega arith, (omega arith, (omega arith, (omega arith, (omega arith, (omega arith, (omega arith, tt)))))))))))
    (one_three_and ((129 ∷ 1 ∷ 7 ∷ []) ∷ [])) falling_in_ber unknown_carried.0 (λ e. cc)

-- What is read without an extension marker is read with one, without unknown values.
with_marker : (rule : Codec) (tag : Tag) (ps : Parts) (depth : ℕ) (closing : Bool) (input : List ℕ) (t : Tree) (rest : List ℕ) → Reads rule (sorted_set false tag ps) depth closing input t rest
    → (ts : List Tree) × Reads rule (sorted_set true tag ps) depth closing input (items (ts ++ (items [] ∷ []))) rest
unfolding Reads
with_marker rule tag ps depth closing input t rest (deep, definite_form contents f (rs, ts, us, e, m, by, a, z)) =
    (ts, (deep, definite_form contents f (rs, ts, [], refl, m, by, subst (AllOf _ rs) e.0 a, z)))
with_marker rule tag ps depth closing input t rest (deep, indefinite_form body f (rs, ts, us, e, m, by, a, z)) =
    (ts, (deep, indefinite_form body f (rs, ts, [], refl, m, by, subst (AllOf _ rs) e.0 a, z)))

no_marker : (rule : Codec) → IsRefusedBy rule (sorted_set false (in_universal 17) two_of_set) (49 ∷ 9 ∷ 128 ∷ 1 ∷ 1 ∷ 129 ∷ 1 ∷ 7 ∷ 130 ∷ 1 ∷ 3 ∷ [])
no_marker rule t rest h =
    let r = with_marker rule (in_universal 17) two_of_set 128 (top rule) (49 ∷ 9 ∷ 128 ∷ 1 ∷ 1 ∷ 129 ∷ 1 ∷ 7 ∷ 130 ∷ 1 ∷ 3 ∷ []) t rest h in
    let one = one_reading extensible_set (lawful _ refl) rule 128 (top rule) (49 ∷ 9 ∷ 128 ∷ 1 ∷ 1 ∷ 129 ∷ 1 ∷ 7 ∷ 130 ∷ 1 ∷ 3 ∷ []) (items (r.0 ++ (items [] ∷ []))) (one_three_and ((129 ∷ 1 ∷ 7 ∷ []) ∷ [])) rest [] r.1 (unknown_between rule) in
    let e : [] ≡ numbers (129 ∷ 1 ∷ 7 ∷ []) ∷ [] = (set_tree_one true r.0 [] (number (pos 1) ∷ number (pos 3) ∷ []) (numbers (129 ∷ 1 ∷ 7 ∷ []) ∷ []) (items (r.0 ++ (items [] ∷ []))) refl one.0).1 in
    cc

unknown_put_in_order : Bytes Der extensible_set (one_three_and ((131 ∷ 1 ∷ 9 ∷ []) ∷ (129 ∷ 1 ∷ 7 ∷ []) ∷ [])) (49 ∷ 12 ∷ 128 ∷ 1 ∷ 1 ∷ 129 ∷ 1 ∷ 7 ∷ 130 ∷ 1 ∷ 3 ∷ 131 ∷ 1 ∷ 9 ∷ [])
unfolding Bytes fields_of
unknown_put_in_order = (
  number (pos 1) ∷ number (pos 3) ∷ [],
  numbers (131 ∷ 1 ∷ 9 ∷ []) ∷ numbers (129 ∷ 1 ∷ 7 ∷ []) ∷ [],
  (128 ∷ 1 ∷ 1 ∷ []) ∷ (130 ∷ 1 ∷ 3 ∷ []) ∷ [],
  placed (contextual 0) 0 (128 ∷ 1 ∷ 1 ∷ []) ∷ placed (contextual 2) 1 (130 ∷ 1 ∷ 3 ∷ []) ∷ [],
  placed (contextual 3) 2 (131 ∷ 1 ∷ 9 ∷ []) ∷ placed (contextual 1) 3 (129 ∷ 1 ∷ 7 ∷ []) ∷ [],
  placed (contextual 0) 0 (128 ∷ 1 ∷ 1 ∷ []) ∷ placed (contextual 1) 3 (129 ∷ 1 ∷ 7 ∷ []) ∷ placed (contextual 2) 1 (130 ∷ 1 ∷ 3 ∷ []) ∷ placed (contextual 3) 2 (131 ∷ 1 ∷ 9 ∷ []) ∷ [],
  refl,
  (_, _, _, _, refl, refl, zero_written, (_, _, _, _, refl, refl, two_written, (refl, refl))),
  (_, _, refl, zero_begins, (_, _, refl, two_begins, refl)),
  (_, _, _, refl, tag_begins Context 3 false (1 ∷ 9 ∷ []) (omega arith), refl, (_, _, _, refl, tag_begins Context 1 false (1 ∷ 7 ∷ []) (omega arith), refl, refl)),
  (
    [],
    _,
    refl,
    (placed (contextual 1) 3 (129 ∷ 1 ∷ 7 ∷ []) ∷ [], _, refl, (placed (contextual 1) 3 (129 ∷ 1 ∷ 7 ∷ []) ∷ [], [], refl, ([], [], refl, refl))),
  ),
  (
    (inl (inr (refl, omega arith)), (inl (inr (refl, omega arith)), (inl (inr (refl, omega arith)), tt))),
    ((inl (inr (refl, omega arith)), (inl (inr (refl, omega arith)), tt)), ((inl (inr (refl, omega arith)), tt), (tt, tt))),
  ),
  short_written 17 true (128 ∷ 1 ∷ 1 ∷ 129 ∷ 1 ∷ 7 ∷ 130 ∷ 1 ∷ 3 ∷ 131 ∷ 1 ∷ 9 ∷ []) (omega arith) (omega arith),
)

falls : (bs : List (List ℕ)) → Each (λ u b. u ≡ numbers b) (numbers (131 ∷ 1 ∷ 9 ∷ []) ∷ numbers (129 ∷ 1 ∷ 7 ∷ []) ∷ []) bs → AreInTagOrder bs → ⊥
falls bs (a, more, e, p, (b, rest, f, q, g)) (tags, begins, order) = go (subst (λ l. Each Begins l tags) (e ∙ ap (λ l. a ∷ l) f) begins)
  where
    go : Each Begins (a ∷ b ∷ rest) tags → ⊥
    go (t, ts, h, first, (s, ss, i, second, others)) =
        let x : 131 ∷ 1 ∷ 9 ∷ [] ≡ a = cc in
        let y : 129 ∷ 1 ∷ 7 ∷ [] ≡ b = cc in
        let z : t ≡ contextual 3 = begins_one a t (contextual 3) first (subst (λ l. Begins l (contextual 3)) x (tag_begins Context 3 false (1 ∷ 9 ∷ []) (omega arith))) in
        let w : s ≡ contextual 1 = begins_one b s (contextual 1) second (subst (λ l. Begins l (contextual 1)) y (tag_begins Context 1 false (1 ∷ 7 ∷ []) (omega arith))) in
        (subst (AreAscending IsTagBelow) (h ∙ ap (λ l. t ∷ l) i) order).0 (subst (λ n. IsTagBelow n t) (sym w) (subst (IsTagBelow (contextual 1)) (sym z) (inr (refl, omega arith))))

falling_not_carried : (rule : Codec) → Carried rule extensible_set (one_three_and ((131 ∷ 1 ∷ 9 ∷ []) ∷ (129 ∷ 1 ∷ 7 ∷ []) ∷ [])) → ⊥
unfolding IsWithinLimits
falling_not_carried rule c = none c.within_limits
  where
    none : IsWithinLimits rule extensible_set 128 (one_three_and ((131 ∷ 1 ∷ 9 ∷ []) ∷ (129 ∷ 1 ∷ 7 ∷ []) ∷ [])) → ⊥
    none (deep, ts, us, tree, m, (each, (bs, octets, order))) =
        let e = set_tree_one true ts us (number (pos 1) ∷ number (pos 3) ∷ []) (numbers (131 ∷ 1 ∷ 9 ∷ []) ∷ numbers (129 ∷ 1 ∷ 7 ∷ []) ∷ []) (one_three_and ((131 ∷ 1 ∷ 9 ∷ []) ∷ (129 ∷ 1 ∷ 7 ∷ []) ∷ [])) tree refl in
        falls bs (subst (λ l. Each (λ u b. u ≡ numbers b) l bs) e.1 octets) order

pub worked : WorkedSortedSets
worked = record {
  components_in_order = put_in_order_carried;
  never_out_of_order = never_out_of_order;
  choice_before = choice_before;
  choice_after = choice_after;
  choice_never_before = choice_never_before;
  choice_in_one_place = choice_in_one_place;
  choice_never_after = choice_never_after;
  unknown_between = unknown_between Der;
  unknown_carried = unknown_carried;
  unknown_falls = unknown_falls;
  no_marker = no_marker;
  unknown_put_in_order = unknown_put_in_order;
  falling_not_carried = falling_not_carried;
}
