-- Values with their octets: which are carried.
use Rattle.std.proofs.Common.{◌≡◌, ℕ, ◌<◌, ◌^◌, inl, inr, List, [], ◌∷◌, length, min, ◌/◌, ◌-◌, ◌*◌, ◌+◌, Bool, true, false, pos, negsuc, rules, None, refl, sym, subst, arith}
use Rattle.rasn_types.specs.Tags.{in_universal, tag_bit, rank}
use Rattle.rasn_types.specs.declared.types.codec.Codec.{Codec}
use Rattle.rasn_types.specs.declared.types.codec.Codec.TheVariants.{Der}
use Rattle.rasn_types.specs.declared.types.tag.Class.{Class}
use Rattle.rasn_types.specs.declared.types.tag.Class.TheVariants.{Universal, Context}
use Rattle.rasn_types.specs.Framing.{AreOctets, Spells128}
use Rattle.rasn_types.specs.Calendar.{Day, Moment}
use Rattle.rasn_types.specs.Time.{CarriedDay, CarriedUtc, written_utc, written_generalized, written_date}
use Rattle.rasn_types.specs.Shapes.{Tree, number, bits, numbers, instant, on_day, items, chosen, absent, integer, every, null, object_identifier, bit_string, named_bits, octet_string, utc_time, generalized_time, date, Interval, IsIn, Shape, leaf, prefix, list}
use Rattle.rasn_types.specs.Trees.{unconstrained, signed_range}
use Rattle.rasn_types.specs.Contents.{Arcs, ShortArcs, IsShortest128, signed, joined_lists}
use Rattle.rasn_types.specs.Bytes.{DefiniteForm, Bytes, fields_of}
use Rattle.rasn_types.specs.Carried.{IsWithinLimits}
use Rattle.rasn.specs.WorkedShapes.{plain, contextual, perhaps_bool, validity}
use Rattle.rasn.specs.Worked.{IsCarriedAs}
use Rattle.rasn.specs.WorkedValues.{WorkedValues, on, valid, valid_octets}
use Rattle.rasn.proofs.ReadBack.Taken.{parts_in, none_taken}
use Rattle.rasn.proofs.ReadBack.Headers.{short_written, tag_written}

pub bytes_of : (rule : Codec) (s : Shape) (t : Tree) (b : List ℕ) → IsCarriedAs rule s t b → Bytes rule s t b
bytes_of rule s t b (c, e) = subst (Bytes rule s t) e c.is

-- An integer of one octet, under any tag of one.
pub integer_written : (rule : Codec) (c : Class) (n : ℕ) (range : Interval) (o : ℕ) → n < 31 → o < 128 → tag_bit (record { class = c; value = n }) ≡ false → IsIn range (signed (o ∷ []))
    → Bytes rule (leaf (integer range) (record { class = c; value = n }) unconstrained) (number (signed (o ∷ []))) ((64 * rank c + (32 * 0 + n)) ∷ 1 ∷ o ∷ [])
unfolding Bytes fields_of
integer_written rule c n range o h k e within = (
  tt,
  (
    o ∷ [],
    record { is = (refl, (λ e. cc), within); octets = (omega arith, tt); shortest = tt },
    subst (λ z. DefiniteForm (record { class = c; value = n }) z (o ∷ []) ((64 * rank c + (32 * 0 + n)) ∷ 1 ∷ o ∷ [])) (sym e) (tag_written c n false (o ∷ []) h (omega arith)),
  ),
)

pub octets_written : (rule : Codec) (l : List ℕ) → AreOctets l → length l < 128 → Bytes rule (plain octet_string 4) (numbers l) (4 ∷ length l ∷ l)
unfolding Bytes fields_of
octets_written rule l o h = (tt, (l, refl, inl ((λ c. omega arith), l, (refl, o), short_written 4 false l (omega arith) h)))

-- Subidentifiers, each in its fewest octets.
abbrev pub AreArcs : List (List ℕ) → List ℕ → Type 0
AreArcs [] ns = ns ≡ []
AreArcs (p ∷ ps) ns = (n : ℕ) × (ms : List ℕ) × (ns ≡ n ∷ ms) × Spells128 p n × IsShortest128 p × AreArcs ps ms

arcs_of : (ps : List (List ℕ)) (ns : List ℕ) → AreArcs ps ns → Arcs (joined_lists ps) ns
arcs_of [] ns e = subst (Arcs []) (sym e) refl
arcs_of (p ∷ ps) ns (n, ms, e, spells, short, more) = subst (Arcs (joined_lists (p ∷ ps))) (sym e) (p, joined_lists ps, spells, refl, arcs_of ps ms more)

short_arcs_of : (ps : List (List ℕ)) (ns : List ℕ) → AreArcs ps ns → ShortArcs (joined_lists ps) ns
short_arcs_of [] ns e = subst (ShortArcs []) (sym e) refl
short_arcs_of (p ∷ ps) ns (n, ms, e, spells, short, more) = subst (ShortArcs (joined_lists (p ∷ ps))) (sym e) (p, joined_lists ps, spells, short, refl, short_arcs_of ps ms more)

pub one_arc : (n : ℕ) → n < 128 → Spells128 (n ∷ []) n
one_arc n h = record { chain = inl (h, refl); is = omega arith; below = omega arith }

-- The first subidentifier, s, holds the arcs a and b.
pub identifier_written : (rule : Codec) (ps : List (List ℕ)) (s : ℕ) (ns : List ℕ) → AreArcs ps (s ∷ ns) → AreOctets (joined_lists ps) → length (joined_lists ps) < 128
    → Bytes rule (plain object_identifier 6) (numbers (min 2 (s / 40) ∷ (s - 40 * min 2 (s / 40)) ∷ ns)) (6 ∷ length (joined_lists ps) ∷ joined_lists ps)
unfolding Bytes fields_of
identifier_written rule ps s ns h o short = (
  tt,
  (
    joined_lists ps,
    record { is = (_, refl, (s, ns, arcs_of ps (s ∷ ns) h, refl)); octets = o; shortest = (s ∷ ns, short_arcs_of ps (s ∷ ns) h) },
    short_written 6 false (joined_lists ps) (omega arith) short,
  ),
)

far_below : IsCarriedAs Der (plain (integer (signed_range 32)) 2) (number (negsuc 33023)) (2 ∷ 3 ∷ 255 ∷ 127 ∷ 0 ∷ [])
unfolding Bytes fields_of IsWithinLimits
far_below = (
  record {
    octets = 2 ∷ 3 ∷ 255 ∷ 127 ∷ 0 ∷ [];
    is = (
      tt,
      (
        255 ∷ 127 ∷ 0 ∷ [],
        record { is = (refl, (λ e. cc), (search rules, search rules)); octets = (omega arith, (omega arith, (omega arith, tt))); shortest = λ r. elim r [ inl h ↦ omega (arith, h.0) | inr h ↦ omega (arith, h.1) ] },
        short_written 2 false (255 ∷ 127 ∷ 0 ∷ []) (omega arith) (omega arith),
      ),
    );
    within_limits = tt;
  },
  refl,
)

nothing : IsCarriedAs Der (plain null 5) (number (pos 0)) (5 ∷ 0 ∷ [])
unfolding Bytes fields_of IsWithinLimits
nothing = (record { octets = 5 ∷ 0 ∷ []; is = (tt, ([], record { is = (refl, refl); octets = tt; shortest = tt }, short_written 5 false [] (omega arith) (omega arith))); within_limits = tt }, refl)

three_arcs : IsCarriedAs Der (plain object_identifier 6) (numbers (2 ∷ 999 ∷ 1 ∷ [])) (6 ∷ 3 ∷ 136 ∷ 55 ∷ 1 ∷ [])
unfolding IsWithinLimits
three_arcs = (
  record {
    octets = 6 ∷ 3 ∷ 136 ∷ 55 ∷ 1 ∷ [];
    is = identifier_written Der ((136 ∷ 55 ∷ []) ∷ (1 ∷ []) ∷ []) 1079 (1 ∷ [])
        (1079, 1 ∷ [], refl, record { chain = inr (omega arith, inl (omega arith, refl)); is = refl; below = omega arith }, (λ e. omega arith), (1, [], refl, one_arc 1 (omega arith), (λ e. omega arith), refl))
        (omega arith, (omega arith, (omega arith, tt))) (omega arith);
    within_limits = tt;
  },
  refl,
)

eleven : List Bool
eleven = true ∷ true ∷ false ∷ true ∷ false ∷ true ∷ false ∷ true ∷ true ∷ false ∷ true ∷ []

eleven_bits : IsCarriedAs Der (plain bit_string 3) (bits (true ∷ true ∷ false ∷ true ∷ false ∷ true ∷ false ∷ true ∷ true ∷ false ∷ true ∷ [])) (3 ∷ 3 ∷ 5 ∷ 213 ∷ 160 ∷ [])
unfolding Bytes fields_of IsWithinLimits eleven
eleven_bits = (
  record {
    octets = 3 ∷ 3 ∷ 5 ∷ 213 ∷ 160 ∷ [];
    is = (
      tt,
      (
        eleven,
        refl,
        inl (
          (λ z. absurd z),
          5 ∷ 213 ∷ 160 ∷ [],
          record {
            is = record { octets = 213 ∷ 160 ∷ []; unused = false ∷ false ∷ false ∷ false ∷ false ∷ []; is = refl; few = omega arith; all = refl };
            zeros = (refl, (refl, (refl, (refl, (refl, tt)))));
            octets = (omega arith, (omega arith, (omega arith, tt)));
          },
          short_written 3 false (5 ∷ 213 ∷ 160 ∷ []) (omega arith) (omega arith),
        ),
      ),
    );
    within_limits = λ bs e. (few bs e, λ z. absurd z);
  },
  refl,
)
  where
    few : (bs : List Bool) → bits eleven ≡ bits bs → length bs < 2 ^ 64
    few bs e = let f : length eleven ≡ length bs = cc in omega arith

first_name : IsCarriedAs Der (plain named_bits 3) (bits (true ∷ [])) (3 ∷ 2 ∷ 7 ∷ 128 ∷ [])
unfolding Bytes fields_of IsWithinLimits
first_name = (
  record {
    octets = 3 ∷ 2 ∷ 7 ∷ 128 ∷ [];
    is = (
      (0, tt),
      (
        true ∷ [],
        refl,
        refl,
        inl (
          (λ z. absurd z),
          7 ∷ 128 ∷ [],
          record {
            is = record { octets = 128 ∷ []; unused = false ∷ false ∷ false ∷ false ∷ false ∷ false ∷ false ∷ []; is = refl; few = omega arith; all = refl };
            zeros = (refl, (refl, (refl, (refl, (refl, (refl, (refl, tt)))))));
            octets = (omega arith, (omega arith, tt));
          },
          short_written 3 false (7 ∷ 128 ∷ []) (omega arith) (omega arith),
        ),
      ),
    );
    within_limits = λ bs e. (few bs e, λ z. absurd z);
  },
  refl,
)
  where
    few : (bs : List Bool) → bits (true ∷ []) ≡ bits bs → length bs < 2 ^ 64
    few bs e = let f : 1 ≡ length bs = cc in omega arith

day_of : (d e : Day) → on_day d ≡ on_day e → d ≡ e
day_of d e p = cc

moment_of : (m n : Moment) → instant m ≡ instant n → m ≡ n
moment_of m n e = cc

last_day : IsCarriedAs Der (plain date 31) (on_day (on 2012 12 21)) (31 ∷ 31 ∷ 8 ∷ 50 ∷ 48 ∷ 49 ∷ 50 ∷ 49 ∷ 50 ∷ 50 ∷ 49 ∷ [])
unfolding Bytes fields_of IsWithinLimits written_date
last_day = (
  record {
    octets = 31 ∷ 31 ∷ 8 ∷ 50 ∷ 48 ∷ 49 ∷ 50 ∷ 49 ∷ 50 ∷ 50 ∷ 49 ∷ [];
    is = (
      tt,
      (
        50 ∷ 48 ∷ 49 ∷ 50 ∷ 49 ∷ 50 ∷ 50 ∷ 49 ∷ [],
        (
          on 2012 12 21,
          refl,
          record { year_from = search rules; year_to = search rules; month_from = omega arith; month_to = omega arith; day_from = omega arith; day_to = omega arith },
          refl,
        ),
        inl ((λ z. absurd z), 50 ∷ 48 ∷ 49 ∷ 50 ∷ 49 ∷ 50 ∷ 50 ∷ 49 ∷ [], (refl, (omega arith, (omega arith, (omega arith, (omega arith, (omega arith, (omega arith, (omega arith, (omega arith, tt))))))))), high_written),
      ),
    );
    within_limits = ((λ d e. subst CarriedDay (day_of (on 2012 12 21) d e) (record { year = 2012; same = refl; below = omega arith })), λ l e z. absurd z);
  },
  refl,
)
  where
    high_written : DefiniteForm (in_universal 31) false (50 ∷ 48 ∷ 49 ∷ 50 ∷ 49 ∷ 50 ∷ 50 ∷ 49 ∷ []) (31 ∷ 31 ∷ 8 ∷ 50 ∷ 48 ∷ 49 ∷ 50 ∷ 49 ∷ 50 ∷ 50 ∷ 49 ∷ [])
    high_written = record {
      id = 31 ∷ 31 ∷ [];
      len = 8 ∷ [];
      id_spells = record { low = 31; leading = refl; number = inr (refl, one_arc 31 (omega arith)) };
      id_shortest = (omega arith, λ e. omega arith);
      id_octets = (omega arith, (omega arith, tt));
      len_spells = inl (omega arith, refl, refl);
      len_shortest = tt;
      len_octets = (omega arith, tt);
      is = refl;
    }

no_bool : IsCarriedAs Der perhaps_bool absent []
unfolding Bytes fields_of IsWithinLimits
no_bool = (record { octets = []; is = inl (refl, refl); within_limits = inl refl }, refl)

from : Moment
from = record { day = on 2018 1 22; hour = 13; minute = 29; second = 0; nanosecond = 0 }

until : Moment
until = record { day = on 2050 1 1; hour = 0; minute = 0; second = 0; nanosecond = 0 }

from_written : Bytes Der (plain utc_time 23) (instant from) (23 ∷ 13 ∷ 49 ∷ 56 ∷ 48 ∷ 49 ∷ 50 ∷ 50 ∷ 49 ∷ 51 ∷ 50 ∷ 57 ∷ 48 ∷ 48 ∷ 90 ∷ [])
unfolding Bytes fields_of from written_utc
from_written = (
  tt,
  (
    49 ∷ 56 ∷ 48 ∷ 49 ∷ 50 ∷ 50 ∷ 49 ∷ 51 ∷ 50 ∷ 57 ∷ 48 ∷ 48 ∷ 90 ∷ [],
    (
      from,
      refl,
      record {
        day = record { year_from = search rules; year_to = search rules; month_from = omega arith; month_to = omega arith; day_from = omega arith; day_to = omega arith };
        hour = omega arith;
        minute = omega arith;
        second = omega arith;
        nanosecond = omega arith;
        leap = λ h. omega arith;
      },
      refl,
    ),
    inl ((λ z. absurd z), 49 ∷ 56 ∷ 48 ∷ 49 ∷ 50 ∷ 50 ∷ 49 ∷ 51 ∷ 50 ∷ 57 ∷ 48 ∷ 48 ∷ 90 ∷ [], (refl, (omega arith, (omega arith, (omega arith, (omega arith, (omega arith, (omega arith, (omega arith, (omega arith, (omega arith, (omega arith, (omega arith, (omega arith, (omega arith, tt)))))))))))))), short_written 23 false (49 ∷ 56 ∷ 48 ∷ 49 ∷ 50 ∷ 50 ∷ 49 ∷ 51 ∷ 50 ∷ 57 ∷ 48 ∷ 48 ∷ 90 ∷ []) (omega arith) (omega arith)),
  ),
)

until_written : Bytes Der (plain generalized_time 24) (instant until) (24 ∷ 15 ∷ 50 ∷ 48 ∷ 53 ∷ 48 ∷ 48 ∷ 49 ∷ 48 ∷ 49 ∷ 48 ∷ 48 ∷ 48 ∷ 48 ∷ 48 ∷ 48 ∷ 90 ∷ [])
unfolding Bytes fields_of until written_generalized written_date
until_written = (
  tt,
  (
    50 ∷ 48 ∷ 53 ∷ 48 ∷ 48 ∷ 49 ∷ 48 ∷ 49 ∷ 48 ∷ 48 ∷ 48 ∷ 48 ∷ 48 ∷ 48 ∷ 90 ∷ [],
    (
      until,
      refl,
      record {
        day = record { year_from = search rules; year_to = search rules; month_from = omega arith; month_to = omega arith; day_from = omega arith; day_to = omega arith };
        hour = omega arith;
        minute = omega arith;
        second = omega arith;
        nanosecond = omega arith;
        leap = λ h. omega arith;
      },
      refl,
    ),
    inl ((λ z. absurd z), 50 ∷ 48 ∷ 53 ∷ 48 ∷ 48 ∷ 49 ∷ 48 ∷ 49 ∷ 48 ∷ 48 ∷ 48 ∷ 48 ∷ 48 ∷ 48 ∷ 90 ∷ [], (refl, (omega arith, (omega arith, (omega arith, (omega arith, (omega arith, (omega arith, (omega arith, (omega arith, (omega arith, (omega arith, (omega arith, (omega arith, (omega arith, (omega arith, (omega arith, tt)))))))))))))))), short_written 24 false (50 ∷ 48 ∷ 53 ∷ 48 ∷ 48 ∷ 49 ∷ 48 ∷ 49 ∷ 48 ∷ 48 ∷ 48 ∷ 48 ∷ 48 ∷ 48 ∷ 90 ∷ []) (omega arith) (omega arith)),
  ),
)

chosen_times : IsCarriedAs Der validity valid valid_octets
unfolding Bytes fields_of IsWithinLimits from until
chosen_times = (
  record {
    octets = valid_octets;
    is = (
      chosen 0 (instant from) ∷ chosen 1 (instant until) ∷ [],
      (23 ∷ 13 ∷ 49 ∷ 56 ∷ 48 ∷ 49 ∷ 50 ∷ 50 ∷ 49 ∷ 51 ∷ 50 ∷ 57 ∷ 48 ∷ 48 ∷ 90 ∷ []) ∷ (24 ∷ 15 ∷ 50 ∷ 48 ∷ 53 ∷ 48 ∷ 48 ∷ 49 ∷ 48 ∷ 49 ∷ 48 ∷ 48 ∷ 48 ∷ 48 ∷ 48 ∷ 48 ∷ 90 ∷ []) ∷ [],
      refl,
      (
        chosen 0 (instant from),
        chosen 1 (instant until) ∷ [],
        23 ∷ 13 ∷ 49 ∷ 56 ∷ 48 ∷ 49 ∷ 50 ∷ 50 ∷ 49 ∷ 51 ∷ 50 ∷ 57 ∷ 48 ∷ 48 ∷ 90 ∷ [],
        (24 ∷ 15 ∷ 50 ∷ 48 ∷ 53 ∷ 48 ∷ 48 ∷ 49 ∷ 48 ∷ 49 ∷ 48 ∷ 48 ∷ 48 ∷ 48 ∷ 48 ∷ 48 ∷ 90 ∷ []) ∷ [],
        refl,
        refl,
        inl (instant from, refl, from_written),
        (chosen 1 (instant until), [], 24 ∷ 15 ∷ 50 ∷ 48 ∷ 53 ∷ 48 ∷ 48 ∷ 49 ∷ 48 ∷ 49 ∷ 48 ∷ 48 ∷ 48 ∷ 48 ∷ 48 ∷ 48 ∷ 90 ∷ [], [], refl, refl, inr (inl (instant until, refl, until_written)), (refl, refl)),
      ),
      short_written 16 true (23 ∷ 13 ∷ 49 ∷ 56 ∷ 48 ∷ 49 ∷ 50 ∷ 50 ∷ 49 ∷ 51 ∷ 50 ∷ 57 ∷ 48 ∷ 48 ∷ 90 ∷ 24 ∷ 15 ∷ 50 ∷ 48 ∷ 53 ∷ 48 ∷ 48 ∷ 49 ∷ 48 ∷ 49 ∷ 48 ∷ 48 ∷ 48 ∷ 48 ∷ 48 ∷ 48 ∷ 90 ∷ []) (omega arith) (omega arith),
    );
    within_limits = (
      omega arith,
      chosen 0 (instant from) ∷ chosen 1 (instant until) ∷ [],
      refl,
      (
        chosen 0 (instant from),
        chosen 1 (instant until) ∷ [],
        refl,
        inl (
          instant from,
          refl,
          ((λ m e. subst CarriedUtc (moment_of from m e) (record { year = 2018; same = refl; from = omega arith; to = omega arith; whole = inl refl })), λ l e z. absurd z),
        ),
        (
          chosen 1 (instant until),
          [],
          refl,
          inr (inl (
            instant until,
            refl,
            ((λ m e. subst (λ (x : Moment). CarriedDay x.day) (moment_of until m e) (record { year = 2050; same = refl; below = omega arith })), λ l e z. absurd z),
          )),
          refl,
        ),
      ),
      none_taken Der (parts_in validity) (chosen 0 (instant from) ∷ chosen 1 (instant until) ∷ []) refl,
    );
  },
  refl,
)

pub five_in_prefix : IsCarriedAs Der (prefix (contextual 0) (plain (integer every) 2)) (number (pos 5)) (160 ∷ 3 ∷ 2 ∷ 1 ∷ 5 ∷ [])
unfolding Bytes fields_of IsWithinLimits
five_in_prefix = (
  record {
    octets = 160 ∷ 3 ∷ 2 ∷ 1 ∷ 5 ∷ [];
    is = (2 ∷ 1 ∷ 5 ∷ [], integer_written Der Universal 2 every 5 (omega arith) (omega arith) refl tt, tag_written Context 0 true (2 ∷ 1 ∷ 5 ∷ []) (omega arith) (omega arith));
    within_limits = (omega arith, tt);
  },
  refl,
)

pub list_of_nine : IsCarriedAs Der (list (in_universal 16) (plain (integer every) 2) None) (items (number (pos 9) ∷ [])) (48 ∷ 3 ∷ 2 ∷ 1 ∷ 9 ∷ [])
unfolding Bytes fields_of IsWithinLimits
list_of_nine = (
  record {
    octets = 48 ∷ 3 ∷ 2 ∷ 1 ∷ 9 ∷ [];
    is = (
      number (pos 9) ∷ [],
      (2 ∷ 1 ∷ 9 ∷ []) ∷ [],
      refl,
      tt,
      (2 ∷ 1 ∷ 9 ∷ [], [], refl, integer_written Der Universal 2 every 9 (omega arith) (omega arith) refl tt, refl),
      short_written 16 true (2 ∷ 1 ∷ 9 ∷ []) (omega arith) (omega arith),
    );
    within_limits = (omega arith, number (pos 9) ∷ [], refl, (tt, tt));
  },
  refl,
)

pub worked : WorkedValues
worked = record {
  far_below = far_below;
  nothing = nothing;
  three_arcs = three_arcs;
  eleven_bits = eleven_bits;
  first_name = first_name;
  last_day = last_day;
  no_bool = no_bool;
  chosen_times = chosen_times;
  five_in_prefix = five_in_prefix;
  list_of_nine = list_of_nine;
}
