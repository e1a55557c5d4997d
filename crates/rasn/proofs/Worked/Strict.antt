-- Spellings that DER doesn't read, and open octets, which it reads in any definite spelling.
use Rattle.std.proofs.Common.{◌≡◌, ℕ, inl, inr, List, [], ◌∷◌, true, false, Some, None, refl, ap, subst, arith}
use Rattle.rasn_types.specs.Tags.{Form, HasStrictForm, loose_form, in_universal}
use Rattle.rasn_types.specs.declared.types.codec.Codec.TheVariants.{Ber, Der}
use Rattle.rasn_types.specs.Framing.{AreOctets, Frame, with_length, definite, plain as whole}
use Rattle.rasn_types.specs.Shapes.{numbers, instant, any, generalized_time}
use Rattle.rasn_types.specs.Grammar.{Reads, parts_of}
use Rattle.rasn_types.specs.Bytes.{Bytes, fields_of}
use Rattle.rasn_types.specs.Carried.{IsWithinLimits, Carried}
use Rattle.rasn.specs.Worked.{WorkedStrict, IsReadAs, IsLenient, plain, contextual, long_leap_text, leap, leap_text}
use Rattle.rasn.proofs.ReadBack.Headers.{no_eoc, octets_read, short_written, context_frame}
use Rattle.rasn.proofs.Worked.Lenient.{lenient}
use Rattle.rasn.proofs.StrictDer.Time.{generalized_written}
use Rattle.rasn.proofs.Worked.Octets.{leap_strict}
use Rattle.rasn_types.specs.Calendar.{Moment}
use Rattle.rasn_types.specs.declared.ber.time.text.Clock.TheVariants.{Seconds}
use Rattle.rasn_types.specs.declared.ber.time.text.Zone.TheVariants.{Utc}
use Rattle.rasn_types.specs.TimeSpelling.{Spelling, parts}
use Rattle.rasn_types.specs.Time.{GeneralGeneralized, CarriedDay, at_utc}
use Rattle.rasn.proofs.Worked.StrictLeaves.{high_tag, high_tag_next, long_length, long_octets, built_bool, primitive_prefix, primitive_open, padded_integer, padded_negative, padded_arc, set_bits, trailing_zero}
use Rattle.rasn.proofs.Worked.Fractions.{time_lawful, tenth_digit}
use Rattle.rasn.proofs.Worked.StrictSets.{default_there, default_in_set, set_of_falls, set_out_of_order}

long_spelling : Spelling
long_spelling = record { month = 12; day = 31; hour = 23; clock = Seconds 59 60; fraction = Some (46, 5 ∷ 0 ∷ []); zone = Utc }

long_general : GeneralGeneralized long_leap_text (at_utc leap)
unfolding parts long_spelling
long_general = record {
  year = 2016;
  rest = long_spelling;
  below = omega arith;
  spelled = record { month = omega arith; day = omega arith; hour = omega arith; clock = (omega arith, omega arith); fraction = (inl refl, (λ e. cc), (omega arith, (omega arith, tt))); zone = tt };
  allowed = refl;
  is = refl;
  exists = (generalized_written leap_text (at_utc leap) leap_strict).0;
  meant = refl;
}

leap_carried : Carried Der (plain generalized_time 24) (instant leap)
unfolding Bytes fields_of IsWithinLimits
leap_carried =
    let w = generalized_written leap_text (at_utc leap) leap_strict in
    record {
      octets = 24 ∷ 17 ∷ leap_text;
      is = (tt, (leap_text, (leap, refl, w.0, w.1), inl ((λ z. absurd z), leap_text, (refl, leap_octets), short_written 24 false leap_text (omega arith) (omega arith))));
      within_limits = ((λ m e. subst CarriedDay (day_of m e) (record { year = 2016; same = refl; below = omega arith })), λ l e z. absurd z);
    }
  where
    day_of : (m : Moment) → instant leap ≡ instant m → leap.day ≡ m.day
    day_of m e = let f : leap ≡ m = cc in ap (λ (x : Moment). x.day) f

    leap_octets : AreOctets leap_text
    leap_octets = (omega arith, (omega arith, (omega arith, (omega arith, (omega arith, (omega arith, (omega arith, (omega arith, (omega arith, (omega arith, (omega arith, (omega arith, (omega arith, (omega arith, (omega arith, (omega arith, (omega arith, tt)))))))))))))))))

fraction_ends_in_zero : IsLenient (plain generalized_time 24) (24 ∷ 18 ∷ long_leap_text) (instant leap)
unfolding Reads parts_of leap_carried
fraction_ends_in_zero = lenient (plain generalized_time 24) time_lawful (24 ∷ 18 ∷ long_leap_text)
    (omega arith, (omega arith, (omega arith, (omega arith, (omega arith, (omega arith, (omega arith, (omega arith, (omega arith, (omega arith, (omega arith, (omega arith, (omega arith, (omega arith, (omega arith, (omega arith, (omega arith, (omega arith, (omega arith, (omega arith, tt))))))))))))))))))))
    (instant leap)
    ((long_leap_text, octets_read Ber 24 long_leap_text [] 128 (omega arith) (omega arith) (omega arith), (at_utc leap, refl, long_general)), tt) leap_carried
    (λ e. let f : ◌≡◌ {A = List ℕ} (17 ∷ leap_text) (18 ∷ long_leap_text) = cc in let g : ◌≡◌ {A = ℕ} 17 18 = cc in omega arith)

-- Open octets, and what a tagged open type holds, keep any definite spelling.
lenient_frame : (spelling : Form) → (HasStrictForm spelling → ⊥) → Frame spelling (2 ∷ 129 ∷ 1 ∷ 5 ∷ []) (in_universal 2) false [] (definite (5 ∷ []))
lenient_frame spelling lax =
    with_length (2 ∷ []) (129 ∷ 1 ∷ []) (5 ∷ []) (record { spells = record { low = 2; leading = refl; number = inl (omega arith, refl, refl) }; is_one = no_eoc 2 (omega arith) })
    (inr (refl, omega arith, omega arith, refl, omega arith)) (λ s. absurd (lax s)) refl

lenient_open : IsReadAs Der (any None) (2 ∷ 129 ∷ 1 ∷ 5 ∷ []) (numbers (2 ∷ 129 ∷ 1 ∷ 5 ∷ [])) []
unfolding Reads parts_of
lenient_open = (2 ∷ 129 ∷ 1 ∷ 5 ∷ [], refl, whole (in_universal 2) false (5 ∷ []) (lenient_frame loose_form (λ s. s)), refl)

lenient_inside : IsReadAs Der (any (Some (contextual 0))) (160 ∷ 4 ∷ 2 ∷ 129 ∷ 1 ∷ 5 ∷ []) (numbers (2 ∷ 129 ∷ 1 ∷ 5 ∷ [])) []
unfolding Reads parts_of
lenient_inside = (true, 2 ∷ 129 ∷ 1 ∷ 5 ∷ [], refl, (λ z. refl), inl (context_frame 0 true (2 ∷ 129 ∷ 1 ∷ 5 ∷ []) [] (omega arith) (omega arith)))

pub worked : WorkedStrict
worked = record {
  high_tag = high_tag;
  high_tag_next = high_tag_next;
  long_length = long_length;
  long_octets = long_octets;
  built_bool = built_bool;
  primitive_prefix = primitive_prefix;
  primitive_open = primitive_open;
  padded_integer = padded_integer;
  padded_negative = padded_negative;
  padded_arc = padded_arc;
  set_bits = set_bits;
  trailing_zero = trailing_zero;
  default_there = default_there;
  default_in_set = default_in_set;
  set_of_falls = set_of_falls;
  set_out_of_order = set_out_of_order;
  tenth_digit = tenth_digit;
  lenient_open = lenient_open;
  lenient_inside = lenient_inside;
  fraction_ends_in_zero = fraction_ends_in_zero;
}
