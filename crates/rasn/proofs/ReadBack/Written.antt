-- What is written is read back.
use Rattle.std.proofs.Common.{◌≡◌, ℕ, ◌%◌, ◌<◌, ◌≤◌, ◌⊎◌, true, false, ◌==◌, List, Option, Some, None, refl, sym, ap, ◌∙◌, arith, inl, inr, cond, subst, pos}
use Rattle.std.proofs.lemmas.Bool.Decides.{nat_tests}
use Rattle.std.proofs.lemmas.Bool.{lt-ltb, ltb-true, ltb-false}
use Rattle.std.proofs.Math.Dec.{ltb}
use Rattle.rasn_types.specs.declared.ber.time.text.Clock.TheVariants.{Seconds}
use Rattle.rasn_types.specs.declared.ber.time.text.Zone.TheVariants.{Utc}
use Rattle.rasn_types.specs.Calendar.{Moment, IsMoment, Day, IsDay}
use Rattle.rasn_types.specs.TimeSpelling.{Spelling, IsSpelling, IsFraction, fraction_text, fraction_of, billionths, second_of, nanosecond_of}
use Rattle.rasn_types.specs.Time.{DateText, shown, fields_of, century, has_no_comma, digits_of, written_fraction, written_second, within_second, written_date, written_generalized, written_utc, CarriedDay, CarriedUtc, at_utc, StrictGeneralized, IsShortFraction, CanonicalUtc}
use Rattle.rasn_types.proofs.Time.Fractions.{digits_small, digits_long, digits_end, digits_back, digits_some, test}
use Rattle.rasn_types.proofs.Time.Dates.{month_end}
use Rattle.rasn.proofs.Time.Steps.{is_it}

abbrev fraction_for : ℕ → Option (ℕ × List ℕ)
fraction_for n = cond (n == 0) None (Some (46, digits_of 9 n))

fraction_is : (n : ℕ) → n < 1000000000 → IsFraction (fraction_for n)
fraction_is n h = elim (test n) [
  | inl p ↦ rw p.0 tt
  | inr p ↦ rw p.0 ((inl refl, digits_some n p.1, digits_small 9 n h))
]

fraction_short : (n : ℕ) → n < 1000000000 → IsShortFraction (fraction_for n)
fraction_short n h = elim (test n) [
  | inl p ↦ rw p.0 tt
  | inr p ↦ rw p.0 ((digits_long 9 n, digits_end 9 n h))
]

fraction_back : (n : ℕ) → n < 1000000000 → billionths (fraction_of (fraction_for n)) ≡ n
fraction_back n h = elim (test n) [
  | inl p ↦ rw p.0 (sym p.1)
  | inr p ↦ rw p.0 (digits_back 9 n h)
]

fraction_point : (n : ℕ) → has_no_comma (fraction_of (fraction_for n)) ≡ true
fraction_point n = elim (test n) [
  | inl p ↦ rw p.0 refl
  | inr p ↦ rw p.0 refl
]

fraction_written : (n : ℕ) → written_fraction n ≡ fraction_text (fraction_for n)
fraction_written n = elim (test n) [
  | inl p ↦ rw p.0 refl
  | inr p ↦ rw p.0 refl
]

within : (m : Moment) → IsMoment m → within_second m < 1000000000
within m h = elim (is_it (ltb m.nanosecond 1000000000)) [
  | inl p ↦ rw p (ltb-true _ _ p)
  | inr p ↦ rw p (omega (arith, h.nanosecond))
]

not_sixty : (n : ℕ) → n < 60 → (n == 60) ≡ false
not_sixty n h = grind (arith, nat_tests)

second_below : (m : Moment) → IsMoment m → written_second m < 100
second_below m h = elim (is_it (ltb m.nanosecond 1000000000)) [
  | inl p ↦ rw p (omega (arith, h.second))
  | inr p ↦ rw p (omega (arith, h.second))
]

second_back : (m : Moment) → IsMoment m → second_of (Seconds m.minute (written_second m)) (within_second m) ≡ m.second
second_back m h = elim (is_it (ltb m.nanosecond 1000000000)) [
  | inl p ↦ rw (p, not_sixty m.second h.second) refl
  | inr p ↦
      let s : m.second ≡ 59 = h.leap (ltb-false _ _ p) in
      rw (p, s) refl
]

nanosecond_back : (m : Moment) → IsMoment m → nanosecond_of (Seconds m.minute (written_second m)) (within_second m) ≡ m.nanosecond
nanosecond_back m h = elim (is_it (ltb m.nanosecond 1000000000)) [
  | inl p ↦ rw (p, not_sixty m.second h.second) refl
  | inr p ↦
      let s : m.second ≡ 59 = h.leap (ltb-false _ _ p) in
      let b : 1000000000 ≤ m.nanosecond = ltb-false _ _ p in
      rw (p, s) (omega arith)
]

abbrev spelled : Moment → Option (ℕ × List ℕ) → Spelling
spelled m f = record { month = m.day.month; day = m.day.day; hour = m.hour; clock = Seconds m.minute (written_second m); fraction = f; zone = Utc }

is_spelled : (m : Moment) (f : Option (ℕ × List ℕ)) → IsMoment m → IsFraction f → IsSpelling (spelled m f)
is_spelled m f h g =
    let e = month_end m.day.year m.day.month in
    record {
      month = omega (arith, h.day.month_to);
      day = omega (arith, h.day.day_to, e);
      hour = omega (arith, h.hour);
      clock = (omega (arith, h.minute), second_below m h);
      fraction = g;
      zone = tt;
    }

shown_back : (m : Moment) (f : Option (ℕ × List ℕ)) (y : ℕ) → IsMoment m → m.day.year ≡ pos y → billionths (fraction_of f) ≡ within_second m → shown (pos y) (fields_of (spelled m f)) ≡ m
shown_back m f y h e b =
    rw (b, second_back m h, nanosecond_back m h, ← e) refl

pub generalized_read_back : (m : Moment) → IsMoment m → CarriedDay m.day → StrictGeneralized (written_generalized m) (at_utc m)
unfolding written_generalized written_date
generalized_read_back m h k =
    let n = within_second m in
    let f = fraction_for n in
    let s = spelled m f in
    let y = k.year in
    let b = shown_back m f y h k.same (fraction_back n (within m h)) in
    record {
      is = record {
        year = y;
        rest = s;
        below = k.below;
        spelled = is_spelled m f h (fraction_is n (within m h));
        allowed = rw (fraction_point n) refl;
        is = rw (k.same, lt-ltb y 10000 k.below, fraction_written n) refl;
        exists = subst IsMoment (sym b) h;
        meant = ap at_utc (sym b);
      };
      short = fraction_short n (within m h);
    }

in_century : (y : ℕ) → 1970 ≤ y → y ≤ 2069 → century (y % 100) ≡ y
in_century y from to = elim (is_it (ltb (y % 100) 70)) [
  | inl p ↦ let q : y % 100 < 70 = ltb-true _ _ p in rw p (omega arith)
  | inr p ↦ let q : 70 ≤ y % 100 = ltb-false _ _ p in rw p (omega arith)
]

whole_within : (m : Moment) → (m.nanosecond ≡ 0) ⊎ (m.nanosecond ≡ 1000000000) → 0 ≡ within_second m
whole_within m (inl e) = rw e refl
whole_within m (inr e) = rw e refl

pub utc_read_back : (m : Moment) → IsMoment m → CarriedUtc m → CanonicalUtc (written_utc m) (at_utc m)
unfolding written_utc
utc_read_back m h k =
    let s = spelled m None in
    let y = k.year in
    let from = k.from in
    let to = k.to in
    let w : 0 ≡ within_second m = whole_within m k.whole in
    let e : m.day.year ≡ pos (century (y % 100)) = k.same ∙ ap pos (sym (in_century y from to)) in
    let b = shown_back m None (century (y % 100)) h e w in
    record {
      year = y % 100;
      rest = s;
      below = omega arith;
      spelled = is_spelled m None h tt;
      allowed = refl;
      is = rw k.same refl;
      exists = subst IsMoment (sym b) h;
      meant = ap at_utc (sym b);
    }

pub date_read_back : (d : Day) → IsDay d → CarriedDay d → DateText (written_date d) d
unfolding written_date
date_read_back d h k = record {
  year = k.year;
  below = k.below;
  is = rw (k.same, lt-ltb k.year 10000 k.below) refl;
  same = k.same;
  exists = h;
}
