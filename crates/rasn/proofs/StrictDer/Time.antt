-- The texts that DER reads are those that are written.
use Rattle.std.proofs.Common.{◌≡◌, ◌⊎◌, ℕ, suc, ◌+◌, ◌%◌, ◌<◌, ◌≤◌, true, false, ◌==◌, List, ◌++◌, Option, Some, None, refl, sym, ap, ◌∙◌, subst, arith, inl, inr, pos}
use Rattle.std.proofs.lemmas.Bool.{lt-ltb, le-ltb, eqb-true}
use Rattle.std.proofs.lemmas.Bool.Decides.{leb_tells}
use Rattle.std.proofs.Math.Dec.{ltb}
use Rattle.rasn_types.specs.declared.ber.time.text.Clock.{Clock}
use Rattle.rasn_types.specs.declared.ber.time.text.Clock.TheVariants.{Hours, Minutes, Seconds}
use Rattle.rasn_types.specs.declared.ber.time.text.Zone.{Zone}
use Rattle.rasn_types.specs.declared.ber.time.text.Zone.TheVariants.{Utc}
use Rattle.rasn_types.specs.Calendar.{Moment, IsMoment, Day, Stamp}
use Rattle.rasn_types.specs.TimeSpelling.{Spelling, IsFraction, tail_text, two, four, fraction_text, fraction_of, billionths, second_of, nanosecond_of, parts, in_utc}
use Rattle.rasn_types.specs.Time.{DateText, shown, fields_of, century, short_form, long_form, canonical_form, both, written_fraction, written_second, within_second, written_date, written_generalized, written_utc, CanonicalUtc, StrictGeneralized, IsShortFraction, digits_of, has_no_comma, CarriedUtc, CarriedDay}
use Rattle.rasn_types.proofs.Time.Fractions.{positive, parts_below, parts_some, digits_again}
use Rattle.rasn_types.proofs.Time.Spellings.{both_true}
use Rattle.rasn.proofs.Time.Steps.{is_it}

-- second 60 is written of what it means
second_again : (s f : ℕ) → f < 1000000000 → ((s == 60) ≡ false → s < 60) → (m : Moment) → m.second ≡ second_of (Seconds m.minute s) f
    → m.nanosecond ≡ nanosecond_of (Seconds m.minute s) f → (written_second m ≡ s) × (within_second m ≡ f)
second_again s f h below m p q = elim (is_it (s == 60)) [
  | inl e ↦
      let s60 : s ≡ 60 = eqb-true s 60 e in
      let a : m.second ≡ 59 = p ∙ rw e refl in
      let b : m.nanosecond ≡ 1000000000 + f = q ∙ rw e refl in
      let c : ltb m.nanosecond 1000000000 ≡ false = le-ltb _ _ (omega arith) in
      (rw c (omega arith), rw c (omega arith))
  | inr e ↦
      let a : m.second ≡ s = p ∙ rw e refl in
      let b : m.nanosecond ≡ f = q ∙ rw e refl in
      let c : ltb m.nanosecond 1000000000 ≡ true = lt-ltb _ _ (omega arith) in
      (rw c a, rw c b)
]

second_small : (n s f : ℕ) → second_of (Seconds n s) f < 60 → (s == 60) ≡ false → s < 60
second_small n s f h e = subst (λ x. x < 60) (rw e refl) h

century_again : (y : ℕ) → y < 100 → century y % 100 ≡ y
century_again y h = elim (is_it (ltb y 70)) [
  | inl p ↦ rw p (omega arith)
  | inr p ↦ rw p (omega arith)
]

abbrev spelling : ℕ → ℕ → ℕ → Clock → Option (ℕ × List ℕ) → Zone → Spelling
spelling mo d h c f z = record { month = mo; day = d; hour = h; clock = c; fraction = f; zone = z }

abbrev meaning : ℕ → Spelling → Moment
meaning y s = shown (pos y) (fields_of s)

utc_text : (y mo d h m s : ℕ) → y < 100 → IsMoment (meaning (century y) (spelling mo d h (Seconds m s) None Utc))
    → two y ++ tail_text (spelling mo d h (Seconds m s) None Utc) ≡ written_utc (meaning (century y) (spelling mo d h (Seconds m s) None Utc))
unfolding written_utc
utc_text y mo d h m s below i =
    let a = second_again s 0 (omega arith) (second_small m s 0 i.second) (meaning (century y) (spelling mo d h (Seconds m s) None Utc)) refl refl in
    rw (century_again y below, a.0) refl

utc_cases : (y mo d h : ℕ) (c : Clock) (f : Option (ℕ × List ℕ)) (z : Zone) → y < 100 → both short_form canonical_form (fields_of (spelling mo d h c f z)) ≡ true
    → IsMoment (meaning (century y) (spelling mo d h c f z))
    → (in_utc z (meaning (century y) (spelling mo d h c f z)) ≡ meaning (century y) (spelling mo d h c f z))
    × (two y ++ tail_text (spelling mo d h c f z) ≡ written_utc (meaning (century y) (spelling mo d h c f z)))
utc_cases y mo d h (Seconds m s) None Utc below e i = (refl, utc_text y mo d h m s below i)
utc_cases y mo d h c f z below e i =
    let p = both_true (short_form (fields_of (spelling mo d h c f z))) (canonical_form (fields_of (spelling mo d h c f z))) e in
    let a : short_form (fields_of (spelling mo d h c f z)) ≡ true = p.0 in
    let b : canonical_form (fields_of (spelling mo d h c f z)) ≡ true = p.1 in
    absurd (cc)

pub utc_written : (l : List ℕ) (t : Stamp) → CanonicalUtc l t → IsMoment t.moment × (l ≡ written_utc t.moment)
utc_written l t r =
    let s = r.rest in
    let c = utc_cases r.year s.month s.day s.hour s.clock s.fraction s.zone r.below r.allowed r.exists in
    let e : t.moment ≡ meaning (century r.year) s = ap (λ (x : Stamp). x.moment) r.meant ∙ c.0 in
    (subst IsMoment (sym e) r.exists, r.is ∙ (c.1 ∙ ap written_utc (sym e)))

century_between : (y : ℕ) → y < 100 → (1970 ≤ century y) × (century y ≤ 2069)
century_between y h = elim (leb_tells (suc y) 70) [
  | inl p ↦ (rw p.0 (omega arith), rw p.0 (omega arith))
  | inr p ↦ (rw p.0 (omega arith), rw p.0 (omega arith))
]

utc_whole : (y mo d h : ℕ) (c : Clock) (f : Option (ℕ × List ℕ)) (z : Zone) → both short_form canonical_form (fields_of (spelling mo d h c f z)) ≡ true
    → ((meaning y (spelling mo d h c f z)).nanosecond ≡ 0) ⊎ ((meaning y (spelling mo d h c f z)).nanosecond ≡ 1000000000)
utc_whole y mo d h (Seconds m s) None Utc e = elim (is_it (s == 60)) [
  | inl p ↦ inr (rw p refl)
  | inr p ↦ inl (rw p refl)
]
utc_whole y mo d h c f z e =
    let p = both_true (short_form (fields_of (spelling mo d h c f z))) (canonical_form (fields_of (spelling mo d h c f z))) e in
    let a : short_form (fields_of (spelling mo d h c f z)) ≡ true = p.0 in
    let b : canonical_form (fields_of (spelling mo d h c f z)) ≡ true = p.1 in
    absurd (cc)

-- What such a text means is carried.
pub utc_carried : (l : List ℕ) (t : Stamp) → CanonicalUtc l t → CarriedUtc t.moment
utc_carried l t r =
    let s = r.rest in
    let c = utc_cases r.year s.month s.day s.hour s.clock s.fraction s.zone r.below r.allowed r.exists in
    let e : t.moment ≡ meaning (century r.year) s = ap (λ (x : Stamp). x.moment) r.meant ∙ c.0 in
    let b = century_between r.year r.below in
    subst CarriedUtc (sym e) (record {
      year = century r.year;
      same = refl;
      from = b.0;
      to = b.1;
      whole = utc_whole (century r.year) s.month s.day s.hour s.clock s.fraction s.zone r.allowed;
    })

-- a fraction without a comma that is short is that of its number
fraction_written : (f : Option (ℕ × List ℕ)) → has_no_comma (fraction_of f) ≡ true → IsFraction f → IsShortFraction f
    → (billionths (fraction_of f) < 1000000000) × (written_fraction (billionths (fraction_of f)) ≡ fraction_text f)
fraction_written None e i s = (omega arith, refl)
fraction_written (Some f) e i s =
    let n = parts 9 f.1 in
    let p : 0 < n = parts_some 9 f.1 s.0 i.1 s.1 in
    let d : digits_of 9 n ≡ f.1 = digits_again 9 f.1 s.0 i.2 s.1 in
    let k : f.0 ≡ 46 = eqb-true f.0 46 e in
    (parts_below 9 f.1 i.2, rw (positive n p, d, k) refl)

generalized_text : (y mo d h m s : ℕ) (f : Option (ℕ × List ℕ)) → y < 10000 → has_no_comma (fraction_of f) ≡ true → IsFraction f → IsShortFraction f
    → IsMoment (meaning y (spelling mo d h (Seconds m s) f Utc))
    → four y ++ tail_text (spelling mo d h (Seconds m s) f Utc) ≡ written_generalized (meaning y (spelling mo d h (Seconds m s) f Utc))
unfolding written_generalized written_date
generalized_text y mo d h m s f below e fraction short i =
    let n = billionths (fraction_of f) in
    let w = fraction_written f e fraction short in
    let a = second_again s n w.0 (second_small m s n i.second) (meaning y (spelling mo d h (Seconds m s) f Utc)) refl refl in
    rw (lt-ltb y 10000 below, a.0, a.1, w.1) refl

generalized_cases : (y mo d h : ℕ) (c : Clock) (f : Option (ℕ × List ℕ)) (z : Zone) → y < 10000 → both long_form canonical_form (fields_of (spelling mo d h c f z)) ≡ true
    → IsFraction f → IsShortFraction f → IsMoment (meaning y (spelling mo d h c f z))
    → (in_utc z (meaning y (spelling mo d h c f z)) ≡ meaning y (spelling mo d h c f z))
    × (four y ++ tail_text (spelling mo d h c f z) ≡ written_generalized (meaning y (spelling mo d h c f z)))
generalized_cases y mo d h (Seconds m s) f Utc below e fraction short i =
    let p = both_true (has_no_comma (fraction_of f)) true e in
    (refl, generalized_text y mo d h m s f below p.0 fraction short i)
generalized_cases y mo d h Hours f z below e fraction short i = absurd (cc)
generalized_cases y mo d h (Minutes m) f z below e fraction short i = absurd (cc)
generalized_cases y mo d h (Seconds m s) f z below e fraction short i = let p = both_true (has_no_comma (fraction_of f)) false e in let b = p.1 in absurd (cc)

pub generalized_written : (l : List ℕ) (t : Stamp) → StrictGeneralized l t → IsMoment t.moment × (l ≡ written_generalized t.moment)
generalized_written l t w =
    let r = w.is in
    let s = r.rest in
    let c = generalized_cases r.year s.month s.day s.hour s.clock s.fraction s.zone r.below r.allowed r.spelled.fraction w.short r.exists in
    let e : t.moment ≡ meaning r.year s = ap (λ (x : Stamp). x.moment) r.meant ∙ c.0 in
    (subst IsMoment (sym e) r.exists, r.is ∙ (c.1 ∙ ap written_generalized (sym e)))

pub generalized_carried : (l : List ℕ) (t : Stamp) → StrictGeneralized l t → CarriedDay t.moment.day
generalized_carried l t w =
    let r = w.is in
    let s = r.rest in
    let c = generalized_cases r.year s.month s.day s.hour s.clock s.fraction s.zone r.below r.allowed r.spelled.fraction w.short r.exists in
    let e : t.moment ≡ meaning r.year s = ap (λ (x : Stamp). x.moment) r.meant ∙ c.0 in
    subst (λ (m : Moment). CarriedDay m.day) (sym e) (record { year = r.year; same = refl; below = r.below })

pub date_carried : (l : List ℕ) (d : Day) → DateText l d → CarriedDay d
date_carried l d r = record { year = r.year; same = r.same; below = r.below }

pub date_written : (l : List ℕ) (d : Day) → DateText l d → l ≡ written_date d
unfolding written_date
date_written l d r = r.is ∙ rw (r.same, lt-ltb r.year 10000 r.below) refl
