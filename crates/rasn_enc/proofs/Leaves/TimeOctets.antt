-- The texts of times are octets.
use Rattle.std.proofs.Common.{◌≡◌, ℕ, ◌+◌, ◌/◌, ◌%◌, ◌<◌, ◌≤◌, ◌==◌, Bool, true, false, cond, List, [], ◌∷◌, ◌++◌, map, refl, pos, negsuc, ℤ, ◌≤ℤ◌, arith}
use Rattle.std.specs.Prelude.{nat_lt, unsigned_abs}
use Rattle.std.specs.Int.{int_rem_euclid}
use Rattle.std.specs.List.{AllByRecursion}
use Rattle.std.proofs.lemmas.Bool.Decides.{nat_tests}
use Rattle.std.proofs.lemmas.Int.{ints}
use Rattle.rasn_types.specs.Calendar.{Moment, IsMoment, Day, IsDay}
use Rattle.rasn_types.specs.TimeSpelling.{two, four}
use Rattle.rasn_types.specs.Time.{digits_of, written_fraction, written_second, within_second, clock_written, long_year, written_year, written_date, written_generalized, written_utc}
use Rattle.rasn_types.specs.Framing.{AreOctets}
use Rattle.rasn_types.proofs.Time.Dates.{month_end}
use Rattle.rasn_types.proofs.Time.Fractions.{digits_small}
use Rattle.rasn_enc.proofs.Buffer.Octets.{joined_octets}

two_octets : (n : ℕ) → n < 100 → AreOctets (two n)
two_octets n h = (omega arith, (omega arith, tt))

four_octets : (n : ℕ) → n < 10000 → AreOctets (four n)
four_octets n h = joined_octets (two (n / 100)) (two (n % 100)) (two_octets (n / 100) (omega arith)) (two_octets (n % 100) (omega arith))

digit_octets : (ds : List ℕ) → AllByRecursion (λ d. d < 10) ds → AreOctets (map (λ d. 48 + d) ds)
digit_octets [] h = tt
digit_octets (d ∷ ds) h = (let k = h.0 in omega arith, digit_octets ds h.1)

fraction_octets : (n : ℕ) → n < 1000000000 → AreOctets (written_fraction n)
fraction_octets n h = go (n == 0)
  where
    go : (b : Bool) → AreOctets (cond b [] (46 ∷ map (λ d. 48 + d) (digits_of 9 n)))
    go true = tt
    go false = (omega arith, digit_octets (digits_of 9 n) (digits_small 9 n h))

long_octets : (n : ℕ) → n < 100000 → AreOctets (long_year n)
long_octets n h = go (nat_lt n 10000) refl
  where
    go : (b : Bool) → nat_lt n 10000 ≡ b → AreOctets (cond b (four n) ((48 + n / 10000) ∷ four (n % 10000)))
    go true e = four_octets n (grind (arith, nat_tests))
    go false e = (omega arith, four_octets (n % 10000) (omega arith))

year_octets : (y : ℤ) → negsuc 99998 ≤ℤ y → y ≤ℤ pos 99999 → AreOctets (written_year y)
year_octets (pos n) h k = go (nat_lt n 10000) refl
  where
    go : (b : Bool) → nat_lt n 10000 ≡ b → AreOctets (cond b (four n) (43 ∷ long_year n))
    go true e = four_octets n (grind (arith, nat_tests))
    go false e = (omega arith, let f : n ≤ 99999 = omega (arith, ints, k) in long_octets n (omega arith))
year_octets (negsuc n) h k = (omega arith, let f : n ≤ 99998 = omega (arith, ints, h) in long_octets (n + 1) (omega arith))

pub date_octets : (d : Day) → IsDay d → AreOctets (written_date d)
unfolding written_date
date_octets d h =
    let e = month_end d.year d.month in
    joined_octets (written_year d.year) (two d.month ++ two d.day) (year_octets d.year h.year_from h.year_to)
    (joined_octets (two d.month) (two d.day) (two_octets d.month (omega (arith, h.month_to))) (two_octets d.day (omega (arith, h.day_to, e))))

second_below : (m : Moment) → IsMoment m → written_second m < 100
second_below m h = let k = h.second in grind (arith, nat_tests)

fraction_below : (m : Moment) → IsMoment m → within_second m < 1000000000
fraction_below m h = let k = h.nanosecond in grind (arith, nat_tests)

clock_octets : (m : Moment) → IsMoment m → AreOctets (clock_written m)
clock_octets m h =
    joined_octets (two m.hour) (two m.minute ++ two (written_second m)) (two_octets m.hour (omega (arith, h.hour)))
    (joined_octets (two m.minute) (two (written_second m)) (two_octets m.minute (omega (arith, h.minute))) (two_octets (written_second m) (second_below m h)))

zone_octets : AreOctets (90 ∷ [])
zone_octets = (omega arith, tt)

pub generalized_octets : (m : Moment) → IsMoment m → AreOctets (written_generalized m)
unfolding written_generalized
generalized_octets m h =
    joined_octets (written_date m.day) (clock_written m ++ (written_fraction (within_second m) ++ 90 ∷ [])) (date_octets m.day h.day)
    (joined_octets (clock_written m) (written_fraction (within_second m) ++ 90 ∷ []) (clock_octets m h)
    (joined_octets (written_fraction (within_second m)) (90 ∷ []) (fraction_octets (within_second m) (fraction_below m h)) zone_octets))

short_year : (y : ℤ) → unsigned_abs (int_rem_euclid y (pos 100)) < 100
short_year (pos n) = omega arith
short_year (negsuc n) = omega arith

pub utc_octets : (m : Moment) → IsMoment m → AreOctets (written_utc m)
unfolding written_utc
utc_octets m h =
    let e = month_end m.day.year m.day.month in
    let d = h.day in
    let y = unsigned_abs (int_rem_euclid m.day.year (pos 100)) in
    joined_octets (two y) (two m.day.month ++ (two m.day.day ++ (clock_written m ++ 90 ∷ []))) (two_octets y (short_year m.day.year))
    (joined_octets (two m.day.month) (two m.day.day ++ (clock_written m ++ 90 ∷ [])) (two_octets m.day.month (omega (arith, d.month_to)))
    (joined_octets (two m.day.day) (clock_written m ++ 90 ∷ []) (two_octets m.day.day (omega (arith, d.day_to, e)))
    (joined_octets (clock_written m) (90 ∷ []) (clock_octets m h) zone_octets)))
