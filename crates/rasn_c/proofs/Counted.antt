-- Days are counted one by one.
use Rattle.std.proofs.Common.{ℕ, zero, suc, ℤ, pos, negsuc, ◌≡◌, ◌+◌, ◌-◌, ◌*◌, ◌/◌, ◌%◌, ◌<◌, ◌≤◌, ◌+ℤ◌, ◌≤ℤ◌, Bool, true, false, refl, sym, ap, ◌∙◌, subst, arith}
use Rattle.std.specs.Prelude.{◌&&◌, ◌||◌, ◌==◌, not, if◌then◌else◌, nat_lt}
use Rattle.std.proofs.lemmas.Int.{ints}
use Rattle.rasn_types.specs.Calendar.{Day, IsDay, is_leap, days_of_month, next_day}
use Rattle.rasn_c.specs.Days.{year_of_era, leap_years_before, common_days_before, leap_day, day_number, AreCounted}

-- ---- years

era_next : (y : ℤ) → negsuc 99998 ≤ℤ y → year_of_era (y +ℤ pos 1) ≡ year_of_era y + 1
era_next y h = omega (arith, ints, h)

before_zero : (k : ℕ) → negsuc 99998 ≤ℤ negsuc k → year_of_era (negsuc k) + suc k ≡ 100000
before_zero k h = omega (arith, ints, h)

-- ---- leap years

abbrev one : Bool → ℕ
one true = 1
one false = 0

four : (n : ℕ) → (n + 1 + 3) / 4 ≡ (n + 3) / 4 + one (n % 4 == 0)
four n = grind arith

hundred : (n : ℕ) → (n + 1 + 99) / 100 ≡ (n + 99) / 100 + one (n % 100 == 0)
hundred n = grind arith

four_hundred : (n : ℕ) → (n + 1 + 399) / 400 ≡ (n + 399) / 400 + one (n % 400 == 0)
four_hundred n = grind arith

in_four : (n : ℕ) → (n % 100 == 0) ≡ true → (n % 4 == 0) ≡ true
in_four n h = grind arith

in_hundred : (n : ℕ) → (n % 400 == 0) ≡ true → (n % 100 == 0) ≡ true
in_hundred n h = grind arith

together : (a b c : Bool) (w x y v u t : ℕ) → v ≡ w + one a → u ≡ x + one b → t ≡ y + one c → (b ≡ true → a ≡ true) → (c ≡ true → b ≡ true) → x ≤ w → (v - u) + t ≡ ((w - x) + y) + one (a && (not b || c))
together true true true w x y v u t e f g i j l = omega arith
together true true false w x y v u t e f g i j l = omega arith
together true false true w x y v u t e f g i j l = grind arith
together true false false w x y v u t e f g i j l = omega arith
together false true true w x y v u t e f g i j l = grind arith
together false true false w x y v u t e f g i j l = grind arith
together false false true w x y v u t e f g i j l = grind arith
together false false false w x y v u t e f g i j l = omega arith

abbrev leap_of : ℕ → Bool
leap_of n = n % 4 == 0 && (not (n % 100 == 0) || n % 400 == 0)

leaps_next : (n : ℕ) → leap_years_before (n + 1) ≡ leap_years_before n + one (leap_of n)
leaps_next n = together (n % 4 == 0) (n % 100 == 0) (n % 400 == 0) ((n + 3) / 4) ((n + 99) / 100) ((n + 399) / 400) _ _ _ (four n) (hundred n) (four_hundred n) (in_four n) (in_hundred n) (omega arith)

same_leap : (n m : ℕ) → (n + m ≡ 100000) → leap_of n ≡ leap_of m
same_leap n m h = grind arith

era_leap : (y : ℤ) → negsuc 99998 ≤ℤ y → leap_of (year_of_era y) ≡ is_leap y
era_leap (pos k) h = grind arith
era_leap (negsuc k) h = same_leap (year_of_era (negsuc k)) (suc k) (before_zero k h)

-- ---- months

month_next : (b : Bool) (m : ℕ) → 1 ≤ m → m < 12 → common_days_before (m + 1) + leap_day b (m + 1) ≡ common_days_before m + leap_day b m + (if m == 2 then (if b then 29 else 28) else if m == 4 || m == 6 || m == 9 || m == 11 then 30 else 31)
month_next b zero l h = absurd (omega (arith, l))
month_next true (suc zero) l h = refl
month_next false (suc zero) l h = refl
month_next true (suc (suc zero)) l h = refl
month_next false (suc (suc zero)) l h = refl
month_next true (suc (suc (suc zero))) l h = refl
month_next false (suc (suc (suc zero))) l h = refl
month_next true (suc (suc (suc (suc zero)))) l h = refl
month_next false (suc (suc (suc (suc zero)))) l h = refl
month_next true (suc (suc (suc (suc (suc zero))))) l h = refl
month_next false (suc (suc (suc (suc (suc zero))))) l h = refl
month_next true (suc (suc (suc (suc (suc (suc zero)))))) l h = refl
month_next false (suc (suc (suc (suc (suc (suc zero)))))) l h = refl
month_next true (suc (suc (suc (suc (suc (suc (suc zero))))))) l h = refl
month_next false (suc (suc (suc (suc (suc (suc (suc zero))))))) l h = refl
month_next true (suc (suc (suc (suc (suc (suc (suc (suc zero)))))))) l h = refl
month_next false (suc (suc (suc (suc (suc (suc (suc (suc zero)))))))) l h = refl
month_next true (suc (suc (suc (suc (suc (suc (suc (suc (suc zero))))))))) l h = refl
month_next false (suc (suc (suc (suc (suc (suc (suc (suc (suc zero))))))))) l h = refl
month_next true (suc (suc (suc (suc (suc (suc (suc (suc (suc (suc zero)))))))))) l h = refl
month_next false (suc (suc (suc (suc (suc (suc (suc (suc (suc (suc zero)))))))))) l h = refl
month_next true (suc (suc (suc (suc (suc (suc (suc (suc (suc (suc (suc zero))))))))))) l h = refl
month_next false (suc (suc (suc (suc (suc (suc (suc (suc (suc (suc (suc zero))))))))))) l h = refl
month_next b (suc (suc (suc (suc (suc (suc (suc (suc (suc (suc (suc (suc k)))))))))))) l h = absurd (omega (arith, h))

-- ---- days

no_leap_day : (b : Bool) → leap_day b 1 ≡ 0
no_leap_day true = refl
no_leap_day false = refl

whole_year : (b : Bool) → leap_day b 12 ≡ one b
whole_year true = refl
whole_year false = refl

year_sum : (year n leaps more had c d b k : ℕ) → year ≡ n + 1 → leaps ≡ more → more ≡ had + b → c ≡ 0 → d ≡ b → k ≡ 31 → 365 * year + leaps + (0 + c) + 1 - 1 ≡ 365 * n + had + (334 + d) + k - 1 + 1
year_sum year n leaps more had c d b k e f g h i j = omega arith

new_year : (y : ℤ) (k : ℕ) → negsuc 99998 ≤ℤ y → k ≡ 31 → day_number (record { year = y +ℤ pos 1; month = 1; day = 1 }) ≡ day_number (record { year = y; month = 12; day = k }) + 1
new_year y k h e = year_sum (year_of_era (y +ℤ pos 1)) (year_of_era y) (leap_years_before (year_of_era (y +ℤ pos 1))) (leap_years_before (year_of_era y + 1)) (leap_years_before (year_of_era y)) (leap_day (is_leap (y +ℤ pos 1)) 1) (leap_day (is_leap y) 12) (one (leap_of (year_of_era y))) k
    (era_next y h) (ap leap_years_before (era_next y h)) (leaps_next (year_of_era y)) (no_leap_day (is_leap (y +ℤ pos 1))) (whole_year (is_leap y) ∙ ap one (sym (era_leap y h))) e

month_sum : (days c d k n : ℕ) → c ≡ d + n → k ≡ n → 1 ≤ k → days + c + 1 - 1 ≡ days + d + k - 1 + 1
month_sum days c d k n e f g = omega arith

is_last : (k n : ℕ) → nat_lt k n ≡ false → k ≤ n → k ≡ n
is_last k n h l = grind arith

is_below : (k n : ℕ) → nat_lt k n ≡ true → k < n
is_below k n h = grind arith

in_december : (y : ℤ) (m k : ℕ) → m ≡ 12 → negsuc 99998 ≤ℤ y → k ≡ days_of_month y m → day_number (record { year = y +ℤ pos 1; month = 1; day = 1 }) ≡ day_number (record { year = y; month = m; day = k }) + 1
in_december y m k e h f = subst (λ n. day_number (record { year = y +ℤ pos 1; month = 1; day = 1 }) ≡ day_number (record { year = y; month = n; day = k }) + 1) (sym e) (new_year y k h (f ∙ ap (days_of_month y) e))

by_cases : (y : ℤ) (m k : ℕ) → IsDay (record { year = y; month = m; day = k }) → (b c : Bool) → nat_lt k (days_of_month y m) ≡ b → nat_lt m 12 ≡ c
    → day_number (if b then record { year = y; month = m; day = k + 1 } else if c then record { year = y; month = m + 1; day = 1 } else record { year = y +ℤ pos 1; month = 1; day = 1 }) ≡ day_number (record { year = y; month = m; day = k }) + 1
by_cases y m k h true c e f = let from = h.day_from in omega (arith, from)
by_cases y m k h false true e f =
    month_sum (365 * year_of_era y + leap_years_before (year_of_era y)) (common_days_before (m + 1) + leap_day (is_leap y) (m + 1)) (common_days_before m + leap_day (is_leap y) m) k (days_of_month y m)
    (month_next (is_leap y) m h.month_from (is_below m 12 f)) (is_last k (days_of_month y m) e h.day_to) h.day_from
by_cases y m k h false false e f = in_december y m k (is_last m 12 f h.month_to) h.year_from (is_last k (days_of_month y m) e h.day_to)

pub follows : (d : Day) → IsDay d → day_number (next_day d) ≡ day_number d + 1
unfolding next_day
follows d h = by_cases d.year d.month d.day h _ _ refl refl

pub are_counted : AreCounted
are_counted = record { follows = follows; first = refl }
