-- Days and seconds since the year -100000, whose days are those of the year 0: each period of 400 years has the same.
use Rattle.std.specs.Prelude.{◌≡◌, ◌+◌, ◌-◌, ◌*◌, ◌/◌, ℕ, ℤ, pos, ◌+ℤ◌, Bool, ◌&&◌, ◌==◌, if◌then◌else◌, nat_lt, unsigned_abs}
use Rattle.rasn_types.specs.Calendar.{Day, IsDay, is_leap, next_day}

-- The years from the year -100000 to a year.
abbrev pub year_of_era : ℤ → ℕ
year_of_era y = unsigned_abs (y +ℤ pos 100000)

-- How many of the years before year n of the era are leap years.
abbrev pub leap_years_before : ℕ → ℕ
leap_years_before n = ((n + 3) / 4 - (n + 99) / 100) + (n + 399) / 400

-- The days before the month of a common year.
abbrev pub common_days_before : ℕ → ℕ
common_days_before m = if m == 1 then 0 else if m == 2 then 31 else if m == 3 then 59 else if m == 4 then 90 else if m == 5 then 120 else if m == 6 then 151
    else if m == 7 then 181 else if m == 8 then 212 else if m == 9 then 243 else if m == 10 then 273 else if m == 11 then 304 else 334

-- The day that a leap year has more, if the month follows it.
abbrev pub leap_day : Bool → ℕ → ℕ
leap_day leap month = if leap && nat_lt 2 month then 1 else 0

-- How many days of the era precede a day.
abbrev pub day_number : Day → ℕ
day_number d = 365 * year_of_era d.year + leap_years_before (year_of_era d.year) + (common_days_before d.month + leap_day (is_leap d.year) d.month) + d.day - 1

-- Each day has the number after that of the day before it, and the first of 1970 has this one.
pub record AreCounted : Type 0 where
  pub follows : (d : Day) → IsDay d → day_number (next_day d) ≡ day_number d + 1
  pub first : day_number (record { year = pos 1970; month = 1; day = 1 }) ≡ 37243778
