-- Days of the proleptic Gregorian calendar, with a year 0, and moments in UTC.
use Rattle.std.specs.Prelude.{◌≡◌, ℕ, ◌+◌, ◌-◌, ◌*◌, ◌/◌, ◌%◌, ◌<◌, ◌≤◌, ◌⊎◌, Bool, ◌&&◌, ◌||◌, ◌==◌, not, ℤ, pos, negsuc, ◌+ℤ◌, ◌-ℤ◌, ◌≤ℤ◌, ◌<ℤ◌, if◌then◌else◌, nat_lt, unsigned_abs}

pub record Day : Type 0 where
  pub year : ℤ
  pub month : ℕ
  pub day : ℕ

-- Whether a year is a leap year: every fourth year is, but of the years divisible by 100 only those divisible by 400.
abbrev pub is_leap : ℤ → Bool
is_leap y = unsigned_abs y % 4 == 0 && (not (unsigned_abs y % 100 == 0) || unsigned_abs y % 400 == 0)

abbrev pub days_of_month : ℤ → ℕ → ℕ
days_of_month y m = if m == 2 then (if is_leap y then 29 else 28) else if m == 4 || m == 6 || m == 9 || m == 11 then 30 else 31

pub record IsDay (d : Day) : Type 0 where
  pub year_from : negsuc 99998 ≤ℤ d.year
  pub year_to : d.year ≤ℤ pos 99999
  pub month_from : 1 ≤ d.month
  pub month_to : d.month ≤ 12
  pub day_from : 1 ≤ d.day
  pub day_to : d.day ≤ days_of_month d.year d.month

unfoldable pub next_day : Day → Day
next_day d = if nat_lt d.day (days_of_month d.year d.month) then record d { day = d.day + 1 }
    else if nat_lt d.month 12 then record { year = d.year; month = d.month + 1; day = 1 }
    else record { year = d.year +ℤ pos 1; month = 1; day = 1 }

unfoldable pub previous_day : Day → Day
previous_day d = if nat_lt 1 d.day then record d { day = d.day - 1 }
    else if nat_lt 1 d.month then record { year = d.year; month = d.month - 1; day = days_of_month d.year (d.month - 1) }
    else record { year = d.year -ℤ pos 1; month = 12; day = 31 }

-- An offset from UTC in minutes, which is less than a day.
abbrev pub IsOffset : ℤ → Type 0
IsOffset m = (negsuc 1438 ≤ℤ m) × (m ≤ℤ pos 1439)

-- An instant, by its fields in UTC. With 1000000000 nanoseconds or more it lies in a leap second.
pub record Moment : Type 0 where
  pub day : Day
  pub hour : ℕ
  pub minute : ℕ
  pub second : ℕ
  pub nanosecond : ℕ

pub record IsMoment (m : Moment) : Type 0 where
  pub day : IsDay m.day
  pub hour : m.hour < 24
  pub minute : m.minute < 60
  pub second : m.second < 60
  pub nanosecond : m.nanosecond < 2000000000
  pub leap : 1000000000 ≤ m.nanosecond → m.second ≡ 59

abbrev pub minute_of_day : Moment → ℕ
minute_of_day m = 60 * m.hour + m.minute

-- The same second in minute n of the day.
abbrev pub at_minute : Day → ℕ → Moment → Moment
at_minute d n m = record { day = d; hour = n / 60; minute = n % 60; second = m.second; nanosecond = m.nanosecond }

-- The instant n minutes later, and the one n minutes earlier, where n minutes are less than a day.
unfoldable pub later : ℕ → Moment → Moment
later n m = if nat_lt (minute_of_day m + n) 1440 then at_minute m.day (minute_of_day m + n) m
    else at_minute (next_day m.day) (minute_of_day m + n - 1440) m

unfoldable pub earlier : ℕ → Moment → Moment
earlier n m = if nat_lt (minute_of_day m) n then at_minute (previous_day m.day) (minute_of_day m + 1440 - n) m
    else at_minute m.day (minute_of_day m - n) m

-- An instant, and the offset of its text in minutes.
pub record Stamp : Type 0 where
  pub moment : Moment
  pub offset : ℤ

-- The order of days and of instants, by their fields.
abbrev pub DayBefore : Day → Day → Type 0
DayBefore d e = (d.year <ℤ e.year) ⊎ ((d.year ≡ e.year) × ((d.month < e.month) ⊎ ((d.month ≡ e.month) × (d.day < e.day))))

abbrev pub Before : Moment → Moment → Type 0
Before m n = DayBefore m.day n.day ⊎ ((m.day ≡ n.day) × ((m.hour < n.hour) ⊎ ((m.hour ≡ n.hour) × ((m.minute < n.minute) ⊎ ((m.minute ≡ n.minute) × ((m.second < n.second) ⊎ ((m.second ≡ n.second) × (m.nanosecond < n.nanosecond))))))))
