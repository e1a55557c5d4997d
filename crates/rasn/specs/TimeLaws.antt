-- The laws of the texts of times, and of instants as numbers of seconds.
use Rattle.std.specs.Prelude.{◌≡◌, ℕ, zero, suc, ◌+◌, ◌-◌, ◌*◌, ◌<◌, ◌⊎◌, List, ℤ, pos, negsuc, ◌≤ℤ◌, ◌+ℤ◌, ◌-ℤ◌, if◌then◌else◌, unsigned_abs}
use Rattle.rasn_types.specs.Calendar.{Day, IsDay, Moment, IsMoment, Stamp, is_leap, days_of_month, next_day, previous_day, later, earlier, Before}
use Rattle.rasn_types.specs.Time.{GeneralUtc, CanonicalUtc, GeneralGeneralized, CanonicalGeneralized, StrictGeneralized, DateText, written_date, written_generalized, written_utc, CarriedDay, CarriedUtc, at_utc}

-- A text has at most one meaning.
pub record OneMeaning : Type 0 where
  pub utc : (text : List ℕ) (t u : Stamp) → GeneralUtc text t → GeneralUtc text u → t ≡ u
  pub generalized : (text : List ℕ) (t u : Stamp) → GeneralGeneralized text t → GeneralGeneralized text u → t ≡ u
  pub date : (text : List ℕ) (d e : Day) → DateText text d → DateText text e → d ≡ e

-- A canonical text is also a general one, with the same meaning.
pub record IncludedTexts : Type 0 where
  pub utc : (text : List ℕ) (t : Stamp) → CanonicalUtc text t → GeneralUtc text t
  pub generalized : (text : List ℕ) (t : Stamp) → CanonicalGeneralized text t → GeneralGeneralized text t

-- A text that is written is read back.
pub record ReadBack : Type 0 where
  pub utc : (m : Moment) → IsMoment m → CarriedUtc m → CanonicalUtc (written_utc m) (at_utc m)
  pub generalized : (m : Moment) → IsMoment m → CarriedDay m.day → StrictGeneralized (written_generalized m) (at_utc m)
  pub date : (d : Day) → IsDay d → CarriedDay d → DateText (written_date d) d

-- Different carried instants and days have different texts.
pub record Distinct : Type 0 where
  pub utc : (m n : Moment) → IsMoment m → IsMoment n → CarriedUtc m → CarriedUtc n → written_utc m ≡ written_utc n → m ≡ n
  pub generalized : (m n : Moment) → IsMoment m → IsMoment n → CarriedDay m.day → CarriedDay n.day → written_generalized m ≡ written_generalized n → m ≡ n
  pub date : (d e : Day) → IsDay d → IsDay e → CarriedDay d → CarriedDay e → written_date d ≡ written_date e → d ≡ e

-- The next and the previous day are inverse to each other, and so are adding and subtracting an offset.
pub record Steps : Type 0 where
  pub back : (d : Day) → IsDay d → next_day (previous_day d) ≡ d
  pub forth : (d : Day) → IsDay d → previous_day (next_day d) ≡ d
  pub appended_on : (n : ℕ) (m : Moment) → n < 1440 → IsMoment m → later n (earlier n m) ≡ m
  pub taken_off : (n : ℕ) (m : Moment) → n < 1440 → IsMoment m → earlier n (later n m) ≡ m

-- Days and UTC seconds as plain numbers. Day 1 is the first day of the year -100000, and leap seconds aren't counted.
abbrev pub days_of_year : ℤ → ℕ
days_of_year y = if is_leap y then 366 else 365

-- The number of days in the first n years.
unfoldable pub days_of_years : ℕ → ℕ
days_of_years zero = 0
days_of_years (suc n) = days_of_years n + days_of_year (pos n -ℤ pos 100000)

-- The number of days in the first n months of a year.
unfoldable pub days_of_months : ℤ → ℕ → ℕ
days_of_months y zero = 0
days_of_months y (suc n) = days_of_months y n + days_of_month y (suc n)

unfoldable pub day_number : Day → ℕ
day_number d = days_of_years (unsigned_abs (d.year +ℤ pos 100000)) + days_of_months d.year (d.month - 1) + d.day

abbrev pub utc_second : Moment → ℕ
utc_second m = 86400 * day_number m.day + 3600 * m.hour + 60 * m.minute + m.second

pub record Seconds : Type 0 where
  pub next : (d : Day) → IsDay d → day_number (next_day d) ≡ day_number d + 1
  pub appended_on : (n : ℕ) (m : Moment) → n < 1440 → IsMoment m → utc_second (later n m) ≡ utc_second m + 60 * n
  pub taken_off : (n : ℕ) (m : Moment) → n < 1440 → IsMoment m → negsuc 99997 ≤ℤ m.day.year → utc_second (earlier n m) + 60 * n ≡ utc_second m
  pub same_day : (d e : Day) → IsDay d → IsDay e → day_number d ≡ day_number e → d ≡ e
  pub same : (m n : Moment) → IsMoment m → IsMoment n → utc_second m ≡ utc_second n → m.nanosecond ≡ n.nanosecond → m ≡ n
  pub order : (m n : Moment) → IsMoment m → IsMoment n → Before m n → (utc_second m < utc_second n) ⊎ ((utc_second m ≡ utc_second n) × (m.nanosecond < n.nanosecond))
