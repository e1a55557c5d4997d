-- The instants and days that texts mean (X.680 46, 47; X.690 11.7, 11.8), and the text that is written.
use Rattle.std.specs.Prelude.{◌≡◌, ℕ, zero, suc, ◌+◌, ◌-◌, ◌/◌, ◌%◌, ◌^◌, ◌<◌, ◌≤◌, ◌⊎◌, ◌≢◌, Bool, true, false, ◌==◌, ◌&&◌, ℤ, pos, negsuc, if◌then◌else◌, nat_lt, List, [], ◌∷◌, ◌++◌, length, map, Option, Some, None, unsigned_abs}
use Rattle.std.specs.Int.{int_rem_euclid}
use Rattle.rasn_types.specs.declared.ber.time.text.Clock.{Clock}
use Rattle.rasn_types.specs.declared.ber.time.text.Clock.TheVariants.{Hours, Minutes, Seconds}
use Rattle.rasn_types.specs.declared.ber.time.text.Zone.{Zone}
use Rattle.rasn_types.specs.declared.ber.time.text.Zone.TheVariants.{Unnamed, Utc, East, West}
use Rattle.rasn_types.specs.declared.ber.time.text.Fields.{Fields}
use Rattle.rasn_types.specs.Calendar.{Moment, IsMoment, Day, IsDay, Stamp}
use Rattle.rasn_types.specs.TimeSpelling.{two, four, Spelling, IsSpelling, tail_text, billionths, fraction_of, minute_of, second_of, nanosecond_of, in_utc, offset_of}

abbrev pub fields_of : Spelling → Fields
fields_of s = record { month = s.month; day = s.day; hour = s.hour; clock = s.clock; fraction = fraction_of s.fraction; zone = s.zone }

-- What the clock shows in the zone of the text.
abbrev pub shown : ℤ → Fields → Moment
shown y f = record {
  day = record { year = y; month = f.month; day = f.day };
  hour = f.hour;
  minute = minute_of f.clock (billionths f.fraction);
  second = second_of f.clock (billionths f.fraction);
  nanosecond = nanosecond_of f.clock (billionths f.fraction);
}

abbrev pub stamp_of : ℤ → Fields → Stamp
stamp_of y f = record { moment = in_utc f.zone (shown y f); offset = offset_of f.zone }

abbrev pub has_minutes : Clock → Bool
has_minutes Hours = false
has_minutes (Minutes m) = true
has_minutes (Seconds m s) = true

abbrev pub has_seconds : Clock → Bool
has_seconds Hours = false
has_seconds (Minutes m) = false
has_seconds (Seconds m s) = true

abbrev pub is_whole : Option (ℕ × ℕ) → Bool
is_whole None = true
is_whole (Some f) = false

abbrev pub has_no_comma : Option (ℕ × ℕ) → Bool
has_no_comma None = true
has_no_comma (Some f) = f.0 == 46

abbrev pub is_named : Zone → Bool
is_named Unnamed = false
is_named Utc = true
is_named (East h m) = true
is_named (West h m) = true

abbrev pub is_utc : Zone → Bool
is_utc Unnamed = false
is_utc Utc = true
is_utc (East h m) = false
is_utc (West h m) = false

-- The form of a UTCTime: with minutes, without a fraction, and with a zone.
abbrev pub short_form : Fields → Bool
short_form f = has_minutes f.clock && is_whole f.fraction && is_named f.zone

abbrev pub long_form : Fields → Bool
long_form f = true

-- The canonical form (11.7, 11.8).
abbrev pub canonical_form : Fields → Bool
canonical_form f = has_seconds f.clock && has_no_comma f.fraction && is_utc f.zone

abbrev pub both : (Fields → Bool) → (Fields → Bool) → Fields → Bool
both a b f = a f && b f

abbrev pub century : ℕ → ℕ
century y = if nat_lt y 70 then 2000 + y else 1900 + y

abbrev pub as_given : ℕ → ℕ
as_given y = y

-- A text, and the instant that it means. `year_text` writes the years below `limit`.
pub record TimeText (year_text : ℕ → List ℕ) (limit : ℕ) (year_of : ℕ → ℕ) (form : Fields → Bool) (text : List ℕ) (t : Stamp) : Type 0 where
  pub year : ℕ
  pub rest : Spelling
  pub below : year < limit
  pub spelled : IsSpelling rest
  pub allowed : form (fields_of rest) ≡ true
  pub is : text ≡ year_text year ++ tail_text rest
  pub exists : IsMoment (shown (pos (year_of year)) (fields_of rest))
  pub meant : t ≡ stamp_of (pos (year_of year)) (fields_of rest)

abbrev pub GeneralUtc : List ℕ → Stamp → Type 0
GeneralUtc = TimeText two 100 century short_form

abbrev pub CanonicalUtc : List ℕ → Stamp → Type 0
CanonicalUtc = TimeText two 100 century (both short_form canonical_form)

abbrev pub GeneralGeneralized : List ℕ → Stamp → Type 0
GeneralGeneralized = TimeText four 10000 as_given long_form

abbrev pub CanonicalGeneralized : List ℕ → Stamp → Type 0
CanonicalGeneralized = TimeText four 10000 as_given (both long_form canonical_form)

-- The last digit of the fraction isn't 0, and it has at most nine digits.
abbrev pub EndsInNoZero : List ℕ → Type 0
EndsInNoZero [] = Unit {0}
EndsInNoZero (d ∷ []) = d ≢ 0
EndsInNoZero (d ∷ e ∷ ds) = EndsInNoZero (e ∷ ds)

abbrev pub IsShortFraction : Option (ℕ × List ℕ) → Type 0
IsShortFraction None = Unit {0}
IsShortFraction (Some f) = (length f.1 ≤ 9) × EndsInNoZero f.1

-- The canonical text in the fewest octets.
pub record StrictGeneralized (text : List ℕ) (t : Stamp) : Type 0 where
  pub is : CanonicalGeneralized text t
  pub short : IsShortFraction is.rest.fraction

pub record DateText (text : List ℕ) (d : Day) : Type 0 where
  pub year : ℕ
  pub below : year < 10000
  pub is : text ≡ four year ++ two d.month ++ two d.day
  pub same : d.year ≡ pos year
  pub exists : IsDay d

-- The digits of a number below 10 ^ k, without trailing zeros.
unfoldable pub digits_of : ℕ → ℕ → List ℕ
digits_of zero n = []
digits_of (suc k) n = if n == 0 then [] else (n / 10 ^ k) ∷ digits_of k (n % 10 ^ k)

abbrev pub written_fraction : ℕ → List ℕ
written_fraction n = if n == 0 then [] else 46 ∷ map (λ d. 48 + d) (digits_of 9 n)

-- The second that is written, which is 60 in a leap second.
abbrev pub written_second : Moment → ℕ
written_second m = if nat_lt m.nanosecond 1000000000 then m.second else m.second + 1

abbrev pub within_second : Moment → ℕ
within_second m = if nat_lt m.nanosecond 1000000000 then m.nanosecond else m.nanosecond - 1000000000

abbrev pub clock_written : Moment → List ℕ
clock_written m = two m.hour ++ (two m.minute ++ two (written_second m))

abbrev pub long_year : ℕ → List ℕ
long_year n = if nat_lt n 10000 then four n else (48 + n / 10000) ∷ four (n % 10000)

abbrev pub written_year : ℤ → List ℕ
written_year (pos n) = if nat_lt n 10000 then four n else 43 ∷ long_year n
written_year (negsuc n) = 45 ∷ long_year (n + 1)

unfoldable pub written_date : Day → List ℕ
written_date d = written_year d.year ++ (two d.month ++ two d.day)

unfoldable pub written_generalized : Moment → List ℕ
written_generalized m = written_date m.day ++ (clock_written m ++ (written_fraction (within_second m) ++ 90 ∷ []))

unfoldable pub written_utc : Moment → List ℕ
written_utc m = two (unsigned_abs (int_rem_euclid m.day.year (pos 100))) ++ (two m.day.month ++ (two m.day.day ++ (clock_written m ++ 90 ∷ [])))

-- The days and instants that are carried: their written text is read back.
pub record CarriedDay (d : Day) : Type 0 where
  pub year : ℕ
  pub same : d.year ≡ pos year
  pub below : year < 10000

pub record CarriedUtc (m : Moment) : Type 0 where
  pub year : ℕ
  pub same : m.day.year ≡ pos year
  pub from : 1970 ≤ year
  pub to : year ≤ 2069
  pub whole : (m.nanosecond ≡ 0) ⊎ (m.nanosecond ≡ 1000000000)

abbrev pub at_utc : Moment → Stamp
at_utc m = record { moment = m; offset = pos 0 }
