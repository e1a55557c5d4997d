-- Texts of times, by their fields (X.680 46, 47; X.690 11.7, 11.8).
use Rattle.std.specs.Prelude.{◌≡◌, ℕ, zero, suc, ◌+◌, ◌*◌, ◌/◌, ◌%◌, ◌^◌, ◌<◌, ◌⊎◌, ◌≢◌, ◌==◌, ℤ, pos, ◌-ℤ◌, if◌then◌else◌, List, [], ◌∷◌, ◌++◌, map, Option, Some, None}
use Rattle.std.specs.List.{AllByRecursion}
use Rattle.rasn_types.specs.declared.ber.time.text.Clock.{Clock}
use Rattle.rasn_types.specs.declared.ber.time.text.Clock.TheVariants.{Hours, Minutes, Seconds}
use Rattle.rasn_types.specs.declared.ber.time.text.Zone.{Zone}
use Rattle.rasn_types.specs.declared.ber.time.text.Zone.TheVariants.{Unnamed, Utc, East, West}
use Rattle.rasn_types.specs.Calendar.{Moment, later, earlier}

-- A number below 100 as two digits.
abbrev pub two : ℕ → List ℕ
two n = (48 + n / 10) ∷ (48 + n % 10) ∷ []

abbrev pub four : ℕ → List ℕ
four n = two (n / 100) ++ two (n % 100)

-- The text of the minutes and seconds, after the hour.
abbrev pub clock_text : Clock → List ℕ
clock_text Hours = []
clock_text (Minutes m) = two m
clock_text (Seconds m s) = two m ++ two s

abbrev pub IsClock : Clock → Type 0
IsClock Hours = Unit {0}
IsClock (Minutes m) = m < 100
IsClock (Seconds m s) = (m < 100) × (s < 100)

-- The text of a fraction: a separator, and digits after it.
abbrev pub fraction_text : Option (ℕ × List ℕ) → List ℕ
fraction_text None = []
fraction_text (Some f) = f.0 ∷ map (λ d. 48 + d) f.1

abbrev pub IsFraction : Option (ℕ × List ℕ) → Type 0
IsFraction None = Unit {0}
IsFraction (Some f) = ((f.0 ≡ 46) ⊎ (f.0 ≡ 44)) × (f.1 ≢ []) × AllByRecursion (λ d. d < 10) f.1

-- The first k digits, as a number of k digits. The other digits are skipped.
unfoldable pub parts : ℕ → List ℕ → ℕ
parts k [] = 0
parts zero (d ∷ ds) = 0
parts (suc k) (d ∷ ds) = d * 10 ^ k + parts k ds

abbrev pub fraction_of : Option (ℕ × List ℕ) → Option (ℕ × ℕ)
fraction_of None = None
fraction_of (Some f) = Some (f.0, parts 9 f.1)

abbrev pub billionths : Option (ℕ × ℕ) → ℕ
billionths None = 0
billionths (Some f) = f.1

abbrev pub zone_text : Zone → List ℕ
zone_text Unnamed = []
zone_text Utc = 90 ∷ []
zone_text (East h m) = 43 ∷ two h ++ two m
zone_text (West h m) = 45 ∷ two h ++ two m

abbrev pub IsZone : Zone → Type 0
IsZone Unnamed = Unit {0}
IsZone Utc = Unit {0}
IsZone (East h m) = (m < 100) × (60 * h + m < 1440)
IsZone (West h m) = (m < 100) × (60 * h + m < 1440)

-- The offset in minutes.
abbrev pub offset_of : Zone → ℤ
offset_of Unnamed = pos 0
offset_of Utc = pos 0
offset_of (East h m) = pos (60 * h + m)
offset_of (West h m) = pos 0 -ℤ pos (60 * h + m)

-- The instant in UTC at which a clock in this zone shows m.
abbrev pub in_utc : Zone → Moment → Moment
in_utc Unnamed m = m
in_utc Utc m = m
in_utc (East h n) m = earlier (60 * h + n) m
in_utc (West h n) m = later (60 * h + n) m

-- The parts of the text of a UTCTime or GeneralizedTime after its year.
pub record Spelling : Type 0 where
  pub month : ℕ
  pub day : ℕ
  pub hour : ℕ
  pub clock : Clock
  pub fraction : Option (ℕ × List ℕ)
  pub zone : Zone

abbrev pub tail_text : Spelling → List ℕ
tail_text s = two s.month ++ (two s.day ++ (two s.hour ++ (clock_text s.clock ++ (fraction_text s.fraction ++ zone_text s.zone))))

pub record IsSpelling (s : Spelling) : Type 0 where
  pub month : s.month < 100
  pub day : s.day < 100
  pub hour : s.hour < 100
  pub clock : IsClock s.clock
  pub fraction : IsFraction s.fraction
  pub zone : IsZone s.zone

-- The minute, second and nanosecond. A fraction is one of the last unit that is given, and second 60 is a leap second.
abbrev pub minute_of : Clock → ℕ → ℕ
minute_of Hours f = 3600 * f / 60000000000
minute_of (Minutes m) f = m
minute_of (Seconds m s) f = m

abbrev pub second_of : Clock → ℕ → ℕ
second_of Hours f = 3600 * f / 1000000000 % 60
second_of (Minutes m) f = 60 * f / 1000000000
second_of (Seconds m s) f = if s == 60 then 59 else s

abbrev pub nanosecond_of : Clock → ℕ → ℕ
nanosecond_of Hours f = 3600 * f % 1000000000
nanosecond_of (Minutes m) f = 60 * f % 1000000000
nanosecond_of (Seconds m s) f = if s == 60 then 1000000000 + f else f
