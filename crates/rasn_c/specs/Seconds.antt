-- Instants as seconds since 1970.
use Rattle.std.specs.Prelude.{◌≡◌, ◌+◌, ◌*◌, ℕ, ℤ, pos, ◌-ℤ◌, List}
use Rattle.rasn_types.specs.declared.types.codec.Codec.{Codec}
use Rattle.rasn_types.specs.Calendar.{Moment}
use Rattle.rasn_c.specs.Days.{day_number}
use Rattle.rasn_c.specs.Rules.{rule_number, IsUnknownRule}
use Rattle.rasn_c.specs.Leaves.{IsInstant, IsNoInstant}
use Rattle.rasn_c.specs.declared.seconds.Seconds.{Seconds}
use Rattle.rasn_c.specs.declared.status.Status.{Status}
use Rattle.rasn_c.specs.declared.status.Status.TheVariants.{Ok, UnknownRule}

-- The seconds since the start of 1970, which is day 37243778 of the era (`AreCounted` of Days).
abbrev pub seconds_of : Moment → ℤ
seconds_of m = pos (60 * (60 * (24 * day_number m.day + m.hour) + m.minute) + m.second) -ℤ pos 3217862419200

-- These are the seconds and the nanoseconds of the instant.
abbrev pub IsSeconds : Moment → Seconds → Type 0
IsSeconds m s = (s.seconds ≡ seconds_of m) × (s.nanosecond ≡ m.nanosecond)

abbrev pub no_seconds : Seconds
no_seconds = record { seconds = pos 0; nanosecond = 0 }

-- The instant of a UTCTime or a GeneralizedTime.
abbrev pub AnswersSeconds : ℕ → ℕ → List ℕ → Seconds → Status → Type 0
AnswersSeconds type code octets s Ok = (rule : Codec) × (code ≡ rule_number rule) × (m : Moment) × IsInstant type rule octets m × IsSeconds m s
AnswersSeconds type code octets s UnknownRule = IsUnknownRule code × (s ≡ no_seconds)
AnswersSeconds type code octets s status = (rule : Codec) × (code ≡ rule_number rule) × IsNoInstant type rule octets status × (s ≡ no_seconds)
