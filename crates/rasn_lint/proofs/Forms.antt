-- Contents octets of each rule.
use Rattle.std.proofs.Common.{◌≡◌, inl, ℕ, List, [], ◌∷◌, ◌++◌, None, refl, arith, rules, pos}
use Rattle.std.proofs.lemmas.Str.{IsUtf8-nil}
use Rattle.std.proofs.lemmas.List.Elements.{All-from_recursion}
use Rattle.rasn_types.specs.declared.ber.time.text.Clock.TheVariants.{Seconds}
use Rattle.rasn_types.specs.declared.ber.time.text.Zone.TheVariants.{Utc}
use Rattle.rasn_types.specs.Calendar.{Day, IsDay, IsMoment}
use Rattle.rasn_types.specs.CharacterString.{IsAdmitted}
use Rattle.rasn_types.specs.Time.{fields_of, shown, stamp_of, CanonicalUtc, CanonicalGeneralized}
use Rattle.rasn_types.specs.TimeSpelling.{two, four, Spelling, IsSpelling, tail_text}
use Rattle.rasn_lint.specs.declared.der.universal.ContentsRule.{ContentsRule}
use Rattle.rasn_lint.specs.declared.der.universal.ContentsRule.TheVariants.{Boolean, Integer, BitString, Null, Subidentifiers, Utf8, Characters, Units, UtcTime, GeneralizedTime, Date, Octets, Values, Set, Unknown}
use Rattle.rasn_lint.specs.Contents.{AllowsContents}

-- The first day of 2000, and its first second.
abbrev day : Day
day = record { year = pos 2000; month = 1; day = 1 }

is_day : IsDay day
is_day = record { year_from = search rules; year_to = search rules; month_from = omega arith; month_to = omega arith; day_from = omega arith; day_to = omega arith }

abbrev midnight : Spelling
midnight = record { month = 1; day = 1; hour = 0; clock = Seconds 0 0; fraction = None; zone = Utc }

is_midnight : IsSpelling midnight
is_midnight = record { month = omega arith; day = omega arith; hour = omega arith; clock = (omega arith, omega arith); fraction = tt; zone = tt }

exists : IsMoment (shown (pos 2000) (fields_of midnight))
exists = record { day = is_day; hour = omega arith; minute = omega arith; second = omega arith; nanosecond = omega arith; leap = λ h. absurd (omega (arith, h)) }

short_one : CanonicalUtc (two 0 ++ tail_text midnight) (stamp_of (pos 2000) (fields_of midnight))
short_one = record { year = 0; rest = midnight; below = omega arith; spelled = is_midnight; allowed = refl; is = refl; exists = exists; meant = refl }

abbrev long_one : CanonicalGeneralized (four 2000 ++ tail_text midnight) (stamp_of (pos 2000) (fields_of midnight))
long_one = record { year = 2000; rest = midnight; below = omega arith; spelled = is_midnight; allowed = refl; is = refl; exists = exists; meant = refl }

pub primitive_one : (rule : ContentsRule) → (rule ≡ Values → ⊥) → (rule ≡ Set → ⊥) → (contents : List ℕ) × AllowsContents rule contents
primitive_one Boolean a b = (0 ∷ [], inl refl)
primitive_one Integer a b = (0 ∷ [], tt)
primitive_one BitString a b = (0 ∷ [], (omega arith, refl))
primitive_one Null a b = ([], refl)
primitive_one Subidentifiers a b = (0 ∷ [], ((0 ∷ []) ∷ [], refl, (λ e. cc), ((inl (omega arith, refl), (λ e. absurd (omega (arith, e)))), tt)))
primitive_one Utf8 a b = ([], IsUtf8-nil)
primitive_one (Characters alphabet) a b = ([], All-from_recursion (IsAdmitted alphabet) [] tt)
primitive_one Units a b = ([], refl)
primitive_one UtcTime a b = (two 0 ++ tail_text midnight, (stamp_of (pos 2000) (fields_of midnight), short_one))
primitive_one GeneralizedTime a b = (four 2000 ++ tail_text midnight, (stamp_of (pos 2000) (fields_of midnight), record { is = long_one; short = tt }))
primitive_one Date a b = (four 2000 ++ two 1 ++ two 1, (day, record { year = 2000; below = omega arith; is = refl; same = refl; exists = is_day }))
primitive_one Octets a b = ([], tt)
primitive_one Values a b = absurd (a refl)
primitive_one Set a b = absurd (b refl)
primitive_one Unknown a b = ([], tt)
