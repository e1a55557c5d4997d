-- What the parsers of times return, each for the octets that it is given.
use Rattle.std.specs.Prelude.{◌≡◌, ℕ, zero, suc, ◌+◌, ◌-◌, ◌*◌, ◌^◌, Bool, true, false, ◌==◌, ◌&&◌, ◌||◌, if◌then◌else◌, nat_lt, List, [], ◌∷◌, Option, Some, None}
use Rattle.std.specs.Char.{is_ascii_digit}
use Rattle.rasn_types.specs.declared.ber.time.text.Clock.{Clock}
use Rattle.rasn_types.specs.declared.ber.time.text.Clock.TheVariants.{Hours, Minutes, Seconds}
use Rattle.rasn_types.specs.declared.ber.time.text.Zone.{Zone}
use Rattle.rasn_types.specs.declared.ber.time.text.Zone.TheVariants.{Unnamed, Utc, East, West}
use Rattle.rasn_types.specs.declared.ber.time.text.Fields.{Fields}

infixl 10 ◌>>=◌
abbrev pub ◌>>=◌ : {A B : Type 0} → Option A → (A → Option B) → Option B
None >>= f = None
(Some x) >>= f = f x

abbrev pub is_decimal : ℕ → Bool
is_decimal c = is_ascii_digit c

abbrev pub starts_decimal : List ℕ → Bool
starts_decimal [] = false
starts_decimal (c ∷ l) = is_decimal c

abbrev pub is_nothing : List ℕ → Bool
is_nothing [] = true
is_nothing (c ∷ l) = false

unfoldable pub two_at : List ℕ → Option (ℕ × List ℕ)
two_at [] = None
two_at (a ∷ []) = None
two_at (a ∷ b ∷ l) = if is_decimal a && is_decimal b then Some (10 * (a - 48) + (b - 48), l) else None

unfoldable pub four_at : List ℕ → Option (ℕ × List ℕ)
four_at l = do
  a ← two_at l
  b ← two_at a.1
  Some (100 * a.0 + b.0, b.1)

unfoldable pub clock_at : List ℕ → Option (Clock × List ℕ)
clock_at l = if starts_decimal l then (two_at l >>= λ m. if starts_decimal m.1 then (two_at m.1 >>= λ s. Some (Seconds m.0 s.0, s.1)) else Some (Minutes m.0, m.1)) else Some (Hours, l)

-- The leading digits as a number of k digits. Digits after the first k are skipped.
unfoldable pub digits_at : ℕ → List ℕ → ℕ × List ℕ
digits_at k [] = (0, [])
digits_at zero (c ∷ l) = if is_decimal c then digits_at zero l else (0, c ∷ l)
digits_at (suc k) (c ∷ l) = if is_decimal c then ((c - 48) * 10 ^ k + (digits_at k l).0, (digits_at k l).1) else (0, c ∷ l)

unfoldable pub fraction_at : List ℕ → Option (Option (ℕ × ℕ) × List ℕ)
fraction_at [] = Some (None, [])
fraction_at (c ∷ l) = if c == 46 || c == 44 then (if starts_decimal l then Some (Some (c, (digits_at 9 l).0), (digits_at 9 l).1) else None) else Some (None, c ∷ l)

unfoldable pub offset_at : List ℕ → Option (ℕ × ℕ)
offset_at l = do
  h ← two_at l
  m ← two_at h.1
  if is_nothing m.1 && nat_lt (60 * h.0 + m.0) 1440 then Some (h.0, m.0) else None

unfoldable pub zone_at : List ℕ → Option Zone
zone_at [] = Some Unnamed
zone_at (c ∷ l) = if c == 90 then (if is_nothing l then Some Utc else None)
    else if c == 43 then (offset_at l >>= λ o. Some (East o.0 o.1))
    else if c == 45 then (offset_at l >>= λ o. Some (West o.0 o.1))
    else None

unfoldable pub fields_at : List ℕ → Option Fields
fields_at l = do
  month ← two_at l
  day ← two_at month.1
  hour ← two_at day.1
  clock ← clock_at hour.1
  fraction ← fraction_at clock.1
  zone ← zone_at fraction.1
  Some (record { month = month.0; day = day.0; hour = hour.0; clock = clock.0; fraction = fraction.0; zone = zone })

-- A year, and everything after it.
abbrev pub parts_at : (List ℕ → Option (ℕ × List ℕ)) → List ℕ → Option (ℕ × Fields)
parts_at year_at l = year_at l >>= λ y. fields_at y.1 >>= λ f. Some (y.0, f)

unfoldable pub long_at : List ℕ → Option (ℕ × Fields)
long_at l = parts_at four_at l

unfoldable pub short_at : List ℕ → Option (ℕ × Fields)
short_at l = parts_at two_at l

-- The result of a function, seen by `view`, is what the parser returns.
abbrev pub ParsesOption : {X Y : Type 0} → (X → Y) → Option X → Option Y → Type 0
ParsesOption view None r = r ≡ None
ParsesOption view (Some x) r = r ≡ Some (view x)

unfoldable pub date_at : List ℕ → Option (ℕ × ℕ × ℕ)
date_at l = do
  year ← four_at l
  month ← two_at year.1
  day ← two_at month.1
  if is_nothing day.1 then Some (year.0, month.0, day.0) else None
