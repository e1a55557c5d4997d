-- The text of a day, with and without hyphens.
use Rattle.std.proofs.Common.{◌≡◌, ◌<◌, ◌+◌, ℕ, pos, List, [], ◌∷◌, ◌++◌, length, get_or, take, drop, Option, Some, None, refl, sym, ap, ◌∙◌, arith}
use Rattle.std.specs.Prelude.{if◌then◌else◌, IfSome}
use Rattle.std.proofs.lemmas.Bool.{lt-ltb}
use Rattle.rasn_types.specs.Calendar.{Day}
use Rattle.rasn_types.specs.Options.{IsSomeRelated}
use Rattle.rasn_types.specs.Text.{shown_day}
use Rattle.rasn_types.specs.Time.{DateText, CarriedDay, written_year, long_year}
use Rattle.rasn_types.specs.TimeSpelling.{two, four}
use Rattle.rasn_json.specs.Texts.{DayText}

abbrev hyphened : List ℕ → List ℕ
hyphened l = take 4 l ++ (45 ∷ (take 2 (drop 4 l) ++ (45 ∷ drop 6 l)))

four_digits : (y : ℕ) → y < 10000 → written_year (pos y) ≡ four y
four_digits y h = ap (λ b. if b then four y else 43 ∷ long_year y) (lt-ltb y 10000 h)

day_shown : (l : List ℕ) (d : Day) → DateText l d → hyphened l ≡ shown_day d
unfolding shown_day
day_shown l d r = ap hyphened r.is ∙ sym (ap (λ y. y ++ (45 ∷ (two d.month ++ (45 ∷ two d.day)))) (ap written_year r.same ∙ four_digits r.year r.below))

-- A text with hyphens at their places is read without them.
ten : (t : List ℕ) → length t ≡ 10 → get_or t 4 0 ≡ 45 → get_or t 7 0 ≡ 45
    → t ≡ hyphened (get_or t 0 0 ∷ get_or t 1 0 ∷ get_or t 2 0 ∷ get_or t 3 0 ∷ get_or t 5 0 ∷ get_or t 6 0 ∷ get_or t 8 0 ∷ get_or t 9 0 ∷ [])
ten (a ∷ b ∷ c ∷ d ∷ x ∷ e ∷ f ∷ y ∷ g ∷ h ∷ []) n p q = ap (λ v. a ∷ b ∷ c ∷ d ∷ v ∷ e ∷ f ∷ y ∷ g ∷ h ∷ []) p ∙ ap (λ v. a ∷ b ∷ c ∷ d ∷ 45 ∷ e ∷ f ∷ v ∷ g ∷ h ∷ []) q
ten [] n p q = absurd (omega (arith, n))
ten (a ∷ []) n p q = absurd (omega (arith, n))
ten (a ∷ b ∷ []) n p q = absurd (omega (arith, n))
ten (a ∷ b ∷ c ∷ []) n p q = absurd (omega (arith, n))
ten (a ∷ b ∷ c ∷ d ∷ []) n p q = absurd (omega (arith, n))
ten (a ∷ b ∷ c ∷ d ∷ x ∷ []) n p q = absurd (omega (arith, n))
ten (a ∷ b ∷ c ∷ d ∷ x ∷ e ∷ []) n p q = absurd (omega (arith, n))
ten (a ∷ b ∷ c ∷ d ∷ x ∷ e ∷ f ∷ []) n p q = absurd (omega (arith, n))
ten (a ∷ b ∷ c ∷ d ∷ x ∷ e ∷ f ∷ y ∷ []) n p q = absurd (omega (arith, n))
ten (a ∷ b ∷ c ∷ d ∷ x ∷ e ∷ f ∷ y ∷ g ∷ []) n p q = absurd (omega (arith, n))
ten (a ∷ b ∷ c ∷ d ∷ x ∷ e ∷ f ∷ y ∷ g ∷ h ∷ i ∷ t) n p q = absurd (omega (arith, n))

pub day_read : (t l : List ℕ) (o : Option Day) → l ≡ get_or t 0 0 ∷ get_or t 1 0 ∷ get_or t 2 0 ∷ get_or t 3 0 ∷ get_or t 5 0 ∷ get_or t 6 0 ∷ get_or t 8 0 ∷ get_or t 9 0 ∷ []
    → length t ≡ 10 → get_or t 4 0 ≡ 45 → get_or t 7 0 ≡ 45 → IsSomeRelated o (DateText l) → IfSome o (DayText t)
day_read t l None e n p q h = tt
day_read t l (Some d) e n p q h = (record { year = h.year; same = h.same; below = h.below }, ten t n p q ∙ (ap hyphened (sym e) ∙ day_shown l d h))

-- ---- the text of a day whose year has four digits

-- The text of a day with this year.
abbrev with_year : List ℕ → Day → List ℕ
with_year y d = y ++ (45 ∷ (two d.month ++ (45 ∷ two d.day)))

shown_with : (d : Day) → shown_day d ≡ with_year (written_year d.year) d
unfolding shown_day
shown_with d = refl

carried_shown : (d : Day) (c : CarriedDay d) → shown_day d ≡ with_year (four c.year) d
carried_shown d c = shown_with d ∙ ap (λ y. with_year y d) (ap written_year c.same ∙ four_digits c.year c.below)

pub one_day_text : (t : List ℕ) (d g : Day) → DayText t d → DayText t g → d ≡ g
one_day_text t d g (c, e) (k, f) = λ i. record { year = (c.same ∙ (ap pos year ∙ sym k.same)) i; month = month i; day = day i }
  where
    at : (i : ℕ) → get_or (with_year (four c.year) d) i 0 ≡ get_or (with_year (four k.year) g) i 0
    at i = ap (λ l. get_or l i 0) (sym (carried_shown d c) ∙ (sym e ∙ (f ∙ carried_shown g k)))

    year : c.year ≡ k.year
    year = omega (arith, at 0, at 1, at 2, at 3)

    month : d.month ≡ g.month
    month = omega (arith, at 5, at 6)

    day : d.day ≡ g.day
    day = omega (arith, at 8, at 9)
