-- Fields count as whole numbers of seconds do.
use Rattle.std.proofs.Common.{◌≡◌, ℕ, zero, suc, ◌+◌, ◌-◌, ◌*◌, ◌<◌, ◌≤◌, ◌⊎◌, refl, sym, ap, ◌∙◌, arith, subst, inl, inr, ℤ, pos, negsuc, ◌+ℤ◌, ◌-ℤ◌, ◌≤ℤ◌, ◌<ℤ◌, unsigned_abs}
use Rattle.std.proofs.lemmas.Bool.{ltb-true, ltb-false}
use Rattle.std.proofs.lemmas.Int.{ints}
use Rattle.std.proofs.Math.Dec.{ltb}
use Rattle.rasn_types.specs.Calendar.{Moment, IsMoment, Day, IsDay, is_leap, days_of_month, next_day, previous_day, later, earlier, at_minute, minute_of_day, DayBefore, Before}
use Rattle.rasn.specs.TimeLaws.{days_of_year, days_of_years, days_of_months, day_number, utc_second, Seconds}
use Rattle.rasn_types.proofs.Time.Dates.{same_day}
use Rattle.rasn.proofs.Time.Steps.{day_at, is_it, next_within, next_month, next_year, later_same, later_next, previous_within, previous_month, previous_year, year_forth, earlier_same, earlier_previous}

years_suc : (n : ℕ) → days_of_years (suc n) ≡ days_of_years n + days_of_year (pos n -ℤ pos 100000)
unfolding days_of_years
years_suc n = refl

months_suc : (y : ℤ) (n : ℕ) → days_of_months y (suc n) ≡ days_of_months y n + days_of_month y (suc n)
unfolding days_of_months
months_suc y n = refl

months_zero : (y : ℤ) → days_of_months y 0 ≡ 0
unfolding days_of_months
months_zero y = refl

months_more : (y : ℤ) (m : ℕ) → 1 ≤ m → days_of_months y m ≡ days_of_months y (m - 1) + days_of_month y m
months_more y zero h = absurd (omega arith)
months_more y (suc n) h = let e : suc n - 1 ≡ n = omega arith in rw e (months_suc y n)

whole_year : (y : ℤ) → days_of_months y 12 ≡ days_of_year y
unfolding days_of_months
whole_year y = elim (is_it (is_leap y)) [ inl p ↦ rw p refl | inr p ↦ rw p refl ]

abbrev base : ℤ → ℕ
base y = unsigned_abs (y +ℤ pos 100000)

absolute : (z : ℤ) → pos 0 ≤ℤ z → pos (unsigned_abs z) ≡ z
absolute (pos n) h = refl
absolute (negsuc n) h = absurd (omega (arith, ints))

based : (y : ℤ) → negsuc 99998 ≤ℤ y → pos (base y) ≡ y +ℤ pos 100000
based y h = let g : pos 0 ≤ℤ (y +ℤ pos 100000) = omega (arith, ints) in absolute (y +ℤ pos 100000) g

pos_same : (a b : ℕ) → pos a ≡ pos b → a ≡ b
pos_same a b e = cc

base_next : (y : ℤ) → negsuc 99998 ≤ℤ y → base (y +ℤ pos 1) ≡ suc (base y)
base_next y h =
    let g : negsuc 99998 ≤ℤ (y +ℤ pos 1) = omega (arith, ints) in
    let a = based y h in
    let b = based (y +ℤ pos 1) g in
    pos_same (base (y +ℤ pos 1)) (suc (base y)) (omega (arith, ints))

base_back : (y : ℤ) → negsuc 99998 ≤ℤ y → pos (base y) -ℤ pos 100000 ≡ y
base_back y h = let a = based y h in omega (arith, ints)

base_same : (y z : ℤ) → negsuc 99998 ≤ℤ y → negsuc 99998 ≤ℤ z → base y ≡ base z → y ≡ z
base_same y z h k e = sym (base_back y h) ∙ ap (λ n. pos n -ℤ pos 100000) e ∙ base_back z k

number_at : (y : ℤ) (m n : ℕ) → day_number (day_at y m n) ≡ days_of_years (base y) + days_of_months y (m - 1) + n
unfolding day_number
number_at y m n = refl

number_of : (d : Day) → day_number d ≡ days_of_years (base d.year) + days_of_months d.year (d.month - 1) + d.day
unfolding day_number
number_of d = refl

pub next : (d : Day) → IsDay d → day_number (next_day d) ≡ day_number d + 1
next d h =
    let y = d.year in let m = d.month in let n = d.day in
    let to : n ≤ days_of_month y m = h.day_to in
    let top : m ≤ 12 = h.month_to in
    let low : 1 ≤ n = h.day_from in
    let first : 1 ≤ m = h.month_from in
    let here : day_number d ≡ days_of_years (base y) + days_of_months y (m - 1) + n = number_of d in
    elim (is_it (ltb n (days_of_month y m))) [
      | inl p ↦
          let there = ap day_number (next_within y m n (ltb-true _ _ p)) ∙ number_at y m (n + 1) in
          omega (arith, there, here)
      | inr p ↦
          let last : days_of_month y m ≤ n = ltb-false _ _ p in
          let more = months_more y m first in
          elim (is_it (ltb m 12)) [
            | inl q ↦
                let k : m + 1 - 1 ≡ m = omega arith in
                let there = ap day_number (next_month y m n last (ltb-true _ _ q)) ∙ number_at y (m + 1) 1 in
                let same = ap (days_of_months y) k in
                omega (arith, there, here, more, same)
            | inr q ↦
                let k : 12 ≤ m = ltb-false _ _ q in
                let twelve : m ≡ 12 = omega arith in
                let there = ap day_number (next_year y m n last k) ∙ number_at (y +ℤ pos 1) 1 1 in
                let up : days_of_years (base (y +ℤ pos 1)) ≡ days_of_years (base y) + days_of_year y = ap days_of_years (base_next y h.year_from) ∙ years_suc (base y) ∙ ap (λ z. days_of_years (base y) + days_of_year z) (base_back y h.year_from) in
                let none : days_of_months (y +ℤ pos 1) (1 - 1) ≡ 0 = months_zero (y +ℤ pos 1) in
                let all : days_of_months y m ≡ days_of_year y = ap (days_of_months y) twelve ∙ whole_year y in
                omega (arith, there, here, more, up, none, all)
          ]
    ]

seconds_at : (d : Day) (t : ℕ) (m : Moment) → utc_second (at_minute d t m) ≡ 86400 * day_number d + 60 * t + m.second
seconds_at d t m = omega arith

seconds_of : (m : Moment) → utc_second m ≡ 86400 * day_number m.day + 60 * minute_of_day m + m.second
seconds_of m = omega arith

pub second_appended_on : (n : ℕ) (m : Moment) → n < 1440 → IsMoment m → utc_second (later n m) ≡ utc_second m + 60 * n
second_appended_on n m below h = elim (is_it (ltb (minute_of_day m + n) 1440)) [
  | inl p ↦
      ap utc_second (later_same n m (ltb-true _ _ p)) ∙ seconds_at m.day (minute_of_day m + n) m ∙ (omega arith)
  | inr p ↦
      let more : 1440 ≤ minute_of_day m + n = ltb-false _ _ p in
      let e = next m.day h.day in
      let f = seconds_at (next_day m.day) (minute_of_day m + n - 1440) m in
      ap utc_second (later_next n m more) ∙ f ∙ (omega (arith, e))
]

months_grow : (y : ℤ) (k j : ℕ) → days_of_months y k ≤ days_of_months y (j + k)
months_grow y k zero = let e : 0 + k ≡ k = omega arith in rw e (omega arith)
months_grow y k (suc j) =
    let e : suc j + k ≡ suc (j + k) = omega arith in
    let r = months_grow y k j in
    let s = months_suc y (j + k) in
    rw e (omega arith)

years_grow : (k j : ℕ) → days_of_years k ≤ days_of_years (j + k)
years_grow k zero = let e : 0 + k ≡ k = omega arith in rw e (omega arith)
years_grow k (suc j) =
    let e : suc j + k ≡ suc (j + k) = omega arith in
    let r = years_grow k j in
    let s = years_suc (j + k) in
    rw e (omega arith)

-- a day lies in its year and its month
in_month : (d : Day) → IsDay d → (days_of_months d.year (d.month - 1) + d.day ≤ days_of_months d.year d.month) × (days_of_months d.year d.month ≤ days_of_year d.year)
in_month d h =
    let a = months_more d.year d.month h.month_from in
    let to : d.day ≤ days_of_month d.year d.month = h.day_to in
    let k : 12 - d.month + d.month ≡ 12 = let t : d.month ≤ 12 = h.month_to in omega arith in
    let b = months_grow d.year d.month (12 - d.month) in
    let c : days_of_months d.year (12 - d.month + d.month) ≡ days_of_year d.year = ap (days_of_months d.year) k ∙ whole_year d.year in
    (omega arith, omega arith)

earlier_year : (d e : Day) → IsDay d → IsDay e → base d.year < base e.year → day_number d < day_number e
earlier_year d e h k lt =
    let a = in_month d h in
    let n = number_of d in
    let m = number_of e in
    let one : 1 ≤ e.day = k.day_from in
    let s : days_of_years (suc (base d.year)) ≡ days_of_years (base d.year) + days_of_year d.year = years_suc (base d.year) ∙ ap (λ z. days_of_years (base d.year) + days_of_year z) (base_back d.year h.year_from) in
    let j : base e.year - suc (base d.year) + suc (base d.year) ≡ base e.year = omega arith in
    let g = years_grow (suc (base d.year)) (base e.year - suc (base d.year)) in
    let f : days_of_years (base e.year - suc (base d.year) + suc (base d.year)) ≡ days_of_years (base e.year) = ap days_of_years j in
    omega (arith, a.0, a.1, n, m, s, g, f)

earlier_month : (y : ℤ) (m n k j : ℕ) → (days_of_months y (m - 1) + n ≤ days_of_months y m) → 1 ≤ j → m < k → days_of_months y (m - 1) + n < days_of_months y (k - 1) + j
earlier_month y m n k j a one lt =
    let i : k - 1 - m + m ≡ k - 1 = omega arith in
    let g = months_grow y m (k - 1 - m) in
    let f : days_of_months y (k - 1 - m + m) ≡ days_of_months y (k - 1) = ap (days_of_months y) i in
    omega (arith, g, f)

compared : (a b : ℕ) → (a < b) ⊎ ((a ≡ b) ⊎ (b < a))
compared a b = elim (is_it (ltb a b)) [
  | inl p ↦ inl (ltb-true _ _ p)
  | inr p ↦ elim (is_it (ltb b a)) [
    | inl q ↦ inr (inr (ltb-true _ _ q))
    | inr q ↦ inr (inl (let x : b ≤ a = ltb-false _ _ p in let z : a ≤ b = ltb-false _ _ q in omega arith))
  ]
]

pub same_number : (d e : Day) → IsDay d → IsDay e → day_number d ≡ day_number e → d ≡ e
same_number d e h k s =
    let n = number_of d in
    let m = number_of e in
    elim (compared (base d.year) (base e.year)) [
      | inl p ↦ let lt = earlier_year d e h k p in absurd (omega arith)
      | inr (inr p) ↦ let lt = earlier_year e d k h p in absurd (omega arith)
      | inr (inl p) ↦
          let y : d.year ≡ e.year = base_same d.year e.year h.year_from k.year_from p in
          let z : days_of_years (base d.year) ≡ days_of_years (base e.year) = ap days_of_years p in
          let v : days_of_months e.year (e.month - 1) ≡ days_of_months d.year (e.month - 1) = ap (λ w. days_of_months w (e.month - 1)) (sym y) in
          let a = (in_month d h).0 in
          let b0 = (in_month e k).0 in
          let b : days_of_months d.year (e.month - 1) + e.day ≤ days_of_months d.year e.month = subst (λ w. days_of_months w (e.month - 1) + e.day ≤ days_of_months w e.month) (sym y) b0 in
          elim (compared d.month e.month) [
            | inl q ↦ let lt = earlier_month d.year d.month d.day e.month e.day a k.day_from q in absurd (omega (arith, lt, s, n, m, z, v))
            | inr (inr q) ↦ let lt = earlier_month d.year e.month e.day d.month d.day b h.day_from q in absurd (omega (arith, lt, s, n, m, z, v))
            | inr (inl q) ↦
                let w : days_of_months d.year (d.month - 1) ≡ days_of_months d.year (e.month - 1) = ap (λ x. days_of_months d.year (x - 1)) q in
                let day : d.day ≡ e.day = omega (arith, s, n, m, z, v, w) in
                same_day d e.year e.month e.day y q day
          ]
    ]

pub previous : (d : Day) → IsDay d → negsuc 99997 ≤ℤ d.year → day_number (previous_day d) + 1 ≡ day_number d
previous d h room =
    let y = d.year in let m = d.month in let n = d.day in
    let low : 1 ≤ n = h.day_from in
    let first : 1 ≤ m = h.month_from in
    let here : day_number d ≡ days_of_years (base y) + days_of_months y (m - 1) + n = number_of d in
    elim (is_it (ltb 1 n)) [
      | inl p ↦
          let more : 1 < n = ltb-true _ _ p in
          let there = ap day_number (previous_within y m n more) ∙ number_at y m (n - 1) in
          omega (arith, there, here)
      | inr p ↦
          let one : n ≤ 1 = ltb-false _ _ p in
          elim (is_it (ltb 1 m)) [
            | inl q ↦
                let k : 1 < m = ltb-true _ _ q in
                let j : 1 ≤ m - 1 = omega arith in
                let there = ap day_number (previous_month y m n one k) ∙ number_at y (m - 1) (days_of_month y (m - 1)) in
                let more = months_more y (m - 1) j in
                omega (arith, there, here, more)
            | inr q ↦
                let k : m ≤ 1 = ltb-false _ _ q in
                let x : ℤ = y -ℤ pos 1 in
                let from : negsuc 99998 ≤ℤ x = omega (arith, ints) in
                let again : x +ℤ pos 1 ≡ y = year_forth y in
                let there = ap day_number (previous_year y m n one k) ∙ number_at x 12 31 in
                let up : days_of_years (base y) ≡ days_of_years (base x) + days_of_year x = ap (λ w. days_of_years (base w)) (sym again) ∙ ap days_of_years (base_next x from) ∙ years_suc (base x) ∙ ap (λ z. days_of_years (base x) + days_of_year z) (base_back x from) in
                let none : days_of_months y (m - 1) ≡ 0 = ap (days_of_months y) (let z : m - 1 ≡ 0 = omega arith in z) ∙ months_zero y in
                let all : days_of_months x (12 - 1) + 31 ≡ days_of_year x = sym (months_suc x 11) ∙ whole_year x in
                omega (arith, there, here, up, none, all)
          ]
    ]

pub second_taken_off : (n : ℕ) (m : Moment) → n < 1440 → IsMoment m → negsuc 99997 ≤ℤ m.day.year → utc_second (earlier n m) + 60 * n ≡ utc_second m
second_taken_off n m below h room = elim (is_it (ltb (minute_of_day m) n)) [
  | inl p ↦
      let less : minute_of_day m < n = ltb-true _ _ p in
      let e = previous m.day h.day room in
      let f = seconds_at (previous_day m.day) (minute_of_day m + 1440 - n) m in
      ap (λ s. s + 60 * n) (ap utc_second (earlier_previous n m less) ∙ f) ∙ (omega (arith, e))
  | inr p ↦
      let more : n ≤ minute_of_day m = ltb-false _ _ p in
      let f = seconds_at m.day (minute_of_day m - n) m in
      ap (λ s. s + 60 * n) (ap utc_second (earlier_same n m more) ∙ f) ∙ (omega arith)
]

same_parts : (a b h g m l s t : ℕ) → h < 24 → g < 24 → m < 60 → l < 60 → s < 60 → t < 60 → 86400 * a + 3600 * h + 60 * m + s ≡ 86400 * b + 3600 * g + 60 * l + t → (a ≡ b) × (h ≡ g) × (m ≡ l) × (s ≡ t)
same_parts a b h g m l s t h1 h2 h3 h4 h5 h6 e =
    let x : a ≡ b = omega arith in
    let y : h ≡ g = omega arith in
    let z : m ≡ l = omega arith in
    (x, y, z, omega arith)

alike : (m n : Moment) → m.day ≡ n.day → m.hour ≡ n.hour → m.minute ≡ n.minute → m.second ≡ n.second → m.nanosecond ≡ n.nanosecond → m ≡ n
alike m n a b c d e =
    ap (λ x. let v : Moment = record { day = x; hour = m.hour; minute = m.minute; second = m.second; nanosecond = m.nanosecond } in v) a
    ∙ ap (λ x. let v : Moment = record { day = n.day; hour = x; minute = m.minute; second = m.second; nanosecond = m.nanosecond } in v) b
    ∙ ap (λ x. let v : Moment = record { day = n.day; hour = n.hour; minute = x; second = m.second; nanosecond = m.nanosecond } in v) c
    ∙ ap (λ x. let v : Moment = record { day = n.day; hour = n.hour; minute = n.minute; second = x; nanosecond = m.nanosecond } in v) d
    ∙ ap (λ x. let v : Moment = record { day = n.day; hour = n.hour; minute = n.minute; second = n.second; nanosecond = x } in v) e

pub same_moment : (m n : Moment) → IsMoment m → IsMoment n → utc_second m ≡ utc_second n → m.nanosecond ≡ n.nanosecond → m ≡ n
same_moment m n h k e f =
    let p = same_parts (day_number m.day) (day_number n.day) m.hour n.hour m.minute n.minute m.second n.second h.hour k.hour h.minute k.minute h.second k.second e in
    let d : m.day ≡ n.day = same_number m.day n.day h.day k.day p.0 in
    alike m n d p.1 p.2 p.3 f

base_less : (y z : ℤ) → negsuc 99998 ≤ℤ y → negsuc 99998 ≤ℤ z → y <ℤ z → base y < base z
base_less y z h k lt =
    let a = based y h in
    let b = based z k in
    omega (arith, ints)

day_order : (d e : Day) → IsDay d → IsDay e → DayBefore d e → day_number d < day_number e
day_order d e h k (inl lt) = earlier_year d e h k (base_less d.year e.year h.year_from k.year_from lt)
day_order d e h k (inr (y, inl lt)) =
    let n = number_of d in
    let m = number_of e in
    let z : days_of_years (base d.year) ≡ days_of_years (base e.year) = ap (λ w. days_of_years (base w)) y in
    let v : days_of_months e.year (e.month - 1) ≡ days_of_months d.year (e.month - 1) = ap (λ w. days_of_months w (e.month - 1)) (sym y) in
    let g = earlier_month d.year d.month d.day e.month e.day (in_month d h).0 k.day_from lt in
    omega (arith, n, m, z, v, g)
day_order d e h k (inr (y, inr (q, lt))) =
    let n = number_of d in
    let m = number_of e in
    let z : days_of_years (base d.year) ≡ days_of_years (base e.year) = ap (λ w. days_of_years (base w)) y in
    let v : days_of_months e.year (e.month - 1) ≡ days_of_months d.year (e.month - 1) = ap (λ w. days_of_months w (e.month - 1)) (sym y) in
    let w : days_of_months d.year (d.month - 1) ≡ days_of_months d.year (e.month - 1) = ap (λ x. days_of_months d.year (x - 1)) q in
    omega (arith, n, m, z, v, w)

order : (m n : Moment) → IsMoment m → IsMoment n → Before m n → (utc_second m < utc_second n) ⊎ ((utc_second m ≡ utc_second n) × (m.nanosecond < n.nanosecond))
order m n h k (inl p) =
    let g = day_order m.day n.day h.day k.day p in
    inl (omega (arith, g, h.hour, h.minute, h.second))
order m n h k (inr (d, inl p)) = let e = ap day_number d in inl (omega (arith, e, h.minute, h.second))
order m n h k (inr (d, inr (a, inl p))) = let e = ap day_number d in inl (omega (arith, e, h.second))
order m n h k (inr (d, inr (a, inr (b, inl p)))) = let e = ap day_number d in inl (omega (arith, e))
order m n h k (inr (d, inr (a, inr (b, inr (c, p))))) = let e = ap day_number d in inr (omega (arith, e), p)

pub seconds : Seconds
seconds = record { next = next; appended_on = second_appended_on; taken_off = second_taken_off; same_day = same_number; same = same_moment; order = order }
