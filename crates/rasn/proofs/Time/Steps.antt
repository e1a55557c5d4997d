-- Days follow one another; offsets are undone.
use Rattle.std.proofs.Common.{◌≡◌, ℕ, ◌+◌, ◌-◌, ◌*◌, ◌/◌, ◌%◌, ◌<◌, ◌≤◌, ◌⊎◌, Bool, true, false, refl, ap, ◌∙◌, arith, inl, inr, ℤ, pos, ◌+ℤ◌, ◌-ℤ◌}
use Rattle.std.proofs.lemmas.Bool.Decides.{nat_tests}
use Rattle.std.proofs.lemmas.Bool.{lt-ltb, ltb-true, ltb-false, le-ltb}
use Rattle.std.proofs.lemmas.Int.{ints}
use Rattle.std.proofs.Math.Dec.{ltb}
use Rattle.rasn_types.specs.Calendar.{Moment, IsMoment, Day, IsDay, days_of_month, next_day, previous_day, later, earlier, at_minute, minute_of_day}
use Rattle.rasn.specs.TimeLaws.{Steps}

abbrev pub day_at : ℤ → ℕ → ℕ → Day
day_at y m n = record { year = y; month = m; day = n }

pub is_it : (b : Bool) → (b ≡ true) ⊎ (b ≡ false)
is_it true = inl refl
is_it false = inr refl

pub next_within : (y : ℤ) (m n : ℕ) → n < days_of_month y m → next_day (day_at y m n) ≡ day_at y m (n + 1)
unfolding next_day
next_within y m n h = rw (lt-ltb n (days_of_month y m) h) refl

pub next_month : (y : ℤ) (m n : ℕ) → days_of_month y m ≤ n → m < 12 → next_day (day_at y m n) ≡ day_at y (m + 1) 1
unfolding next_day
next_month y m n h k = rw (le-ltb n (days_of_month y m) h, lt-ltb m 12 k) refl

pub next_year : (y : ℤ) (m n : ℕ) → days_of_month y m ≤ n → 12 ≤ m → next_day (day_at y m n) ≡ day_at (y +ℤ pos 1) 1 1
unfolding next_day
next_year y m n h k = rw (le-ltb n (days_of_month y m) h, le-ltb m 12 k) refl

pub previous_within : (y : ℤ) (m n : ℕ) → 1 < n → previous_day (day_at y m n) ≡ day_at y m (n - 1)
unfolding previous_day
previous_within y m n h = rw (lt-ltb 1 n h) refl

pub previous_month : (y : ℤ) (m n : ℕ) → n ≤ 1 → 1 < m → previous_day (day_at y m n) ≡ day_at y (m - 1) (days_of_month y (m - 1))
unfolding previous_day
previous_month y m n h k = rw (le-ltb 1 n h, lt-ltb 1 m k) refl

pub previous_year : (y : ℤ) (m n : ℕ) → n ≤ 1 → m ≤ 1 → previous_day (day_at y m n) ≡ day_at (y -ℤ pos 1) 12 31
unfolding previous_day
previous_year y m n h k = rw (le-ltb 1 n h, le-ltb 1 m k) refl

december : (y : ℤ) → days_of_month y 12 ≡ 31
december y = refl

pub month_begins : (y : ℤ) (m : ℕ) → 28 ≤ days_of_month y m
month_begins y m = grind (arith, nat_tests)

year_back : (y : ℤ) → (y +ℤ pos 1) -ℤ pos 1 ≡ y
year_back y = omega (arith, ints)

pub year_forth : (y : ℤ) → (y -ℤ pos 1) +ℤ pos 1 ≡ y
year_forth y = omega (arith, ints)

same_at : (y z : ℤ) (m k n j : ℕ) → y ≡ z → m ≡ k → n ≡ j → day_at y m n ≡ day_at z k j
same_at y z m k n j a b c = rw (a, b, c) refl

pub forth : (d : Day) → IsDay d → previous_day (next_day d) ≡ d
forth d h =
    let y = d.year in let m = d.month in let n = d.day in
    let e : days_of_month y m ≡ days_of_month d.year d.month = refl in
    let to : n ≤ days_of_month y m = h.day_to in
    let top : m ≤ 12 = h.month_to in
    let low : 1 ≤ n = h.day_from in
    let first : 1 ≤ m = h.month_from in
    elim (is_it (ltb n (days_of_month y m))) [
      | inl p ↦
          ap previous_day (next_within y m n (ltb-true _ _ p)) ∙ previous_within y m (n + 1) (omega arith) ∙ same_at y y m m (n + 1 - 1) n refl refl (omega arith)
      | inr p ↦
          let last : days_of_month y m ≤ n = ltb-false _ _ p in
          let full : days_of_month y m ≡ n = omega arith in
          elim (is_it (ltb m 12)) [
            | inl q ↦
                let k : m + 1 - 1 ≡ m = omega arith in
                ap previous_day (next_month y m n last (ltb-true _ _ q)) ∙ previous_month y (m + 1) 1 (omega arith) (omega arith) ∙ same_at y y (m + 1 - 1) m (days_of_month y (m + 1 - 1)) n refl k (ap (days_of_month y) k ∙ full)
            | inr q ↦
                let k : 12 ≤ m = ltb-false _ _ q in
                let twelve : 12 ≡ m = omega arith in
                ap previous_day (next_year y m n last k) ∙ previous_year (y +ℤ pos 1) 1 1 (omega arith) (omega arith) ∙ same_at ((y +ℤ pos 1) -ℤ pos 1) y 12 m 31 n (year_back y) twelve (ap (days_of_month y) twelve ∙ full)
          ]
    ]

pub back : (d : Day) → IsDay d → next_day (previous_day d) ≡ d
back d h =
    let y = d.year in let m = d.month in let n = d.day in
    let to : n ≤ days_of_month y m = h.day_to in
    let top : m ≤ 12 = h.month_to in
    let low : 1 ≤ n = h.day_from in
    let first : 1 ≤ m = h.month_from in
    elim (is_it (ltb 1 n)) [
      | inl p ↦
          let more : 1 < n = ltb-true _ _ p in
          ap next_day (previous_within y m n more) ∙ next_within y m (n - 1) (omega arith) ∙ same_at y y m m (n - 1 + 1) n refl refl (omega arith)
      | inr p ↦
          let one : n ≤ 1 = ltb-false _ _ p in
          elim (is_it (ltb 1 m)) [
            | inl q ↦
                let k : 1 < m = ltb-true _ _ q in
                ap next_day (previous_month y m n one k) ∙ next_month y (m - 1) (days_of_month y (m - 1)) (omega arith) (omega arith) ∙ same_at y y (m - 1 + 1) m 1 n refl (omega arith) (omega arith)
            | inr q ↦
                let k : m ≤ 1 = ltb-false _ _ q in
                ap next_day (previous_year y m n one k) ∙ next_year (y -ℤ pos 1) 12 31 (omega arith) (omega arith) ∙ same_at ((y -ℤ pos 1) +ℤ pos 1) y 1 m 1 n (year_forth y) (omega arith) (omega arith)
          ]
    ]

pub later_same : (n : ℕ) (m : Moment) → minute_of_day m + n < 1440 → later n m ≡ at_minute m.day (minute_of_day m + n) m
unfolding later
later_same n m h = rw (lt-ltb (minute_of_day m + n) 1440 h) refl

pub later_next : (n : ℕ) (m : Moment) → 1440 ≤ minute_of_day m + n → later n m ≡ at_minute (next_day m.day) (minute_of_day m + n - 1440) m
unfolding later
later_next n m h = rw (le-ltb (minute_of_day m + n) 1440 h) refl

pub earlier_same : (n : ℕ) (m : Moment) → n ≤ minute_of_day m → earlier n m ≡ at_minute m.day (minute_of_day m - n) m
unfolding earlier
earlier_same n m h = rw (le-ltb (minute_of_day m) n h) refl

pub earlier_previous : (n : ℕ) (m : Moment) → minute_of_day m < n → earlier n m ≡ at_minute (previous_day m.day) (minute_of_day m + 1440 - n) m
unfolding earlier
earlier_previous n m h = rw (lt-ltb (minute_of_day m) n h) refl

pub minutes : (t : ℕ) → 60 * (t / 60) + t % 60 ≡ t
minutes t = omega arith

-- back at its minute
at_own : (d : Day) (t : ℕ) (m : Moment) → IsMoment m → d ≡ m.day → t ≡ minute_of_day m → at_minute d t m ≡ m
at_own d t m h e f =
    let low : m.minute < 60 = h.minute in
    let a : (60 * m.hour + m.minute) / 60 ≡ m.hour = omega arith in
    let b : (60 * m.hour + m.minute) % 60 ≡ m.minute = omega arith in
    rw (e, f, a, b) refl

pub appended_on : (n : ℕ) (m : Moment) → n < 1440 → IsMoment m → later n (earlier n m) ≡ m
appended_on n m below h =
    let hour : m.hour < 24 = h.hour in
    let minute : m.minute < 60 = h.minute in
    elim (is_it (ltb (minute_of_day m) n)) [
      | inl p ↦
          let less : minute_of_day m < n = ltb-true _ _ p in
          let t = minute_of_day m + 1440 - n in
          let x = at_minute (previous_day m.day) t m in
          let v : minute_of_day x ≡ t = minutes t in
          let full : 1440 ≤ minute_of_day x + n = omega arith in
          let rest : minute_of_day x + n - 1440 ≡ minute_of_day m = omega arith in
          ap (later n) (earlier_previous n m less) ∙ later_next n x full ∙ at_own (next_day (previous_day m.day)) (minute_of_day x + n - 1440) m h (back m.day h.day) rest
      | inr p ↦
          let more : n ≤ minute_of_day m = ltb-false _ _ p in
          let t = minute_of_day m - n in
          let x = at_minute m.day t m in
          let v : minute_of_day x ≡ t = minutes t in
          let within : minute_of_day x + n < 1440 = omega arith in
          let rest : minute_of_day x + n ≡ minute_of_day m = omega arith in
          ap (later n) (earlier_same n m more) ∙ later_same n x within ∙ at_own m.day (minute_of_day x + n) m h refl rest
    ]

pub taken_off : (n : ℕ) (m : Moment) → n < 1440 → IsMoment m → earlier n (later n m) ≡ m
taken_off n m below h =
    let hour : m.hour < 24 = h.hour in
    let minute : m.minute < 60 = h.minute in
    elim (is_it (ltb (minute_of_day m + n) 1440)) [
      | inl p ↦
          let less : minute_of_day m + n < 1440 = ltb-true _ _ p in
          let t = minute_of_day m + n in
          let x = at_minute m.day t m in
          let v : minute_of_day x ≡ t = minutes t in
          let within : n ≤ minute_of_day x = omega arith in
          let rest : minute_of_day x - n ≡ minute_of_day m = omega arith in
          ap (earlier n) (later_same n m less) ∙ earlier_same n x within ∙ at_own m.day (minute_of_day x - n) m h refl rest
      | inr p ↦
          let more : 1440 ≤ minute_of_day m + n = ltb-false _ _ p in
          let t = minute_of_day m + n - 1440 in
          let x = at_minute (next_day m.day) t m in
          let v : minute_of_day x ≡ t = minutes t in
          let less : minute_of_day x < n = omega arith in
          let rest : minute_of_day x + 1440 - n ≡ minute_of_day m = omega arith in
          ap (earlier n) (later_next n m more) ∙ earlier_previous n x less ∙ at_own (previous_day (next_day m.day)) (minute_of_day x + 1440 - n) m h (forth m.day h.day) rest
    ]

pub steps : Steps
steps = record { back = back; forth = forth; appended_on = appended_on; taken_off = taken_off }
