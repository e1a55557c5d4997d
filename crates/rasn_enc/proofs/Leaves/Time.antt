-- The texts of times in a header are their octets.
use Rattle.std.proofs.Common.{◌≡◌, ℕ, zero, suc, ◌+◌, ◌-◌, ◌/◌, ◌%◌, ◌^◌, ◌<◌, ◌≤◌, ◌==◌, inl, ap, Bool, true, false, cond, List, [], ◌∷◌, ◌++◌, map, length, refl, Result, OnOk, pos, negsuc, ℤ, arith, subst}
use Rattle.std.specs.Prelude.{nat_lt}
use Rattle.std.proofs.lemmas.Bool.Decides.{nat_tests}
use Rattle.std.proofs.lemmas.Result.{on_ok_weaker}
use Rattle.std.proofs.lemmas.List.{length-append, length-map}
use Rattle.rasn_types.specs.Calendar.{Moment, IsMoment, Day, IsDay}
use Rattle.rasn_types.specs.TimeSpelling.{two, four}
use Rattle.rasn_types.specs.Time.{digits_of, written_fraction, within_second, clock_written, long_year, written_year, written_date, written_generalized, written_utc}
use Rattle.rasn_types.specs.Tags.{in_universal, tag_bit}
use Rattle.rasn_types.specs.Framing.{AreOctets}
use Rattle.rasn_types.specs.Shapes.{Shape, Tree, leaf, utc_time, generalized_time, date, instant, on_day}
use Rattle.rasn_types.specs.Bytes.{PrimitiveEncoding, WritesString, WritesOctets, Bytes, IsUntaggedOpen}
use Rattle.rasn_types.specs.declared.types.tag.Tag.{Tag}
use Rattle.rasn_types.specs.declared.types.constraints.Constraints.{Constraints}
use Rattle.rasn_types.proofs.Time.Fractions.{digits_of_step, digits_of_zero, positive}
use Rattle.rasn_enc.specs.View.{View}
use Rattle.rasn_enc.specs.Primitive.{Appends}
use Rattle.rasn_enc.specs.Encoding.{AppendsEncoding}
use Rattle.rasn_enc.proofs.Leaves.TimeOctets.{utc_octets, generalized_octets, date_octets}
use Rattle.rasn_enc.proofs.Leaves.Primitive.{encoded_one, definite_begins}

-- How long texts get.
digits_few : (k n : ℕ) → length (digits_of k n) ≤ k
unfolding digits_of
digits_few zero n = omega arith
digits_few (suc k) n = go (digits_few k (n % 10 ^ k)) (n == 0)
  where
    go : length (digits_of k (n % 10 ^ k)) ≤ k → (b : Bool) → length (cond b [] ((n / 10 ^ k) ∷ digits_of k (n % 10 ^ k))) ≤ suc k
    go h true = omega arith
    go h false = omega arith

fraction_few : (n : ℕ) → length (written_fraction n) ≤ 10
fraction_few n = go (n == 0)
  where
    go : (b : Bool) → length (cond b [] (46 ∷ map (λ d. 48 + d) (digits_of 9 n))) ≤ 10
    go true = omega arith
    go false = let h = digits_few 9 n in let e = length-map (digits_of 9 n) (λ d. 48 + d) in omega arith

long_few : (n : ℕ) → length (long_year n) ≤ 5
long_few n = go (nat_lt n 10000)
  where
    go : (b : Bool) → length (cond b (four n) ((48 + n / 10000) ∷ four (n % 10000))) ≤ 5
    go true = omega arith
    go false = omega arith

year_few : (y : ℤ) → length (written_year y) ≤ 6
year_few (pos n) = go (nat_lt n 10000)
  where
    go : (b : Bool) → length (cond b (four n) (43 ∷ long_year n)) ≤ 6
    go true = omega arith
    go false = let h = long_few n in omega arith
year_few (negsuc n) = let h = long_few (n + 1) in omega arith

pub date_few : (d : Day) → length (written_date d) ≤ 10
unfolding written_date
date_few d =
    let e = length-append (written_year d.year) (two d.month ++ two d.day) in
    let h = year_few d.year in
    omega arith

pub generalized_few : (m : Moment) → length (written_generalized m) ≤ 1000
unfolding written_generalized
generalized_few m =
    let e = length-append (written_date m.day) (clock_written m ++ (written_fraction (within_second m) ++ 90 ∷ [])) in
    let f = length-append (written_fraction (within_second m)) (90 ∷ []) in
    let h = date_few m.day in
    let k = fraction_few (within_second m) in
    omega arith

pub utc_few : (m : Moment) → length (written_utc m) ≤ 1000
unfolding written_utc
utc_few m = omega arith

-- How many octets texts have.
pub length-date : (d : Day) → length (written_date d) ≡ length (written_year d.year) + 4
unfolding written_date
length-date d = length-append (written_year d.year) (two d.month ++ two d.day)

pub length-utc : (m : Moment) → length (written_utc m) ≡ 13
unfolding written_utc
length-utc m = refl

pub length-generalized : (m : Moment) → length (written_generalized m) ≡ length (written_year m.day.year) + 11 + length (written_fraction (within_second m))
unfolding written_generalized
length-generalized m =
    let e = length-append (written_date m.day) (clock_written m ++ (written_fraction (within_second m) ++ 90 ∷ [])) in
    let f = length-append (written_fraction (within_second m)) (90 ∷ []) in
    let h = length-date m.day in
    omega arith

pub no_fraction : (n : ℕ) → n ≡ 0 → 0 ≡ length (written_fraction n)
no_fraction n e = rw e refl

-- One digit of a fraction is left out.
pub one_digit_less : (k n w all : ℕ) → 0 < k → 0 < n → k ≤ 9 → w ≡ 10 ^ (k - 1) → length (digits_of k n) + (9 - k) ≡ all → length (digits_of (k - 1) (n % w)) + (9 - (k - 1)) ≡ all
one_digit_less k n w all h l few e m =
    let s = ap length (digits_of_step k n h l) in
    rw e (omega (arith, s, m, few, h))

-- Where something is left of a fraction, so is a digit.
pub some_place : (k n : ℕ) → 0 < n → n < 10 ^ k → 0 < k
some_place zero n h l = absurd (omega (arith, h, l))
some_place (suc k) n h l = omega arith

-- No digit is left.
pub no_digit_left : (n k all : ℕ) → n ≡ 0 → 0 < all → k ≤ 9 → length (digits_of k n) + (9 - k) ≡ length (digits_of 9 all) → 10 - k ≡ length (written_fraction all)
no_digit_left n k all e h few m =
    let z : length (digits_of k n) ≡ 0 = rw (e, digits_of_zero k) refl in
    let w : length (written_fraction all) ≡ suc (length (digits_of 9 all)) = rw (positive all h) (ap suc (length-map (digits_of 9 all) (λ d. 48 + d))) in
    omega (arith, z, w, m, few)

pub within : (m : Moment) → IsMoment m → m.nanosecond % 1000000000 ≡ within_second m
within m h = let k = h.nanosecond in grind (arith, nat_tests)

-- A text in one piece.
time_encoded : {R E Valid : Type 0} (result : Result R E) (tag : Tag) (s : Shape) (t : Tree) (text : List ℕ) (v w : View) → (IsUntaggedOpen s t → ⊥) → (Valid → AreOctets text) → length text ≤ 1000
    → (Valid → (b : List ℕ) → WritesString v.rule WritesOctets 1000 (in_universal 4) tag text b → Bytes v.rule s t b)
    → OnOk result ((l : List ℕ) × ((l ≡ text) × Valid) × Appends (PrimitiveEncoding tag l) tag v w) → OnOk result (AppendsEncoding s t v w)
time_encoded result tag s t text v w n o few bytes h = on_ok_weaker result (λ (l, (e, valid), a).
    let a : Appends (PrimitiveEncoding tag text) tag v w = subst (λ l. Appends (PrimitiveEncoding tag l) tag v w) e a in
    encoded_one (PrimitiveEncoding tag text) tag s t v w a n (λ b d. definite_begins tag (tag_bit tag) text b d) (λ b d. bytes valid b (inl ((λ c. few), text, (refl, o valid), d)))) h

pub utc_encoded : {R E : Type 0} (result : Result R E) (tag : Tag) (m : Moment) (v w : View)
    → OnOk result ((l : List ℕ) × ((l ≡ written_utc m) × IsMoment m) × Appends (PrimitiveEncoding tag l) tag v w) → (c : Constraints) → OnOk result (AppendsEncoding (leaf utc_time tag c) (instant m) v w)
unfolding Bytes IsUntaggedOpen
utc_encoded result tag m v w h c =
    time_encoded result tag (leaf utc_time tag c) (instant m) (written_utc m) v w (λ n. n) (utc_octets m) (utc_few m) (λ valid b d. (tt, (written_utc m, (m, refl, valid, refl), d))) h

pub generalized_encoded : {R E : Type 0} (result : Result R E) (tag : Tag) (m : Moment) (v w : View)
    → OnOk result ((l : List ℕ) × ((l ≡ written_generalized m) × IsMoment m) × Appends (PrimitiveEncoding tag l) tag v w) → (c : Constraints) → OnOk result (AppendsEncoding (leaf generalized_time tag c) (instant m) v w)
unfolding Bytes IsUntaggedOpen
generalized_encoded result tag m v w h c =
    time_encoded result tag (leaf generalized_time tag c) (instant m) (written_generalized m) v w (λ n. n) (generalized_octets m) (generalized_few m) (λ valid b d. (tt, (written_generalized m, (m, refl, valid, refl), d))) h

pub date_encoded : {R E : Type 0} (result : Result R E) (tag : Tag) (d : Day) (v w : View)
    → OnOk result ((l : List ℕ) × ((l ≡ written_date d) × IsDay d) × Appends (PrimitiveEncoding tag l) tag v w) → (c : Constraints) → OnOk result (AppendsEncoding (leaf date tag c) (on_day d) v w)
unfolding Bytes IsUntaggedOpen
date_encoded result tag d v w h c =
    let few = date_few d in
    time_encoded result tag (leaf date tag c) (on_day d) (written_date d) v w (λ n. n) (date_octets d) (omega arith) (λ valid b k. (tt, (written_date d, (d, refl, valid, refl), k))) h
