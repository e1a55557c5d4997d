-- The digits that are written represent their number.
use Rattle.std.proofs.Common.{◌≡◌, ℕ, zero, suc, ◌+◌, ◌-◌, ◌*◌, ◌/◌, ◌%◌, ◌^◌, ◌<◌, ◌≤◌, ◌⊎◌, ◌≢◌, true, false, ◌==◌, List, [], ◌∷◌, ◌++◌, map, length, refl, sym, ap, ◌∙◌, arith, append_assoc, inl, inr, mul-le-mul_right}
use Rattle.std.proofs.lemmas.Bool.Decides.{nat_tests}
use Rattle.std.proofs.Math.Nat.{mod-lt, pow-succ', div-lt_iff_lt-mul}
use Rattle.std.proofs.Math.Arith.{digits_lt}
use Rattle.std.proofs.lemmas.Nat.{div-add-mod', div-mul-add}
use Rattle.std.specs.List.{AllByRecursion}
use Rattle.rasn_types.specs.TimeSpelling.{parts}
use Rattle.rasn_types.specs.Time.{digits_of, EndsInNoZero}
use Rattle.rasn_types.proofs.Time.Powers.{ten_pos}

pub positive : (n : ℕ) → 0 < n → (n == 0) ≡ false
positive n h = grind (arith, nat_tests)

pub test : (n : ℕ) → ((n == 0) ≡ true × (n ≡ 0)) ⊎ ((n == 0) ≡ false × (0 < n))
test zero = inl (refl, refl)
test (suc n) = let h : 0 < suc n = omega arith in inr (positive (suc n) h, h)

pub digits_of_zero : (k : ℕ) → digits_of k 0 ≡ []
unfolding digits_of
digits_of_zero zero = refl
digits_of_zero (suc k) = refl

pub digits_of_none : (k n : ℕ) → k ≡ 0 → digits_of k n ≡ []
unfolding digits_of
digits_of_none zero n e = refl
digits_of_none (suc k) n e = absurd (omega arith)

pub digits_of_suc : (k n : ℕ) → 0 < n → digits_of (suc k) n ≡ (n / 10 ^ k) ∷ digits_of k (n % 10 ^ k)
unfolding digits_of
digits_of_suc k n h = rw (positive n h) refl

pub digits_of_step : (k n : ℕ) → 0 < k → 0 < n → digits_of k n ≡ (n / 10 ^ (k - 1)) ∷ digits_of (k - 1) (n % 10 ^ (k - 1))
digits_of_step zero n h l = absurd (omega arith)
digits_of_step (suc k) n h l = let e : suc k - 1 ≡ k = omega arith in rw e (digits_of_suc k n l)

pub pushed : (out more : List ℕ) (k n w : ℕ) → 0 < k → 0 < n → w ≡ 10 ^ (k - 1) → more ≡ out ++ (48 + n / w) ∷ [] → more ++ map (λ d. 48 + d) (digits_of (k - 1) (n % w)) ≡ out ++ map (λ d. 48 + d) (digits_of k n)
pushed out more k n w h l e p =
    let s = digits_of_step k n h l in
    rw (p, e, s) (append_assoc out ((48 + n / 10 ^ (k - 1)) ∷ []) (map (λ d. 48 + d) (digits_of (k - 1) (n % 10 ^ (k - 1)))))

quotient : (n k : ℕ) → n < 10 ^ suc k → n / 10 ^ k < 10
quotient n k h =
    let p = ten_pos k in
    let g : n < 10 * 10 ^ k = omega (arith, pow-succ' 10 k) in
    (div-lt_iff_lt-mul {x = n} p).1 g

pub digits_small : (k n : ℕ) → n < 10 ^ k → AllByRecursion (λ d. d < 10) (digits_of k n)
digits_small zero n h = rw (digits_of_none zero n refl) tt
digits_small (suc k) n h = elim (test n) [
  | inl p ↦ rw (p.1, digits_of_zero (suc k)) tt
  | inr p ↦ rw (digits_of_suc k n p.1) ((quotient n k h, digits_small k (n % 10 ^ k) (mod-lt n (ten_pos k))))
]

pub parts_step : (k d : ℕ) (ds : List ℕ) → parts (suc k) (d ∷ ds) ≡ d * 10 ^ k + parts k ds
unfolding parts
parts_step k d ds = refl

pub parts_nothing : (k : ℕ) → parts k [] ≡ 0
unfolding parts
parts_nothing zero = refl
parts_nothing (suc k) = refl

pub digits_back : (k n : ℕ) → n < 10 ^ k → parts k (digits_of k n) ≡ n
digits_back zero n h = rw (digits_of_none zero n refl, parts_nothing zero) (omega arith)
digits_back (suc k) n h = elim (test n) [
  | inl p ↦ rw (p.1, digits_of_zero (suc k)) (parts_nothing (suc k))
  | inr p ↦
      let e = digits_back k (n % 10 ^ k) (mod-lt n (ten_pos k)) in
      rw (digits_of_suc k n p.1, parts_step k (n / 10 ^ k) (digits_of k (n % 10 ^ k)), e) (div-add-mod' n (10 ^ k))
]

pub digits_some : (n : ℕ) → 0 < n → digits_of 9 n ≢ []
digits_some n h e = let s = digits_of_suc 8 n h in absurd (cc)

-- At most k digits are written, and the last isn't 0.
pub digits_long : (k n : ℕ) → length (digits_of k n) ≤ k
digits_long zero n = rw (digits_of_none zero n refl) (omega arith)
digits_long (suc k) n = elim (test n) [
  | inl p ↦ rw (p.1, digits_of_zero (suc k)) (omega arith)
  | inr p ↦ let i = digits_long k (n % 10 ^ k) in rw (digits_of_suc k n p.1) (omega (arith, i))
]

end_more : (d : ℕ) (l : List ℕ) → EndsInNoZero l → (l ≡ [] → d ≢ 0) → EndsInNoZero (d ∷ l)
end_more d [] h f = f refl
end_more d (e ∷ l) h f = h

pub digits_end : (k n : ℕ) → n < 10 ^ k → EndsInNoZero (digits_of k n)
digits_end zero n h = rw (digits_of_none zero n refl) tt
digits_end (suc k) n h = elim (test n) [
  | inl p ↦ rw (p.1, digits_of_zero (suc k)) tt
  | inr p ↦
      let m : n % 10 ^ k < 10 ^ k = mod-lt n (ten_pos k) in
      rw (digits_of_suc k n p.1) (end_more (n / 10 ^ k) (digits_of k (n % 10 ^ k)) (digits_end k (n % 10 ^ k) m) (λ e f.
      let g : n % 10 ^ k ≡ 0 = sym (digits_back k (n % 10 ^ k) m) ∙ (ap (parts k) e ∙ parts_nothing k) in
      let z : n / 10 ^ k * 10 ^ k + n % 10 ^ k ≡ n = div-add-mod' n (10 ^ k) in
      let y : n / 10 ^ k * 10 ^ k ≡ 0 * 10 ^ k = ap (λ x. x * 10 ^ k) f in
      omega (arith, p.1)))
]

parts_none : (d : ℕ) (ds : List ℕ) → parts zero (d ∷ ds) ≡ 0
unfolding parts
parts_none d ds = refl

pub parts_below : (k : ℕ) (ds : List ℕ) → AllByRecursion (λ d. d < 10) ds → parts k ds < 10 ^ k
parts_below k [] h = let e = parts_nothing k in let p = ten_pos k in omega arith
parts_below zero (d ∷ ds) h = let e : parts zero (d ∷ ds) ≡ 0 = parts_none d ds in let p = ten_pos zero in omega arith
parts_below (suc k) (d ∷ ds) h =
    let i = parts_below k ds h.1 in
    let g : d * 10 ^ k + parts k ds < 10 * 10 ^ k = digits_lt h.0 i in
    omega (arith, parts_step k d ds, pow-succ' 10 k)

pub parts_some : (k : ℕ) (ds : List ℕ) → length ds ≤ k → ds ≢ [] → EndsInNoZero ds → 0 < parts k ds
parts_some k [] h n e = absurd (n refl)
parts_some zero (d ∷ ds) h n e = absurd (omega arith)
parts_some (suc k) (d ∷ []) h n e =
    let p = ten_pos k in
    let q : 1 * 10 ^ k ≤ d * 10 ^ k = mul-le-mul_right (10 ^ k) (positive_of d e) in
    omega (arith, parts_step k d [])
  where
    positive_of : (d : ℕ) → d ≢ 0 → 1 ≤ d
    positive_of zero f = absurd (f refl)
    positive_of (suc d) f = omega arith
parts_some (suc k) (d ∷ c ∷ ds) h n e =
    let i = parts_some k (c ∷ ds) (omega arith) (λ f. cc) e in
    omega (arith, parts_step k d (c ∷ ds), i)

-- At most k digits, the last of which isn't 0, are those that are written.
pub digits_again : (k : ℕ) (ds : List ℕ) → length ds ≤ k → AllByRecursion (λ d. d < 10) ds → EndsInNoZero ds → digits_of k (parts k ds) ≡ ds
digits_again k [] h a e = rw (parts_nothing k) (digits_of_zero k)
digits_again zero (d ∷ ds) h a e = absurd (omega arith)
digits_again (suc k) (d ∷ ds) h a e =
    let b = parts_below k ds a.1 in
    let s = parts_step k d ds in
    let some : 0 < parts (suc k) (d ∷ ds) = parts_some (suc k) (d ∷ ds) h (λ f. cc) e in
    let q : (d * 10 ^ k + parts k ds) / 10 ^ k ≡ d = div-mul-add d (10 ^ k) (parts k ds) b in
    let z : (d * 10 ^ k + parts k ds) / 10 ^ k * 10 ^ k + (d * 10 ^ k + parts k ds) % 10 ^ k ≡ d * 10 ^ k + parts k ds = div-add-mod' (d * 10 ^ k + parts k ds) (10 ^ k) in
    let y : (d * 10 ^ k + parts k ds) / 10 ^ k * 10 ^ k ≡ d * 10 ^ k = ap (λ x. x * 10 ^ k) q in
    let m : (d * 10 ^ k + parts k ds) % 10 ^ k ≡ parts k ds = omega arith in
    digits_of_suc k (parts (suc k) (d ∷ ds)) some ∙ rw (s, q, m) (ap (λ l. d ∷ l) (digits_again k ds (omega arith) a.1 (end_less d ds e)))
  where
    end_less : (d : ℕ) (l : List ℕ) → EndsInNoZero (d ∷ l) → EndsInNoZero l
    end_less d [] h = tt
    end_less d (c ∷ l) h = h
