-- Mantissas and exponents of REALs as octets.
use Rattle.std.proofs.Common.{◌≡◌, ◌≢◌, ◌⊎◌, ℕ, zero, suc, ◌+◌, ◌-◌, ◌*◌, ◌^◌, ◌%◌, ◌/◌, ◌<◌, ◌≤◌, inl, inr, List, [], ◌∷◌, ◌++◌, length, get_or, take, drop, true, false, nat_eq, ℤ, pos, negsuc, neg_ℤ, FitsSigned, w64, to_z, of_z, ◌+ℤ◌, ◌*ℤ◌, ◌≤ℤ◌, ◌<ℤ◌, refl, sym, ap, ap₂, ◌∙◌, subst, arith, add-one, length-take, drop-cons, mul-le-mul_right}
use Rattle.std.specs.Int.{w128}
use Rattle.std.proofs.Math.Nat.{mul_comm, mul_assoc, pow-succ', pow-le-pow_right, one-le-pow}
use Rattle.std.proofs.Math.Seq.{take-suc}
use Rattle.std.proofs.lemmas.Nat.{div-mul-add, pow-add}
use Rattle.std.proofs.lemmas.List.{take_all}
use Rattle.std.proofs.lemmas.Bool.{cases_order}
use Rattle.std.proofs.lemmas.Int.{ints}
use Rattle.std.proofs.lemmas.Bool.Decides.{eqb_tells}
use Rattle.rasn_types.specs.Truth.{IsWhether}
use Rattle.rasn_types.specs.Framing.{number_in, AreOctets}
use Rattle.rasn_types.specs.Contents.{IsBase}
use Rattle.rasn_types.proofs.Headers.Digits.{lead}
use Rattle.rasn_types.proofs.Integer.TwosComplement.{number_snoc, octet_at, below_power}
use Rattle.rasn_schema.specs.RealParts.{IsPower, StartsOffZero, EndsOffZero, IsOddPart, LowZeros, ZerosAtEnd}

-- ---- zeros before a number

pub zero_before : (l : List ℕ) (i : ℕ) → i < length l → get_or l i 0 ≡ 0 → number_in 256 (drop (i + 1) l) ≡ number_in 256 (drop i l)
zero_before l i h e =
    let d : drop i l ≡ get_or l i 0 ∷ drop (suc i) l = drop-cons l i 0 h in
    rw (add-one i) (sym (ap (number_in 256) (d ∙ ap (λ z. z ∷ drop (suc i) l) e) ∙ plain (256 ^ length (drop (suc i) l)) (number_in 256 (drop (suc i) l))))
  where
    plain : (p n : ℕ) → 0 % 256 * p + n ≡ n
    plain p n = omega arith

pub off_zero : (l : List ℕ) (i : ℕ) → (i < length l → get_or l i 0 ≢ 0) → StartsOffZero (drop i l)
off_zero [] zero h = tt
off_zero [] (suc i) h = tt
off_zero (b ∷ l) zero h = h (omega arith)
off_zero (b ∷ l) (suc i) h = off_zero l i (λ k. h (omega arith))

pub long_number : (l : List ℕ) → AreOctets l → StartsOffZero l → 8 < length l → 2 ^ 64 ≤ number_in 256 l
long_number [] o s h = absurd (omega arith)
long_number (b ∷ l) o s h =
    let g : 0 < b % 256 = some b s o.0 in
    let n = lead 256 b l g in
    let k : 8 ≤ length l = omega arith in
    let p : 256 ^ 8 ≤ 256 ^ length l = pow-le-pow_right (omega arith) k in
    omega arith
  where
    some : (b : ℕ) → b ≢ 0 → b < 256 → 0 < b % 256
    some b h k = omega arith

-- A step of the fold of octets, if the number fits in 64 bits.
pub record SmallStep (l : List ℕ) (i : ℕ) (number : ℕ) : Type 0 where
  pub fits : number * 256 + get_or l i 0 < 2 ^ 64
  pub is : number * 256 + get_or l i 0 ≡ number_in 256 (take (i + 1) l)

pub small_step : (l : List ℕ) (i number : ℕ) → AreOctets l → i < length l → length l ≤ 8 → number ≡ number_in 256 (take i l) → SmallStep l i number
small_step l i number o h few e =
    let s : take (i + 1) l ≡ take i l ++ get_or l i 0 ∷ [] = rw add-one (take-suc l i 0 h) in
    let f : number * 256 + get_or l i 0 ≡ number_in 256 (take (i + 1) l) =
    ap (λ x. x * 256 + get_or l i 0) e ∙ (sym (number_snoc (take i l) (get_or l i 0) (octet_at i l o)) ∙ ap (number_in 256) (sym s)) in
    let m : length (take (i + 1) l) ≤ 8 = omega (arith, length-take (i + 1) l) in
    let p : 256 ^ length (take (i + 1) l) ≤ 256 ^ 8 = pow-le-pow_right (omega arith) m in
    let b = below_power (take (i + 1) l) in
    record { fits = omega arith; is = f }

-- ---- zeros after a number

pub zero_after : (l : List ℕ) (i : ℕ) → i < length l → get_or l i 0 ≡ 0 → number_in 256 (take (suc i) l) ≡ number_in 256 (take i l) * 256
zero_after l i h e =
    ap (number_in 256) (take-suc l i 0 h ∙ ap (λ z. take i l ++ z ∷ []) e) ∙ (number_snoc (take i l) 0 (omega arith) ∙ omega arith)

-- Each zero at the end of digits is once more the base. One of them fewer is left.
pub one_off_end : (value : List ℕ → ℕ) (base digit : ℕ) (l : List ℕ) → ((i : ℕ) → i < length l → get_or l i 0 ≡ digit → value (take (suc i) l) ≡ value (take i l) * base)
    → (end : ℕ) → 0 < end → end ≤ length l → get_or l (end - 1) 0 ≡ digit → value l ≡ value (take end l) * base ^ (length l - end)
    → (end - 1 ≤ length l) × (value l ≡ value (take (end - 1) l) * base ^ (length l - (end - 1)))
one_off_end value base digit l more zero h k z e = absurd (omega arith)
one_off_end value base digit l more (suc i) h k z e = (omega arith, rw (less i) (e ∙ fewer (value (take (suc i) l)) (value (take i l)) (base ^ (length l - suc i)) (base ^ (length l - i)) taken power))
  where
    less : (i : ℕ) → suc i - 1 ≡ i
    less i = omega arith

    taken : value (take (suc i) l) ≡ value (take i l) * base
    taken = more i (omega arith) (ap (λ n. get_or l n 0) (sym (less i)) ∙ z)

    power : base ^ (length l - i) ≡ base * base ^ (length l - suc i)
    power = ap (λ n. base ^ n) (one_more (length l) i (omega arith)) ∙ pow-succ' base (length l - suc i)
      where
        one_more : (n i : ℕ) → suc i ≤ n → n - i ≡ suc (n - suc i)
        one_more n i h = omega arith

    fewer : (n m p q : ℕ) → n ≡ m * base → q ≡ base * p → n * p ≡ m * q
    fewer n m p q e f = ap (λ x. x * p) e ∙ (mul_assoc m base p ∙ ap (λ z. m * z) (sym f))

pub one_fewer : (l : List ℕ) (end : ℕ) → 0 < end → end ≤ length l → get_or l (end - 1) 0 ≡ 0 → number_in 256 l ≡ number_in 256 (take end l) * 256 ^ (length l - end)
    → (end - 1 ≤ length l) × (number_in 256 l ≡ number_in 256 (take (end - 1) l) * 256 ^ (length l - (end - 1)))
one_fewer l end h k z e = one_off_end (number_in 256) 256 0 l (zero_after l) end h k z e

pub head_split : (l : List ℕ) → 1 ≤ length l → l ≡ get_or l 0 0 ∷ take (length l - 1) (drop 1 l)
head_split [] h = absurd (omega arith)
head_split (b ∷ l) h = ap (λ z. b ∷ z) (sym (take_all (length (b ∷ l) - 1) l (omega arith)))

-- A test of two numbers tells whether they are equal.
pub eq_whether : (a b : ℕ) → IsWhether (nat_eq a b) (a ≡ b)
eq_whether a b = go (eqb_tells a b)
  where
    go : ((nat_eq a b ≡ true) × (a ≡ b)) ⊎ ((nat_eq a b ≡ false) × (a ≢ b)) → IsWhether (nat_eq a b) (a ≡ b)
    go (inl h) = subst (λ v. IsWhether v (a ≡ b)) (sym h.0) h.1
    go (inr h) = subst (λ v. IsWhether v (a ≡ b)) (sym h.0) h.1

-- A list is what is before its last element, and that element.
pub last_split : (l : List ℕ) → 1 ≤ length l → l ≡ take (length l - 1) l ++ get_or l (length l - 1) 0 ∷ []
last_split l h =
    let k : length l ≤ suc (length l - 1) = omega arith in
    let i : length l - 1 < length l = omega arith in
    sym (take_all (suc (length l - 1)) l k) ∙ take-suc l (length l - 1) 0 i

-- The last of the first elements isn't equal to a digit.
pub ends_off_digit : (digit : ℕ) (l : List ℕ) (i : ℕ) → i ≤ length l → (0 < i → get_or l (i - 1) 0 ≢ digit) → (front : List ℕ) (last : ℕ) → take i l ≡ front ++ last ∷ [] → last ≢ digit
ends_off_digit digit l zero h bad front last e z = nothing front last e
  where
    nothing : (front : List ℕ) (last : ℕ) → [] ≡ front ++ last ∷ [] → ⊥
    nothing [] last e = cc
    nothing (x ∷ front) last e = cc
ends_off_digit digit l (suc i) h bad front last e z =
    let k : i < length l = omega arith in
    let f : take i l ++ get_or l i 0 ∷ [] ≡ front ++ last ∷ [] = sym (take-suc l i 0 k) ∙ e in
    bad (omega arith) (one_less l i ∙ (last_one (take i l) front (get_or l i 0) last f ∙ z))
  where
    one_less : (l : List ℕ) (i : ℕ) → get_or l (suc i - 1) 0 ≡ get_or l i 0
    one_less l i = ap (λ n. get_or l n 0) (less i)
      where
        less : (i : ℕ) → suc i - 1 ≡ i
        less i = omega arith

    last_one : (a b : List ℕ) (x y : ℕ) → a ++ x ∷ [] ≡ b ++ y ∷ [] → x ≡ y
    last_one [] [] x y e = cc
    last_one [] (c ∷ []) x y e = cc
    last_one [] (c ∷ d ∷ b) x y e = cc
    last_one (c ∷ []) [] x y e = cc
    last_one (c ∷ d ∷ a) [] x y e = cc
    last_one (c ∷ a) (d ∷ b) x y e = last_one a b x y cc

pub ends_off : (l : List ℕ) (i : ℕ) → i ≤ length l → (0 < i → get_or l (i - 1) 0 ≢ 0) → EndsOffZero (take i l)
ends_off l i h bad = ends_off_digit 0 l i h bad

-- ---- bits after a number

pub halved : (n rest count : ℕ) → n ≡ rest * 2 ^ count → rest % 2 ≡ 0 → n ≡ rest / 2 * 2 ^ (count + 1)
halved n rest count e h =
    let p : 2 ^ suc count ≡ 2 * 2 ^ count = pow-succ' 2 count in
    let r : rest ≡ rest / 2 * 2 = omega arith in
    rw (add-one count) (e ∙ (ap (λ z. z * 2 ^ count) r ∙ (mul_assoc (rest / 2) 2 (2 ^ count) ∙ ap (λ z. rest / 2 * z) (sym p))))

-- An octet that isn't 0 has fewer than 8 of these.
pub few_halves : (n rest count : ℕ) → n < 256 → n ≢ 0 → n ≡ rest * 2 ^ count → count < 8
few_halves n rest count h s e = go (cases_order count 7)
  where
    some : (rest p : ℕ) → n ≡ rest * p → rest ≢ 0
    some rest p f z = s (f ∙ (ap (λ x. x * p) z ∙ omega arith))

    far : 7 < count → ⊥
    far g =
        let k : 8 ≤ count = omega arith in
        let p : 2 ^ 8 ≤ 2 ^ count = pow-le-pow_right (omega arith) k in
        let r : 1 ≤ rest = let z = some rest (2 ^ count) e in omega arith in
        let m : 1 * 2 ^ count ≤ rest * 2 ^ count = mul-le-mul_right (2 ^ count) r in
        omega arith

    go : (count ≡ 7) ⊎ ((count < 7) ⊎ (7 < count)) → count < 8
    go (inl g) = omega arith
    go (inr (inl g)) = omega arith
    go (inr (inr g)) = absurd (far g)

-- The last octet has the bits of a number.
pub same_zeros : (front : List ℕ) (last zeros : ℕ) → last < 256 → LowZeros last zeros → ZerosAtEnd (front ++ last ∷ []) zeros
same_zeros front last zeros h z = (z.0, λ s. (number_in 256 front * 2 ^ (8 - zeros) + z.1.0, (odd, is)))
  where
    k : zeros < 8
    k = z.0

    eight : 2 ^ (8 - zeros) * 2 ^ zeros ≡ 256
    eight = by zeros k
      where
        by : (n : ℕ) → n < 8 → 2 ^ (8 - n) * 2 ^ n ≡ 256
        by zero h = refl
        by (suc zero) h = refl
        by (suc (suc zero)) h = refl
        by (suc (suc (suc zero))) h = refl
        by (suc (suc (suc (suc zero)))) h = refl
        by (suc (suc (suc (suc (suc zero))))) h = refl
        by (suc (suc (suc (suc (suc (suc zero)))))) h = refl
        by (suc (suc (suc (suc (suc (suc (suc zero))))))) h = refl
        by (suc (suc (suc (suc (suc (suc (suc (suc n)))))))) h = absurd (omega arith)

    even : (a p m : ℕ) → (q : ℕ) → p ≡ 2 * q → m % 2 ≡ 1 → (a * p + m) % 2 ≡ 1
    even a p m q e o = let f : a * p ≡ 2 * (a * q) = ap (λ x. a * x) e ∙ (sym (mul_assoc a 2 q) ∙ (ap (λ x. x * q) (mul_comm a 2) ∙ mul_assoc 2 a q)) in omega arith

    twice : (n : ℕ) → n < 8 → 2 ^ (8 - n) ≡ 2 * 2 ^ (7 - n)
    twice n h = ap (λ x. 2 ^ x) (one_more n h) ∙ pow-succ' 2 (7 - n)
      where
        one_more : (n : ℕ) → n < 8 → 8 - n ≡ suc (7 - n)
        one_more n h = omega arith

    odd : (number_in 256 front * 2 ^ (8 - zeros) + z.1.0) % 2 ≡ 1
    odd = even (number_in 256 front) (2 ^ (8 - zeros)) z.1.0 (2 ^ (7 - zeros)) (twice zeros k) z.1.1.0

    spread : (n p q m l : ℕ) → p * q ≡ 256 → l ≡ m * q → n * 256 + l ≡ (n * p + m) * q
    spread n p q m l e f =
        let g : n * p * q ≡ n * 256 = mul_assoc n p q ∙ ap (λ x. n * x) e in
        omega arith

    is : number_in 256 (front ++ last ∷ []) ≡ (number_in 256 front * 2 ^ (8 - zeros) + z.1.0) * 2 ^ zeros
    is = number_snoc front last h ∙ spread (number_in 256 front) (2 ^ (8 - zeros)) (2 ^ zeros) z.1.0 last eight z.1.1.1

-- A power of 256 is one of 2.
pub power_256 : (k : ℕ) → 256 ^ k ≡ 2 ^ (8 * k)
power_256 zero = refl
power_256 (suc k) = pow-succ' 256 k ∙ (ap (λ z. 256 * z) (power_256 k) ∙ (eight (8 * k) ∙ ap (λ z. 2 ^ z) (more k)))
  where
    more : (k : ℕ) → 8 + 8 * k ≡ 8 * suc k
    more k = omega arith

    eight : (n : ℕ) → 256 * 2 ^ n ≡ 2 ^ (8 + n)
    eight n = sym (pow-add 2 8 n)

-- ---- a quotient

-- The quotient and the rest so far, of the octets so far.
pub record Dividing (l : List ℕ) (i unit : ℕ) (quotient : List ℕ) (rest : ℕ) : Type 0 where
  pub below : rest < unit
  pub is : number_in 256 (take i l) ≡ number_in 256 quotient * unit + rest

pub divide_more : (l : List ℕ) (i unit : ℕ) (quotient : List ℕ) (rest digit next : ℕ) → i < length l → AreOctets l → 0 < unit → unit ≤ 128 → Dividing l i unit quotient rest
    → digit ≡ (rest * 256 + get_or l i 0) / unit → next ≡ (rest * 256 + get_or l i 0) % unit → (digit < 256) × Dividing l (i + 1) unit (quotient ++ digit ∷ []) next
divide_more l i unit quotient rest digit next h o some few d e f =
    let b : get_or l i 0 < 256 = octet_at i l o in
    let r : next < unit = subst (λ z. z < unit) (sym f) (omega arith) in
    let q : digit * unit + next ≡ rest * 256 + get_or l i 0 = whole unit (rest * 256 + get_or l i 0) digit next some e f in
    let g : digit < 256 = low unit rest (get_or l i 0) digit next d.below b q in (
      g,
      record {
        below = r;
        is = rw (add-one i) (ap (number_in 256) (take-suc l i 0 h) ∙ (number_snoc (take i l) (get_or l i 0) b ∙ (ap (λ z. z * 256 + get_or l i 0) d.is
            ∙ (spread (number_in 256 quotient) unit rest (get_or l i 0) digit next q ∙ ap (λ z. z * unit + next) (sym (number_snoc quotient digit g))))));
      },
    )
  where
    whole : (u n digit next : ℕ) → 0 < u → digit ≡ n / u → next ≡ n % u → digit * u + next ≡ n
    whole u n digit next h e f = ap₂ (λ x y. x * u + y) e f ∙ (ap (λ z. z + n % u) (mul_comm (n / u) u) ∙ omega arith)

    low : (u rest b digit next : ℕ) → rest < u → b < 256 → digit * u + next ≡ rest * 256 + b → digit < 256
    low u rest b digit next h k e = go (cases_order digit 256)
      where
        far : 256 ≤ digit → ⊥
        far g = let m : 256 * u ≤ digit * u = mul-le-mul_right u g in omega arith

        go : (digit ≡ 256) ⊎ ((digit < 256) ⊎ (256 < digit)) → digit < 256
        go (inl g) = absurd (far (omega arith))
        go (inr (inl g)) = g
        go (inr (inr g)) = absurd (far (omega arith))

    spread : (n u rest b digit next : ℕ) → digit * u + next ≡ rest * 256 + b → (n * u + rest) * 256 + b ≡ (n * 256 + digit) * u + next
    spread n u rest b digit next e =
        let f : n * 256 * u ≡ n * u * 256 = mul_assoc n 256 u ∙ (ap (λ z. n * z) (mul_comm 256 u) ∙ sym (mul_assoc n u 256)) in
        omega arith

pub divided_is : (l : List ℕ) (unit : ℕ) (quotient : List ℕ) (rest : ℕ) → Dividing l (length l) unit quotient rest → take (length l) l ≡ l → number_in 256 quotient ≡ number_in 256 l / unit
divided_is l unit quotient rest d e = by (number_in 256 l) (number_in 256 quotient) (ap (number_in 256) (sym e) ∙ d.is) d.below
  where
    by : (n q : ℕ) → n ≡ q * unit + rest → rest < unit → q ≡ n / unit
    by n q e h = sym (ap (λ z. z / unit) e ∙ div-mul-add q unit rest h)

-- ---- an odd part

pub odd_part : (octets kept odd : List ℕ) (zeros : ℕ) → number_in 256 octets ≢ 0 → length kept ≤ length octets
    → number_in 256 octets ≡ number_in 256 kept * 256 ^ (length octets - length kept) → ZerosAtEnd kept zeros → number_in 256 odd ≡ number_in 256 kept / 2 ^ zeros
    → IsOddPart (number_in 256 octets) (number_in 256 odd) (8 * (length octets - length kept) + zeros)
odd_part octets kept odd zeros some shorter is z q =
    let s : number_in 256 kept ≢ 0 = λ e. some (is ∙ (ap (λ n. n * 256 ^ (length octets - length kept)) e ∙ omega arith)) in
    let w = z.1 s in
    let m = w.0 in
    let o = w.1.0 in
    let f = w.1.1 in
    let g : number_in 256 odd ≡ m = q ∙ (ap (λ n. n / 2 ^ zeros) f ∙ exact m (2 ^ zeros) (one-le-pow zeros 2 (omega arith))) in
    (ap (λ n. n % 2) g ∙ o, is ∙ (ap (λ n. n * 256 ^ (length octets - length kept)) f ∙ joined m zeros (length octets - length kept) ∙ ap (λ n. n * 2 ^ (8 * (length octets - length kept) + zeros)) (sym g)))
  where
    exact : (m p : ℕ) → 1 ≤ p → m * p / p ≡ m
    exact m p h = sym (ap (λ n. n / p) (plus_zero (m * p))) ∙ div-mul-add m p 0 (omega arith)
      where
        plus_zero : (n : ℕ) → n + 0 ≡ n
        plus_zero n = omega arith

    joined : (m zeros k : ℕ) → m * 2 ^ zeros * 256 ^ k ≡ m * 2 ^ (8 * k + zeros)
    joined m zeros k = mul_assoc m (2 ^ zeros) (256 ^ k) ∙ ap (λ n. m * n) (ap (λ n. 2 ^ zeros * n) (power_256 k) ∙ (mul_comm (2 ^ zeros) (2 ^ (8 * k)) ∙ sym (pow-add 2 (8 * k) zeros)))

-- The exponent of a number of at most 64 bits is below 64.
pub few_zeros : (n m shift : ℕ) → n < 2 ^ 64 → IsOddPart n m shift → shift < 64
few_zeros n m shift h o = go (cases_order shift 64)
  where
    some : (m : ℕ) → m % 2 ≡ 1 → 1 ≤ m
    some m o = omega arith

    far : 64 ≤ shift → ⊥
    far g =
        let p : 2 ^ 64 ≤ 2 ^ shift = pow-le-pow_right (omega arith) g in
        let m' : 1 * 2 ^ shift ≤ m * 2 ^ shift = mul-le-mul_right (2 ^ shift) (some m o.0) in
        let e = o.1 in
        omega arith

    go : (shift ≡ 64) ⊎ ((shift < 64) ⊎ (64 < shift)) → shift < 64
    go (inl g) = absurd (far (omega arith))
    go (inr (inl g)) = g
    go (inr (inr g)) = absurd (far (omega arith))

pub base_power : (bits power : ℕ) → IsBase bits power → IsPower power
base_power bits power (inl h) = inl h.1
base_power bits power (inr (inl h)) = inr (inl h.1)
base_power bits power (inr (inr h)) = inr (inr h.1)

-- A shift of one octet, as the program computes it, and the number of octets of a 64-bit number.
pub unit_is : (count : ℕ) → count < 8 → 1 * 2 ^ count % 65536 ≡ 2 ^ count
unit_is zero h = refl
unit_is (suc zero) h = refl
unit_is (suc (suc zero)) h = refl
unit_is (suc (suc (suc zero))) h = refl
unit_is (suc (suc (suc (suc zero)))) h = refl
unit_is (suc (suc (suc (suc (suc zero))))) h = refl
unit_is (suc (suc (suc (suc (suc (suc zero)))))) h = refl
unit_is (suc (suc (suc (suc (suc (suc (suc zero))))))) h = refl
unit_is (suc (suc (suc (suc (suc (suc (suc (suc n)))))))) h = absurd (omega arith)

pub eight_octets : (n : ℕ) → n < 2 ^ 64
    → number_in 256 (n / 72057594037927936 % 256 ∷ n / 281474976710656 % 256 ∷ n / 1099511627776 % 256 ∷ n / 4294967296 % 256 ∷ n / 16777216 % 256 ∷ n / 65536 % 256 ∷ n / 256 % 256 ∷ n % 256 ∷ []) ≡ n
eight_octets n h = omega arith

pub moved_few : (e : ℤ) (count : ℕ) → neg_ℤ (pos 2000) ≤ℤ e → e ≤ℤ pos 2000 → count < 64 → to_z w64 (of_z w64 (to_z w64 (of_z w64 e) +ℤ to_z w64 count)) ≡ e +ℤ pos count
moved_few e count low high h = omega (arith, ints)

pub moved_fits : (e : ℤ) (count : ℕ) → FitsSigned w64 e → neg_ℤ (pos 2000) ≤ℤ e → e ≤ℤ pos 2000 → count < 64 → FitsSigned w64 (to_z w64 (of_z w64 e) +ℤ to_z w64 count)
moved_fits e count f low high h =
    let k : to_z w64 (of_z w64 e) +ℤ to_z w64 count ≡ e +ℤ pos count = omega (arith, ints) in
    subst (FitsSigned w64) (sym k) (fits (e +ℤ pos count) (omega (arith, ints)) (omega (arith, ints)))
  where
    fits : (z : ℤ) → neg_ℤ (pos 3000) ≤ℤ z → z ≤ℤ pos 3000 → FitsSigned w64 z
    fits (pos n) l h = record { sfits = omega (arith, ints) }
    fits (negsuc n) l h = record { sfits = omega (arith, ints) }
