-- The octets of a number of a fixed width.
use Rattle.std.proofs.Common.{◌≡◌, ℕ, zero, suc, ◌+◌, ◌-◌, ◌*◌, ◌^◌, ◌%◌, ◌/◌, ◌<◌, ◌≤◌, ◌⊎◌, inl, inr, List, [], ◌∷◌, ◌++◌, length, get_or, take, drop, ℤ, pos, negsuc, neg_ℤ, ◌+ℤ◌, ◌-ℤ◌, ◌≤ℤ◌, ◌<ℤ◌, FitsSigned, of_z, w64, refl, sym, ap, ap₂, ◌∙◌, subst, arith, add-one, length-take, mul-le-mul_right}
use Rattle.std.specs.Int.{w128, byte_at, bytes_high_first, to_be_bytes}
use Rattle.std.proofs.Math.Nat.{pow-succ', mod-eq_of_lt, mod-one, div-one, one-le-pow, pow-le-pow_right, div-lt_iff_lt-mul}
use Rattle.std.proofs.Math.Arith.{mod-mul}
use Rattle.std.proofs.Math.Seq.{take-suc}
use Rattle.std.proofs.lemmas.Bool.{cases_order}
use Rattle.std.proofs.lemmas.Nat.{le-div}
use Rattle.std.proofs.lemmas.Int.{ints}
use Rattle.rasn_types.specs.Framing.{number_in, AreOctets}
use Rattle.rasn_types.specs.Contents.{signed, IsShortestInteger}
use Rattle.rasn_types.specs.Shapes.{IsIn}
use Rattle.rasn_types.specs.Trees.{unsigned_range}
use Rattle.rasn_types.proofs.Integer.TwosComplement.{below_power, number_snoc, signed_low, negative, beyond_octets, octet_at}

byte_is : (k n : ℕ) → byte_at k n ≡ n / 256 ^ k % 256
byte_is zero n = ap (λ x. x % 256) (sym (div-one n))
byte_is (suc k) n = refl

octet_again : (n : ℕ) → n % 256 % 256 ≡ n % 256
octet_again n = omega arith

pub length_bytes : (k n : ℕ) → length (bytes_high_first k n) ≡ k
length_bytes zero n = refl
length_bytes (suc k) n = ap suc (length_bytes k n)

pub number_of_bytes : (k n : ℕ) → number_in 256 (bytes_high_first k n) ≡ n % 256 ^ k
number_of_bytes zero n = sym (mod-one n)
number_of_bytes (suc k) n =
    ap₂ ◌+◌ (ap₂ ◌*◌ (ap (λ x. x % 256) (byte_is k n) ∙ octet_again (n / 256 ^ k)) (ap (λ x. 256 ^ x) (length_bytes k n))) (number_of_bytes k n)
    ∙ (sym (mod-mul n {m = 256} {c = 256 ^ k} (omega arith) (one-le-pow k 256 (omega arith))) ∙ ap (λ x. n % x) (sym (pow-succ' 256 k)))

-- The number that the octets represent, by the bits.
signed_bytes : (k n : ℕ) → n < 256 * 256 ^ k → signed (bytes_high_first (suc k) n) ≡ pos n -ℤ pos (n / 256 ^ k / 128 * (256 * 256 ^ k))
signed_bytes k n h =
    let p : 256 ^ length (bytes_high_first (suc k) n) ≡ 256 * 256 ^ k = ap (λ x. 256 ^ x) (length_bytes (suc k) n) ∙ pow-succ' 256 k in
    let m : n < 256 ^ suc k = subst (λ x. n < x) (sym (pow-succ' 256 k)) h in
    let q : n / 256 ^ k < 256 = (div-lt_iff_lt-mul (one-le-pow k 256 (omega arith))).1 h in
    ap₂ (λ x y. pos x -ℤ pos y) (number_of_bytes (suc k) n ∙ mod-eq_of_lt m)
    (ap₂ (λ x y. x / 128 * y) (byte_is k n ∙ mod-eq_of_lt q) p)

pub bytes_low : (k n : ℕ) → n < 128 * 256 ^ k → signed (bytes_high_first (suc k) n) ≡ pos n
bytes_low k n h =
    let q : n / 256 ^ k < 128 = (div-lt_iff_lt-mul (one-le-pow k 256 (omega arith))).1 h in
    signed_bytes k n (omega arith) ∙ plain n (n / 256 ^ k) (256 * 256 ^ k) q
  where
    plain : (n q p : ℕ) → q < 128 → pos n -ℤ pos (q / 128 * p) ≡ pos n
    plain n q p h = let e : q / 128 ≡ 0 = omega arith in ap (λ x. pos n -ℤ pos (x * p)) e ∙ omega (arith, ints)

pub bytes_high : (k n : ℕ) → 128 * 256 ^ k ≤ n → n < 256 * 256 ^ k → signed (bytes_high_first (suc k) n) ≡ pos n -ℤ pos (256 * 256 ^ k)
bytes_high k n l h =
    let q : n / 256 ^ k < 256 = (div-lt_iff_lt-mul (one-le-pow k 256 (omega arith))).1 h in
    let r : 128 ≤ n / 256 ^ k = le-div 128 n (256 ^ k) (one-le-pow k 256 (omega arith)) l in
    signed_bytes k n h ∙ plain n (n / 256 ^ k) (256 * 256 ^ k) r q
  where
    plain : (n q p : ℕ) → 128 ≤ q → q < 256 → pos n -ℤ pos (q / 128 * p) ≡ pos n -ℤ pos p
    plain n q p h l = let e : q / 128 ≡ 1 = omega arith in ap (λ x. pos n -ℤ pos (x * p)) e ∙ omega (arith, ints)

pub signed_64 : (z : ℤ) → FitsSigned w64 z → signed (to_be_bytes w64 (of_z w64 z)) ≡ z
signed_64 (pos n) f = let h = f.sfits in bytes_low 7 n (omega arith)
signed_64 (negsuc n) f = let h = f.sfits in bytes_high 7 (2 ^ 64 - suc n) (omega arith) (omega arith) ∙ omega (arith, ints)

pub signed_128 : (z : ℤ) → FitsSigned w128 z → signed (to_be_bytes w128 (of_z w128 z)) ≡ z
signed_128 (pos n) f = let h = f.sfits in bytes_low 15 n (omega arith)
signed_128 (negsuc n) f = let h = f.sfits in bytes_high 15 (2 ^ 128 - suc n) (omega arith) (omega arith) ∙ omega (arith, ints)

-- A number with a leading 00 has no sign.
pub signed_after_zero : (n : ℕ) → n < 2 ^ 128 → signed (0 ∷ to_be_bytes w128 n) ≡ pos n
signed_after_zero n h =
    let m : n < 256 ^ 16 = omega arith in
    signed_low 0 (to_be_bytes w128 n) (omega arith) ∙ (plain (256 ^ 16) (number_in 256 (to_be_bytes w128 n)) ∙ ap pos (number_of_bytes 16 n ∙ mod-eq_of_lt m))
  where
    plain : (p n : ℕ) → pos (0 * p + n) ≡ pos n
    plain p n = omega (arith, ints)

-- A step of the fold of digits, if the number fits in 128 bits.
pub record DigitStep (l : List ℕ) (i : ℕ) (number : ℕ) : Type 0 where
  pub fits : number * 256 + get_or l i 0 < 2 ^ 128
  pub is : number * 256 + get_or l i 0 ≡ number_in 256 (take (i + 1) l)

pub digit_step : (l : List ℕ) (i number : ℕ) → AreOctets l → i < length l → length l ≤ 16 → number ≡ number_in 256 (take i l) → DigitStep l i number
digit_step l i number o h few e =
    let s : take (i + 1) l ≡ take i l ++ get_or l i 0 ∷ [] = rw add-one (take-suc l i 0 h) in
    let f : number * 256 + get_or l i 0 ≡ number_in 256 (take (i + 1) l) =
    ap (λ x. x * 256 + get_or l i 0) e ∙ (sym (number_snoc (take i l) (get_or l i 0) (octet_at i l o)) ∙ ap (number_in 256) (sym s)) in
    let m : length (take (i + 1) l) ≤ 16 = omega (arith, length-take (i + 1) l) in
    let p : 256 ^ length (take (i + 1) l) ≤ 256 ^ 16 = pow-le-pow_right (omega arith) m in
    let b = below_power (take (i + 1) l) in
    record { fits = omega arith; is = f }

-- The numbers that fit in 128 bits without a sign, and those that don't.
pub without_sign : (l : List ℕ) → AreOctets l → 0 < length l → get_or l 0 0 < 128 → signed l ≡ pos (number_in 256 l)
without_sign [] o h k = absurd (omega arith)
without_sign (b ∷ l) o h k = signed_low b l k ∙ ap (λ x. pos (x * 256 ^ length l + number_in 256 l)) (sym (mod-eq_of_lt o.0))

pub without_zero : (l : List ℕ) → 0 < length l → get_or l 0 0 ≡ 0 → number_in 256 (drop 1 l) ≡ number_in 256 l
without_zero [] h e = absurd (omega arith)
without_zero (b ∷ l) h e = sym (ap (λ x. x % 256 * 256 ^ length l + number_in 256 l) e ∙ omega arith)

pub not_unsigned : (l : List ℕ) → AreOctets l → 0 < length l → 128 ≤ get_or l 0 0 → IsIn (unsigned_range 128) (signed l) → ⊥
not_unsigned [] o h k i = omega arith
not_unsigned (b ∷ l) o h k i = plain (signed (b ∷ l)) (negative b l k o.0) i.0
  where
    plain : (z : ℤ) → z <ℤ pos 0 → pos 0 ≤ℤ z → ⊥
    plain z h k = omega (arith, ints)

pub not_in_unsigned : (l : List ℕ) → AreOctets l → IsShortestInteger l → get_or l 0 0 < 128 → 16 < length l
    → (length l ≡ 17 → get_or l 0 0 ≡ 0 → ⊥) → IsIn (unsigned_range 128) (signed l) → ⊥
not_in_unsigned [] o s k h n i = s
not_in_unsigned (c ∷ []) o s k h n i = omega arith
not_in_unsigned (c ∷ d ∷ l) o s k h n i = go (cases_order (length (d ∷ l)) 16)
  where
    far : (z : ℤ) (p : ℕ) → 2 ^ 136 ≤ p → ((z +ℤ z) <ℤ neg_ℤ (pos p)) ⊎ (pos p ≤ℤ (z +ℤ z)) → pos 0 ≤ℤ z → z ≤ℤ pos (2 ^ 128 - 1) → ⊥
    far z p k (inl e) low high = omega (arith, ints)
    far z p k (inr e) low high = omega (arith, ints)

    near : (z : ℤ) (n c p m : ℕ) → z ≡ pos n → n ≡ c * p + m → 1 * p ≤ c * p → p ≡ 2 ^ 128 → z ≤ℤ pos (2 ^ 128 - 1) → ⊥
    near z n c p m e f g h high = omega (arith, ints)

    go : (length (d ∷ l) ≡ 16) ⊎ ((length (d ∷ l) < 16) ⊎ (16 < length (d ∷ l))) → ⊥
    go (inl e) =
        let g : c ≡ 0 → ⊥ = n (ap suc e) in
        let m : 1 * 256 ^ length (d ∷ l) ≤ c * 256 ^ length (d ∷ l) = mul-le-mul_right (256 ^ length (d ∷ l)) (omega arith) in
        near (signed (c ∷ d ∷ l)) (c * 256 ^ length (d ∷ l) + number_in 256 (d ∷ l)) c (256 ^ length (d ∷ l)) (number_in 256 (d ∷ l))
        (signed_low c (d ∷ l) k) refl m (ap (λ x. 256 ^ x) e) i.1
    go (inr (inl e)) = omega arith
    go (inr (inr e)) =
        let m : 17 ≤ length (d ∷ l) = e in
        let p : 256 ^ 17 ≤ 256 ^ length (d ∷ l) = pow-le-pow_right (omega arith) m in
        far (signed (c ∷ d ∷ l)) (256 ^ length (d ∷ l)) p (beyond_octets c d l o s) i.0 i.1
