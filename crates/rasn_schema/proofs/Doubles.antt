-- The `f64` that is an odd mantissa times a power of 2.
use Rattle.std.proofs.Common.{◌≡◌, ◌≢◌, ◌⊎◌, ℕ, zero, suc, ◌+◌, ◌-◌, ◌*◌, ◌^◌, ◌%◌, ◌/◌, ◌<◌, ◌≤◌, max, inl, inr, Bool, true, false, ℤ, pos, negsuc, neg_ℤ, ◌+ℤ◌, ◌-ℤ◌, ◌≤ℤ◌, ◌<ℤ◌, refl, sym, ap, ap₂, ◌∙◌, subst, true≢false, arith, add-one, mul-le-mul_right}
use Rattle.std.proofs.Math.Nat.{mul_comm, mul_assoc, pow-succ', pow-le-pow_right, one-le-pow}
use Rattle.std.proofs.lemmas.Nat.{pow-add}
use Rattle.std.proofs.lemmas.Bool.{cases_order}
use Rattle.std.proofs.lemmas.Int.{ints}
use Rattle.std.proofs.lemmas.Float.{not_nan_f64_bits}
use Rattle.std.specs.Prelude.{T, not, ltb, nat_le, from_bits, List, [], ◌∷◌, Result, Ok, Err, IfOk}
use Rattle.std.specs.Float.{Float, binary64, nan, inf, fin}
use Rattle.std.specs.Float.Ieee.{fits, is_nan, nan_bits, neg, of_bits, to_bits}
use lib.Ieee.Bits.{of_bits-to_bits, to_bits-of_bits, to_bits-lt, nan_bits_is, nan_bits_above}
use borrow.Author.Tests.{ltb-false, leb-true, leb-false}
use Rattle.rasn_types.specs.Framing.{bit_of}
use Rattle.rasn_types.specs.Shapes.{IsIn}
use Rattle.rasn_types.specs.Trees.{signed_range}
use Rattle.rasn_types.specs.Contents.{plus_zero, minus_zero, plus_infinity, minus_infinity, not_a_number, binary, IsCanonicalBinary}
use Rattle.rasn_schema.specs.Reals.{significand, IsDouble, IsOfBits}
use Rattle.rasn_schema.specs.RealParts.{IsOddPart}

-- ---- widths

-- A number was halved so often.
pub record Halving (number rest width : ℕ) : Type 0 where
  pub low : rest * 2 ^ width ≤ number
  pub high : number < (rest + 1) * 2 ^ width
  pub some : width ≡ 0 → rest ≡ number
  pub less : 0 < width → 2 ^ width ≤ 2 * number

pub wider : (number rest width : ℕ) → number ≢ 0 → 0 < rest → Halving number rest width → Halving number (rest / 2) (width + 1)
wider number rest width n r h =
    let p : 2 ^ (width + 1) ≡ 2 * 2 ^ width = rw (add-one width) (pow-succ' 2 width) in
    let q : 1 ≤ 2 ^ width = one-le-pow width 2 (omega arith) in
    let half : rest / 2 * (2 * 2 ^ width) ≤ rest * 2 ^ width = halves (rest / 2) rest (2 ^ width) (omega arith) in
    let more : (rest + 1) * 2 ^ width ≤ (rest / 2 + 1) * (2 * 2 ^ width) = doubles (rest + 1) (rest / 2 + 1) (2 ^ width) (omega arith) in
    let l = h.low in
    let g = h.high in
    let one : 1 * 2 ^ width ≤ rest * 2 ^ width = mul-le-mul_right (2 ^ width) r in
    record {
      low = subst (λ z. rest / 2 * z ≤ number) (sym p) (omega arith);
      high = subst (λ z. number < (rest / 2 + 1) * z) (sym p) (omega arith);
      some = λ e. absurd (omega arith);
      less = λ k. subst (λ z. z ≤ 2 * number) (sym p) (omega arith);
    }
  where
    halves : (a b p : ℕ) → 2 * a ≤ b → a * (2 * p) ≤ b * p
    halves a b p h = let m : 2 * a * p ≤ b * p = mul-le-mul_right p h in let e : a * (2 * p) ≡ 2 * a * p = sym (mul_assoc a 2 p) ∙ ap (λ z. z * p) (mul_comm a 2) in omega arith

    doubles : (a b p : ℕ) → a ≤ 2 * b → a * p ≤ b * (2 * p)
    doubles a b p h = let m : a * p ≤ 2 * b * p = mul-le-mul_right p h in let e : b * (2 * p) ≡ 2 * b * p = sym (mul_assoc b 2 p) ∙ ap (λ z. z * p) (mul_comm b 2) in omega arith

-- A number of 64 bits is halved at most 65 times.
pub few_halves : (number rest width : ℕ) → number < 2 ^ 64 → number ≢ 0 → Halving number rest width → width + 1 < 2 ^ 32
few_halves number rest width h n k = go (cases_order width 65)
  where
    far : 65 < width → ⊥
    far g =
        let p : 2 ^ 66 ≤ 2 ^ width = pow-le-pow_right (omega arith) g in
        let l = k.less (omega arith) in
        omega arith

    go : (width ≡ 65) ⊎ ((width < 65) ⊎ (65 < width)) → width + 1 < 2 ^ 32
    go (inl g) = omega arith
    go (inr (inl g)) = omega arith
    go (inr (inr g)) = absurd (far g)

pub is_wide : (number width : ℕ) → number ≢ 0 → Halving number 0 width → (number < 2 ^ width) × (2 ^ width ≤ 2 * number)
is_wide number width n h = let g = h.high in (omega arith, go (cases_order width 0))
  where
    go : (width ≡ 0) ⊎ ((width < 0) ⊎ (0 < width)) → 2 ^ width ≤ 2 * number
    go (inl e) = absurd (n (sym (h.some e)))
    go (inr (inl e)) = absurd (omega arith)
    go (inr (inr e)) = h.less e

-- ---- what an `f64` can be

below_53 : (scale fraction : ℕ) → fraction < 2 ^ 52 → significand scale fraction < 2 ^ 53
below_53 zero fraction h = omega arith
below_53 (suc scale) fraction h = omega arith

-- A mantissa with its shift is below 2^53.
record Bounds (m shift : ℕ) : Type 0 where
  below : m * 2 ^ shift < 2 ^ 53
  alone : m < 2 ^ 53

bounds : (bits : ℕ) (b : Bool) (m : ℕ) (e : ℤ) (h : IsDouble bits b m e) → Bounds m h.shift
bounds bits b m e h =
    let s = below_53 h.scale h.fraction h.short in
    let v = h.value in
    let p : 1 ≤ 2 ^ h.shift = one-le-pow h.shift 2 (omega arith) in
    let k : m * 1 ≤ m * 2 ^ h.shift = along m 1 (2 ^ h.shift) p in
    record { below = omega arith; alone = omega arith }
  where
    along : (m a b : ℕ) → a ≤ b → m * a ≤ m * b
    along m a b h = let g : a * m ≤ b * m = mul-le-mul_right m h in let e = mul_comm m a in let f = mul_comm m b in omega arith

pub too_large : (m : ℕ) (b : Bool) (e : ℤ) → 2 ^ 64 ≤ m → (bits : ℕ) → IsDouble bits b m e → ⊥
too_large m b e h bits d = let k = (bounds bits b m e d).alone in omega arith

-- The width of a mantissa and its shift together are at most 53.
narrow : (m shift width : ℕ) → m * 2 ^ shift < 2 ^ 53 → 2 ^ width ≤ 2 * m → width + shift ≤ 53
narrow m shift width h k = go (cases_order (width + shift) 53)
  where
    far : 54 ≤ width + shift → ⊥
    far g =
        let p : 2 ^ 54 ≤ 2 ^ (width + shift) = pow-le-pow_right (omega arith) g in
        let s : 2 ^ (width + shift) ≡ 2 ^ width * 2 ^ shift = pow-add 2 width shift in
        let q : 2 ^ width * 2 ^ shift ≤ 2 * m * 2 ^ shift = mul-le-mul_right (2 ^ shift) k in
        let r : 2 * m * 2 ^ shift ≡ 2 * (m * 2 ^ shift) = mul_assoc 2 m (2 ^ shift) in
        omega arith

    go : (width + shift ≡ 53) ⊎ ((width + shift < 53) ⊎ (53 < width + shift)) → width + shift ≤ 53
    go (inl g) = omega arith
    go (inr (inl g)) = omega arith
    go (inr (inr g)) = absurd (far (omega arith))

one_at_least : (scale : ℕ) → scale < 2047 → (1 ≤ max 1 scale) × (max 1 scale ≤ 2046)
one_at_least scale h = (omega arith, omega arith)

pub too_wide : (m width : ℕ) (e : ℤ) → 2 ^ width ≤ 2 * m → 53 < width → (bits : ℕ) → IsDouble bits false m e → ⊥
too_wide m width e k w bits d = let n = narrow m d.shift width (bounds bits false m e d).below k in omega arith

pub too_low : (m : ℕ) (e : ℤ) → e <ℤ neg_ℤ (pos 1074) → (bits : ℕ) → IsDouble bits false m e → ⊥
too_low m e l bits d = by (max 1 d.scale) d.shift e (one_at_least d.scale d.finite).0 d.exponent l
  where
    by : (s shift : ℕ) (e : ℤ) → 1 ≤ s → e ≡ pos (s + shift) -ℤ pos 1075 → e <ℤ neg_ℤ (pos 1074) → ⊥
    by s shift e h f l = omega (arith, ints)

pub too_high : (m width : ℕ) (e : ℤ) → 2 ^ width ≤ 2 * m → (pos 1024 -ℤ pos width) <ℤ e → (bits : ℕ) → IsDouble bits false m e → ⊥
too_high m width e k l bits d =
    by (max 1 d.scale) d.shift width e (one_at_least d.scale d.finite).1 (narrow m d.shift width (bounds bits false m e d).below k) d.exponent l
  where
    by : (s shift width : ℕ) (e : ℤ) → s ≤ 2046 → width + shift ≤ 53 → e ≡ pos (s + shift) -ℤ pos 1075 → (pos 1024 -ℤ pos width) <ℤ e → ⊥
    by s shift width e h n f l = omega (arith, ints)

-- ---- bits

pub subnormal : (m width shift : ℕ) (e : ℤ) → m < 2 ^ width → width + shift ≤ 52 → e ≡ pos shift -ℤ pos 1074 → (m * 2 ^ shift < 2 ^ 63) × IsDouble (m * 2 ^ shift) false m e
subnormal m width shift e h n f =
    let p : 1 ≤ 2 ^ shift = one-le-pow shift 2 (omega arith) in
    let q : m * 2 ^ shift < 2 ^ (width + shift) = times m (2 ^ width) (2 ^ shift) (2 ^ (width + shift)) h p (pow-add 2 width shift) in
    let r : 2 ^ (width + shift) ≤ 2 ^ 52 = pow-le-pow_right (omega arith) n in
    let s : m * 2 ^ shift < 2 ^ 52 = omega arith in
    (omega arith, record { scale = 0; fraction = m * 2 ^ shift; shift = shift; finite = omega arith; short = s; is = omega arith; value = refl; exponent = f ∙ moved shift })
  where
    times : (a b p q : ℕ) → a < b → 1 ≤ p → q ≡ b * p → a * p < q
    times a b p q h k e = let g : (a + 1) * p ≤ b * p = mul-le-mul_right p (omega arith) in omega arith

    moved : (shift : ℕ) → pos shift -ℤ pos 1074 ≡ pos (max 1 0 + shift) -ℤ pos 1075
    moved shift = omega (arith, ints)

pub normal : (m width shift scale : ℕ) (e : ℤ) → m < 2 ^ width → 2 ^ width ≤ 2 * m → width + shift ≡ 53 → 1 ≤ scale → scale < 2047 → e ≡ pos (scale + shift) -ℤ pos 1075
    → ((scale - 1) * 2 ^ 52 + m * 2 ^ shift < 2 ^ 63) × IsDouble ((scale - 1) * 2 ^ 52 + m * 2 ^ shift) false m e
normal m width shift zero e h k n some finite f = absurd (omega arith)
normal m width shift (suc scale) e h k n some finite f =
    let p : 1 ≤ 2 ^ shift = one-le-pow shift 2 (omega arith) in
    let s : 2 ^ 53 ≡ 2 ^ width * 2 ^ shift = ap (λ z. 2 ^ z) (sym n) ∙ pow-add 2 width shift in
    let q : m * 2 ^ shift < 2 ^ 53 = times m (2 ^ width) (2 ^ shift) (2 ^ 53) h p s in
    let r : 2 ^ width * 2 ^ shift ≤ 2 * m * 2 ^ shift = mul-le-mul_right (2 ^ shift) k in
    let t : 2 * m * 2 ^ shift ≡ 2 * (m * 2 ^ shift) = mul_assoc 2 m (2 ^ shift) in
    let low : 2 ^ 52 ≤ m * 2 ^ shift = omega arith in (
      omega arith,
      record {
        scale = suc scale;
        fraction = m * 2 ^ shift - 2 ^ 52;
        shift = shift;
        finite = finite;
        short = omega arith;
        is = omega arith;
        value = omega arith;
        exponent = f ∙ moved scale shift;
      },
    )
  where
    times : (a b p q : ℕ) → a < b → 1 ≤ p → q ≡ b * p → a * p < q
    times a b p q h k e = let g : (a + 1) * p ≤ b * p = mul-le-mul_right p (omega arith) in omega arith

    moved : (scale shift : ℕ) → pos (suc scale + shift) -ℤ pos 1075 ≡ pos (max 1 (suc scale) + shift) -ℤ pos 1075
    moved scale shift = omega (arith, ints)

-- ---- signs

pub signed : (bits m : ℕ) (e : ℤ) → IsDouble bits false m e → IsDouble (bits + 2 ^ 63) true m e
signed bits m e h = let i = h.is in record { scale = h.scale; fraction = h.fraction; shift = h.shift; finite = h.finite; short = h.short; is = omega arith; value = h.value; exponent = h.exponent }

pub unsigned : (bits m : ℕ) (e : ℤ) → IsDouble bits true m e → IsDouble (bits - 2 ^ 63) false m e
unsigned bits m e h = let i = h.is in record { scale = h.scale; fraction = h.fraction; shift = h.shift; finite = h.finite; short = h.short; is = omega arith; value = h.value; exponent = h.exponent }

pub no_signed : (b : Bool) (n m : ℕ) (e : ℤ) → n ≡ m → ((bits : ℕ) → IsDouble bits false n e → ⊥) → (bits : ℕ) → IsDouble bits b m e → ⊥
no_signed false n m e f h bits d = h bits (subst (λ z. IsDouble bits false z e) (sym f) d)
no_signed true n m e f h bits d = h (bits - 2 ^ 63) (subst (λ z. IsDouble (bits - 2 ^ 63) false z e) (sym f) (unsigned bits m e d))

-- ---- places: how many times the least `f64` is doubled

pub off_place : (m : ℕ) (e : ℤ) → m % 2 ≡ 1 → (e <ℤ neg_ℤ (pos 1074)) ⊎ (pos 1024 ≤ℤ e) → (bits : ℕ) → IsDouble bits false m e → ⊥
off_place m e o (inl l) bits d = too_low m e l bits d
off_place m e o (inr g) bits d = too_high m 1 e (omega arith) (omega (arith, ints)) bits d

pub too_far : (m width place : ℕ) (e : ℤ) → e ≡ pos place -ℤ pos 1074 → 2 ^ width ≤ 2 * m → 2098 < place + width → (bits : ℕ) → IsDouble bits false m e → ⊥
too_far m width place e f k g bits d = too_high m width e k (omega (arith, ints)) bits d

pub below_scales : (m width place : ℕ) (e : ℤ) → e ≡ pos place -ℤ pos 1074 → m < 2 ^ width → place + width ≤ 52 → (m * 2 ^ place < 2 ^ 63) × IsDouble (m * 2 ^ place) false m e
below_scales m width place e f h n = subnormal m width place e h (omega arith) f

pub at_scale : (m width place : ℕ) (e : ℤ) → e ≡ pos place -ℤ pos 1074 → m < 2 ^ width → 2 ^ width ≤ 2 * m → width ≤ 53 → 52 < place + width → place + width ≤ 2098
    → ((place + width - 53) * 2 ^ 52 + m * 2 ^ (53 - width) < 2 ^ 63) × IsDouble ((place + width - 53) * 2 ^ 52 + m * 2 ^ (53 - width)) false m e
at_scale m width place e f h k w low high =
    let s : place + width - 53 ≡ place + width - 52 - 1 = omega arith in
    let g : e ≡ pos (place + width - 52 + (53 - width)) -ℤ pos 1075 = omega (arith, ints) in
    subst (λ z. (z * 2 ^ 52 + m * 2 ^ (53 - width) < 2 ^ 63) × IsDouble (z * 2 ^ 52 + m * 2 ^ (53 - width)) false m e) (sym s)
    (normal m width (53 - width) (place + width - 52) e h k (omega arith) (omega arith) (omega arith) g)

-- ---- `f64`s and their bits

pub double_small : (bits m : ℕ) (b : Bool) (e : ℤ) → IsDouble bits b m e → (bits < 2 ^ 64) × (bits % 2 ^ 63 ≤ 2047 * 2 ^ 52)
double_small bits m true e h = let i = h.is in let f = h.finite in let s = h.short in (omega arith, omega arith)
double_small bits m false e h = let i = h.is in let f = h.finite in let s = h.short in (omega arith, omega arith)

pub double_number : (bits m : ℕ) (b : Bool) (e : ℤ) → IsDouble bits b m e → T (not (nan_bits binary64 bits))
double_number bits m b e h = not_nan_f64_bits bits (double_small bits m b e h).1

-- The bits of an `f64` that was made of bits.
pub bits_back : (bits : ℕ) → bits < 2 ^ 64 → bits % 2 ^ 63 ≤ 2047 * 2 ^ 52 → to_bits binary64 (from_bits binary64 bits) ≡ bits
bits_back bits h k = to_bits-of_bits binary64 bits h (subst (λ z. T (not z)) (nan_bits_is binary64 bits) (not_nan_f64_bits bits k))

pub double_back : (bits m : ℕ) (b : Bool) (e : ℤ) → IsDouble bits b m e → IsDouble (to_bits binary64 (from_bits binary64 bits)) b m e
double_back bits m b e h = let s = double_small bits m b e h in subst (λ z. IsDouble z b m e) (sym (bits_back bits s.0 s.1)) h

-- The bits of an `f64` that isn't NaN.
pub number_small : (x : Float) → T (fits binary64 x) → is_nan x ≡ false → (to_bits binary64 x < 2 ^ 64) × (to_bits binary64 x % 2 ^ 63 ≤ 2047 * 2 ^ 52)
number_small x f n =
    let e : ltb (2047 * 2 ^ 52) (to_bits binary64 x % 2 ^ 63) ≡ false = sym (nan_bits_above binary64 (to_bits binary64 x)) ∙ nan_bits_is binary64 (to_bits binary64 x) ∙ ap is_nan (of_bits-to_bits binary64 x f) ∙ n in
    (to_bits-lt binary64 x f, ltb-false _ _ e)

-- A number times a power of 2 is its odd part times another.
pub odd_double : (scale fraction n m shift : ℕ) (b : Bool) (e : ℤ) → scale < 2047 → fraction < 2 ^ 52 → n ≡ significand scale fraction → e ≡ pos (max 1 scale) -ℤ pos 1075 → IsOddPart n m shift
    → IsDouble (2 ^ 63 * bit_of b + (2 ^ 52 * scale + fraction)) b m (e +ℤ pos shift)
odd_double scale fraction n m shift b e f s v x o = record {
  scale = scale;
  fraction = fraction;
  shift = shift;
  finite = f;
  short = s;
  is = refl;
  value = sym v ∙ o.1;
  exponent = moved (max 1 scale) e shift x;
}
  where
    moved : (s : ℕ) (e : ℤ) (shift : ℕ) → e ≡ pos s -ℤ pos 1075 → e +ℤ pos shift ≡ pos (s + shift) -ℤ pos 1075
    moved s e shift x = omega (arith, ints)

pub zero_back : to_bits binary64 (from_bits binary64 0) ≡ 0
zero_back = bits_back 0 (omega arith) (omega arith)

pub minus_zero_back : to_bits binary64 (neg (from_bits binary64 0)) ≡ 2 ^ 63
unfolding to_bits of_bits neg
minus_zero_back = refl

pub infinity_back : to_bits binary64 (from_bits binary64 0x7ff0_0000_0000_0000) ≡ 2047 * 2 ^ 52
infinity_back = bits_back 0x7ff0_0000_0000_0000 (omega arith) (omega arith)

pub minus_infinity_back : to_bits binary64 (from_bits binary64 0xfff0_0000_0000_0000) ≡ 2 ^ 63 + 2047 * 2 ^ 52
minus_infinity_back = bits_back 0xfff0_0000_0000_0000 (omega arith) (omega arith)

nan_is : to_bits binary64 (from_bits binary64 0x7ff8_0000_0000_0000) ≡ 0x7ff8_0000_0000_0000
unfolding to_bits of_bits
nan_is = refl

pub nan_back : 2047 * 2 ^ 52 < to_bits binary64 (from_bits binary64 0x7ff8_0000_0000_0000) % 2 ^ 63
nan_back = subst (λ z. 2047 * 2 ^ 52 < z % 2 ^ 63) (sym nan_is) (omega arith)

-- ---- contents

-- Octets of an odd part, where the number that it is part of has these bits.
pub of_number : (bits scale fraction n : ℕ) (b : Bool) (e : ℤ) → bits ≡ 2 ^ 63 * bit_of b + (2 ^ 52 * scale + fraction) → scale < 2047 → fraction < 2 ^ 52 → n ≡ significand scale fraction → e ≡ pos (max 1 scale) -ℤ pos 1075
    → (octets : List ℕ) → ((m : ℕ) × (shift : ℕ) × IsOddPart n m shift × IsCanonicalBinary octets b m (e +ℤ pos shift)) → IsOfBits bits octets
of_number bits scale fraction n b e i f s v x octets h =
    (binary b h.0 (e +ℤ pos h.1), h.3, subst (λ z. IsDouble z b h.0 (e +ℤ pos h.1)) (sym i) (odd_double scale fraction n h.0 h.1 b e f s v x h.2))

pub of_numbers : {V E : Type 0} (r : Result V E) (items : V → List ℕ) (bits scale fraction n : ℕ) (b : Bool) (e : ℤ) → IfOk r (λ v. (m : ℕ) × (shift : ℕ) × IsOddPart n m shift × IsCanonicalBinary (items v) b m (e +ℤ pos shift))
    → bits ≡ 2 ^ 63 * bit_of b + (2 ^ 52 * scale + fraction) → scale < 2047 → fraction < 2 ^ 52 → n ≡ significand scale fraction → e ≡ pos (max 1 scale) -ℤ pos 1075 → IfOk r (λ v. IsOfBits bits (items v))
of_numbers (Ok v) items bits scale fraction n b e h i f s g x = of_number bits scale fraction n b e i f s g x (items v) h
of_numbers (Err y) items bits scale fraction n b e h i f s g x = tt

-- The same of octets that are known.
pub of_octets : {V E : Type 0} (r : Result V E) (items : V → List ℕ) (bits : ℕ) (octets : List ℕ) → IsOfBits bits octets → IfOk r (λ v. items v ≡ octets) → IfOk r (λ v. IsOfBits bits (items v))
of_octets (Ok v) items bits octets o h = subst (IsOfBits bits) (sym h) o
of_octets (Err y) items bits octets o h = tt

pub infinity_octets : (bits : ℕ) → bits < 2 ^ 63 → bits % 2 ^ 63 ≤ 2047 * 2 ^ 52 → bits / 2 ^ 52 % 2048 ≡ 2047 → IsOfBits bits (64 ∷ [])
infinity_octets bits h k e = (plus_infinity, refl, omega arith)

pub minus_infinity_octets : (bits : ℕ) → bits < 2 ^ 64 → 2 ^ 63 ≤ bits → bits % 2 ^ 63 ≤ 2047 * 2 ^ 52 → bits / 2 ^ 52 % 2048 ≡ 2047 → IsOfBits bits (65 ∷ [])
minus_infinity_octets bits w h k e = (minus_infinity, refl, omega arith)

pub nan_octets : (x : Float) → is_nan x ≡ true → IsOfBits (to_bits binary64 x) (66 ∷ [])
unfolding is_nan to_bits
nan_octets nan e = (not_a_number, refl, omega arith)
nan_octets (inf s) e = absurd (true≢false (sym e))
nan_octets (fin s m x) e = absurd (true≢false (sym e))

pub zero_octets : (b : Bool) (fraction : ℕ) → b ≡ false → fraction ≡ 0 → (octets : List ℕ) → octets ≡ [] → IsOfBits (2 ^ 63 * bit_of b + fraction) octets
zero_octets false fraction e f octets h = (plus_zero, h, omega arith)
zero_octets true fraction e f octets h = absurd (true≢false e)

pub minus_zero_octets : (b : Bool) (fraction : ℕ) → b ≡ true → fraction ≡ 0 → IsOfBits (2 ^ 63 * bit_of b + fraction) (67 ∷ [])
minus_zero_octets true fraction e f = (minus_zero, refl, omega arith)
minus_zero_octets false fraction e f = absurd (true≢false (sym e))

-- The bits of a sign, a scale and a fraction, which they are of.
pub sign_scale_fraction : (bits : ℕ) (b : Bool) → bits < 2 ^ 64 → b ≡ nat_le (2 ^ 63) bits → bits ≡ 2 ^ 63 * bit_of b + (2 ^ 52 * (bits / 2 ^ 52 % 2048) + bits % 2 ^ 52)
sign_scale_fraction bits true h e = let l : 2 ^ 63 ≤ bits = leb-true (2 ^ 63) bits (sym e) in omega arith
sign_scale_fraction bits false h e = let l : bits < 2 ^ 63 = leb-false (2 ^ 63) bits (sym e) in omega arith

pub off_zero : (scale fraction : ℕ) → scale ≢ 0 → fraction + 2 ^ 52 ≡ significand scale fraction
off_zero zero fraction n = absurd (n refl)
off_zero (suc scale) fraction n = omega arith

pub exponent_of : (scale : ℕ) (e : ℤ) → scale ≢ 0 → e ≡ pos scale -ℤ pos 1075 → e ≡ pos (max 1 scale) -ℤ pos 1075
exponent_of scale e n x = let m : max 1 scale ≡ scale = omega arith in subst (λ z. e ≡ pos z -ℤ pos 1075) (sym m) x

pub of_one : {V E : Type 0} (r : Result V E) (items : V → List ℕ) (bits octet octet' : ℕ) → octet ≡ octet' → IsOfBits bits (octet' ∷ []) → IfOk r (λ v. items v ≡ octet ∷ []) → IfOk r (λ v. IsOfBits bits (items v))
of_one r items bits octet octet' e o h = of_octets r items bits (octet ∷ []) (subst (λ z. IsOfBits bits (z ∷ [])) (sym e) o) h

-- The exponent of an `f64` fits in 128 bits.
pub far_place : (m : ℕ) (e : ℤ) → m % 2 ≡ 1 → (IsIn (signed_range 128) e → ⊥) → (bits : ℕ) → IsDouble bits false m e → ⊥
far_place m e o bad bits d = bad (inside (max 1 d.scale) d.shift e (one_at_least d.scale d.finite).1 (narrow m d.shift 1 (bounds bits false m e d).below (omega arith)) d.exponent)
  where
    inside : (s shift : ℕ) (e : ℤ) → s ≤ 2046 → 1 + shift ≤ 53 → e ≡ pos (s + shift) -ℤ pos 1075 → IsIn (signed_range 128) e
    inside s shift e h k f = (omega (arith, ints), omega (arith, ints))
