-- Whole numbers as octets in two's complement (X.690 8.3).
use Rattle.std.proofs.Common.{◌≡◌, ℕ, zero, suc, ◌+◌, ◌-◌, ◌*◌, ◌^◌, ◌%◌, ◌/◌, ◌<◌, ◌≤◌, ◌⊎◌, inl, inr, List, [], ◌∷◌, ◌++◌, length, get_or, take, drop, ℤ, pos, negsuc, neg_ℤ, ◌+ℤ◌, ◌-ℤ◌, ◌*ℤ◌, ◌≤ℤ◌, ◌<ℤ◌, Fits, w8, FitsSigned, to_z, of_z, add-one, drop-cons, length-take, refl, sym, ap, ap₂, ◌∙◌, subst, arith, mul-le-mul_right, length-append}
use Rattle.std.specs.Int.{w128}
use Rattle.std.proofs.Math.Nat.{pow-succ', mod-eq_of_lt, pow-le-pow_right}
use Rattle.std.proofs.Math.Arith.{digits_lt}
use Rattle.std.proofs.Math.Seq.{take-suc}
use Rattle.std.proofs.lemmas.Bool.{cases_order}
use Rattle.std.proofs.lemmas.Int.{ints, to_z-of_z, by_lt_z}
use Rattle.rasn_types.specs.Framing.{number_in, AreOctets}
use Rattle.rasn_types.specs.Contents.{signed, IsShortestInteger, RepeatsSign}
use Rattle.rasn_types.specs.Shapes.{IsIn}
use Rattle.rasn_types.specs.Trees.{signed_range}
use Rattle.rasn_types.proofs.Headers.Digits.{number_lt}

pub half : (b : ℕ) → (b < 128) ⊎ (128 ≤ b)
half b = go (cases_order b 128)
  where
    go : (b ≡ 128) ⊎ ((b < 128) ⊎ (128 < b)) → (b < 128) ⊎ (128 ≤ b)
    go (inl e) = inr (omega arith)
    go (inr (inl e)) = inl e
    go (inr (inr e)) = inr (omega arith)

small : (x : ℕ) → x < 128 → x / 128 ≡ 0
small x h = omega arith

great : (x : ℕ) → 128 ≤ x → x < 256 → x / 128 ≡ 1
great x h k = omega arith

pub below_power : (l : List ℕ) → number_in 256 l < 256 ^ length l
below_power = number_lt 256 (omega arith)

pub first_digit : (b : ℕ) (l : List ℕ) → b < 256 → number_in 256 (b ∷ l) ≡ b * 256 ^ length l + number_in 256 l
first_digit b l h = ap (λ z. z * 256 ^ length l + number_in 256 l) (mod-eq_of_lt h)

-- A number whose first octet is below 128.
pub signed_low : (b : ℕ) (l : List ℕ) → b < 128 → signed (b ∷ l) ≡ pos (b * 256 ^ length l + number_in 256 l)
signed_low b l h = ap₂ (λ x y. pos x -ℤ pos (y * 256 ^ length (b ∷ l))) (first_digit b l (omega arith)) (small b h)
    ∙ plain (b * 256 ^ length l + number_in 256 l) (256 ^ length (b ∷ l))
  where
    plain : (n p : ℕ) → pos n -ℤ pos (0 * p) ≡ pos n
    plain n p = omega (arith, ints)

-- A number whose first octet isn't below 128.
pub signed_high : (b : ℕ) (l : List ℕ) → 128 ≤ b → b < 256
    → signed (b ∷ l) ≡ pos (b * 256 ^ length l + number_in 256 l) -ℤ pos (256 * 256 ^ length l)
signed_high b l h k = ap₂ (λ x y. pos x -ℤ pos (y * 256 ^ length (b ∷ l))) (first_digit b l k) (great b h k)
    ∙ plain (b * 256 ^ length l + number_in 256 l) (256 ^ length (b ∷ l)) (256 * 256 ^ length l) (pow-succ' 256 (length l))
  where
    plain : (n p q : ℕ) → p ≡ q → pos n -ℤ pos (1 * p) ≡ pos n -ℤ pos q
    plain n p q e = omega (arith, ints)

-- The first octet determines the sign.
pub not_negative : (b : ℕ) (l : List ℕ) → b < 128 → pos 0 ≤ℤ signed (b ∷ l)
not_negative b l h = subst (λ z. pos 0 ≤ℤ z) (sym (signed_low b l h)) (omega (arith, ints))

pub negative : (b : ℕ) (l : List ℕ) → 128 ≤ b → b < 256 → signed (b ∷ l) <ℤ pos 0
negative b l h k = subst (λ z. z <ℤ pos 0) (sym (signed_high b l h k))
    (under (b * 256 ^ length l + number_in 256 l) (256 * 256 ^ length l) (digits_lt k (below_power l)))
  where
    under : (n p : ℕ) → n < p → (pos n -ℤ pos p) <ℤ pos 0
    under n p h = omega (arith, ints)

-- An octet that only repeats the sign of the octet after it changes nothing.
pub same_by_zero : (b : ℕ) (l : List ℕ) → b < 128 → signed (0 ∷ b ∷ l) ≡ signed (b ∷ l)
same_by_zero b l h = signed_low 0 (b ∷ l) (omega arith)
    ∙ (plain (256 ^ length (b ∷ l)) (number_in 256 (b ∷ l)) ∙ (ap pos (first_digit b l (omega arith)) ∙ sym (signed_low b l h)))
  where
    plain : (p n : ℕ) → pos (0 * p + n) ≡ pos n
    plain p n = omega (arith, ints)

pub same_by_ones : (b : ℕ) (l : List ℕ) → 128 ≤ b → b < 256 → signed (255 ∷ b ∷ l) ≡ signed (b ∷ l)
same_by_ones b l h k = signed_high 255 (b ∷ l) (omega arith) (omega arith)
    ∙ (plain (256 ^ length (b ∷ l)) (256 * 256 ^ length l) (number_in 256 (b ∷ l)) (b * 256 ^ length l + number_in 256 l)
    (pow-succ' 256 (length l)) (first_digit b l k) ∙ sym (signed_high b l h k))
  where
    plain : (p q n m : ℕ) → p ≡ q → n ≡ m → pos (255 * p + n) -ℤ pos (256 * p) ≡ pos m -ℤ pos q
    plain p q n m e f = omega (arith, ints)

-- The numbers that fit in these octets.
pub within_octets : (l : List ℕ) → AreOctets l → 0 < length l
    → (neg_ℤ (pos (256 ^ length l)) ≤ℤ (signed l +ℤ signed l)) × ((signed l +ℤ signed l) <ℤ pos (256 ^ length l))
within_octets [] o h = absurd (omega arith)
within_octets (b ∷ l) o h = go (half b)
  where
    low : (p n w : ℕ) (z : ℤ) → z ≡ pos n → n < 128 * p → w ≡ 256 * p → (neg_ℤ (pos w) ≤ℤ (z +ℤ z)) × ((z +ℤ z) <ℤ pos w)
    low p n w z e h f = (omega (arith, ints), omega (arith, ints))

    high : (p n w : ℕ) (z : ℤ) → z ≡ pos n -ℤ pos (256 * p) → 128 * p ≤ n → n < 256 * p → w ≡ 256 * p → (neg_ℤ (pos w) ≤ℤ (z +ℤ z)) × ((z +ℤ z) <ℤ pos w)
    high p n w z e h k f = (omega (arith, ints), omega (arith, ints))

    go : (b < 128) ⊎ (128 ≤ b) → (neg_ℤ (pos (256 ^ length (b ∷ l))) ≤ℤ (signed (b ∷ l) +ℤ signed (b ∷ l))) × ((signed (b ∷ l) +ℤ signed (b ∷ l)) <ℤ pos (256 ^ length (b ∷ l)))
    go (inl k) = low (256 ^ length l) (b * 256 ^ length l + number_in 256 l) (256 ^ length (b ∷ l)) (signed (b ∷ l)) (signed_low b l k)
        (digits_lt k (below_power l)) (pow-succ' 256 (length l))
    go (inr k) =
        let g : 128 * 256 ^ length l ≤ b * 256 ^ length l = mul-le-mul_right (256 ^ length l) k in
        high (256 ^ length l) (b * 256 ^ length l + number_in 256 l) (256 ^ length (b ∷ l)) (signed (b ∷ l)) (signed_high b l k o.0)
        (omega arith) (digits_lt o.0 (below_power l)) (pow-succ' 256 (length l))

-- A number that isn't negative and has more than one octet.
far : (c d m q : ℕ) → m < q → (((c ≡ 0) × (d < 128)) → ⊥) → 128 * q ≤ c * (256 * q) + (d * q + m)
far c d m q h low = by (cases_order c 0)
  where
    by : (c ≡ 0) ⊎ ((c < 0) ⊎ (0 < c)) → 128 * q ≤ c * (256 * q) + (d * q + m)
    by (inl z) = by_next (half d)
      where
        by_next : (d < 128) ⊎ (128 ≤ d) → 128 * q ≤ c * (256 * q) + (d * q + m)
        by_next (inl f) = absurd (low (z, f))
        by_next (inr f) = let g : 128 * q ≤ d * q = mul-le-mul_right q f in omega arith
    by (inr (inl z)) = absurd (omega arith)
    by (inr (inr z)) = let g : 1 * (256 * q) ≤ c * (256 * q) = mul-le-mul_right (256 * q) z in omega arith

-- A number that is negative and has more than one octet.
deep : (c d m q : ℕ) → c < 256 → d < 256 → m < q → (((c ≡ 255) × (128 ≤ d)) → ⊥) → c * (256 * q) + (d * q + m) < 256 * (256 * q) - 128 * q
deep c d m q hc hd hm high = by (cases_order c 255)
  where
    rest : d * q + m < 256 * q
    rest = digits_lt hd hm

    by : (c ≡ 255) ⊎ ((c < 255) ⊎ (255 < c)) → c * (256 * q) + (d * q + m) < 256 * (256 * q) - 128 * q
    by (inl z) = by_next (half d)
      where
        by_next : (d < 128) ⊎ (128 ≤ d) → c * (256 * q) + (d * q + m) < 256 * (256 * q) - 128 * q
        by_next (inl f) =
            let g : d * q + m < 128 * q = digits_lt f hm in
            let k : c * (256 * q) ≡ 255 * (256 * q) = ap (λ x. x * (256 * q)) z in omega arith
        by_next (inr f) = absurd (high (z, f))
    by (inr (inl z)) = let g : c * (256 * q) ≤ 254 * (256 * q) = mul-le-mul_right (256 * q) (omega arith) in let r = rest in omega arith
    by (inr (inr z)) = absurd (omega arith)

-- The fewest octets hold a number that doesn't fit in fewer.
pub beyond_octets : (c d : ℕ) (l : List ℕ) → AreOctets (c ∷ d ∷ l) → IsShortestInteger (c ∷ d ∷ l)
    → ((signed (c ∷ d ∷ l) +ℤ signed (c ∷ d ∷ l)) <ℤ neg_ℤ (pos (256 ^ length (d ∷ l)))) ⊎ (pos (256 ^ length (d ∷ l)) ≤ℤ (signed (c ∷ d ∷ l) +ℤ signed (c ∷ d ∷ l)))
beyond_octets c d l o s = go (half c)
  where
    pd : 256 ^ length (d ∷ l) ≡ 256 * 256 ^ length l
    pd = pow-succ' 256 (length l)

    number_is : c * 256 ^ length (d ∷ l) + number_in 256 (d ∷ l) ≡ c * (256 * 256 ^ length l) + (d * 256 ^ length l + number_in 256 l)
    number_is = ap₂ (λ x y. c * x + y) pd (first_digit d l o.1.0)

    above : (q n w m : ℕ) (z : ℤ) → z ≡ pos n → n ≡ m → 128 * q ≤ m → w ≡ 256 * q → pos w ≤ℤ (z +ℤ z)
    above q n w m z e f h g = omega (arith, ints)

    under : (q n w m : ℕ) (z : ℤ) → z ≡ pos n -ℤ pos (256 * w) → n ≡ m → m < 256 * (256 * q) - 128 * q → w ≡ 256 * q → (z +ℤ z) <ℤ neg_ℤ (pos w)
    under q n w m z e f h g = omega (arith, ints)

    go : (c < 128) ⊎ (128 ≤ c) → ((signed (c ∷ d ∷ l) +ℤ signed (c ∷ d ∷ l)) <ℤ neg_ℤ (pos (256 ^ length (d ∷ l)))) ⊎ (pos (256 ^ length (d ∷ l)) ≤ℤ (signed (c ∷ d ∷ l) +ℤ signed (c ∷ d ∷ l)))
    go (inl k) = inr (above (256 ^ length l) (c * 256 ^ length (d ∷ l) + number_in 256 (d ∷ l)) (256 ^ length (d ∷ l)) (c * (256 * 256 ^ length l) + (d * 256 ^ length l + number_in 256 l))
        (signed (c ∷ d ∷ l)) (signed_low c (d ∷ l) k) number_is (far c d (number_in 256 l) (256 ^ length l) (below_power l) (λ e. s (inl e))) pd)
    go (inr k) = inl (under (256 ^ length l) (c * 256 ^ length (d ∷ l) + number_in 256 (d ∷ l)) (256 ^ length (d ∷ l)) (c * (256 * 256 ^ length l) + (d * 256 ^ length l + number_in 256 l))
        (signed (c ∷ d ∷ l)) (signed_high c (d ∷ l) k o.0) number_is (deep c d (number_in 256 l) (256 ^ length l) o.0 o.1.0 (below_power l) (λ e. s (inr e))) pd)

pub shortest_some : (l : List ℕ) → IsShortestInteger l → 0 < length l
shortest_some [] s = absurd s
shortest_some (b ∷ l) s = omega arith

-- The octets of a slice.
pub are_octets : (l : List ℕ) → ((k : ℕ) → Fits w8 (get_or l k 0)) → AreOctets l
are_octets [] h = tt
are_octets (b ∷ l) h = ((h 0).fits, are_octets l (λ k. h (suc k)))

pub octets_behind : (n : ℕ) (l : List ℕ) → AreOctets l → AreOctets (drop n l)
octets_behind zero l o = o
octets_behind (suc n) [] o = tt
octets_behind (suc n) (b ∷ l) o = octets_behind n l o.1

same_behind : (a b : ℕ) (l : List ℕ) → b < 256 → RepeatsSign a b → signed (a ∷ b ∷ l) ≡ signed (b ∷ l)
same_behind a b l h (inl (e, k)) = ap (λ x. signed (x ∷ b ∷ l)) e ∙ same_by_zero b l k
same_behind a b l h (inr (e, k)) = ap (λ x. signed (x ∷ b ∷ l)) e ∙ same_by_ones b l k h

pub one_dropped : (i : ℕ) (l : List ℕ) → suc i < length l → ((k : ℕ) → Fits w8 (get_or l k 0)) → RepeatsSign (get_or l i 0) (get_or l (suc i) 0)
    → signed (drop (suc i) l) ≡ signed (drop i l)
one_dropped i l h o r =
    let h' : i < length l = omega arith in
    let e : drop i l ≡ get_or l i 0 ∷ drop (suc i) l = drop-cons l i 0 h' in
    let f : drop (suc i) l ≡ get_or l (suc i) 0 ∷ drop (suc (suc i)) l = drop-cons l (suc i) 0 h in
    let g : drop i l ≡ get_or l i 0 ∷ (get_or l (suc i) 0 ∷ drop (suc (suc i)) l) = e ∙ ap (λ z. get_or l i 0 ∷ z) f in
    ap signed f ∙ sym (ap signed g ∙ same_behind (get_or l i 0) (get_or l (suc i) 0) (drop (suc (suc i)) l) (o (suc i)).fits r)

pub short_behind : (i : ℕ) (l : List ℕ) → i < length l → (suc i < length l → RepeatsSign (get_or l i 0) (get_or l (suc i) 0) → ⊥)
    → IsShortestInteger (drop i l)
short_behind zero [] h r = absurd (omega arith)
short_behind zero (a ∷ []) h r = tt
short_behind zero (a ∷ b ∷ l) h r = r (omega arith)
short_behind (suc i) [] h r = absurd (omega arith)
short_behind (suc i) (a ∷ l) h r = short_behind i l (omega arith) (λ k. r (omega arith))

-- The octets so far, folded from the left. `sign` is 1 for a negative number.
abbrev pub folded : ℕ → List ℕ → ℤ
folded sign l = pos (number_in 256 l) -ℤ pos (sign * 256 ^ length l)

pub number_snoc : (l : List ℕ) (b : ℕ) → b < 256 → number_in 256 (l ++ b ∷ []) ≡ number_in 256 l * 256 + b
number_snoc [] b h = omega arith
number_snoc (a ∷ l) b h =
    let e : length (l ++ b ∷ []) ≡ suc (length l) = omega (arith, length-append l (b ∷ [])) in
    let p : 256 ^ length (l ++ b ∷ []) ≡ 256 * 256 ^ length l = ap (λ n. 256 ^ n) e ∙ pow-succ' 256 (length l) in
    ap₂ (λ x y. a % 256 * x + y) p (number_snoc l b h) ∙ plain (a % 256) (256 ^ length l) (number_in 256 l) b
  where
    plain : (a p n b : ℕ) → a * (256 * p) + (n * 256 + b) ≡ (a * p + n) * 256 + b
    plain a p n b = omega arith

folded_snoc : (sign : ℕ) (l : List ℕ) (b : ℕ) → b < 256 → folded sign (l ++ b ∷ []) ≡ folded sign l *ℤ pos 256 +ℤ pos b
folded_snoc sign l b h =
    let e : length (l ++ b ∷ []) ≡ suc (length l) = omega (arith, length-append l (b ∷ [])) in
    let p : 256 ^ length (l ++ b ∷ []) ≡ 256 * 256 ^ length l = ap (λ n. 256 ^ n) e ∙ pow-succ' 256 (length l) in
    ap₂ (λ x y. pos x -ℤ pos (sign * y)) (number_snoc l b h) p ∙ plain sign (256 ^ length l) (number_in 256 l) b
  where
    plain : (s p n b : ℕ) → pos (n * 256 + b) -ℤ pos (s * (256 * p)) ≡ (pos n -ℤ pos (s * p)) *ℤ pos 256 +ℤ pos b
    plain s p n b = moved (s * (256 * p)) (s * p) n b (omega arith)
      where
        moved : (m k n b : ℕ) → m ≡ 256 * k → pos (n * 256 + b) -ℤ pos m ≡ (pos n -ℤ pos k) *ℤ pos 256 +ℤ pos b
        moved m k n b e = omega (arith, ints)

pub octet_at : (i : ℕ) (l : List ℕ) → AreOctets l → get_or l i 0 < 256
octet_at i [] o = omega arith
octet_at zero (b ∷ l) o = o.0
octet_at (suc i) (b ∷ l) o = octet_at i l o.1

octets_in_front : (n : ℕ) (l : List ℕ) → AreOctets l → AreOctets (take n l)
octets_in_front zero l o = tt
octets_in_front (suc n) [] o = tt
octets_in_front (suc n) (b ∷ l) o = (o.0, octets_in_front n l o.1)

folded_is : (i : ℕ) (l : List ℕ) → i < length l → folded (get_or l 0 0 / 128) (take (suc i) l) ≡ signed (take (suc i) l)
folded_is i [] h = absurd (omega arith)
folded_is i (b ∷ l) h = refl

pub folded_all : (l : List ℕ) → 0 < length l → folded (get_or l 0 0 / 128) l ≡ signed l
folded_all [] h = absurd (omega arith)
folded_all (b ∷ l) h = refl

fits_128 : (z : ℤ) → neg_ℤ (pos (2 ^ 127)) ≤ℤ z → z ≤ℤ pos (2 ^ 127 - 1) → FitsSigned w128 z
fits_128 (pos n) low high = record { sfits = omega (arith, ints) }
fits_128 (negsuc n) low high = record { sfits = omega (arith, ints) }

-- A step of the fold, if the number fits in 128 bits.
pub record FoldStep (l : List ℕ) (i : ℕ) (number : ℤ) : Type 0 where
  pub shifts : FitsSigned w128 (number *ℤ pos 256)
  pub adds : FitsSigned w128 (number *ℤ pos 256 +ℤ pos (get_or l i 0))
  pub is : number *ℤ pos 256 +ℤ pos (get_or l i 0) ≡ folded (get_or l 0 0 / 128) (take (suc i) l)

pub fold_step : (l : List ℕ) (i : ℕ) (number : ℤ) → AreOctets l → i < length l → length l ≤ 16
    → number ≡ folded (get_or l 0 0 / 128) (take i l) → FoldStep l i number
fold_step l i number o h few e =
    let b : get_or l i 0 < 256 = octet_at i l o in
    let next : number *ℤ pos 256 +ℤ pos (get_or l i 0) ≡ folded (get_or l 0 0 / 128) (take (suc i) l) =
    ap (λ z. z *ℤ pos 256 +ℤ pos (get_or l i 0)) e
    ∙ (sym (folded_snoc (get_or l 0 0 / 128) (take i l) (get_or l i 0) b) ∙ ap (folded (get_or l 0 0 / 128)) (sym (take-suc l i 0 h))) in
    let n : length (take (suc i) l) ≡ suc i = omega (arith, length-take (suc i) l) in
    let w = within_octets (take (suc i) l) (octets_in_front (suc i) l o) (omega arith) in
    let m : length (take (suc i) l) ≤ 16 = omega arith in
    let p : 256 ^ length (take (suc i) l) ≤ 256 ^ 16 = pow-le-pow_right (omega arith) m in
    let f = fits number (get_or l i 0) (signed (take (suc i) l)) (256 ^ length (take (suc i) l)) b (next ∙ folded_is i l h) p w.0 w.1 in
    record { shifts = f.0; adds = f.1; is = next }
  where
    fits : (a : ℤ) (b : ℕ) (z : ℤ) (p : ℕ) → b < 256 → a *ℤ pos 256 +ℤ pos b ≡ z → p ≤ 2 ^ 128 → neg_ℤ (pos p) ≤ℤ (z +ℤ z) → (z +ℤ z) <ℤ pos p
        → FitsSigned w128 (a *ℤ pos 256) × FitsSigned w128 (a *ℤ pos 256 +ℤ pos b)
    fits a b z p h e k low high =
        (fits_128 (a *ℤ pos 256) (omega (arith, ints)) (omega (arith, ints)), fits_128 (a *ℤ pos 256 +ℤ pos b) (omega (arith, ints)) (omega (arith, ints)))

-- The same step, as the program computes it.
pub stepped : (l : List ℕ) (i : ℕ) (number octet : ℤ) → FoldStep l i number → FitsSigned w128 octet → octet ≡ pos (get_or l i 0)
    → to_z w128 (of_z w128 (to_z w128 (of_z w128 (number *ℤ pos 256)) +ℤ to_z w128 (of_z w128 octet))) ≡ folded (get_or l 0 0 / 128) (take (i + 1) l)
stepped l i number octet s f e =
    ap₂ (λ x y. to_z w128 (of_z w128 (x +ℤ y))) (to_z-of_z w128 (number *ℤ pos 256) s.shifts) (to_z-of_z w128 octet f ∙ e)
    ∙ (to_z-of_z w128 (number *ℤ pos 256 +ℤ pos (get_or l i 0)) s.adds ∙ rw (add-one i) s.is)

-- The numbers that fit in 128 bits, and those that don't.
pub in_128 : (l : List ℕ) → AreOctets l → 0 < length l → length l ≤ 16 → IsIn (signed_range 128) (signed l)
in_128 l o h few =
    let w = within_octets l o h in
    let p : 256 ^ length l ≤ 256 ^ 16 = pow-le-pow_right (omega arith) few in
    plain (signed l) (256 ^ length l) p w.0 w.1
  where
    plain : (z : ℤ) (p : ℕ) → p ≤ 2 ^ 128 → neg_ℤ (pos p) ≤ℤ (z +ℤ z) → (z +ℤ z) <ℤ pos p → IsIn (signed_range 128) z
    plain z p k low high = (omega (arith, ints), omega (arith, ints))

pub not_in_128 : (l : List ℕ) → AreOctets l → IsShortestInteger l → 16 < length l → IsIn (signed_range 128) (signed l) → ⊥
not_in_128 [] o s h i = s
not_in_128 (c ∷ []) o s h i = omega arith
not_in_128 (c ∷ d ∷ l) o s h i =
    let n : 16 ≤ length (d ∷ l) = omega arith in
    let p : 256 ^ 16 ≤ 256 ^ length (d ∷ l) = pow-le-pow_right (omega arith) n in
    plain (signed (c ∷ d ∷ l)) (256 ^ length (d ∷ l)) p (beyond_octets c d l o s) i.0 i.1
  where
    plain : (z : ℤ) (p : ℕ) → 2 ^ 128 ≤ p → ((z +ℤ z) <ℤ neg_ℤ (pos p)) ⊎ (pos p ≤ℤ (z +ℤ z)) → neg_ℤ (pos (2 ^ 127)) ≤ℤ z → z ≤ℤ pos (2 ^ 127 - 1) → ⊥
    plain z p k (inl e) low high = omega (arith, ints)
    plain z p k (inr e) low high = omega (arith, ints)

-- Whether a number that doesn't fit in 128 bits is above or below those that do.
pub far_below : (l : List ℕ) → AreOctets l → 0 < length l → 128 ≤ get_or l 0 0 → (IsIn (signed_range 128) (signed l) → ⊥)
    → signed l <ℤ neg_ℤ (pos (2 ^ 127))
far_below [] o h k far = absurd (omega arith)
far_below (b ∷ l) o h k far = plain (signed (b ∷ l)) (negative b l k o.0) far
  where
    plain : (z : ℤ) → z <ℤ pos 0 → (IsIn (signed_range 128) z → ⊥) → z <ℤ neg_ℤ (pos (2 ^ 127))
    plain z h far = by_lt_z z (neg_ℤ (pos (2 ^ 127))) (λ e. e) (λ e. absurd (far (e, omega (arith, ints))))
