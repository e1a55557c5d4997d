-- Exponents in two's complement.
use Rattle.std.proofs.Common.{◌≡◌, ℕ, zero, suc, ◌+◌, ◌-◌, ◌*◌, ◌^◌, ◌%◌, ◌/◌, ◌<◌, ◌≤◌, ◌⊎◌, inl, inr, List, [], ◌∷◌, ◌++◌, length, map, get_or, nat_eq, nat_le, Bool, true, false, ℤ, pos, negsuc, neg_ℤ, FitsSigned, w64, of_z, to_z, ◌+ℤ◌, ◌-ℤ◌, ◌*ℤ◌, ◌≤ℤ◌, ◌<ℤ◌, refl, sym, ap, ap₂, ◌∙◌, subst, arith, length-append}
use Rattle.std.specs.Int.{w128, to_be_bytes}
use Rattle.std.proofs.Math.Nat.{pow-le-pow_right}
use Rattle.std.proofs.lemmas.Nat.{pow-add}
use Rattle.std.proofs.lemmas.Bool.{cases_order}
use Rattle.std.proofs.lemmas.Int.{ints}
use Rattle.std.proofs.lemmas.List.{length-map}
use Rattle.std.proofs.lemmas.List.Elements.{All-nil, All-cons}
use borrow.Author.Tests.{leb-true, leb-false}
use lib.IntN.{negsuc-*ℤ-pos}
use Rattle.rasn_types.specs.Framing.{bit_of, number_in, AreOctets}
use Rattle.rasn_types.specs.Truth.{IsWhether}
use Rattle.rasn_types.specs.Contents.{signed}
use Rattle.rasn_types.specs.Shapes.{IsIn}
use Rattle.rasn_types.specs.Trees.{signed_range, IsShortestOf}
use Rattle.rasn_types.proofs.Integer.TwosComplement.{within_octets, not_in_128, not_negative, negative, half}
use Rattle.rasn_schema.specs.Places.{number_from, HaveDigits}

pub some_octets : (b : Bool) (l : List ℕ) → b ≡ nat_eq (length l) 0 → b ≡ false → 0 < length l
some_octets b [] e f = absurd (let g : true ≡ false = sym e ∙ f in cc)
some_octets b (c ∷ l) e f = omega arith

pub back_64 : (z : ℤ) → FitsSigned w64 z → to_z w128 (of_z w128 z) ≡ z
back_64 z f = omega (arith, ints)

-- A number of at most eight octets.
pub in_eight : (l : List ℕ) → AreOctets l → 0 < length l → length l ≤ 8 → FitsSigned w64 (signed l)
in_eight l o h few = let w = within_octets l o h in go (signed l) (256 ^ length l) (pow-le-pow_right (omega arith) few) w.0 w.1
  where
    go : (z : ℤ) (p : ℕ) → p ≤ 256 ^ 8 → neg_ℤ (pos p) ≤ℤ (z +ℤ z) → (z +ℤ z) <ℤ pos p → FitsSigned w64 z
    go (pos n) p k low high = record { sfits = omega (arith, ints) }
    go (negsuc n) p k low high = record { sfits = omega (arith, ints) }

pub shown_eight : (z : ℤ) → FitsSigned w64 z → to_z w64 (of_z w64 (to_z w128 (of_z w128 z))) ≡ z
shown_eight z f = omega (arith, ints)

pub length_some : (l front last : List ℕ) → l ≡ front ++ last → 0 < length front → 0 < length l
length_some l front last e h = omega (arith, ap length e, length-append front last)

-- A difference times a number.
times_difference : (n k q : ℕ) → (pos n -ℤ pos k) *ℤ pos q ≡ pos (n * q) -ℤ pos (k * q)
times_difference n k q = go (cases_order n k)
  where
    minus : (d q : ℕ) → neg_ℤ (pos d) *ℤ pos q ≡ neg_ℤ (pos (d * q))
    minus zero q = omega (arith, ints)
    minus (suc d) q = negsuc-*ℤ-pos d q

    more : (n k d : ℕ) → n ≡ k + d → (pos n -ℤ pos k) *ℤ pos q ≡ pos (n * q) -ℤ pos (k * q)
    more n k d e =
        let f : pos n -ℤ pos k ≡ pos d = omega (arith, ints) in
        let g : pos d *ℤ pos q ≡ pos (d * q) = omega (arith, ints) in
        let h : n * q ≡ k * q + d * q = ap (λ z. z * q) e ∙ omega arith in
        let i : pos (d * q) ≡ pos (n * q) -ℤ pos (k * q) = omega (arith, ints, h) in
        ap (λ z. z *ℤ pos q) f ∙ (g ∙ i)

    less : (n k d : ℕ) → k ≡ n + d → (pos n -ℤ pos k) *ℤ pos q ≡ pos (n * q) -ℤ pos (k * q)
    less n k d e =
        let f : pos n -ℤ pos k ≡ neg_ℤ (pos d) = omega (arith, ints) in
        let h : k * q ≡ n * q + d * q = ap (λ z. z * q) e ∙ omega arith in
        let i : neg_ℤ (pos (d * q)) ≡ pos (n * q) -ℤ pos (k * q) = omega (arith, ints, h) in
        ap (λ z. z *ℤ pos q) f ∙ (minus d q ∙ i)

    go : (n ≡ k) ⊎ ((n < k) ⊎ (k < n)) → (pos n -ℤ pos k) *ℤ pos q ≡ pos (n * q) -ℤ pos (k * q)
    go (inl e) = more n k 0 (omega arith)
    go (inr (inl e)) = less n k (k - n) (omega arith)
    go (inr (inr e)) = more n k (n - k) (omega arith)

-- Octets in two's complement before others.
signed_before : (a r : List ℕ) → 0 < length a → signed (a ++ r) ≡ signed a *ℤ pos (256 ^ length r) +ℤ pos (number_in 256 r)
signed_before [] r h = absurd (omega arith)
signed_before (b ∷ l) r h =
    let n : number_in 256 ((b ∷ l) ++ r) ≡ number_in 256 (b ∷ l) * 256 ^ length r + number_in 256 r = number_before (b ∷ l) r in
    let p : 256 ^ length ((b ∷ l) ++ r) ≡ 256 ^ length (b ∷ l) * 256 ^ length r = ap (λ z. 256 ^ z) (length-append (b ∷ l) r) ∙ pow-add 256 (length (b ∷ l)) (length r) in
    ap₂ (λ x y. pos x -ℤ pos (b / 128 * y)) n p ∙ sums (number_in 256 (b ∷ l)) (b / 128) (256 ^ length (b ∷ l)) (256 ^ length r) (number_in 256 r)
  where
    number_before : (l r : List ℕ) → number_in 256 (l ++ r) ≡ number_in 256 l * 256 ^ length r + number_in 256 r
    number_before [] r = omega arith
    number_before (c ∷ l) r =
        ap₂ (λ x y. c % 256 * x + y) (ap (λ z. 256 ^ z) (length-append l r) ∙ pow-add 256 (length l) (length r)) (number_before l r)
        ∙ joined (c % 256) (256 ^ length l) (256 ^ length r) (number_in 256 l) (number_in 256 r)
      where
        joined : (c p q n m : ℕ) → c * (p * q) + (n * q + m) ≡ (c * p + n) * q + m
        joined c p q n m = omega arith

    differ : (n k q m x : ℕ) → x ≡ k * q → pos (n * q + m) -ℤ pos x ≡ (pos n -ℤ pos k) *ℤ pos q +ℤ pos m
    differ n k q m x e =
        let f : pos (n * q + m) -ℤ pos x ≡ (pos (n * q) -ℤ pos (k * q)) +ℤ pos m = omega (arith, ints, e) in
        f ∙ sym (ap (λ z. z +ℤ pos m) (times_difference n k q))

    sums : (n h p q m : ℕ) → pos (n * q + m) -ℤ pos (h * (p * q)) ≡ (pos n -ℤ pos (h * p)) *ℤ pos q +ℤ pos m
    sums n h p q m = differ n (h * p) q m (h * (p * q)) (omega arith)

-- Octets are their own digits.
pub own_number : (l : List ℕ) → number_from 0 256 l ≡ number_in 256 l
own_number [] = refl
own_number (b ∷ l) =
    let z : b - 0 ≡ b = omega arith in
    ap (λ c. c % 256 * 256 ^ length (map (λ d. d - 0) l) + number_from 0 256 l) z ∙ ap₂ (λ n m. b % 256 * 256 ^ n + m) (length-map l (λ d. d - 0)) (own_number l)

pub own_digits : (l : List ℕ) → AreOctets l → HaveDigits 0 256 l
own_digits [] o = All-nil (λ d. (0 ≤ d) × (d < 0 + 256))
own_digits (b ∷ l) o = All-cons (λ d. (0 ≤ d) × (d < 0 + 256)) b l (omega arith, o.0) (own_digits l o.1)

-- The fewest octets of a small number.
pub few_octets : (l : List ℕ) (z : ℤ) → IsShortestOf z l → neg_ℤ (pos 3000) ≤ℤ z → z ≤ℤ pos 3000 → length l ≤ 255
few_octets l z s low high = go (cases_order (length l) 17)
  where
    inside : (z : ℤ) → neg_ℤ (pos 3000) ≤ℤ z → z ≤ℤ pos 3000 → IsIn (signed_range 128) z
    inside z l h = (omega (arith, ints), omega (arith, ints))

    far : 16 < length l → ⊥
    far k = not_in_128 l s.octets s.shortest k (subst (IsIn (signed_range 128)) (sym s.is) (inside z low high))

    go : (length l ≡ 17) ⊎ ((length l < 17) ⊎ (17 < length l)) → length l ≤ 255
    go (inl h) = omega arith
    go (inr (inl h)) = omega arith
    go (inr (inr h)) = absurd (far (omega arith))

pub few_moved : (l : List ℕ) (z e : ℤ) (count : ℕ) → z ≡ e +ℤ pos count → IsShortestOf z l → neg_ℤ (pos 2000) ≤ℤ e → e ≤ℤ pos 2000 → count < 64 → length l ≤ 255
few_moved l z e count is s low high few = few_octets l z s (below z e count is low) (above z e count is high few)
  where
    below : (z e : ℤ) (count : ℕ) → z ≡ e +ℤ pos count → neg_ℤ (pos 2000) ≤ℤ e → neg_ℤ (pos 3000) ≤ℤ z
    below z e count is low = omega (arith, ints)

    above : (z e : ℤ) (count : ℕ) → z ≡ e +ℤ pos count → e ≤ℤ pos 2000 → count < 64 → z ≤ℤ pos 3000
    above z e count is high few = omega (arith, ints)

-- ---- an exponent that is scaled and moved

small : (x : ℕ) → x < 128 → x / 128 ≡ 0
small x h = omega arith

great : (x : ℕ) → 128 ≤ x → x < 256 → x / 128 ≡ 1
great x h k = omega arith

pub below_told : (l : List ℕ) → AreOctets l → 1 ≤ length l → IsWhether (nat_le 128 (get_or l 0 0)) (signed l <ℤ pos 0)
below_told [] o h = absurd (omega arith)
below_told (c ∷ l) o h = go (nat_le 128 c) refl
  where
    low : (z : ℤ) → z <ℤ pos 0 → pos 0 ≤ℤ z → ⊥
    low z h k = omega (arith, ints)

    go : (b : Bool) → nat_le 128 c ≡ b → IsWhether b (signed (c ∷ l) <ℤ pos 0)
    go true e = negative c l (leb-true 128 c e) o.0
    go false e = λ n. low (signed (c ∷ l)) n (not_negative c l (leb-false 128 c e))

signed_parts : (l : List ℕ) → AreOctets l → (b : Bool) → IsWhether b (signed l <ℤ pos 0) → signed l ≡ pos (number_in 256 l) -ℤ pos (bit_of b * 256 ^ length l)
signed_parts [] o true h = absurd (none h)
  where
    none : pos 0 <ℤ pos 0 → ⊥
    none h = omega (arith, ints)
signed_parts [] o false h = omega (arith, ints)
signed_parts (c ∷ l) o b h = go b h (half c)
  where
    low : (z : ℤ) → z <ℤ pos 0 → pos 0 ≤ℤ z → ⊥
    low z h k = omega (arith, ints)

    go : (b : Bool) → IsWhether b (signed (c ∷ l) <ℤ pos 0) → (c < 128) ⊎ (128 ≤ c) → signed (c ∷ l) ≡ pos (number_in 256 (c ∷ l)) -ℤ pos (bit_of b * 256 ^ length (c ∷ l))
    go true h (inl k) = absurd (low (signed (c ∷ l)) h (not_negative c l k))
    go true h (inr k) = ap (λ n. pos (number_in 256 (c ∷ l)) -ℤ pos (n * 256 ^ length (c ∷ l))) (great c k o.0)
    go false h (inl k) = ap (λ n. pos (number_in 256 (c ∷ l)) -ℤ pos (n * 256 ^ length (c ∷ l))) (small c k)
    go false h (inr k) = absurd (h (negative c l k o.0))

-- What is written before the octets, and these.
pub scaled_is : (l last front : List ℕ) (b : Bool) (power shift carry : ℕ) (first : ℤ) → AreOctets l → 0 < length front → IsWhether b (signed l <ℤ pos 0) → length last ≡ length l
    → number_from 0 256 last + carry * 256 ^ length last ≡ number_from 0 256 l * power + shift → first ≡ pos carry -ℤ pos (bit_of b * power) → signed front ≡ first
    → signed (front ++ last) ≡ signed l *ℤ pos power +ℤ pos shift
scaled_is l last front b power shift carry first o some w len value is front_is =
    let n : number_in 256 last + carry * 256 ^ length l ≡ number_in 256 l * power + shift =
    ap₂ (λ x y. x + carry * 256 ^ y) (sym (own_number last)) (sym len) ∙ (value ∙ ap (λ x. x * power + shift) (own_number l)) in
    signed_before front last some
    ∙ (ap₂ (λ z y. z *ℤ pos (256 ^ y) +ℤ pos (number_in 256 last)) (front_is ∙ is) len
    ∙ (by b (number_in 256 last) carry (256 ^ length l) (number_in 256 l) power shift n ∙ ap (λ z. z *ℤ pos power +ℤ pos shift) (sym (signed_parts l o b w))))
  where
    by : (b : Bool) (x c p n f a : ℕ) → x + c * p ≡ n * f + a → (pos c -ℤ pos (bit_of b * f)) *ℤ pos p +ℤ pos x ≡ (pos n -ℤ pos (bit_of b * p)) *ℤ pos f +ℤ pos a
    by b x c p n f a e =
        let g : bit_of b * f * p ≡ bit_of b * p * f = omega arith in
        let h : pos (c * p) -ℤ pos (bit_of b * f * p) +ℤ pos x ≡ pos (n * f) -ℤ pos (bit_of b * p * f) +ℤ pos a = even (c * p) (bit_of b * f * p) x (n * f) (bit_of b * p * f) a e g in
        ap (λ z. z +ℤ pos x) (times_difference c (bit_of b * f) p) ∙ (h ∙ sym (ap (λ z. z +ℤ pos a) (times_difference n (bit_of b * p) f)))
      where
        even : (c j x n k a : ℕ) → x + c ≡ n + a → j ≡ k → pos c -ℤ pos j +ℤ pos x ≡ pos n -ℤ pos k +ℤ pos a
        even c j x n k a e g = omega (arith, ints)

pub times_one : (z a : ℤ) → z *ℤ pos 1 +ℤ a ≡ z +ℤ a
times_one z a = omega (arith, ints)

pub fits_first : (b : Bool) (c power : ℕ) (z : ℤ) → z ≡ pos c -ℤ pos (bit_of b * power) → c ≤ 2 ^ 80 → power < 256 → FitsSigned w128 z
fits_first true c power (pos n) e h k = record { sfits = omega (arith, ints) }
fits_first true c power (negsuc n) e h k = record { sfits = omega (arith, ints) }
fits_first false c power (pos n) e h k = record { sfits = omega (arith, ints) }
fits_first false c power (negsuc n) e h k = record { sfits = omega (arith, ints) }
