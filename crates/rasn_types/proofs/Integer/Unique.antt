-- The shortest two's complement of a whole number is unique.
use Rattle.std.proofs.Common.{◌≡◌, ℕ, suc, ◌+◌, ◌-◌, ◌*◌, ◌^◌, ◌/◌, ◌<◌, ◌≤◌, ◌⊎◌, inl, inr, List, [], ◌∷◌, length, pos, ◌-ℤ◌, sym, ap, ap₂, ◌∙◌, subst, arith, mul-le-mul_right}
use Rattle.std.proofs.Math.Nat.{pow-succ', pow-le-pow_right}
use Rattle.std.proofs.Math.Arith.{digits_lt}
use Rattle.std.proofs.lemmas.Bool.{cases_order}
use Rattle.std.proofs.lemmas.Int.{ints}
use Rattle.rasn_types.specs.Framing.{number_in, AreOctets}
use Rattle.rasn_types.specs.Contents.{signed, IsShortestInteger}
use Rattle.rasn_types.proofs.Integer.TwosComplement.{first_digit}
use Rattle.rasn_types.proofs.Headers.Digits.{number_lt, heads, octets_one}

across : (n a m b : ℕ) → pos n -ℤ pos a ≡ pos m -ℤ pos b → n + b ≡ m + a
across n a m b e = omega (arith, ints)

apart : (b p n c d q m : ℕ) → b < 256 → c < 256 → d < 256 → n < p → m < q → p ≤ q
    → (((c ≡ 0) × (d < 128)) → ⊥) → (((c ≡ 255) × (128 ≤ d)) → ⊥)
    → (b * p + n) + c / 128 * (256 * (256 * q)) ≡ (c * (256 * q) + (d * q + m)) + b / 128 * (256 * p) → ⊥
apart b p n c d q m hb hc hd hn hm hp low high e = go (cases_order b 128) (cases_order c 128)
  where
    below : b < 128 → b * p + n < 128 * p
    below h = digits_lt h hn

    above : 128 ≤ b → 128 * p ≤ b * p
    above h = mul-le-mul_right p h

    all : b * p + n < 256 * p
    all = digits_lt hb hn

    rest : d * q + m < 256 * q
    rest = digits_lt hd hm

    small : (x y : ℕ) → x < 128 → x / 128 ≡ 0
    small x y h = omega arith

    great : (x : ℕ) → 128 ≤ x → x < 256 → x / 128 ≡ 1
    great x h k = omega arith

    -- Not negative: at least 128 q.
    far : c < 128 → 128 * q ≤ c * (256 * q) + (d * q + m)
    far h = far_by (cases_order c 0)
      where
        far_by : (c ≡ 0) ⊎ ((c < 0) ⊎ (0 < c)) → 128 * q ≤ c * (256 * q) + (d * q + m)
        far_by (inl z) = far_low (cases_order d 128)
          where
            far_low : (d ≡ 128) ⊎ ((d < 128) ⊎ (128 < d)) → 128 * q ≤ c * (256 * q) + (d * q + m)
            far_low (inl f) = let g : 128 * q ≤ d * q = mul-le-mul_right q (omega arith) in omega arith
            far_low (inr (inl f)) = absurd (low (z, f))
            far_low (inr (inr f)) = let g : 128 * q ≤ d * q = mul-le-mul_right q (omega arith) in omega arith
        far_by (inr (inl z)) = absurd (omega arith)
        far_by (inr (inr z)) = let g : 1 * (256 * q) ≤ c * (256 * q) = mul-le-mul_right (256 * q) z in omega arith

    -- Negative: below 65536 q - 128 q.
    deep : 128 ≤ c → c * (256 * q) + (d * q + m) < 256 * (256 * q) - 128 * q
    deep h = deep_by (cases_order c 255)
      where
        deep_by : (c ≡ 255) ⊎ ((c < 255) ⊎ (255 < c)) → c * (256 * q) + (d * q + m) < 256 * (256 * q) - 128 * q
        deep_by (inl z) = deep_high (cases_order d 128)
          where
            last : d < 128 → c * (256 * q) + (d * q + m) < 256 * (256 * q) - 128 * q
            last f = let g : d * q + m < 128 * q = digits_lt f hm in let k : c * (256 * q) ≡ 255 * (256 * q) = ap (λ x. x * (256 * q)) z in omega arith

            deep_high : (d ≡ 128) ⊎ ((d < 128) ⊎ (128 < d)) → c * (256 * q) + (d * q + m) < 256 * (256 * q) - 128 * q
            deep_high (inl f) = absurd (high (z, omega arith))
            deep_high (inr (inl f)) = last f
            deep_high (inr (inr f)) = absurd (high (z, omega arith))
        deep_by (inr (inl z)) = let g : c * (256 * q) ≤ 254 * (256 * q) = mul-le-mul_right (256 * q) (omega arith) in let r = rest in omega arith
        deep_by (inr (inr z)) = absurd (omega arith)

    both : (128 ≤ b) ⊎ (b < 128) → (128 ≤ c) ⊎ (c < 128) → ⊥
    both (inl f) (inl g) =
        let x = above f in let y = deep g in
        let u : b / 128 * (256 * p) ≡ 1 * (256 * p) = ap (λ z. z * (256 * p)) (great b f hb) in
        let v : c / 128 * (256 * (256 * q)) ≡ 1 * (256 * (256 * q)) = ap (λ z. z * (256 * (256 * q))) (great c g hc) in omega arith
    both (inl f) (inr g) =
        let x = all in
        let u : b / 128 * (256 * p) ≡ 1 * (256 * p) = ap (λ z. z * (256 * p)) (great b f hb) in
        let v : c / 128 * (256 * (256 * q)) ≡ 0 * (256 * (256 * q)) = ap (λ z. z * (256 * (256 * q))) (small c 0 g) in omega arith
    both (inr f) (inl g) =
        let y = deep g in
        let u : b / 128 * (256 * p) ≡ 0 * (256 * p) = ap (λ z. z * (256 * p)) (small b 0 f) in
        let v : c / 128 * (256 * (256 * q)) ≡ 1 * (256 * (256 * q)) = ap (λ z. z * (256 * (256 * q))) (great c g hc) in omega arith
    both (inr f) (inr g) =
        let x = below f in let y = far g in
        let u : b / 128 * (256 * p) ≡ 0 * (256 * p) = ap (λ z. z * (256 * p)) (small b 0 f) in
        let v : c / 128 * (256 * (256 * q)) ≡ 0 * (256 * (256 * q)) = ap (λ z. z * (256 * (256 * q))) (small c 0 g) in omega arith

    half : (x : ℕ) → (x ≡ 128) ⊎ ((x < 128) ⊎ (128 < x)) → (128 ≤ x) ⊎ (x < 128)
    half x (inl e) = inl (omega arith)
    half x (inr (inl e)) = inr e
    half x (inr (inr e)) = inl (omega arith)

    go : (b ≡ 128) ⊎ ((b < 128) ⊎ (128 < b)) → (c ≡ 128) ⊎ ((c < 128) ⊎ (128 < c)) → ⊥
    go x y = both (half b x) (half c y)

shorter : (b : ℕ) (k : List ℕ) (c d : ℕ) (l : List ℕ) → b < 256 → c < 256 → d < 256 → length k ≤ length l → IsShortestInteger (c ∷ d ∷ l)
    → signed (b ∷ k) ≡ signed (c ∷ d ∷ l) → ⊥
shorter b k c d l hb hc hd n s e =
    let f : number_in 256 (b ∷ k) + c / 128 * 256 ^ length (c ∷ d ∷ l) ≡ number_in 256 (c ∷ d ∷ l) + b / 128 * 256 ^ length (b ∷ k) =
    across (number_in 256 (b ∷ k)) (b / 128 * 256 ^ length (b ∷ k)) (number_in 256 (c ∷ d ∷ l)) (c / 128 * 256 ^ length (c ∷ d ∷ l)) e in
    let pk : 256 ^ length (b ∷ k) ≡ 256 * 256 ^ length k = pow-succ' 256 (length k) in
    let pd : 256 ^ length (d ∷ l) ≡ 256 * 256 ^ length l = pow-succ' 256 (length l) in
    let pc : 256 ^ length (c ∷ d ∷ l) ≡ 256 * (256 * 256 ^ length l) = pow-succ' 256 (suc (length l)) ∙ ap (λ z. 256 * z) pd in
    let nk : number_in 256 (b ∷ k) ≡ b * 256 ^ length k + number_in 256 k = first_digit b k hb in
    let nc : number_in 256 (c ∷ d ∷ l) ≡ c * (256 * 256 ^ length l) + (d * 256 ^ length l + number_in 256 l) =
    first_digit c (d ∷ l) hc ∙ ap₂ (λ x y. c * x + y) pd (first_digit d l hd) in
    apart b (256 ^ length k) (number_in 256 k) c d (256 ^ length l) (number_in 256 l) hb hc hd
    (number_lt 256 (omega arith) k) (number_lt 256 (omega arith) l) (pow-le-pow_right (omega arith) n) (λ e. s (inl e)) (λ e. s (inr e))
    (ap₂ (λ x y. x + c / 128 * y) (sym nk) (sym pc) ∙ (f ∙ ap₂ (λ x y. x + b / 128 * y) nc pk))

pub signed_one : (k l : List ℕ) → IsShortestInteger k → IsShortestInteger l → AreOctets k → AreOctets l → signed k ≡ signed l → k ≡ l
signed_one [] l p q o u e = absurd p
signed_one (b ∷ k) [] p q o u e = absurd q
signed_one (b ∷ k) (c ∷ l) p q o u e = go (cases_order (length k) (length l))
  where
    second : (c : ℕ) (l : List ℕ) → IsShortestInteger (c ∷ l) → AreOctets (c ∷ l) → length k < length l → signed (b ∷ k) ≡ signed (c ∷ l) → ⊥
    second c [] q u n e = omega arith
    second c (d ∷ l) q u n e = shorter b k c d l o.0 u.0 u.1.0 (omega arith) q e

    first : (b : ℕ) (k : List ℕ) → IsShortestInteger (b ∷ k) → AreOctets (b ∷ k) → length l < length k → signed (c ∷ l) ≡ signed (b ∷ k) → ⊥
    first b [] p o n e = omega arith
    first b (d ∷ k) p o n e = shorter c l b d k u.0 o.0 o.1.0 (omega arith) p e

    go : (length k ≡ length l) ⊎ ((length k < length l) ⊎ (length l < length k)) → b ∷ k ≡ c ∷ l
    go (inl n) =
        let w : length (b ∷ k) ≡ length (c ∷ l) = ap suc n in
        let f : number_in 256 (b ∷ k) + c / 128 * 256 ^ length (c ∷ l) ≡ number_in 256 (c ∷ l) + b / 128 * 256 ^ length (b ∷ k) =
        across (number_in 256 (b ∷ k)) (b / 128 * 256 ^ length (b ∷ k)) (number_in 256 (c ∷ l)) (c / 128 * 256 ^ length (c ∷ l)) e in
        let g : c / 128 * 256 ^ length (c ∷ l) + number_in 256 (b ∷ k) ≡ b / 128 * 256 ^ length (c ∷ l) + number_in 256 (c ∷ l) =
        swapped (number_in 256 (b ∷ k)) (c / 128 * 256 ^ length (c ∷ l)) (number_in 256 (c ∷ l)) (b / 128 * 256 ^ length (c ∷ l))
        (f ∙ ap (λ z. number_in 256 (c ∷ l) + b / 128 * 256 ^ z) w) in
        let r = heads (256 ^ length (c ∷ l)) (c / 128) (b / 128) (number_in 256 (b ∷ k)) (number_in 256 (c ∷ l))
        (subst (λ z. number_in 256 (b ∷ k) < 256 ^ z) w (number_lt 256 (omega arith) (b ∷ k))) (number_lt 256 (omega arith) (c ∷ l)) g in
        octets_one (b ∷ k) (c ∷ l) o u w r.1
      where
        swapped : (a b c d : ℕ) → a + b ≡ c + d → b + a ≡ d + c
        swapped a b c d e = omega arith
    go (inr (inl n)) = absurd (second c l q u n e)
    go (inr (inr n)) = absurd (first b k p o n (sym e))
