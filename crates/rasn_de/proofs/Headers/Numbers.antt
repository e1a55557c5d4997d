-- Numbers read octet by octet are the numbers that the octets spell.
use Rattle.std.proofs.Common.{◌≡◌, ℕ, ◌+◌, ◌*◌, ◌^◌, ◌%◌, ◌<◌, ◌≤◌, ◌⊎◌, inl, inr, true, false, cond, List, [], ◌∷◌, ◌++◌, length, Result, Ok, refl, sym, ap, ◌∙◌, subst, arith}
use Rattle.std.specs.Prelude.{nat_lt, nat_le}
use Rattle.std.proofs.Math.Nat.{pow-succ', mod-eq_of_lt, one-le-pow, mul-le-mul_left}
use Rattle.std.proofs.lemmas.Bool.Decides.{nat_tests}
use Rattle.rasn_de.specs.declared.ber.de.parser.ParseError.{ParseError}
use Rattle.rasn_types.specs.Framing.{IsChain, number_in}
use Rattle.rasn_de.specs.Headers.{number128_at, number256_at}
use Rattle.rasn_de.proofs.Headers.Results.{chosen, guarded, AreOctets}

pub record Spelled128 (n : ℕ) (l : List ℕ) (p : ℕ × List ℕ) : Type 0 where
  pub front : List ℕ
  pub chain : IsChain front
  pub is : l ≡ front ++ p.1
  pub number : p.0 ≡ n * 128 ^ length front + number_in 128 front
  pub below : p.0 < 2 ^ 32

last_digit : (n b : ℕ) → b < 128 → n * 128 + b ≡ n * 128 ^ 1 + (b % 128 * 128 ^ 0 + 0)
last_digit n b h = omega arith

more_digits : (n d p q s : ℕ) → q ≡ 128 * p → (n * 128 + d) * p + s ≡ n * q + (d * p + s)
more_digits n d p q s e = rw e (omega arith)

step128 : (wide : ParseError) (n b : ℕ) (l : List ℕ) (p : ℕ × List ℕ)
    → (number128_at wide (n * 128 + b % 128) l ≡ Ok p → Spelled128 (n * 128 + b % 128) l p)
    → (nat_le 0x2000000 n ≡ false) × (cond (nat_lt b 128) (Ok (n * 128 + b, l)) (number128_at wide (n * 128 + b % 128) l) ≡ Ok p) → Spelled128 n (b ∷ l) p
step128 wide n b l p more (h, f) = rest (chosen (nat_lt b 128) _ _ _ f)
  where
    small : n < 0x2000000
    small = grind (arith, nat_tests)

    rest : ((nat_lt b 128 ≡ true) × (◌≡◌ {A = Result (ℕ × List ℕ) ParseError} (Ok (n * 128 + b, l)) (Ok p))) ⊎ ((nat_lt b 128 ≡ false) × (number128_at wide (n * 128 + b % 128) l ≡ Ok p)) → Spelled128 n (b ∷ l) p
    rest (inl (t, f)) =
        let k : b < 128 = grind (arith, nat_tests) in
        let g : (n * 128 + b, l) ≡ p = cc in
        let g0 : n * 128 + b ≡ p.0 = ap (λ (z : ℕ × List ℕ). z.0) g in
        let g1 : l ≡ p.1 = ap (λ (z : ℕ × List ℕ). z.1) g in
        let m = small in
        record { front = b ∷ []; chain = inl (k, refl); is = ap (λ z. b ∷ z) g1; number = sym g0 ∙ last_digit n b k; below = omega arith }
    rest (inr (t, f)) =
        let k : 128 ≤ b = grind (arith, nat_tests) in
        let s = more f in
        record {
          front = b ∷ s.front;
          chain = inr (k, s.chain);
          is = ap (λ z. b ∷ z) s.is;
          number = s.number ∙ more_digits n (b % 128) (128 ^ length s.front) (128 ^ length (b ∷ s.front)) (number_in 128 s.front) (pow-succ' 128 (length s.front));
          below = s.below;
        }

pub number128_parsed : (wide : ParseError) (n : ℕ) (l : List ℕ) (p : ℕ × List ℕ) → number128_at wide n l ≡ Ok p → Spelled128 n l p
unfolding number128_at
number128_parsed wide n [] p e = cc
number128_parsed wide n (b ∷ l) p e = step128 wide n b l p (number128_parsed wide (n * 128 + b % 128) l p) (guarded (nat_le 0x2000000 n) wide _ p e)

room : (n p q s : ℕ) → 1 ≤ p → q ≡ 128 * p → n * q + s < 0x1_0000_0000 → n < 0x2000000
room n p q s h e k =
    let m : n * 1 ≤ n * p = mul-le-mul_left n h in
    let f : n * q ≡ n * (128 * p) = ap (λ z. n * z) e in
    omega arith

pub number128_spelled : (wide : ParseError) (n : ℕ) (front rest : List ℕ) → IsChain front → n * 128 ^ length front + number_in 128 front < 2 ^ 32
    → number128_at wide n (front ++ rest) ≡ Ok (n * 128 ^ length front + number_in 128 front, rest)
unfolding number128_at
number128_spelled wide n [] rest c h = absurd c
number128_spelled wide n (b ∷ l) rest (inl (k, e)) h =
    let r : n < 0x2000000 = room n (128 ^ length l) (128 ^ length (b ∷ l)) (number_in 128 (b ∷ l)) (one-le-pow (length l) 128 (omega arith)) (pow-succ' 128 (length l)) h in
    let t : nat_le 0x2000000 n ≡ false = grind (arith, nat_tests) in
    let u : nat_lt b 128 ≡ true = grind (arith, nat_tests) in
    rw (t, u, e) (ap (λ z. Ok (z, rest)) (last_digit n b k))
number128_spelled wide n (b ∷ l) rest (inr (k, c)) h =
    let r : n < 0x2000000 = room n (128 ^ length l) (128 ^ length (b ∷ l)) (number_in 128 (b ∷ l)) (one-le-pow (length l) 128 (omega arith)) (pow-succ' 128 (length l)) h in
    let t : nat_le 0x2000000 n ≡ false = grind (arith, nat_tests) in
    let u : nat_lt b 128 ≡ false = grind (arith, nat_tests) in
    let m = more_digits n (b % 128) (128 ^ length l) (128 ^ length (b ∷ l)) (number_in 128 l) (pow-succ' 128 (length l)) in
    let i = number128_spelled wide (n * 128 + b % 128) l rest c (subst (λ z. z < 2 ^ 32) (sym m) h) in
    rw (t, u) (i ∙ ap (λ z. Ok (z, rest)) m)

more_octets : (n b p q s : ℕ) → b < 256 → q ≡ 256 * p → (n * 256 + b) * p + s ≡ n * q + (b % 256 * p + s)
more_octets n b p q s h e = let m : b % 256 ≡ b = mod-eq_of_lt h in rw (e, m) (omega arith)

pub number256_parsed : (n : ℕ) (l : List ℕ) (m : ℕ) → AreOctets l → n < 2 ^ 64 → number256_at n l ≡ Ok m → (m ≡ n * 256 ^ length l + number_in 256 l) × (m < 2 ^ 64)
unfolding number256_at
number256_parsed n [] m o h e = let f : n ≡ m = cc in (omega arith, omega arith)
number256_parsed n (b ∷ l) m o h e =
    let g = guarded (nat_le 0x100_0000_0000_0000 n) _ _ m e in
    let t = g.0 in
    let k : n < 0x100_0000_0000_0000 = grind (arith, nat_tests) in
    let i = number256_parsed (n * 256 + b) l m o.1 (omega (arith, o.0)) g.1 in
    (i.0 ∙ more_octets n b (256 ^ length l) (256 ^ length (b ∷ l)) (number_in 256 l) o.0 (pow-succ' 256 (length l)), i.1)

room256 : (n p q s : ℕ) → 1 ≤ p → q ≡ 256 * p → n * q + s < 0x1_0000_0000_0000_0000 → n < 0x100_0000_0000_0000
room256 n p q s h e k =
    let m : n * 1 ≤ n * p = mul-le-mul_left n h in
    let f : n * q ≡ n * (256 * p) = ap (λ z. n * z) e in
    omega arith

pub number256_spelled : (n : ℕ) (l : List ℕ) → AreOctets l → n * 256 ^ length l + number_in 256 l < 2 ^ 64
    → number256_at n l ≡ Ok (n * 256 ^ length l + number_in 256 l)
unfolding number256_at
number256_spelled n [] o h = ap Ok (omega arith)
number256_spelled n (b ∷ l) o h =
    let r : n < 0x100_0000_0000_0000 = room256 n (256 ^ length l) (256 ^ length (b ∷ l)) (number_in 256 (b ∷ l)) (one-le-pow (length l) 256 (omega arith)) (pow-succ' 256 (length l)) h in
    let t : nat_le 0x100_0000_0000_0000 n ≡ false = grind (arith, nat_tests) in
    let m = more_octets n b (256 ^ length l) (256 ^ length (b ∷ l)) (number_in 256 l) o.0 (pow-succ' 256 (length l)) in
    rw t (number256_spelled (n * 256 + b) l o.1 (subst (λ z. z < 2 ^ 64) (sym m) h) ∙ ap Ok m)
