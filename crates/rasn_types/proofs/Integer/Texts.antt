-- The octets that a whole number is shown as.
use Rattle.std.proofs.Common.{◌≡◌, ℕ, zero, suc, ◌+◌, ◌-◌, ◌*◌, ◌^◌, ◌<◌, ◌≤◌, ◌⊎◌, inl, inr, Bool, true, false, nat_lt, if◌then◌else◌, List, [], ◌∷◌, ◌++◌, length, get_or, ℤ, pos, negsuc, ◌-ℤ◌, ◌<ℤ◌, FitsSigned, codes, refl, sym, ap, ◌∙◌, arith}
use Rattle.std.specs.Int.{w128}
use Rattle.std.specs.List.{AllByRecursion}
use Rattle.std.specs.Fmt.{decimal, signed_decimal}
use Rattle.std.specs.Int.Digits.{digits_of, number_from_digits_after}
use Rattle.std.proofs.Math.Nat.{pow-succ'}
use Rattle.std.proofs.lemmas.Int.{ints}
use Rattle.std.proofs.lemmas.Bool.{ltb-true, ltb-false, lt-ltb, le-ltb, cases_order}
use Rattle.std.proofs.lemmas.List.{length-map}
use Rattle.std.proofs.lemmas.Int.Digits.{all_below_base_digits_of, first_digits_of, number_digits_of}
use Rattle.rasn_types.specs.Framing.{number_in, AreOctets}
use Rattle.rasn_types.specs.Contents.{signed, IsShortestInteger, RepeatsSign}
use Rattle.rasn_types.specs.Shapes.{IsIn}
use Rattle.rasn_types.specs.Trees.{IsShortestOf, signed_range, unsigned_range}
use Rattle.rasn_types.specs.Text.{after_sign, complement, fewest_octets, shown_number, hexadecimal}
use Rattle.rasn_types.proofs.Integer.TwosComplement.{first_digit, signed_low, signed_high, negative, half}
use Rattle.rasn_types.proofs.Integer.Shortest.{same_shortest}

-- Digits are octets.
are_digits : (l : List ℕ) → AllByRecursion (λ d. d < 256) l → AreOctets l
are_digits [] h = tt
are_digits (b ∷ l) h = (h.0, are_digits l h.1)

number_after : (n : ℕ) (l : List ℕ) → AreOctets l → number_from_digits_after 256 n l ≡ n * 256 ^ length l + number_in 256 l
number_after n [] o = omega arith
number_after n (b ∷ l) o =
    number_after (n * 256 + b) l o.1 ∙ plain n b (256 ^ length l) (256 ^ length (b ∷ l)) (number_in 256 l) (number_in 256 (b ∷ l)) (pow-succ' 256 (length l)) (first_digit b l o.0)
  where
    plain : (n b p q m k : ℕ) → q ≡ 256 * p → k ≡ b * p + m → (n * 256 + b) * p + m ≡ n * q + k
    plain n b p q m k e f = let u : n * q ≡ n * (256 * p) = ap (λ x. n * x) e in omega arith

number_of_digits : (n : ℕ) → number_in 256 (digits_of 256 n) ≡ n
number_of_digits n =
    plain (256 ^ length (digits_of 256 n)) (number_in 256 (digits_of 256 n)) (sym (number_after 0 (digits_of 256 n) (are_digits (digits_of 256 n) (all_below_base_digits_of 256 n (omega arith)))))
    ∙ number_digits_of 256 n (omega arith)
  where
    plain : (p m : ℕ) {k : ℕ} → 0 * p + m ≡ k → m ≡ k
    plain p m e = omega arith

-- The digits of a number, after the sign, are its fewest octets.
digits_after_sign : (n : ℕ) (l : List ℕ) → AreOctets l → (0 < length l → 0 < get_or l 0 0) → number_in 256 l ≡ n → IsShortestOf (pos n) (after_sign l)
digits_after_sign n [] o f e = record { is = ap pos e; shortest = tt; octets = (omega arith, tt) }
digits_after_sign n (b ∷ l) o f e = go (nat_lt b 128) refl
  where
    first : 0 < b
    first = f (omega arith)

    low_alone : b < 128 → (l : List ℕ) → IsShortestInteger (b ∷ l)
    low_alone h [] = tt
    low_alone h (c ∷ l) = λ r. no r
      where
        no : ((b ≡ 0) × (c < 128)) ⊎ ((b ≡ 255) × (128 ≤ c)) → ⊥
        no (inl r) = omega (arith, r.0)
        no (inr r) = omega (arith, r.0)

    behind_zero : 128 ≤ b → RepeatsSign 0 b → ⊥
    behind_zero h (inl r) = omega (arith, r.1)
    behind_zero h (inr r) = omega (arith, r.0)

    plain : (p m : ℕ) → 0 * p + m ≡ m
    plain p m = omega arith

    go : (low : Bool) → nat_lt b 128 ≡ low → IsShortestOf (pos n) (if low then b ∷ l else 0 ∷ b ∷ l)
    go true k = let h : b < 128 = ltb-true b 128 k in
        record { is = signed_low b l h ∙ ap pos (sym (first_digit b l o.0) ∙ e); shortest = low_alone h l; octets = o }
    go false k = let h : 128 ≤ b = ltb-false b 128 k in
        record {
          is = signed_low 0 (b ∷ l) (omega arith) ∙ ap pos (plain (256 ^ length (b ∷ l)) (number_in 256 (b ∷ l)) ∙ e);
          shortest = behind_zero h;
          octets = (omega arith, o);
        }

number_after_sign : (n : ℕ) → IsShortestOf (pos n) (after_sign (digits_of 256 n))
number_after_sign n =
    digits_after_sign n (digits_of 256 n) (are_digits (digits_of 256 n) (all_below_base_digits_of 256 n (omega arith))) (first n) (number_of_digits n)
  where
    first : (n : ℕ) → 0 < length (digits_of 256 n) → 0 < get_or (digits_of 256 n) 0 0
    first zero h = absurd (omega arith)
    first (suc n) h = first_digits_of 256 (suc n) (omega arith) (omega arith)

-- Complements of octets.
complement_octets : (l : List ℕ) → AreOctets l → AreOctets (complement l)
complement_octets [] o = tt
complement_octets (b ∷ l) o = (omega arith, complement_octets l o.1)

complement_number : (l : List ℕ) → AreOctets l → number_in 256 (complement l) + number_in 256 l + 1 ≡ 256 ^ length l
complement_number [] o = refl
complement_number (b ∷ l) o =
    plain b (255 - b) (256 ^ length l) (256 ^ length (complement l)) (256 ^ length (b ∷ l)) (number_in 256 l) (number_in 256 (complement l)) (number_in 256 (b ∷ l)) (number_in 256 (complement (b ∷ l)))
    (omega (arith, o.0)) (ap (λ n. 256 ^ n) (length-map l (λ b. 255 - b))) (pow-succ' 256 (length l)) (first_digit b l o.0) (first_digit (255 - b) (complement l) (omega arith)) (complement_number l o.1)
  where
    plain : (b x p r q m c k d : ℕ) → x + b ≡ 255 → r ≡ p → q ≡ 256 * p → k ≡ b * p + m → d ≡ x * r + c → c + m + 1 ≡ p → d + k + 1 ≡ q
    plain b x p r q m c k d h e f g i j =
        let u : (x + b) * p ≡ 255 * p = ap (λ y. y * p) h in
        let v : x * r ≡ x * p = ap (λ y. x * y) e in omega arith

complement_short : (l : List ℕ) → AreOctets l → IsShortestInteger l → IsShortestInteger (complement l)
complement_short [] o s = s
complement_short (a ∷ []) o s = tt
complement_short (a ∷ b ∷ l) o s = λ r. s (back r)
  where
    back : RepeatsSign (255 - a) (255 - b) → RepeatsSign a b
    back (inl r) = inr (omega (arith, r.0), omega (arith, r.1))
    back (inr r) = inl (omega (arith, r.0), omega (arith, r.1))

complement_of : (n : ℕ) (l : List ℕ) → IsShortestOf (pos n) l → IsShortestOf (negsuc n) (complement l)
complement_of n [] s = absurd s.shortest
complement_of n (b ∷ l) s = record { is = go (half b); shortest = complement_short (b ∷ l) s.octets s.shortest; octets = complement_octets (b ∷ l) s.octets }
  where
    below : (z : ℤ) → z ≡ pos n → z <ℤ pos 0 → ⊥
    below z e h = omega (arith, ints)

    plain : (a c k w q : ℕ) → pos a ≡ pos n → k ≡ a → c + k + 1 ≡ w → w ≡ q → pos c -ℤ pos q ≡ negsuc n
    plain a c k w q e f g h = omega (arith, ints)

    go : (b < 128) ⊎ (128 ≤ b) → signed (complement (b ∷ l)) ≡ negsuc n
    go (inl h) =
        signed_high (255 - b) (complement l) (omega arith) (omega arith)
        ∙ plain (b * 256 ^ length l + number_in 256 l) ((255 - b) * 256 ^ length (complement l) + number_in 256 (complement l)) (number_in 256 (b ∷ l)) (256 ^ length (b ∷ l)) (256 * 256 ^ length (complement l))
        (sym (signed_low b l h) ∙ s.is) (first_digit b l s.octets.0)
        (ap (λ x. x + number_in 256 (b ∷ l) + 1) (sym (first_digit (255 - b) (complement l) (omega arith))) ∙ complement_number (b ∷ l) s.octets)
        (ap (λ x. 256 ^ suc x) (sym (length-map l (λ b. 255 - b))) ∙ pow-succ' 256 (length (complement l)))
    go (inr h) = absurd (below (signed (b ∷ l)) s.is (negative b l h s.octets.0))

pub fewest : (z : ℤ) → IsShortestOf z (fewest_octets z)
unfolding fewest_octets
fewest (pos n) = number_after_sign n
fewest (negsuc n) = complement_of n (after_sign (digits_of 256 n)) (number_after_sign n)

-- The octets of a number are those that it is shown as.
fewest_is : (l : List ℕ) (z : ℤ) → IsShortestOf z l → fewest_octets z ≡ l
fewest_is l z s = let f = fewest z in same_shortest (fewest_octets z) l f.octets s.octets f.shortest s.shortest (f.is ∙ sym s.is)

-- The text, if the number fits in 128 bits and if it doesn't.
pub shown_signed : (z : ℤ) → FitsSigned w128 z → shown_number z ≡ signed_decimal z
unfolding shown_number
shown_signed (pos n) f = let h = f.sfits in ap (λ b. if b then decimal n else codes "0x" ++ hexadecimal (fewest_octets (pos n))) (lt-ltb n (2 ^ 128) (omega arith))
shown_signed (negsuc n) f = let h = f.sfits in ap (λ b. if b then signed_decimal (negsuc n) else codes "0x" ++ hexadecimal (fewest_octets (negsuc n))) (lt-ltb n (2 ^ 127) (omega arith))

pub shown_unsigned : (n : ℕ) → n < 2 ^ 128 → shown_number (pos n) ≡ decimal n
unfolding shown_number
shown_unsigned n h = ap (λ b. if b then decimal n else codes "0x" ++ hexadecimal (fewest_octets (pos n))) (lt-ltb n (2 ^ 128) h)

beyond_unsigned : (n : ℕ) → (IsIn (unsigned_range 128) (pos n) → ⊥) → 2 ^ 128 ≤ n
beyond_unsigned n f = go (cases_order n (2 ^ 128))
  where
    go : (n ≡ 2 ^ 128) ⊎ ((n < 2 ^ 128) ⊎ (2 ^ 128 < n)) → 2 ^ 128 ≤ n
    go (inl e) = omega arith
    go (inr (inl h)) = absurd (f (omega (arith, ints), omega (arith, ints)))
    go (inr (inr h)) = omega arith

beyond_signed : (n : ℕ) → (IsIn (signed_range 128) (negsuc n) → ⊥) → 2 ^ 127 ≤ n
beyond_signed n f = go (cases_order n (2 ^ 127))
  where
    go : (n ≡ 2 ^ 127) ⊎ ((n < 2 ^ 127) ⊎ (2 ^ 127 < n)) → 2 ^ 127 ≤ n
    go (inl e) = omega arith
    go (inr (inl h)) = absurd (f (omega (arith, ints), omega (arith, ints)))
    go (inr (inr h)) = omega arith

shown_beyond : (z : ℤ) → (IsIn (signed_range 128) z → ⊥) → (IsIn (unsigned_range 128) z → ⊥) → shown_number z ≡ codes "0x" ++ hexadecimal (fewest_octets z)
unfolding shown_number
shown_beyond (pos n) f g = ap (λ b. if b then decimal n else codes "0x" ++ hexadecimal (fewest_octets (pos n))) (le-ltb n (2 ^ 128) (beyond_unsigned n g))
shown_beyond (negsuc n) f g = ap (λ b. if b then signed_decimal (negsuc n) else codes "0x" ++ hexadecimal (fewest_octets (negsuc n))) (le-ltb n (2 ^ 127) (beyond_signed n f))

pub shown_long : (l : List ℕ) → IsShortestInteger l → AreOctets l → (IsIn (signed_range 128) (signed l) → ⊥) → (IsIn (unsigned_range 128) (signed l) → ⊥)
    → shown_number (signed l) ≡ codes "0x" ++ hexadecimal l
shown_long l s o f g =
    shown_beyond (signed l) f g ∙ ap (λ k. codes "0x" ++ hexadecimal k) (fewest_is l (signed l) (record { is = refl; shortest = s; octets = o }))
