-- The order of whole numbers by their fewest octets.
use Rattle.std.proofs.Common.{◌≡◌, ℕ, ◌+◌, ◌*◌, ◌^◌, ◌/◌, ◌<◌, ◌≤◌, ◌⊎◌, inl, inr, List, [], ◌∷◌, length, get_or, ℤ, pos, neg_ℤ, ◌+ℤ◌, ◌-ℤ◌, ◌≤ℤ◌, ◌<ℤ◌, refl, sym, ap, ◌∙◌, subst, arith, Ordering, Less, Equal, Greater}
use Rattle.std.specs.Ordering.{MatchOrdering, ordering_then, nat_cmp, int_cmp}
use Rattle.std.specs.Cmp.{ranks, int_cmp_is}
use Rattle.std.specs.Cmp.Lexicographic.{slice_cmp}
use Rattle.std.proofs.Math.Nat.{pow-le-pow_right}
use Rattle.std.proofs.Math.Arith.{digits_lt}
use Rattle.std.proofs.lemmas.Int.{ints}
use Rattle.rasn_types.specs.Framing.{number_in, AreOctets}
use Rattle.rasn_types.specs.Contents.{signed, IsShortestInteger}
use Rattle.rasn_types.proofs.Integer.TwosComplement.{below_power, first_digit, within_octets, beyond_octets, shortest_some, not_negative, negative, octet_at}

lower : (p a b x y v w : ℕ) → v ≡ a * p + x → w ≡ b * p + y → x < p → a < b → v < w
lower p a b x y v w e f h n = let g : a * p + x < b * p = digits_lt n h in omega arith

level : (s : Ordering) (p a b x y v w : ℕ) → v ≡ a * p + x → w ≡ b * p + y → a ≡ b → MatchOrdering s (x < y) (x ≡ y) (y < x) → MatchOrdering s (v < w) (v ≡ w) (w < v)
level Less p a b x y v w e f h g = let k : a * p ≡ b * p = ap (λ z. z * p) h in omega arith
level Equal p a b x y v w e f h g = let k : a * p ≡ b * p = ap (λ z. z * p) h in omega arith
level Greater p a b x y v w e f h g = let k : a * p ≡ b * p = ap (λ z. z * p) h in omega arith

first_apart : (r s : Ordering) (p a b x y v w : ℕ) → v ≡ a * p + x → w ≡ b * p + y → x < p → y < p
    → MatchOrdering r (a < b) (a ≡ b) (b < a) → MatchOrdering s (x < y) (x ≡ y) (y < x) → MatchOrdering (ordering_then r s) (v < w) (v ≡ w) (w < v)
first_apart Less s p a b x y v w e f h k m g = lower p a b x y v w e f h m
first_apart Equal s p a b x y v w e f h k m g = level s p a b x y v w e f m g
first_apart Greater s p a b x y v w e f h k m g = lower p b a y x w v f e k m

-- Octets of the same length have the order of the numbers that they represent.
octets_ranked : (k l : List ℕ) → AreOctets k → AreOctets l → length k ≡ length l
    → MatchOrdering (slice_cmp nat_cmp k l) (number_in 256 k < number_in 256 l) (number_in 256 k ≡ number_in 256 l) (number_in 256 l < number_in 256 k)
octets_ranked [] [] o u n = refl
octets_ranked [] (b ∷ l) o u n = absurd (omega arith)
octets_ranked (a ∷ k) [] o u n = absurd (omega arith)
octets_ranked (a ∷ k) (b ∷ l) o u n =
    let m : length k ≡ length l = omega arith in
    first_apart (nat_cmp a b) (slice_cmp nat_cmp k l) (256 ^ length l) a b (number_in 256 k) (number_in 256 l) (number_in 256 (a ∷ k)) (number_in 256 (b ∷ l))
    (subst (λ x. number_in 256 (a ∷ k) ≡ a * 256 ^ x + number_in 256 k) m (first_digit a k o.0)) (first_digit b l u.0)
    (subst (λ x. number_in 256 k < 256 ^ x) m (below_power k)) (below_power l) (ranks a b) (octets_ranked k l o.1 u.1 m)

moved : (s : Ordering) (n m c : ℕ) (y z : ℤ) → y ≡ pos n -ℤ pos c → z ≡ pos m -ℤ pos c → MatchOrdering s (n < m) (n ≡ m) (m < n) → MatchOrdering s (y <ℤ z) (y ≡ z) (z <ℤ y)
moved Less n m c y z e f g = omega (arith, ints)
moved Equal n m c y z e f g = e ∙ (ap (λ x. pos x -ℤ pos c) g ∙ sym f)
moved Greater n m c y z e f g = omega (arith, ints)

-- Numbers of the same sign and length have the order of their octets.
same_length_order : (k l : List ℕ) → AreOctets k → AreOctets l → 0 < length k → length k ≡ length l → get_or k 0 0 / 128 ≡ get_or l 0 0 / 128
    → MatchOrdering (slice_cmp nat_cmp k l) (signed k <ℤ signed l) (signed k ≡ signed l) (signed l <ℤ signed k)
same_length_order [] l o u h n e = absurd (omega arith)
same_length_order (a ∷ k) [] o u h n e = absurd (omega arith)
same_length_order (a ∷ k) (b ∷ l) o u h n e =
    moved (slice_cmp nat_cmp (a ∷ k) (b ∷ l)) (number_in 256 (a ∷ k)) (number_in 256 (b ∷ l)) (b / 128 * 256 ^ length (b ∷ l)) (signed (a ∷ k)) (signed (b ∷ l))
    (same_step (number_in 256 (a ∷ k)) (a / 128) (b / 128) (length (a ∷ k)) (length (b ∷ l)) e n) refl (octets_ranked (a ∷ k) (b ∷ l) o u n)
  where
    same_step : (v c d m w : ℕ) → c ≡ d → m ≡ w → pos v -ℤ pos (c * 256 ^ m) ≡ pos v -ℤ pos (d * 256 ^ w)
    same_step v c d m w e f = ap (λ x. pos v -ℤ pos (x * 256 ^ m)) e ∙ ap (λ x. pos v -ℤ pos (d * 256 ^ x)) f

pub sign_of : (l : List ℕ) → AreOctets l → 0 < length l → (get_or l 0 0 < 128 → pos 0 ≤ℤ signed l) × (128 ≤ get_or l 0 0 → signed l <ℤ pos 0)
sign_of [] o h = absurd (omega arith)
sign_of (b ∷ l) o h = (λ k. not_negative b l k, λ k. negative b l k o.0)

-- Of two numbers, the one with more octets is greater if it isn't negative, and less if it is.
longer_order : (k l : List ℕ) → AreOctets k → AreOctets l → IsShortestInteger k → IsShortestInteger l → length k < length l
    → (pos 0 ≤ℤ signed l → signed k <ℤ signed l) × (signed l <ℤ pos 0 → signed l <ℤ signed k)
longer_order k [] o u p q n = absurd q
longer_order k (c ∷ []) o u p q n = let h = shortest_some k p in absurd (omega arith)
longer_order k (c ∷ d ∷ l) o u p q n =
    let m : length k ≤ length (d ∷ l) = omega arith in
    let h : 256 ^ length k ≤ 256 ^ length (d ∷ l) = pow-le-pow_right (omega arith) m in
    let w = within_octets k o (shortest_some k p) in
    far (signed k) (signed (c ∷ d ∷ l)) (256 ^ length k) (256 ^ length (d ∷ l)) h w.0 w.1 (beyond_octets c d l u q)
  where
    far : (y z : ℤ) (p q : ℕ) → p ≤ q → neg_ℤ (pos p) ≤ℤ (y +ℤ y) → (y +ℤ y) <ℤ pos p
        → ((z +ℤ z) <ℤ neg_ℤ (pos q)) ⊎ (pos q ≤ℤ (z +ℤ z)) → (pos 0 ≤ℤ z → y <ℤ z) × (z <ℤ pos 0 → z <ℤ y)
    far y z p q h low high (inl f) = (λ k. absurd (omega (arith, ints)), λ k. omega (arith, ints))
    far y z p q h low high (inr f) = (λ k. omega (arith, ints), λ k. absurd (omega (arith, ints)))

pub positive_order : (k l : List ℕ) → AreOctets k → AreOctets l → IsShortestInteger k → IsShortestInteger l → get_or k 0 0 < 128 → get_or l 0 0 < 128
    → ordering_then (nat_cmp (length k) (length l)) (slice_cmp nat_cmp k l) ≡ int_cmp (signed k) (signed l)
positive_order k l o u p q h m =
    int_cmp_is (signed k) (signed l) (ordering_then (nat_cmp (length k) (length l)) (slice_cmp nat_cmp k l)) (by (nat_cmp (length k) (length l)) (ranks (length k) (length l)))
  where
    by : (s : Ordering) → MatchOrdering s (length k < length l) (length k ≡ length l) (length l < length k)
        → MatchOrdering (ordering_then s (slice_cmp nat_cmp k l)) (signed k <ℤ signed l) (signed k ≡ signed l) (signed l <ℤ signed k)
    by Less g = (longer_order k l o u p q g).0 ((sign_of l u (shortest_some l q)).0 m)
    by Equal g = same_length_order k l o u (shortest_some k p) g (omega arith)
    by Greater g = (longer_order l k u o q p g).0 ((sign_of k o (shortest_some k p)).0 h)

pub negative_order : (k l : List ℕ) → AreOctets k → AreOctets l → IsShortestInteger k → IsShortestInteger l → 128 ≤ get_or k 0 0 → 128 ≤ get_or l 0 0
    → ordering_then (nat_cmp (length l) (length k)) (slice_cmp nat_cmp k l) ≡ int_cmp (signed k) (signed l)
negative_order k l o u p q h m =
    int_cmp_is (signed k) (signed l) (ordering_then (nat_cmp (length l) (length k)) (slice_cmp nat_cmp k l)) (by (nat_cmp (length l) (length k)) (ranks (length l) (length k)))
  where
    by : (s : Ordering) → MatchOrdering s (length l < length k) (length l ≡ length k) (length k < length l)
        → MatchOrdering (ordering_then s (slice_cmp nat_cmp k l)) (signed k <ℤ signed l) (signed k ≡ signed l) (signed l <ℤ signed k)
    by Less g = (longer_order l k u o q p g).1 ((sign_of k o (shortest_some k p)).1 h)
    by Equal g = same_length_order k l o u (shortest_some k p) (sym g) (omega (arith, octet_at 0 k o, octet_at 0 l u))
    by Greater g = (longer_order k l o u p q g).1 ((sign_of l u (shortest_some l q)).1 m)

pub signs_apart : (k l : List ℕ) → AreOctets k → AreOctets l → IsShortestInteger k → IsShortestInteger l → get_or k 0 0 < 128 → 128 ≤ get_or l 0 0
    → (Less ≡ int_cmp (signed l) (signed k)) × (Greater ≡ int_cmp (signed k) (signed l))
signs_apart k l o u p q h n =
    let g = (sign_of k o (shortest_some k p)).0 h in
    let m = (sign_of l u (shortest_some l q)).1 n in
    let e : signed l <ℤ signed k = below (signed l) (signed k) m g in
    (int_cmp_is (signed l) (signed k) Less e, int_cmp_is (signed k) (signed l) Greater e)
  where
    below : (y z : ℤ) → y <ℤ pos 0 → pos 0 ≤ℤ z → y <ℤ z
    below y z h k = omega (arith, ints)
