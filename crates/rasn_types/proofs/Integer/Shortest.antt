-- The fewest octets of a whole number are unique.
use Rattle.std.proofs.Common.{◌≡◌, ℕ, ◌+◌, ◌*◌, ◌^◌, ◌/◌, ◌<◌, ◌≤◌, ◌⊎◌, inl, inr, Bool, true, nat_eq, List, [], ◌∷◌, length, ℤ, pos, neg_ℤ, ◌+ℤ◌, ◌-ℤ◌, ◌≤ℤ◌, ◌<ℤ◌, sym, ap, ap₂, ◌∙◌, subst, refl, arith}
use Rattle.std.specs.Bool.{Decides}
use Rattle.std.specs.Ordering.{int_eq}
use Rattle.std.specs.Cmp.Lexicographic.{pointwise, bytes_decides}
use Rattle.std.proofs.lemmas.Bool.Decides.{Decides-int_eq, same_from_decides}
use Rattle.std.proofs.Math.Nat.{pow-le-pow_right}
use Rattle.std.proofs.lemmas.Nat.{div-mul-add}
use Rattle.std.proofs.lemmas.Bool.{cases_order}
use Rattle.std.proofs.lemmas.Int.{ints}
use Rattle.rasn_types.specs.Framing.{number_in, AreOctets}
use Rattle.rasn_types.specs.Contents.{signed, IsShortestInteger}
use Rattle.rasn_types.proofs.Integer.TwosComplement.{below_power, first_digit, within_octets, beyond_octets, shortest_some}

heads : (p a b r s : ℕ) → r < p → s < p → a * p + r ≡ b * p + s → (a ≡ b) × (r ≡ s)
heads p a b r s h k e =
    let f : a ≡ b = sym (div-mul-add a p r h) ∙ (ap (λ z. z / p) e ∙ div-mul-add b p s k) in
    let g : a * p ≡ b * p = ap (λ z. z * p) f in
    (f, omega arith)

same_octets : (k l : List ℕ) → AreOctets k → AreOctets l → length k ≡ length l → number_in 256 k ≡ number_in 256 l → k ≡ l
same_octets [] [] o u n e = refl
same_octets [] (b ∷ l) o u n e = absurd (omega arith)
same_octets (a ∷ k) [] o u n e = absurd (omega arith)
same_octets (a ∷ k) (b ∷ l) o u n e =
    let m : length k ≡ length l = omega arith in
    let f : a * 256 ^ length l + number_in 256 k ≡ b * 256 ^ length l + number_in 256 l =
    ap (λ x. a * 256 ^ x + number_in 256 k) (sym m) ∙ (sym (first_digit a k o.0) ∙ (e ∙ first_digit b l u.0)) in
    let r = heads (256 ^ length l) a b (number_in 256 k) (number_in 256 l) (subst (λ x. number_in 256 k < 256 ^ x) m (below_power k)) (below_power l) f in
    ap₂ ◌∷◌ r.0 (same_octets k l o.1 u.1 m r.1)

same_length : (k l : List ℕ) → AreOctets k → AreOctets l → length k ≡ length l → signed k ≡ signed l → k ≡ l
same_length [] [] o u n e = refl
same_length [] (b ∷ l) o u n e = absurd (omega arith)
same_length (a ∷ k) [] o u n e = absurd (omega arith)
same_length (a ∷ k) (b ∷ l) o u n e =
    let f : pos (number_in 256 (a ∷ k)) -ℤ pos (a / 128 * 256 ^ length (b ∷ l)) ≡ pos (number_in 256 (b ∷ l)) -ℤ pos (b / 128 * 256 ^ length (b ∷ l)) =
    ap (λ x. pos (number_in 256 (a ∷ k)) -ℤ pos (a / 128 * 256 ^ x)) (sym n) ∙ e in
    let g : b / 128 * 256 ^ length (b ∷ l) + number_in 256 (a ∷ k) ≡ a / 128 * 256 ^ length (b ∷ l) + number_in 256 (b ∷ l) =
    across (number_in 256 (a ∷ k)) (a / 128 * 256 ^ length (b ∷ l)) (number_in 256 (b ∷ l)) (b / 128 * 256 ^ length (b ∷ l)) f in
    let r = heads (256 ^ length (b ∷ l)) (b / 128) (a / 128) (number_in 256 (a ∷ k)) (number_in 256 (b ∷ l))
    (subst (λ x. number_in 256 (a ∷ k) < 256 ^ x) n (below_power (a ∷ k))) (below_power (b ∷ l)) g in
    same_octets (a ∷ k) (b ∷ l) o u n r.1
  where
    across : (n a m b : ℕ) → pos n -ℤ pos a ≡ pos m -ℤ pos b → b + n ≡ a + m
    across n a m b e = omega (arith, ints)

-- A number with more octets is another number.
longer : (k l : List ℕ) → AreOctets k → AreOctets l → IsShortestInteger k → IsShortestInteger l → length k < length l → signed k ≡ signed l → ⊥
longer k [] o u p q n e = q
longer k (c ∷ []) o u p q n e = let h = shortest_some k p in omega arith
longer k (c ∷ d ∷ l) o u p q n e =
    let m : length k ≤ length (d ∷ l) = omega arith in
    let h : 256 ^ length k ≤ 256 ^ length (d ∷ l) = pow-le-pow_right (omega arith) m in
    let w = within_octets k o (shortest_some k p) in
    apart (signed k) (signed (c ∷ d ∷ l)) (256 ^ length k) (256 ^ length (d ∷ l)) e h w.0 w.1 (beyond_octets c d l u q)
  where
    apart : (y z : ℤ) (p q : ℕ) → y ≡ z → p ≤ q → neg_ℤ (pos p) ≤ℤ (y +ℤ y) → (y +ℤ y) <ℤ pos p
        → ((z +ℤ z) <ℤ neg_ℤ (pos q)) ⊎ (pos q ≤ℤ (z +ℤ z)) → ⊥
    apart y z p q e h low high (inl f) = omega (arith, ints)
    apart y z p q e h low high (inr f) = omega (arith, ints)

pub same_shortest : (k l : List ℕ) → AreOctets k → AreOctets l → IsShortestInteger k → IsShortestInteger l → signed k ≡ signed l → k ≡ l
same_shortest k l o u p q e = go (cases_order (length k) (length l))
  where
    go : (length k ≡ length l) ⊎ ((length k < length l) ⊎ (length l < length k)) → k ≡ l
    go (inl n) = same_length k l o u n e
    go (inr (inl n)) = absurd (longer k l o u p q n e)
    go (inr (inr n)) = absurd (longer l k u o q p n (sym e))

-- Two numbers are equal exactly if their octets are.
pub equal_octets : (k l : List ℕ) (y z : ℤ) (r : Bool) → IsShortestInteger k × AreOctets k → IsShortestInteger l × AreOctets l
    → signed k ≡ y → signed l ≡ z → r ≡ pointwise nat_eq k l → r ≡ int_eq y z
equal_octets k l y z r p q e f g =
    same_from_decides r (int_eq y z) (there, back) (Decides-int_eq y z)
  where
    told : Decides (pointwise nat_eq k l) (k ≡ l)
    told = bytes_decides k l

    there : r ≡ true → y ≡ z
    there h = sym e ∙ (ap signed (told.0 (sym g ∙ h)) ∙ f)

    back : y ≡ z → r ≡ true
    back h = g ∙ told.1 (same_shortest k l p.1 q.1 p.0 q.0 (e ∙ (h ∙ sym f)))
