-- Bits of octets, in part and shifted.
use Rattle.std.proofs.Common.{◌≡◌, ℕ, zero, suc, ◌+◌, ◌-◌, ◌*◌, ◌/◌, ◌%◌, ◌^◌, ◌<◌, ◌≤◌, Bool, true, false, List, [], ◌∷◌, ◌++◌, length, take, drop, get_or, refl, sym, ap, ap₂, ◌∙◌, subst, arith}
use Rattle.std.proofs.lemmas.List.{append_assoc, append-nil, length-append, length-take-le, length-drop, length-replicate, take-append-drop, drop-append-le, drop-drop, take-replicate, drop_more, drop_at, take_all, drop_all, drop-take}
use Rattle.std.proofs.lemmas.Nat.{pow-add, shr_high, mod_low, same_from_place}
use Rattle.std.proofs.Math.Nat.{pow-succ'}
use Rattle.rasn_types.specs.Framing.{bit_of}
use Rattle.rasn_types.specs.Contents.{bits_of, is_set}
use Rattle.rasn_types.specs.BitPacking.{Shifts}
use Rattle.rasn_types.specs.BitString.{bits_in, zeros}

-- The number that bits spell in base 2.
abbrev pub value : List Bool → ℕ
value [] = 0
value (x ∷ l) = bit_of x * 2 ^ length l + value l

-- ---- lists of octets
pub length-bits_in : (l : List ℕ) → length (bits_in l) ≡ 8 * length l
length-bits_in [] = refl
length-bits_in (a ∷ l) = let i = length-bits_in l in omega (arith, i)

pub bits_in-append : (a b : List ℕ) → bits_in (a ++ b) ≡ bits_in a ++ bits_in b
bits_in-append [] b = refl
bits_in-append (x ∷ a) b = ap (λ l. bits_of x ++ l) (bits_in-append a b)

pub bits_in-one : (x : ℕ) → bits_in (x ∷ []) ≡ bits_of x
bits_in-one x = refl

pub bits_in-drop : (k : ℕ) (l : List ℕ) → bits_in (drop k l) ≡ drop (8 * k) (bits_in l)
bits_in-drop zero l = refl
bits_in-drop (suc k) [] = sym (drop_all (8 * suc k) [] (omega arith))
bits_in-drop (suc k) (a ∷ l) =
    let e : 8 + 8 * k ≡ 8 * suc k = omega arith in
    bits_in-drop k l ∙ (drop-drop (8 * k) 8 (bits_in (a ∷ l)) ∙ ap (λ n. drop n (bits_in (a ∷ l))) e)

pub consume_behind : {X : Type 0} (p q : List X) (n m : ℕ) → m ≡ length p + n → take m (p ++ q) ≡ p ++ take n q
consume_behind [] q n m e = let f : m ≡ n = omega (arith, e) in ap (λ z. take z q) f
consume_behind (x ∷ p) q n zero e = absurd (omega (arith, e))
consume_behind (x ∷ p) q n (suc m) e = ap (λ l. x ∷ l) (consume_behind p q n m (omega (arith, e)))

pub drop_behind : {X : Type 0} (p q : List X) (n m : ℕ) → m ≡ length p + n → drop m (p ++ q) ≡ drop n q
drop_behind [] q n m e = let f : m ≡ n = omega (arith, e) in ap (λ z. drop z q) f
drop_behind (x ∷ p) q n zero e = absurd (omega (arith, e))
drop_behind (x ∷ p) q n (suc m) e = drop_behind p q n m (omega (arith, e))

pub bits_in-take : (k : ℕ) (l : List ℕ) → bits_in (take k l) ≡ take (8 * k) (bits_in l)
bits_in-take zero l = refl
bits_in-take (suc k) [] = sym (take_all (8 * suc k) [] (omega arith))
bits_in-take (suc k) (a ∷ l) = ap (λ z. bits_of a ++ z) (bits_in-take k l) ∙ sym (consume_behind (bits_of a) (bits_in l) (8 * k) (8 * suc k) (omega arith))

-- ---- bits and the number that they spell
place : (x p q v w : ℕ) → x * (p * q) + (v * q + w) ≡ (x * p + v) * q + w
place x p q v w = grind arith

pub value-append : (a b : List Bool) → value (a ++ b) ≡ value a * 2 ^ length b + value b
value-append [] b = nothing (2 ^ length b) (value b)
  where
    nothing : (p v : ℕ) → v ≡ 0 * p + v
    nothing p v = omega arith
value-append (x ∷ a) b =
    let n : 2 ^ length (a ++ b) ≡ 2 ^ length a * 2 ^ length b = ap (λ z. 2 ^ z) (length-append a b) ∙ pow-add 2 (length a) (length b) in
    ap₂ (λ p v. bit_of x * p + v) n (value-append a b) ∙ place (bit_of x) (2 ^ length a) (2 ^ length b) (value a) (value b)

pub value_below : (l : List Bool) → value l < 2 ^ length l
value_below [] = omega arith
value_below (true ∷ l) = let i = value_below l in let p : 2 ^ length (true ∷ l) ≡ 2 * 2 ^ length l = pow-succ' 2 (length l) in omega arith
value_below (false ∷ l) = let i = value_below l in let p : 2 ^ length (false ∷ l) ≡ 2 * 2 ^ length l = pow-succ' 2 (length l) in omega arith

bit_one : (x y : Bool) → bit_of x ≡ bit_of y → x ≡ y
bit_one true true e = refl
bit_one true false e = absurd (omega arith)
bit_one false true e = absurd (omega arith)
bit_one false false e = refl

pub value_one : (k l : List Bool) → length k ≡ length l → value k ≡ value l → k ≡ l
value_one [] [] n e = refl
value_one [] (y ∷ l) n e = absurd (omega arith)
value_one (x ∷ k) [] n e = absurd (omega arith)
value_one (x ∷ k) (y ∷ l) n e =
    let m : length k ≡ length l = omega arith in
    let f : bit_of x * 2 ^ length l + value k ≡ bit_of y * 2 ^ length l + value l = subst (λ z. bit_of x * 2 ^ z + value k ≡ bit_of y * 2 ^ length l + value l) m e in
    let r = same_from_place (bit_of x) (value k) (bit_of y) (value l) (2 ^ length l) (subst (λ z. value k < 2 ^ z) m (value_below k)) (value_below l) f in
    ap₂ (λ a b. a ∷ b) (bit_one x y r.0) (value_one k l m r.1)

bit_set : (n : ℕ) → n < 2 → bit_of (is_set n) ≡ n
bit_set zero h = refl
bit_set (suc zero) h = refl
bit_set (suc (suc n)) h = absurd (omega arith)

mod_two : (n : ℕ) → n % 2 < 2
mod_two n = omega arith

halves : (b q1 q2 q3 q4 q5 q6 r0 r1 r2 r3 r4 r5 r6 r7 : ℕ) → b ≡ 2 * q1 + r0 → q1 ≡ 2 * q2 + r1 → q2 ≡ 2 * q3 + r2 → q3 ≡ 2 * q4 + r3 → q4 ≡ 2 * q5 + r4 → q5 ≡ 2 * q6 + r5 → q6 ≡ 2 * r7 + r6
    → r7 * 128 + (r6 * 64 + (r5 * 32 + (r4 * 16 + (r3 * 8 + (r2 * 4 + (r1 * 2 + (r0 * 1 + 0))))))) ≡ b
halves b q1 q2 q3 q4 q5 q6 r0 r1 r2 r3 r4 r5 r6 r7 e0 e1 e2 e3 e4 e5 e6 = omega arith

half1 : (b : ℕ) → b ≡ 2 * (b / 2) + b % 2
half1 b = omega arith

half2 : (b : ℕ) → b / 2 ≡ 2 * (b / 4) + b / 2 % 2
half2 b = omega arith

half4 : (b : ℕ) → b / 4 ≡ 2 * (b / 8) + b / 4 % 2
half4 b = omega arith

half8 : (b : ℕ) → b / 8 ≡ 2 * (b / 16) + b / 8 % 2
half8 b = omega arith

half16 : (b : ℕ) → b / 16 ≡ 2 * (b / 32) + b / 16 % 2
half16 b = omega arith

half32 : (b : ℕ) → b / 32 ≡ 2 * (b / 64) + b / 32 % 2
half32 b = omega arith

half64 : (b : ℕ) → b < 256 → b / 64 ≡ 2 * (b / 128 % 2) + b / 64 % 2
half64 b h = omega arith

-- The bits of an octet spell it.
pub value_octet : (b : ℕ) → b < 256 → value (bits_of b) ≡ b
value_octet b h =
    let p7 = bit_set (b / 128 % 2) (mod_two (b / 128)) in
    let p6 = bit_set (b / 64 % 2) (mod_two (b / 64)) in
    let p5 = bit_set (b / 32 % 2) (mod_two (b / 32)) in
    let p4 = bit_set (b / 16 % 2) (mod_two (b / 16)) in
    let p3 = bit_set (b / 8 % 2) (mod_two (b / 8)) in
    let p2 = bit_set (b / 4 % 2) (mod_two (b / 4)) in
    let p1 = bit_set (b / 2 % 2) (mod_two (b / 2)) in
    let p0 = bit_set (b % 2) (mod_two b) in
    rw (p7, p6, p5, p4, p3, p2, p1, p0)
    (halves b (b / 2) (b / 4) (b / 8) (b / 16) (b / 32) (b / 64) (b % 2) (b / 2 % 2) (b / 4 % 2) (b / 8 % 2) (b / 16 % 2) (b / 32 % 2) (b / 64 % 2) (b / 128 % 2)
    (half1 b) (half2 b) (half4 b) (half8 b) (half16 b) (half32 b) (half64 b h))

-- Eight bits are those of the octet that they spell.
pub bits_of_value : (l : List Bool) → length l ≡ 8 → bits_of (value l) ≡ l
bits_of_value l n =
    let b = subst (λ z. value l < 2 ^ z) n (value_below l) in
    value_one (bits_of (value l)) l (sym n) (value_octet (value l) b)

split_at : (k : ℕ) (l : List Bool) → k ≤ length l → value l ≡ value (take k l) * 2 ^ (length l - k) + value (drop k l)
split_at k l h =
    ap value (sym (take-append-drop k l)) ∙ (value-append (take k l) (drop k l) ∙ ap (λ z. value (take k l) * 2 ^ z + value (drop k l)) (length-drop k l))

-- The number without its last bits, and the number of its last bits.
pub value-take : (k n : ℕ) (l : List Bool) → length l ≡ k + n → value l / 2 ^ n ≡ value (take k l)
value-take k n l e =
    let d : length (drop k l) ≡ n = length-drop k l ∙ omega (arith, e) in
    ap (λ z. z / 2 ^ n) (ap value (sym (take-append-drop k l)) ∙ (value-append (take k l) (drop k l) ∙ ap (λ z. value (take k l) * 2 ^ z + value (drop k l)) d))
    ∙ shr_high (value (take k l)) n (value (drop k l)) (subst (λ z. value (drop k l) < 2 ^ z) d (value_below (drop k l)))

pub value-drop : (k n : ℕ) (l : List Bool) → length l ≡ k + n → value l % 2 ^ n ≡ value (drop k l)
value-drop k n l e =
    let d : length (drop k l) ≡ n = length-drop k l ∙ omega (arith, e) in
    ap (λ z. z % 2 ^ n) (ap value (sym (take-append-drop k l)) ∙ (value-append (take k l) (drop k l) ∙ ap (λ z. value (take k l) * 2 ^ z + value (drop k l)) d))
    ∙ mod_low (value (take k l)) n (value (drop k l)) (subst (λ z. value (drop k l) < 2 ^ z) d (value_below (drop k l)))

-- The eight bits after the first s bits of two octets.
pub across_bits : (a b s : ℕ) → a < 256 → b < 256 → s < 8 → bits_of ((a * 256 + b) / 2 ^ (8 - s) % 256) ≡ take 8 (drop s (bits_of a ++ bits_of b))
across_bits a b s h k n =
    let l = bits_of a ++ bits_of b in
    let v : value l ≡ a * 256 + b = value-append (bits_of a) (bits_of b) ∙ ap₂ (λ x y. x * 256 + y) (value_octet a h) (value_octet b k) in
    let e : (a * 256 + b) / 2 ^ (8 - s) ≡ value (take (8 + s) l) = ap (λ z. z / 2 ^ (8 - s)) (sym v) ∙ value-take (8 + s) (8 - s) l (omega arith) in
    let t : length (take (8 + s) l) ≡ s + 8 = length-take-le (8 + s) l (omega arith) ∙ omega arith in
    let f : value (take (8 + s) l) % 256 ≡ value (drop s (take (8 + s) l)) = value-drop s 8 (take (8 + s) l) t in
    let d : length (drop s (take (8 + s) l)) ≡ 8 = length-drop s (take (8 + s) l) ∙ omega (arith, t) in
    let g : drop s (take (8 + s) l) ≡ take 8 (drop s l) = ap (λ z. drop s (take z l)) (plus s) ∙ drop-take s 8 l in
    ap bits_of (ap (λ z. z % 256) e ∙ f) ∙ (bits_of_value (drop s (take (8 + s) l)) d ∙ g)
  where
    plus : (s : ℕ) → 8 + s ≡ s + 8
    plus s = omega arith

value_zeros : (n : ℕ) → value (zeros n) ≡ 0
value_zeros zero = refl
value_zeros (suc n) = nothing (2 ^ length (zeros n)) (value (zeros n)) (value_zeros n)
  where
    nothing : (p v : ℕ) → v ≡ 0 → 0 * p + v ≡ 0
    nothing p v e = omega arith

-- An octet whose last bits are cleared, and an octet that is shifted down.
pub cleared_bits : (b k : ℕ) → b < 256 → k < 8 → bits_of (b / 2 ^ k * 2 ^ k) ≡ take (8 - k) (bits_of b) ++ zeros k
cleared_bits b k h n =
    let f = take (8 - k) (bits_of b) in
    let e : b / 2 ^ k ≡ value f = ap (λ z. z / 2 ^ k) (sym (value_octet b h)) ∙ value-take (8 - k) k (bits_of b) (omega arith) in
    let z : length (zeros k) ≡ k = length-replicate k false in
    let v : value (f ++ zeros k) ≡ value f * 2 ^ k = value-append f (zeros k) ∙ (ap₂ (λ x y. value f * 2 ^ x + y) z (value_zeros k) ∙ none (value f * 2 ^ k)) in
    let t : length f ≡ 8 - k = length-take-le (8 - k) (bits_of b) (omega arith) in
    let d : length (f ++ zeros k) ≡ 8 = length-append f (zeros k) ∙ omega (arith, t, z) in
    ap bits_of (ap (λ x. x * 2 ^ k) e ∙ sym v) ∙ bits_of_value (f ++ zeros k) d
  where
    none : (n : ℕ) → n + 0 ≡ n
    none n = omega arith

pub moved_bits : (b k : ℕ) → b < 256 → k < 8 → drop k (bits_of (b / 2 ^ k)) ≡ take (8 - k) (bits_of b)
moved_bits b k h n =
    let f = take (8 - k) (bits_of b) in
    let e : b / 2 ^ k ≡ value f = ap (λ z. z / 2 ^ k) (sym (value_octet b h)) ∙ value-take (8 - k) k (bits_of b) (omega arith) in
    let z : length (zeros k) ≡ k = length-replicate k false in
    let v : value (zeros k ++ f) ≡ value f = value-append (zeros k) f ∙ (ap (λ x. x * 2 ^ length f + value f) (value_zeros k) ∙ none (2 ^ length f) (value f)) in
    let t : length f ≡ 8 - k = length-take-le (8 - k) (bits_of b) (omega arith) in
    let d : length (zeros k ++ f) ≡ 8 = length-append (zeros k) f ∙ omega (arith, t, z) in
    ap (λ x. drop k (bits_of x)) (e ∙ sym v) ∙ (ap (drop k) (bits_of_value (zeros k ++ f) d) ∙ drop_at (zeros k) f k z)
  where
    none : (p v : ℕ) → 0 * p + v ≡ v
    none p v = omega arith

-- ---- octets appended to others, shifted
across_step : (p q r : List Bool) (s : ℕ) → length p ≡ 8 → length q ≡ 8 → s < 8 → drop s (p ++ (q ++ r)) ≡ take 8 (drop s (p ++ q)) ++ drop s (q ++ r)
across_step p q r s m n h =
    let e : drop s (p ++ (q ++ r)) ≡ drop s (p ++ q) ++ r = ap (drop s) (sym (append_assoc p q r)) ∙ drop-append-le s (p ++ q) r (omega (arith, length-append p q, m)) in
    let f : drop 8 (drop s (p ++ q)) ≡ drop s q = drop-drop 8 s (p ++ q) ∙ drop_behind p q s (s + 8) (omega (arith, m)) in
    let g : drop s (q ++ r) ≡ drop s q ++ r = drop-append-le s q r (omega (arith, n)) in
    e ∙ (ap (λ z. z ++ r) (sym (take-append-drop 8 (drop s (p ++ q)))) ∙ (append_assoc (take 8 (drop s (p ++ q))) (drop 8 (drop s (p ++ q))) r
    ∙ ap (λ z. take 8 (drop s (p ++ q)) ++ z) (ap (λ z. z ++ r) f ∙ sym g)))

across_end : (p : List Bool) (s : ℕ) → length p ≡ 8 → s < 8 → take 8 (drop s (p ++ zeros 8)) ≡ drop s p ++ zeros s
across_end p s m h =
    let e : drop s (p ++ zeros 8) ≡ drop s p ++ zeros 8 = drop-append-le s p (zeros 8) (omega (arith, m)) in
    let n : length (drop s p) ≡ 8 - s = length-drop s p ∙ omega (arith, m) in
    ap (take 8) e ∙ (consume_behind (drop s p) (zeros 8) s 8 (omega (arith, n)) ∙ ap (λ z. drop s p ++ z) (take-replicate s 8 false (omega arith)))

-- The octets so far hold everything before the last octet that was read.
pub record Shifting (bits first : ℕ) (more old : List ℕ) (k previous : ℕ) (now : List ℕ) : Type 0 where
  pub added : List ℕ
  pub is : now ≡ old ++ added
  pub all : bits_in added ++ drop bits (bits_of previous ++ bits_in (drop k more)) ≡ drop bits (bits_in (first ∷ more))

pub shifting_start : (bits first : ℕ) (more old : List ℕ) → Shifting bits first more old 0 first old
shifting_start bits first more old = record { added = []; is = sym (append-nil old); all = refl }

pub shifting_step : (bits first : ℕ) (more old : List ℕ) (k previous octet x : ℕ) (now new : List ℕ) → bits < 8 → k < length more → octet ≡ get_or more k 0 → Shifting bits first more old k previous now
    → bits_of x ≡ take 8 (drop bits (bits_of previous ++ bits_of octet)) → new ≡ now ++ x ∷ [] → Shifting bits first more old (k + 1) octet new
shifting_step bits first more old k previous octet x now new h n g s e f = record {
  added = s.added ++ x ∷ [];
  is = f ∙ (ap (λ z. z ++ x ∷ []) s.is ∙ append_assoc old s.added (x ∷ []));
  all =
      let d : drop k more ≡ octet ∷ drop (k + 1) more = drop_more more k 0 n ∙ ap (λ z. z ∷ drop (k + 1) more) (sym g) in
      let r = bits_in (drop (k + 1) more) in
      ap (λ z. z ++ drop bits (bits_of octet ++ r)) (bits_in-append s.added (x ∷ []))
      ∙ (append_assoc (bits_in s.added) (bits_of x) (drop bits (bits_of octet ++ r))
      ∙ (ap (λ z. bits_in s.added ++ (z ++ drop bits (bits_of octet ++ r))) e
      ∙ (ap (λ z. bits_in s.added ++ z) (sym (across_step (bits_of previous) (bits_of octet) r bits refl refl h))
      ∙ (ap (λ z. bits_in s.added ++ drop bits (bits_of previous ++ bits_in z)) (sym d) ∙ s.all))));
}

pub shifting_end : (bits first : ℕ) (more old : List ℕ) (k previous x : ℕ) (now new : List ℕ) → bits < 8 → length more ≤ k → Shifting bits first more old k previous now
    → bits_of x ≡ take 8 (drop bits (bits_of previous ++ bits_of 0)) → new ≡ now ++ x ∷ [] → Shifts bits (first ∷ more) old new
shifting_end bits first more old k previous x now new h n s e f = record {
  added = s.added ++ x ∷ [];
  is = f ∙ (ap (λ z. z ++ x ∷ []) s.is ∙ append_assoc old s.added (x ∷ []));
  all =
      let d : bits_of previous ++ bits_in (drop k more) ≡ bits_of previous = ap (λ z. bits_of previous ++ bits_in z) (drop_all k more n) ∙ append-nil (bits_of previous) in
      bits_in-append s.added (x ∷ [])
      ∙ (ap (λ z. bits_in s.added ++ z) (e ∙ across_end (bits_of previous) bits refl h)
      ∙ (sym (append_assoc (bits_in s.added) (drop bits (bits_of previous)) (zeros bits))
      ∙ ap (λ z. z ++ zeros bits) (ap (λ z. bits_in s.added ++ drop bits z) (sym d) ∙ s.all)));
}
