-- The tag that octets begin with, read octet by octet, is the one that they spell.
use Rattle.std.proofs.Common.{◌≡◌, ◌≢◌, ℕ, ◌+◌, ◌-◌, ◌*◌, ◌/◌, ◌^◌, ◌%◌, ◌<◌, ◌≤◌, ◌⊎◌, inl, inr, Bool, true, false, if◌then◌else◌, List, [], ◌∷◌, ◌++◌, length, take, drop, slice_index, Some, None, refl, sym, ap, ◌∙◌, subst, arith}
use Rattle.std.specs.Prelude.{nat_lt, nat_le, nat_eq}
use Rattle.std.proofs.Math.Nat.{pow-succ', one-le-pow, mul-le-mul_left}
use Rattle.std.proofs.lemmas.Bool.Decides.{nat_tests}
use Rattle.std.proofs.lemmas.List.{take_rest}
use Rattle.rasn_types.specs.declared.types.tag.Tag.{Tag}
use Rattle.rasn_types.specs.declared.types.tag.Class.{Class}
use Rattle.rasn_types.specs.declared.types.tag.Class.TheVariants.{Universal, Application, Context, Private}
use Rattle.rasn_types.specs.Tags.{rank}
use Rattle.rasn_types.specs.Framing.{IsChain, number_in, Spells128, bit_of, SpellsAnyIdentifier, Begins}
use Rattle.rasn_types.proofs.Headers.Frames.{rank_small, bit_small}
use Rattle.rasn_enc.specs.LeadingTag.{class_of, number_at, tag_number_at}

record Spelled128 (n : ℕ) (l : List ℕ) (m : ℕ) : Type 0 where
  front : List ℕ
  back : List ℕ
  chain : IsChain front
  is : l ≡ front ++ back
  number : m ≡ n * 128 ^ length front + number_in 128 front
  below : m < 2 ^ 32

last_digit : (n b : ℕ) → b < 128 → n * 128 + b ≡ n * 128 ^ 1 + (b % 128 * 128 ^ 0 + 0)
last_digit n b h = omega arith

more_digits : (n d p q s : ℕ) → q ≡ 128 * p → (n * 128 + d) * p + s ≡ n * q + (d * p + s)
more_digits n d p q s e = rw e (omega arith)

number_parsed : (n : ℕ) (l : List ℕ) (m : ℕ) → number_at n l ≡ Some m → Spelled128 n l m
unfolding number_at
number_parsed n [] m e = cc
number_parsed n (b ∷ l) m e = go (number_parsed (n * 128 + b % 128) l m) (nat_le 0x2000000 n) refl (nat_lt b 128) refl e
  where
    go : (number_at (n * 128 + b % 128) l ≡ Some m → Spelled128 (n * 128 + b % 128) l m) → (x : Bool) → nat_le 0x2000000 n ≡ x → (y : Bool) → nat_lt b 128 ≡ y
        → (if x then None else (if y then Some (n * 128 + b) else number_at (n * 128 + b % 128) l)) ≡ Some m → Spelled128 n (b ∷ l) m
    go further true t y u f = cc
    go further false t true u f =
        let j : n < 0x2000000 = grind (arith, nat_tests) in
        let k : b < 128 = grind (arith, nat_tests) in
        let g : n * 128 + b ≡ m = cc in
        record { front = b ∷ []; back = l; chain = inl (k, refl); is = refl; number = sym g ∙ last_digit n b k; below = omega arith }
    go further false t false u f =
        let k : 128 ≤ b = grind (arith, nat_tests) in
        let s = further f in
        record {
          front = b ∷ s.front;
          back = s.back;
          chain = inr (k, s.chain);
          is = ap (λ z. b ∷ z) s.is;
          number = s.number ∙ more_digits n (b % 128) (128 ^ length s.front) (128 ^ length (b ∷ s.front)) (number_in 128 s.front) (pow-succ' 128 (length s.front));
          below = s.below;
        }

room : (n p q s : ℕ) → 1 ≤ p → q ≡ 128 * p → n * q + s < 0x1_0000_0000 → n < 0x2000000
room n p q s h e k =
    let m : n * 1 ≤ n * p = mul-le-mul_left n h in
    let f : n * q ≡ n * (128 * p) = ap (λ z. n * z) e in
    omega arith

number_spelled : (n : ℕ) (front rest : List ℕ) → IsChain front → n * 128 ^ length front + number_in 128 front < 2 ^ 32
    → number_at n (front ++ rest) ≡ Some (n * 128 ^ length front + number_in 128 front)
unfolding number_at
number_spelled n [] rest c h = absurd c
number_spelled n (b ∷ l) rest (inl (k, e)) h =
    let r : n < 0x2000000 = room n (128 ^ length l) (128 ^ length (b ∷ l)) (number_in 128 (b ∷ l)) (one-le-pow (length l) 128 (omega arith)) (pow-succ' 128 (length l)) h in
    let t : nat_le 0x2000000 n ≡ false = grind (arith, nat_tests) in
    let u : nat_lt b 128 ≡ true = grind (arith, nat_tests) in
    rw (t, u, e) (ap Some (last_digit n b k))
number_spelled n (b ∷ l) rest (inr (k, c)) h =
    let r : n < 0x2000000 = room n (128 ^ length l) (128 ^ length (b ∷ l)) (number_in 128 (b ∷ l)) (one-le-pow (length l) 128 (omega arith)) (pow-succ' 128 (length l)) h in
    let t : nat_le 0x2000000 n ≡ false = grind (arith, nat_tests) in
    let u : nat_lt b 128 ≡ false = grind (arith, nat_tests) in
    let m = more_digits n (b % 128) (128 ^ length l) (128 ^ length (b ∷ l)) (number_in 128 l) (pow-succ' 128 (length l)) in
    let i = number_spelled (n * 128 + b % 128) l rest c (subst (λ z. z < 2 ^ 32) (sym m) h) in
    rw (t, u) (i ∙ ap Some m)

-- The tag number after a first octet.
abbrev IsTagNumber : ℕ → List ℕ → ℕ → Type 0
IsTagNumber low more n = ((low < 31) × (more ≡ []) × (n ≡ low)) ⊎ ((low ≡ 31) × Spells128 more n)

tag_number_parsed : (first : ℕ) (l : List ℕ) (n : ℕ) → tag_number_at first l ≡ Some n → (more : List ℕ) × (back : List ℕ) × IsTagNumber (first % 32) more n × (l ≡ more ++ back)
unfolding tag_number_at
tag_number_parsed first l n e = go (nat_eq (first % 32) 31) refl e
  where
    go : (b : Bool) → nat_eq (first % 32) 31 ≡ b → (if b then number_at 0 l else Some (first % 32)) ≡ Some n → (more : List ℕ) × (back : List ℕ) × IsTagNumber (first % 32) more n × (l ≡ more ++ back)
    go true t f =
        let k : first % 32 ≡ 31 = grind (arith, nat_tests) in
        let s = number_parsed 0 l n f in
        (s.front, s.back, inr (k, record { chain = s.chain; is = s.number ∙ omega arith; below = s.below }), s.is)
    go false t f =
        let k : first % 32 ≢ 31 = grind (arith, nat_tests) in
        let g : first % 32 ≡ n = cc in
        ([], l, inl (omega arith, refl, sym g), refl)

tag_number_spelled : (first low : ℕ) (more rest : List ℕ) (n : ℕ) → first % 32 ≡ low → IsTagNumber low more n → tag_number_at first (more ++ rest) ≡ Some n
unfolding tag_number_at
tag_number_spelled first low more rest n e (inl (h, p, q)) =
    let t : nat_eq (first % 32) 31 ≡ false = grind (arith, nat_tests) in
    rw (t, q, e) refl
tag_number_spelled first low more rest n e (inr (h, s)) =
    let t : nat_eq (first % 32) 31 ≡ true = grind (arith, nat_tests) in
    let f : 0 * 128 ^ length more + number_in 128 more ≡ n = sym (s.is ∙ omega arith) in
    let g = number_spelled 0 more rest s.chain (subst (λ z. z < 2 ^ 32) (sym f) s.below) ∙ ap Some f in
    rw t g

class_rank : (n : ℕ) → n < 4 → rank (class_of n) ≡ n
class_rank n h = go (nat_eq n 0) refl (nat_eq n 1) refl (nat_eq n 2) refl
  where
    go : (x : Bool) → nat_eq n 0 ≡ x → (y : Bool) → nat_eq n 1 ≡ y → (z : Bool) → nat_eq n 2 ≡ z
        → rank (if x then Universal else (if y then Application else (if z then Context else Private))) ≡ n
    go true e y f z g = grind (arith, nat_tests)
    go false e true f z g = grind (arith, nat_tests)
    go false e false f true g = grind (arith, nat_tests)
    go false e false f false g = grind (arith, nat_tests)

bit_true : (n : ℕ) → n < 64 → 32 * bit_of (nat_le 32 n) + n % 32 ≡ n
bit_true n h = go (nat_le 32 n) refl
  where
    go : (b : Bool) → nat_le 32 n ≡ b → 32 * bit_of b + n % 32 ≡ n
    go true e = let k : 32 ≤ n = grind (arith, nat_tests) in omega arith
    go false e = let k : n < 32 = grind (arith, nat_tests) in omega arith

leading : (b c d : ℕ) → c ≡ b / 64 → d + b % 64 % 32 ≡ b % 64 → b ≡ 64 * c + (d + b % 32)
leading b c d e f = omega arith

first_parts : (b c d low : ℕ) → c < 4 → d < 2 → low < 32 → b ≡ 64 * c + (32 * d + low) → b % 32 ≡ low
first_parts b c d low h k m e = omega arith

low_small : (more : List ℕ) (n low : ℕ) → IsTagNumber low more n → low < 32
low_small more n low (inl h) = omega (arith, h.0)
low_small more n low (inr h) = omega (arith, h.0)

pub begins_by : (first : ℕ) (l : List ℕ) (tag : Tag) → first < 256 → tag_number_at first l ≡ Some tag.value → tag.class ≡ class_of (first / 64) → Begins (first ∷ l) tag
begins_by first l tag h e k =
    let s = tag_number_parsed first l tag.value e in
    let c : rank tag.class ≡ first / 64 = ap rank k ∙ class_rank (first / 64) (omega arith) in
    record {
      id = first ∷ s.0;
      bit = nat_le 32 (first % 64);
      more = s.1;
      spells = record { low = first % 32; leading = leading first (rank tag.class) (32 * bit_of (nat_le 32 (first % 64))) c (bit_true (first % 64) (omega arith)); number = s.2 };
      is = ap (λ z. first ∷ z) s.3;
    }

pub begins_number : (first : ℕ) (l : List ℕ) (tag : Tag) → Begins (first ∷ l) tag → tag_number_at first l ≡ Some tag.value
begins_number first l tag b = go b.id b.spells b.is
  where
    go : (id : List ℕ) → SpellsAnyIdentifier id tag b.bit → first ∷ l ≡ id ++ b.more → tag_number_at first l ≡ Some tag.value
    go [] s e = absurd s
    go (x ∷ more) s e =
        let f : first ≡ x = cc in
        let g : l ≡ more ++ b.more = cc in
        let k = first_parts x (rank tag.class) (bit_of b.bit) s.low (rank_small tag.class) (bit_small b.bit) (low_small more tag.value s.low s.number) s.leading in
        rw (f, g) (tag_number_spelled x s.low more b.more tag.value k s.number)

pub no_start : (tag : Tag) → Begins [] tag → ⊥
no_start tag b = go b.id b.spells b.is
  where
    go : (id : List ℕ) → SpellsAnyIdentifier id tag b.bit → [] ≡ id ++ b.more → ⊥
    go [] s e = s
    go (x ∷ more) s e = cc

pub no_tag : (l : List ℕ) → 1 ≤ length l → tag_number_at (slice_index l 0) (take (length l - 1) (drop 1 l)) ≡ None → (tag : Tag) → Begins l tag → ⊥
no_tag [] h e tag b = no_start tag b
no_tag (x ∷ l) h e tag b =
    let f : tag_number_at x l ≡ None = subst (λ z. tag_number_at x z ≡ None) (take_rest (x ∷ l) 1) e in
    let g = begins_number x l tag b in
    cc

pub some_tag : (l : List ℕ) (c : Class) (n : ℕ) → 1 ≤ length l → slice_index l 0 < 256 → tag_number_at (slice_index l 0) (take (length l - 1) (drop 1 l)) ≡ Some n
    → c ≡ class_of (slice_index l 0 / 64) → Begins l (record { class = c; value = n })
some_tag [] c n h k e f = absurd (omega (arith, h))
some_tag (x ∷ l) c n h k e f = begins_by x l (record { class = c; value = n }) k (subst (λ z. tag_number_at x z ≡ Some n) (take_rest (x ∷ l) 1) e) f
