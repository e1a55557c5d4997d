-- The octets that are written before contents spell the tag and the length, in the fewest octets.
use Rattle.std.proofs.Common.{◌≡◌, ℕ, zero, suc, ◌+◌, ◌-◌, ◌*◌, ◌^◌, ◌%◌, ◌/◌, ◌<◌, ◌≤◌, inl, inr, Bool, true, false, cond, List, [], ◌∷◌, length, refl, sym, ap, ap₂, ◌∙◌, subst, arith, mod-lt}
use Rattle.std.specs.Prelude.{ltb}
use Rattle.std.proofs.Math.Nat.{pow-succ', one-le-pow, pow-zero, mod-eq_of_lt}
use Rattle.std.proofs.Math.Arith.{mod-mul}
use borrow.Author.Tests.{ltb-true, ltb-false}
use Rattle.rasn_types.specs.Tags.{rank}
use Rattle.rasn_types.specs.declared.types.tag.Tag.{Tag}
use Rattle.rasn_types.specs.Framing.{AreOctets, IsChain, number_in, bit_of, SpellsAnyIdentifier, SpellsLength, IsShortestIdentifier, IsShortestLength}
use Rattle.rasn_types.specs.Bytes.{DefiniteForm, IndefiniteForm}
use Rattle.rasn_types.specs.Contents.{IsShortest128}
use Rattle.rasn_types.proofs.Headers.Digits.{number_lt}
use Rattle.rasn_types.proofs.Headers.Frames.{rank_small, bit_small}
use Rattle.rasn_enc.specs.Headers.{digits, chained, group_count, octet_count, id_octets, length_octets, definite, closed}
use Rattle.rasn_enc.specs.ObjectIdentifier.{IsSubidentifier}

-- How many digits a number takes.
pub record Fewest (base most n count : ℕ) : Type 0 where
  pub some : 0 < count
  pub few : count ≤ most
  pub below : n < base ^ count
  pub least : 1 < count → base ^ (count - 1) ≤ n

pub length-digits : (base count n : ℕ) → length (digits base count n) ≡ count
unfolding digits
length-digits base zero n = refl
length-digits base (suc count) n = ap suc (length-digits base count n)

number_in-digits : (base : ℕ) → 0 < base → (count n : ℕ) → number_in base (digits base count n) ≡ n % base ^ count
unfolding digits
number_in-digits base h zero n = sym (ap (λ z. n % z) (pow-zero base) ∙ by_one n)
  where
    by_one : (n : ℕ) → n % 1 ≡ 0
    by_one n = omega arith
number_in-digits base h (suc count) n =
    let d = n / base ^ count % base in
    let l = length-digits base count n in
    let e : d % base ≡ d = mod-eq_of_lt (mod-lt (n / base ^ count) h) in
    let m : n % (base * base ^ count) ≡ d * base ^ count + n % base ^ count = mod-mul n h (one-le-pow count base h) in
    ap₂ (λ x y. x * base ^ y + number_in base (digits base count n)) e l
    ∙ (ap (λ z. d * base ^ count + z) (number_in-digits base h count n)
    ∙ (sym m ∙ ap (λ z. n % z) (sym (pow-succ' base count))))

pub digits_spell : (base : ℕ) → 0 < base → (count n : ℕ) → n < base ^ count → n ≡ number_in base (digits base count n)
digits_spell base h count n k = sym (number_in-digits base h count n ∙ mod-eq_of_lt k)

-- a first digit that is 0 leaves less than what the digits after it can hold
lead : (base : ℕ) → 0 < base → (b : ℕ) (l : List ℕ) → b % base ≡ 0 → number_in base (b ∷ l) < base ^ length l
lead base h b l e =
    let k = number_lt base h l in
    let z : b % base * base ^ length l ≡ 0 * base ^ length l = ap (λ x. x * base ^ length l) e in
    omega arith

-- all digits are below the base
abbrev pub AreBelow : ℕ → List ℕ → Type 0
AreBelow base [] = Unit {0}
AreBelow base (d ∷ l) = (d < base) × AreBelow base l

digits_below : (base : ℕ) → 0 < base → (count n : ℕ) → AreBelow base (digits base count n)
unfolding digits
digits_below base h zero n = tt
digits_below base h (suc count) n = (mod-lt (n / base ^ count) h, digits_below base h count n)

octets_below : (l : List ℕ) → AreBelow 256 l → AreOctets l
octets_below [] h = tt
octets_below (d ∷ l) h = (h.0, octets_below l h.1)

pub length-chained : (l : List ℕ) → length (chained l) ≡ length l
unfolding chained
length-chained [] = refl
length-chained (d ∷ []) = refl
length-chained (d ∷ e ∷ l) = ap suc (length-chained (e ∷ l))

marked_mod : (d : ℕ) → (128 + d) % 128 ≡ d % 128
marked_mod d = omega arith

number_in-chained : (l : List ℕ) → number_in 128 (chained l) ≡ number_in 128 l
unfolding chained
number_in-chained [] = refl
number_in-chained (d ∷ []) = refl
number_in-chained (d ∷ e ∷ l) = ap₂ (λ x y. x + y) (ap₂ (λ x y. x * 128 ^ y) (marked_mod d) (length-chained (e ∷ l))) (number_in-chained (e ∷ l))

chained_chain : (d : ℕ) (l : List ℕ) → AreBelow 128 (d ∷ l) → IsChain (chained (d ∷ l))
unfolding chained
chained_chain d [] h = inl (h.0, refl)
chained_chain d (e ∷ l) h = inr (omega arith, chained_chain e l h.1)

chained_octets : (l : List ℕ) → AreBelow 128 l → AreOctets (chained l)
unfolding chained
chained_octets [] h = tt
chained_octets (d ∷ []) h = (omega (arith, h.0), tt)
chained_octets (d ∷ e ∷ l) h = (omega (arith, h.0), chained_octets (e ∷ l) h.1)

-- one more digit count is tried
tried : (base most n count limit other : ℕ) → 0 < count → count ≤ most → limit ≡ base ^ count → (1 < count → base ^ (count - 1) ≤ n)
    → (limit ≤ n → Fewest base most n other) → Fewest base most n (cond (ltb n limit) count other)
tried base most n count limit other some few is least more = go (ltb n limit) (ltb-true n limit) (ltb-false n limit)
  where
    go : (b : Bool) → (b ≡ true → n < limit) → (b ≡ false → limit ≤ n) → Fewest base most n (cond b count other)
    go true h k = record { some = some; few = few; below = let l = h refl in omega arith; least = least }
    go false h k = more (k refl)

group_fewest : (n : ℕ) → n < 0x1_0000_0000 → Fewest 128 5 n (group_count n)
group_fewest n h =
    tried 128 5 n 1 128 _ (omega arith) (omega arith) refl (λ k. omega arith) (λ a.
    tried 128 5 n 2 16384 _ (omega arith) (omega arith) refl (λ k. a) (λ b.
    tried 128 5 n 3 2097152 _ (omega arith) (omega arith) refl (λ k. b) (λ c.
    tried 128 5 n 4 268435456 _ (omega arith) (omega arith) refl (λ k. c) (λ d.
    record { some = omega arith; few = omega arith; below = omega arith; least = λ k. d }))))

octet_fewest : (n : ℕ) → n < 0x1_0000_0000_0000_0000 → Fewest 256 8 n (octet_count n)
octet_fewest n h =
    tried 256 8 n 1 256 _ (omega arith) (omega arith) refl (λ k. omega arith) (λ a.
    tried 256 8 n 2 65536 _ (omega arith) (omega arith) refl (λ k. a) (λ b.
    tried 256 8 n 3 16777216 _ (omega arith) (omega arith) refl (λ k. b) (λ c.
    tried 256 8 n 4 4294967296 _ (omega arith) (omega arith) refl (λ k. c) (λ d.
    tried 256 8 n 5 1099511627776 _ (omega arith) (omega arith) refl (λ k. d) (λ e.
    tried 256 8 n 6 281474976710656 _ (omega arith) (omega arith) refl (λ k. e) (λ f.
    tried 256 8 n 7 72057594037927936 _ (omega arith) (omega arith) refl (λ k. f) (λ g.
    record { some = omega arith; few = omega arith; below = omega arith; least = λ k. g })))))))

-- The first of the fewest digits isn't 0, but of a number of one digit.
first_digit : (base most n count d : ℕ) (l : List ℕ) → 0 < base → Fewest base most n (suc count) → d ∷ l ≡ digits base (suc count) n → 0 < count → d % base ≡ 0 → ⊥
first_digit base most n count d l h f e c z =
    let k = lead base h d l z in
    let s : n ≡ number_in base (d ∷ l) = digits_spell base h (suc count) n f.below ∙ ap (number_in base) (sym e) in
    let m : length l ≡ count = omega (arith, ap length e, length-digits base (suc count) n) in
    let p : base ^ length l ≡ base ^ count = ap (λ z. base ^ z) m in
    let g : base ^ count ≤ n = subst (λ z. base ^ z ≤ n) (less_one count) (f.least (omega arith)) in
    omega arith
  where
    less_one : (k : ℕ) → suc k - 1 ≡ k
    less_one k = omega arith

-- The length octets are a length in its fewest octets.
pub record Length (l : List ℕ) (n : ℕ) : Type 0 where
  pub spells : SpellsLength l n
  pub shortest : IsShortestLength l n
  pub octets : AreOctets l

long_length : (n count : ℕ) → 128 ≤ n → n < 0x1_0000_0000_0000_0000 → Fewest 256 8 n count → Length ((128 + count) ∷ digits 256 count n) n
unfolding digits
long_length n zero h k f = absurd (omega (arith, f.some))
long_length n (suc count) h k f =
    let m : length (digits 256 (suc count) n) ≡ suc count = length-digits 256 (suc count) n in
    record {
      spells = inr (ap (λ z. 128 + z) (sym m), omega arith, omega (arith, f.few), digits_spell 256 (omega arith) (suc count) n f.below, k);
      shortest = (h, first_octet count f);
      octets = (omega (arith, f.few), octets_below (digits 256 (suc count) n) (digits_below 256 (omega arith) (suc count) n));
    }
  where
    by_one : (n : ℕ) → n / 1 % 256 ≡ 0 → n < 256 → n ≡ 0
    by_one n e h = omega arith

    first_octet : (count : ℕ) → Fewest 256 8 n (suc count) → n / 256 ^ count % 256 ≡ 0 → ⊥
    first_octet zero f e = let z : n ≡ 0 = by_one n e f.below in omega arith
    first_octet (suc j) f e = first_digit 256 8 n (suc j) _ _ (omega arith) f refl (omega arith) (ap (λ z. z % 256) e)

pub length_spells : (n : ℕ) → n < 0x1_0000_0000_0000_0000 → Length (length_octets n) n
unfolding length_octets
length_spells n h = go (ltb n 128) (ltb-true n 128) (ltb-false n 128)
  where
    go : (b : Bool) → (b ≡ true → n < 128) → (b ≡ false → 128 ≤ n) → Length (cond b (n ∷ []) ((128 + octet_count n) ∷ digits 256 (octet_count n) n)) n
    go true p q = let k = p refl in record { spells = inl (k, refl, refl); shortest = tt; octets = (omega arith, tt) }
    go false p q = long_length n (octet_count n) (q refl) h (octet_fewest n h)

-- The identifier octets are a tag's, in the fewest octets.
pub record Identifier (l : List ℕ) (tag : Tag) (bit : Bool) : Type 0 where
  pub spells : SpellsAnyIdentifier l tag bit
  pub shortest : IsShortestIdentifier l tag
  pub octets : AreOctets l

leading_below : (class bit low : ℕ) → class < 4 → bit < 2 → low < 32 → 64 * class + (32 * bit + low) < 256
leading_below class bit low h k m = omega arith

one_group : (n : ℕ) → n < 128 → n / 1 % 128 ≡ 128 → ⊥
one_group n h e = omega arith

marked : (d : ℕ) → 128 + d ≡ 128 → d % 128 ≡ 0
marked d e = omega arith

long_identifier : (tag : Tag) (bit : Bool) (count : ℕ) → 31 ≤ tag.value → tag.value < 0x1_0000_0000 → Fewest 128 5 tag.value count
    → Identifier ((64 * rank tag.class + (32 * bit_of bit + 31)) ∷ chained (digits 128 count tag.value)) tag bit
unfolding digits chained
long_identifier tag bit zero h k f = absurd (omega (arith, f.some))
long_identifier tag bit (suc count) h k f =
    let n = tag.value in
    let below = digits_below 128 (omega arith) (suc count) n in
    record {
      spells = record {
        low = 31;
        leading = refl;
        number = inr (
          refl,
          record {
            chain = chained_chain _ _ below;
            is = digits_spell 128 (omega arith) (suc count) n f.below ∙ sym (number_in-chained (digits 128 (suc count) n));
            below = k;
          },
        );
      };
      shortest = short count f;
      octets = (leading_below _ _ 31 (rank_small tag.class) (bit_small bit) (omega arith), chained_octets (digits 128 (suc count) n) below);
    }
  where
    short : (count : ℕ) → Fewest 128 5 tag.value (suc count)
        → IsShortestIdentifier ((64 * rank tag.class + (32 * bit_of bit + 31)) ∷ chained (digits 128 (suc count) tag.value)) tag
    short zero f = (h, one_group tag.value f.below)
    short (suc j) f = (h, λ e. first_digit 128 5 tag.value (suc j) _ _ (omega arith) f refl (omega arith) (marked _ e))

pub identifier_spells : (tag : Tag) (bit : Bool) → tag.value < 0x1_0000_0000 → Identifier (id_octets tag bit) tag bit
unfolding id_octets
identifier_spells tag bit h = go (ltb tag.value 31) (ltb-true tag.value 31) (ltb-false tag.value 31)
  where
    go : (b : Bool) → (b ≡ true → tag.value < 31) → (b ≡ false → 31 ≤ tag.value)
        → Identifier (cond b ((64 * rank tag.class + (32 * bit_of bit + tag.value)) ∷ [])
        ((64 * rank tag.class + (32 * bit_of bit + 31)) ∷ chained (digits 128 (group_count tag.value) tag.value))) tag bit
    go true p q =
        let k = p refl in
        record {
          spells = record { low = tag.value; leading = refl; number = inl (k, refl, refl) };
          shortest = tt;
          octets = (leading_below _ _ tag.value (rank_small tag.class) (bit_small bit) (omega arith), tt);
        }
    go false p q = long_identifier tag bit (group_count tag.value) (q refl) h (group_fewest tag.value h)

-- What the writer puts round contents.
pub definite_is : (tag : Tag) (bit : Bool) (contents : List ℕ) → tag.value < 0x1_0000_0000 → length contents < 0x1_0000_0000_0000_0000
    → DefiniteForm tag bit contents (definite tag bit contents)
unfolding definite
definite_is tag bit contents h k =
    let i = identifier_spells tag bit h in
    let l = length_spells (length contents) k in
    record {
      id = id_octets tag bit;
      len = length_octets (length contents);
      id_spells = i.spells;
      id_shortest = i.shortest;
      id_octets = i.octets;
      len_spells = l.spells;
      len_shortest = l.shortest;
      len_octets = l.octets;
      is = refl;
    }

pub closed_is : (tag : Tag) (contents : List ℕ) → tag.value < 0x1_0000_0000 → IndefiniteForm tag contents (closed tag contents)
unfolding closed
closed_is tag contents h =
    let i = identifier_spells tag true h in
    record { id = id_octets tag true; id_spells = i.spells; id_shortest = i.shortest; id_octets = i.octets; is = refl }

groups_are : (n count : ℕ) → n < 0x1_0000_0000 → Fewest 128 5 n count → IsSubidentifier (chained (digits 128 count n)) n
unfolding digits chained
groups_are n zero h f = absurd (omega (arith, f.some))
groups_are n (suc count) h f =
    let below = digits_below 128 (omega arith) (suc count) n in
    record {
      spells = record { chain = chained_chain _ _ below; is = digits_spell 128 (omega arith) (suc count) n f.below ∙ sym (number_in-chained (digits 128 (suc count) n)); below = h };
      shortest = short count f;
      octets = chained_octets (digits 128 (suc count) n) below;
    }
  where
    short : (count : ℕ) → Fewest 128 5 n (suc count) → IsShortest128 (chained (digits 128 (suc count) n))
    short zero f = one_group n f.below
    short (suc j) f = λ e. first_digit 128 5 n (suc j) _ _ (omega arith) f refl (omega arith) (marked _ e)

-- The groups of a number are a subidentifier's octets.
pub groups_spell : (n : ℕ) → n < 0x1_0000_0000 → IsSubidentifier (chained (digits 128 (group_count n) n)) n
groups_spell n h = groups_are n (group_count n) h (group_fewest n h)
