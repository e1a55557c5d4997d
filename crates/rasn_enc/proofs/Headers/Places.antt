-- How long headers are, and how their digits are written place by place.
use Rattle.std.proofs.Common.{◌≡◌, ℕ, zero, suc, ◌+◌, ◌-◌, ◌*◌, ◌^◌, ◌%◌, ◌/◌, ◌<◌, ◌≤◌, Bool, List, [], ◌∷◌, ◌++◌, length, refl, sym, ap, ◌∙◌, arith, append_assoc}
use Rattle.std.proofs.lemmas.Bool.{lt-ltb, le-ltb}
use Rattle.rasn_types.specs.Tags.{rank}
use Rattle.rasn_types.specs.Framing.{bit_of}
use Rattle.std.proofs.Math.Nat.{pow-succ'}
use Rattle.std.proofs.lemmas.Nat.{pow-add}
use Rattle.rasn_types.specs.declared.types.tag.Tag.{Tag}
use Rattle.rasn_enc.specs.Headers.{digits, chained, group_count, octet_count, id_octets, length_octets}
use Rattle.rasn_enc.proofs.Headers.Spellings.{length-digits, length-chained}

pub two_128 : (k : ℕ) → 2 ^ (7 * k) ≡ 128 ^ k
two_128 zero = refl
two_128 (suc k) = ap (λ z. 2 ^ z) (more k) ∙ (pow-add 2 7 (7 * k) ∙ (ap (λ z. 128 * z) (two_128 k) ∙ sym (pow-succ' 128 k)))
  where
    more : (k : ℕ) → 7 * suc k ≡ 7 + 7 * k
    more k = omega arith

pub two_256 : (k : ℕ) → 2 ^ (8 * k) ≡ 256 ^ k
two_256 zero = refl
two_256 (suc k) = ap (λ z. 2 ^ z) (more k) ∙ (pow-add 2 8 (8 * k) ∙ (ap (λ z. 256 * z) (two_256 k) ∙ sym (pow-succ' 256 k)))
  where
    more : (k : ℕ) → 8 * suc k ≡ 8 + 8 * k
    more k = omega arith

pub octets_step : (k n : ℕ) → 0 < k → digits 256 k n ≡ (n / 256 ^ (k - 1) % 256) ∷ digits 256 (k - 1) n
unfolding digits
octets_step zero n h = absurd (omega arith)
octets_step (suc k) n h = let e : suc k - 1 ≡ k = omega arith in rw e refl

pub groups_step : (k n : ℕ) → 1 < k → chained (digits 128 k n) ≡ (128 + n / 128 ^ (k - 1) % 128) ∷ chained (digits 128 (k - 1) n)
unfolding digits chained
groups_step zero n h = absurd (omega arith)
groups_step (suc zero) n h = absurd (omega arith)
groups_step (suc (suc k)) n h = let e : suc (suc k) - 1 ≡ suc k = omega arith in rw e refl

pub groups_last : (k n : ℕ) → k ≡ 1 → chained (digits 128 k n) ≡ n % 128 ∷ []
unfolding digits chained
groups_last k n e = rw e (ap (λ z. z % 128 ∷ []) (by_one n))
  where
    by_one : (n : ℕ) → n / 1 ≡ n
    by_one n = omega arith

pub octets_none : (k n : ℕ) → k ≡ 0 → digits 256 k n ≡ []
unfolding digits
octets_none k n e = rw e refl

-- One octet is written, and more after it.
pub appended_one : (out new octets : List ℕ) (d e : ℕ) → new ≡ out ++ d ∷ [] → d ≡ e → octets ≡ e ∷ [] → new ≡ out ++ octets
appended_one out new octets d e p q r = p ∙ ap (λ l. out ++ l) (ap (λ z. z ∷ []) q ∙ sym r)

pub appended_more : (out middle new octets more : List ℕ) (d e : ℕ) → middle ≡ out ++ d ∷ [] → d ≡ e → new ≡ middle ++ more → octets ≡ e ∷ more → new ≡ out ++ octets
appended_more out middle new octets more d e p q f g =
    f ∙ (ap (λ l. l ++ more) p ∙ (append_assoc out (d ∷ []) more ∙ ap (λ l. out ++ l) (ap (λ z. z ∷ more) q ∙ sym g)))

-- One more digit is written.
pub moves : (out new all rest more : List ℕ) (d : ℕ) → rest ≡ d ∷ more → out ++ rest ≡ all → new ≡ out ++ d ∷ [] → new ++ more ≡ all
moves out new all rest more d e f g = rw (g, append_assoc) (rw e at f)

-- The two forms of an identifier, and of a length.
pub id_low : (tag : Tag) (bit : Bool) → tag.value < 31 → id_octets tag bit ≡ (64 * rank tag.class + (32 * bit_of bit + tag.value)) ∷ []
unfolding id_octets
id_low tag bit h = rw (lt-ltb tag.value 31 h) refl

pub id_high : (tag : Tag) (bit : Bool) → 31 ≤ tag.value
    → id_octets tag bit ≡ (64 * rank tag.class + (32 * bit_of bit + 31)) ∷ chained (digits 128 (group_count tag.value) tag.value)
unfolding id_octets
id_high tag bit h = rw (le-ltb tag.value 31 h) refl

pub length_low : (n : ℕ) → n < 128 → length_octets n ≡ n ∷ []
unfolding length_octets
length_low n h = rw (lt-ltb n 128 h) refl

pub length_high : (n : ℕ) → 128 ≤ n → length_octets n ≡ (128 + octet_count n) ∷ digits 256 (octet_count n) n
unfolding length_octets
length_high n h = rw (le-ltb n 128 h) refl

pub length-id_low : (tag : Tag) → tag.value < 31 → (bit : Bool) → length (id_octets tag bit) ≡ 1
length-id_low tag h bit = ap length (id_low tag bit h)

pub length-id_high : (tag : Tag) → 31 ≤ tag.value → (bit : Bool) → length (id_octets tag bit) ≡ 1 + group_count tag.value
length-id_high tag h bit =
    let e = ap length (id_high tag bit h) in
    let f = length-chained (digits 128 (group_count tag.value) tag.value) in
    let g = length-digits 128 (group_count tag.value) tag.value in
    omega arith

pub length-length_high : (n : ℕ) → 128 ≤ n → length (length_octets n) ≡ 1 + octet_count n
length-length_high n h =
    let e = ap length (length_high n h) in
    let f = length-digits 256 (octet_count n) n in
    omega arith
