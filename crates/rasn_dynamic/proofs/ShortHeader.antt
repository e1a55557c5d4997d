-- Headers of one identifier octet and up to three length octets.
use Rattle.std.proofs.Common.{arith, ◌≡◌, ◌≢◌, ℕ, zero, suc, ◌+◌, ◌-◌, ◌*◌, ◌/◌, ◌%◌, ◌<◌, ◌≤◌, List, [], ◌∷◌, ◌++◌, length, Bool, true, false, Option, Some, None, IfSome, length-append, refl, sym, ap, subst, ◌∙◌, inl, inr}
use Rattle.std.specs.Prelude.{take, drop, slice_index_or}
use Rattle.std.proofs.lemmas.List.{take-append-drop, length-take-le, take_rest}
use Rattle.rasn_types.specs.declared.types.tag.Class.{Class}
use Rattle.rasn_types.specs.declared.types.tag.Class.TheVariants.{Universal, Application, Context, Private}
use Rattle.rasn_types.specs.declared.types.tag.Tag.{Tag}
use Rattle.rasn_types.specs.Tags.{rank}
use Rattle.rasn_types.specs.Framing.{with_length, SpellsIdentifier, SpellsLength, bit_of, AreOctets}
use Rattle.rasn_schema.proofs.Lists.{split}
use Rattle.rasn_dynamic.specs.Parts.{BeginsWithLength, IsHeader}

class_at : ℕ → Class
class_at zero = Universal
class_at (suc zero) = Application
class_at (suc (suc zero)) = Context
class_at (suc (suc (suc n))) = Private

rank_at : (k : ℕ) → k < 4 → rank (class_at k) ≡ k
unfolding class_at
rank_at zero h = refl
rank_at (suc zero) h = refl
rank_at (suc (suc zero)) h = refl
rank_at (suc (suc (suc n))) h = omega arith

bit_at : ℕ → Bool
bit_at zero = false
bit_at (suc n) = true

bit_is : (k : ℕ) → k < 2 → bit_of (bit_at k) ≡ k
unfolding bit_at
bit_is zero h = refl
bit_is (suc n) h = omega arith

tag_at : ℕ → Tag
tag_at a = record { class = class_at (a / 32 / 2); value = a % 32 }

-- An octet whose number is low is an identifier, unless it is that of universal 0.
identifies : (a : ℕ) → a < 256 → a % 32 < 31 → (a < 64 → a % 32 ≢ 0) → SpellsIdentifier (a ∷ []) (tag_at a) (bit_at (a / 32 % 2))
unfolding tag_at
identifies a small low one =
    let r : rank (class_at (a / 32 / 2)) ≡ a / 32 / 2 = rank_at (a / 32 / 2) (omega arith) in
    let b : bit_of (bit_at (a / 32 % 2)) ≡ a / 32 % 2 = bit_is (a / 32 % 2) (omega arith) in
    record {
      spells = record { low = a % 32; leading = rw (r, b) (omega arith); number = inl (low, refl, refl) };
      is_one = λ e.
          let z : rank (class_at (a / 32 / 2)) ≡ 0 = ap (λ (t : Tag). rank t.class) e in
          let v : a % 32 ≡ 0 = ap (λ (t : Tag). t.value) e in
          one (omega (arith, z, r)) v;
    }

-- Such an octet, length octets, and at least as many octets as they spell.
spelled_header : (a n : ℕ) (len l : List ℕ) → a < 256 → a % 32 < 31 → (a < 64 → a % 32 ≢ 0) → SpellsLength len n → n ≤ length l → IsHeader (a ∷ (len ++ l)) (1 + length len) false
spelled_header a n len l small low one spelled fits =
    let is : length (take n l) ≡ n = length-take-le n l fits in
    let whole : length (take n l) + length (drop n l) ≡ length l = sym (length-append (take n l) (drop n l)) ∙ ap length (take-append-drop n l) in (
      tag_at a,
      bit_at (a / 32 % 2),
      take n l,
      drop n l,
      with_length (a ∷ []) len (take n l) (identifies a small low one) (subst (SpellsLength len) (sym is) spelled) (λ strict. absurd strict) (ap (λ z. a ∷ (len ++ z)) (sym (take-append-drop n l))),
      omega (arith, whole, length-append len l),
    )

split_first : (l : List ℕ) → 1 ≤ length l → l ≡ slice_index_or l 0 0 ∷ take (length l - 1) (drop 1 l)
split_first [] h = absurd (omega (arith, h))
split_first (y ∷ l) h = split (y ∷ l) y h refl

split_two : (l : List ℕ) → 2 ≤ length l → l ≡ slice_index_or l 0 0 ∷ (slice_index_or l 1 0 ∷ take (length l - 2) (drop 2 l))
split_two [] h = absurd (omega (arith, h))
split_two (x ∷ []) h = absurd (omega (arith, h))
split_two (x ∷ (y ∷ l)) h = ap (λ m. x ∷ (y ∷ m)) (sym (take_rest (x ∷ (y ∷ l)) 2))

-- The octets after the first.
abbrev after : List ℕ → List ℕ
after l = take (length l - 1) (drop 1 l)

-- One, two and three length octets.
pub one_octet : (octets : List ℕ) (n : ℕ) → 1 ≤ length octets → slice_index_or octets 0 0 < 128 → (n ≡ 2) × (slice_index_or octets 0 0 ≤ length (after octets)) → BeginsWithLength octets n
one_octet octets n k short h = (slice_index_or octets 0 0 ∷ [], slice_index_or octets 0 0, after octets, split_first octets k, inl (short, refl, refl), h.1, h.0)

pub two_octets : (octets : List ℕ) (n : ℕ) → AreOctets octets → 1 ≤ length octets → slice_index_or octets 0 0 ≡ 129 → 1 ≤ length (after octets)
    → (n ≡ 3) × (slice_index_or (after octets) 0 0 ≤ length (after (after octets))) → BeginsWithLength octets n
two_octets octets n o k e j h =
    let m : ℕ = slice_index_or (after octets) 0 0 in
    let f : octets ≡ slice_index_or octets 0 0 ∷ (m ∷ after (after octets)) = split_first octets k ∙ ap (λ z. slice_index_or octets 0 0 ∷ z) (split_first (after octets) j) in
    let small : m < 256 = (subst AreOctets f o).1.0 in
    (slice_index_or octets 0 0 ∷ (m ∷ []), m, after (after octets), f, inr (e, omega arith, omega arith, omega (arith, small), omega (arith, small)), h.1, h.0)

pub three_octets : (octets : List ℕ) (n : ℕ) → AreOctets octets → 1 ≤ length octets → slice_index_or octets 0 0 ≡ 130 → 2 ≤ length (after octets)
    → (n ≡ 4) × (slice_index_or (after octets) 0 0 * 256 + slice_index_or (after octets) 1 0 ≤ length (take (length (after octets) - 2) (drop 2 (after octets)))) → BeginsWithLength octets n
three_octets octets n o k e j h =
    let a : ℕ = slice_index_or (after octets) 0 0 in
    let b : ℕ = slice_index_or (after octets) 1 0 in
    let rest : List ℕ = take (length (after octets) - 2) (drop 2 (after octets)) in
    let f : octets ≡ slice_index_or octets 0 0 ∷ (a ∷ (b ∷ rest)) = split_first octets k ∙ ap (λ z. slice_index_or octets 0 0 ∷ z) (split_two (after octets) j) in
    let small : a < 256 = (subst AreOctets f o).1.0 in
    let low : b < 256 = (subst AreOctets f o).1.1.0 in
    (slice_index_or octets 0 0 ∷ (a ∷ (b ∷ [])), a * 256 + b, rest, f, inr (e, omega arith, omega arith, omega (arith, small, low), omega (arith, small, low)), h.1, h.0)

-- Length octets after an octet that is an identifier.
pub is_short : (octets : List ℕ) (n : ℕ) → AreOctets octets → 1 ≤ length octets → (slice_index_or octets 0 0 % 32 < 31) × (slice_index_or octets 0 0 < 64 → slice_index_or octets 0 0 % 32 ≢ 0)
    → BeginsWithLength (after octets) n → IsHeader octets n false
is_short octets n o k one b =
    let a : ℕ = slice_index_or octets 0 0 in
    let e : octets ≡ a ∷ (b.0 ++ b.2) = split_first octets k ∙ ap (λ m. a ∷ m) b.3 in
    let small : a < 256 = (subst AreOctets (split_first octets k) o).0 in
    subst (λ l. IsHeader l n false) (sym e) (subst (λ m. IsHeader (a ∷ (b.0 ++ b.2)) m false) (sym b.6) (spelled_header a b.1 b.0 b.2 small one.0 one.1 b.4 b.5))

-- What holds of a number, if there is one, holds in other words.
pub some_more : {P Q : ℕ → Type 0} (r : Option ℕ) → ((n : ℕ) → P n → Q n) → IfSome r P → IfSome r Q
some_more None f h = h
some_more (Some n) f h = f n h
