-- An identifier and a length read octet by octet are those that the octets spell.
use Rattle.std.proofs.Common.{◌≡◌, ◌≢◌, ℕ, ◌+◌, ◌*◌, ◌/◌, ◌^◌, ◌%◌, ◌<◌, ◌≤◌, ◌⊎◌, inl, inr, Bool, true, false, ◌&&◌, cond, List, [], ◌∷◌, ◌++◌, length, Result, Ok, refl, sym, ap, ap₂, ◌∙◌, subst, arith}
use Rattle.std.specs.Prelude.{nat_le, nat_lt, nat_eq, ◌||◌}
use Rattle.std.proofs.lemmas.Bool.Decides.{nat_tests}
use Rattle.rasn_types.specs.declared.types.tag.Tag.{Tag}
use Rattle.rasn_types.specs.declared.types.tag.Class.{Class}
use Rattle.rasn_types.specs.declared.types.tag.Class.TheVariants.{Universal, Application, Context, Private}
use Rattle.rasn_types.specs.Tags.{Form, basic_form, der_form, loose_form, HasStrictForm, rank, eoc, is_universal, is_eoc}
use Rattle.rasn_de.specs.declared.ber.de.parser.ParseError.{ParseError}
use Rattle.rasn_de.specs.declared.ber.de.parser.ParseError.TheVariants.{UnsupportedTagNumber}
use Rattle.rasn_types.proofs.Headers.Frames.{rank_small, bit_small}
use Rattle.rasn_types.specs.Framing.{number_in, Spells128, bit_of, SpellsIdentifier, IsShortestIdentifier}
use Rattle.rasn_de.specs.Headers.{class_of, tag_of, bit_at, number128_at, spelled, tag_number_at, is_longer, Identified, checked_identifier, identifier_by, identifier_at}
use Rattle.rasn_de.proofs.Headers.Results.{bind_ok, chosen, guarded, AreOctets}
use Rattle.rasn_de.proofs.Headers.Numbers.{number128_parsed, number128_spelled}

-- the tag number after a first octet
abbrev pub IsTagNumber : ℕ → List ℕ → ℕ → Type 0
IsTagNumber low more n = ((low < 31) × (more ≡ []) × (n ≡ low)) ⊎ ((low ≡ 31) × Spells128 more n)

-- The forms whose spellings are the shortest ones, as the code tells them.
pub strict_shortest : (spelling : Form) → (spelled spelling).shortest ≡ true → HasStrictForm spelling
strict_shortest basic_form e = cc
strict_shortest der_form e = tt
strict_shortest loose_form e = cc

pub shortest_strict : (spelling : Form) → HasStrictForm spelling → (spelled spelling).shortest ≡ true
shortest_strict basic_form h = absurd h
shortest_strict der_form h = refl
shortest_strict loose_form h = absurd h

-- what a shortest spelling alone is asked for
pub expected_false : (s x : Bool) → (s ≡ true → x ≡ false) → s && x ≡ false
expected_false true x h = h refl
expected_false false x h = refl

pub false_expected : (s x : Bool) → s && x ≡ false → s ≡ true → x ≡ false
false_expected true x h e = h
false_expected false x h e = cc

pub neither_true : (a b : Bool) → a || b ≡ false → (a ≡ false) × (b ≡ false)
neither_true true b e = cc
neither_true false b e = (refl, e)

pub tag_number_parsed : (first : ℕ) (l : List ℕ) (p : ℕ × List ℕ) → tag_number_at first l ≡ Ok p
    → (more : List ℕ) × IsTagNumber (first % 32) more p.0 × (l ≡ more ++ p.1)
unfolding tag_number_at
tag_number_parsed first l p e = go (chosen (nat_eq (first % 32) 31) _ _ _ e)
  where
    go : ((nat_eq (first % 32) 31 ≡ true) × (number128_at UnsupportedTagNumber 0 l ≡ Ok p)) ⊎ ((nat_eq (first % 32) 31 ≡ false) × (◌≡◌ {A = Result (ℕ × List ℕ) ParseError} (Ok (first % 32, l)) (Ok p)))
        → (more : List ℕ) × IsTagNumber (first % 32) more p.0 × (l ≡ more ++ p.1)
    go (inl (t, f)) =
        let k : first % 32 ≡ 31 = grind (arith, nat_tests) in
        let s = number128_parsed UnsupportedTagNumber 0 l p f in
        (s.front, inr (k, record { chain = s.chain; is = s.number ∙ omega arith; below = s.below }), s.is)
    go (inr (t, f)) =
        let k : first % 32 ≢ 31 = grind (arith, nat_tests) in
        let g : (first % 32, l) ≡ p = cc in
        let g0 : first % 32 ≡ p.0 = ap (λ (z : ℕ × List ℕ). z.0) g in
        let g1 : l ≡ p.1 = ap (λ (z : ℕ × List ℕ). z.1) g in
        ([], inl (omega arith, refl, sym g0), g1)

pub tag_number_spelled : (first low : ℕ) (more rest : List ℕ) (n : ℕ) → first % 32 ≡ low → IsTagNumber low more n
    → tag_number_at first (more ++ rest) ≡ Ok (n, rest)
unfolding tag_number_at
tag_number_spelled first low more rest n e (inl (h, p, q)) =
    let t : nat_eq (first % 32) 31 ≡ false = grind (arith, nat_tests) in
    rw (t, p, q, e) refl
tag_number_spelled first low more rest n e (inr (h, s)) =
    let t : nat_eq (first % 32) 31 ≡ true = grind (arith, nat_tests) in
    let f : 0 * 128 ^ length more + number_in 128 more ≡ n = sym (s.is ∙ omega arith) in
    let g = number128_spelled UnsupportedTagNumber 0 more rest s.chain (subst (λ z. z < 2 ^ 32) (sym f) s.below) ∙ ap (λ z. Ok (z, rest)) f in
    rw t g

-- A spelling that isn't longer than another is the shortest one.
short_parsed : (first : ℕ) (more rest : List ℕ) (tag : Tag) → IsTagNumber (first % 32) more tag.value → is_longer first (more ++ rest) tag.value ≡ false → IsShortestIdentifier (first ∷ more) tag
short_parsed first more rest tag (inl (h, e, k)) f = subst (λ z. IsShortestIdentifier (first ∷ z) tag) (sym e) tt
short_parsed first [] rest tag (inr (k, s)) f = absurd s.chain
short_parsed first (b ∷ more) rest tag (inr (k, s)) f =
    let t : nat_eq (first % 32) 31 ≡ true = grind (arith, nat_tests) in
    let g = neither_true (nat_eq b 128) (nat_lt tag.value 31) (subst (λ z. z && (nat_eq b 128 || nat_lt tag.value 31) ≡ false) t f) in
    let g0 = g.0 in
    let g1 = g.1 in
    let m : 31 ≤ tag.value = grind (arith, nat_tests) in
    let n : b ≢ 128 = grind (arith, nat_tests) in
    (m, n)

short_spelled : (first : ℕ) (more rest : List ℕ) (tag : Tag) → IsTagNumber (first % 32) more tag.value → IsShortestIdentifier (first ∷ more) tag → is_longer first (more ++ rest) tag.value ≡ false
short_spelled first more rest tag (inl (h, e, k)) i = let t : nat_eq (first % 32) 31 ≡ false = grind (arith, nat_tests) in rw t refl
short_spelled first [] rest tag (inr (k, s)) i = absurd s.chain
short_spelled first (b ∷ more) rest tag (inr (k, s)) i =
    let i0 = i.0 in
    let i1 = i.1 in
    let t : nat_eq (first % 32) 31 ≡ true = grind (arith, nat_tests) in
    let u : nat_eq b 128 ≡ false = grind (arith, nat_tests) in
    let v : nat_lt tag.value 31 ≡ false = grind (arith, nat_tests) in
    rw (t, u, v) refl

pub class_rank : (n : ℕ) → n < 4 → rank (class_of n) ≡ n
class_rank n h = go (nat_eq n 0) refl (nat_eq n 1) refl (nat_eq n 2) refl
  where
    go : (a : Bool) → nat_eq n 0 ≡ a → (b : Bool) → nat_eq n 1 ≡ b → (c : Bool) → nat_eq n 2 ≡ c → rank (cond a Universal (cond b Application (cond c Context Private))) ≡ n
    go true e b f c g = grind (arith, nat_tests)
    go false e true f c g = grind (arith, nat_tests)
    go false e false f true g = grind (arith, nat_tests)
    go false e false f false g = grind (arith, nat_tests)

pub rank_class : (c : Class) (n : ℕ) → n ≡ rank c → class_of n ≡ c
rank_class Universal n e = rw e refl
rank_class Application n e = rw e refl
rank_class Context n e = rw e refl
rank_class Private n e = rw e refl

pub bit_value : (n : ℕ) → bit_of (nat_le 32 n) ≡ n / 32 → Unit {0}
bit_value n e = tt

bit_true : (n : ℕ) → n < 64 → 32 * bit_of (nat_le 32 n) + n % 32 ≡ n
bit_true n h = go (nat_le 32 n) refl
  where
    go : (b : Bool) → nat_le 32 n ≡ b → 32 * bit_of b + n % 32 ≡ n
    go true e = let k : 32 ≤ n = grind (arith, nat_tests) in omega arith
    go false e = let k : n < 32 = grind (arith, nat_tests) in omega arith

leading : (b c d : ℕ) → c ≡ b / 64 → d + b % 64 % 32 ≡ b % 64 → b ≡ 64 * c + (d + b % 32)
leading b c d e f = omega arith

eoc_is : (tag : Tag) → is_eoc tag ≡ false → tag ≢ eoc
eoc_is tag h e = let f : is_eoc tag ≡ is_eoc eoc = ap is_eoc e in let g : is_eoc eoc ≡ true = refl in cc

pub tag_is : (s t : Tag) → s.class ≡ t.class → s.value ≡ t.value → s ≡ t
tag_is s t p q = ap₂ make p q
  where
    make : Class → ℕ → Tag
    make c n = record { class = c; value = n }

not_eoc : (tag : Tag) → tag ≢ eoc → is_eoc tag ≡ false
not_eoc tag h = go tag.class refl (nat_eq tag.value 0) refl
  where
    go : (c : Class) → tag.class ≡ c → (b : Bool) → nat_eq tag.value 0 ≡ b → is_universal c && b ≡ false
    go Universal e true f = let k : tag.value ≡ 0 = grind (arith, nat_tests) in absurd (h (tag_is tag eoc e k))
    go Universal e false f = refl
    go Application e b f = refl
    go Context e b f = refl
    go Private e b f = refl

pub record SpelledId (spelling : Form) (l : List ℕ) (i : Identified) : Type 0 where
  pub front : List ℕ
  pub spells : SpellsIdentifier front i.tag i.bit
  pub shortest : HasStrictForm spelling → IsShortestIdentifier front i.tag
  pub is : l ≡ front ++ i.rest

pub identifier_parsed : (spelling : Form) (l : List ℕ) (i : Identified) → AreOctets l → identifier_at spelling l ≡ Ok i → SpelledId spelling l i
unfolding identifier_by
identifier_parsed spelling [] i o e = cc
identifier_parsed spelling (b ∷ l) i o e = go (bind_ok (tag_number_at b l) (checked_identifier (spelled spelling).shortest b l) i e)
  where
    go : (p : ℕ × List ℕ) × (tag_number_at b l ≡ Ok p) × (checked_identifier (spelled spelling).shortest b l p ≡ Ok i) → SpelledId spelling (b ∷ l) i
    go (p, t, f) =
        let g = guarded (is_eoc (tag_of b p.0)) _ _ i f in
        let k = guarded ((spelled spelling).shortest && is_longer b l p.0) _ _ i g.1 in
        let s = tag_number_parsed b l p t in
        let n = k.1 in
        let short = λ (h : HasStrictForm spelling). short_parsed b s.0 p.1 (tag_of b p.0) s.1
        (subst (λ z. is_longer b z p.0 ≡ false) s.2 (false_expected (spelled spelling).shortest (is_longer b l p.0) k.0 (shortest_strict spelling h))) in
        let m : record { tag = tag_of b p.0; bit = bit_at b; rest = p.1 } ≡ i = cc in
        subst (λ z. SpelledId spelling (b ∷ l) z) m (record {
          front = b ∷ s.0;
          spells = record {
            spells = record { low = b % 32; leading = leading b (rank (class_of (b / 64))) (32 * bit_of (nat_le 32 (b % 64))) (class_rank (b / 64) (omega (arith, o.0))) (bit_true (b % 64) (omega arith)); number = s.1 };
            is_one = eoc_is (tag_of b p.0) g.0;
          };
          shortest = short;
          is = ap (λ z. b ∷ z) s.2;
        })

first_parts : (b c d low : ℕ) → c < 4 → d < 2 → low < 32 → b ≡ 64 * c + (32 * d + low) → (b / 64 ≡ c) × (b % 64 ≡ 32 * d + low) × (b % 32 ≡ low)
first_parts b c d low h k m e = (omega arith, omega arith, omega arith)

bit_back : (b : Bool) (n low : ℕ) → low < 32 → n ≡ 32 * bit_of b + low → nat_le 32 n ≡ b
bit_back true n low h e = let k : 32 ≤ n = omega arith in grind (arith, nat_tests)
bit_back false n low h e = let k : n < 32 = omega arith in grind (arith, nat_tests)

low_small : (more : List ℕ) (n low : ℕ) → IsTagNumber low more n → low < 32
low_small more n low (inl h) = omega (arith, h.0)
low_small more n low (inr h) = omega (arith, h.0)

pub identifier_spelled : (spelling : Form) (front rest : List ℕ) (tag : Tag) (bit : Bool) → SpellsIdentifier front tag bit → (HasStrictForm spelling → IsShortestIdentifier front tag)
    → identifier_at spelling (front ++ rest) ≡ Ok (record { tag = tag; bit = bit; rest = rest })
unfolding identifier_by
identifier_spelled spelling [] rest tag bit i short = absurd i.spells
identifier_spelled spelling (b ∷ more) rest tag bit i short =
    let h = i.spells in
    let s = low_small more tag.value h.low h.number in
    let q = first_parts b (rank tag.class) (bit_of bit) h.low (rank_small tag.class) (bit_small bit) s h.leading in
    let n = tag_number_spelled b h.low more rest tag.value q.2 h.number in
    let c : tag_of b tag.value ≡ tag = tag_is (tag_of b tag.value) tag (rank_class tag.class (b / 64) q.0) refl in
    let d : bit_at b ≡ bit = bit_back bit (b % 64) h.low s q.1 in
    let z : is_eoc (tag_of b tag.value) ≡ false = ap is_eoc c ∙ not_eoc tag i.is_one in
    let k = expected_false (spelled spelling).shortest (is_longer b (more ++ rest) tag.value)
    (λ e. short_spelled b more rest tag (subst (λ z. IsTagNumber z more tag.value) (sym q.2) h.number) (short (strict_shortest spelling e))) in
    rw (n, z, k, c, d) refl
