-- Values whose identifier and length have one octet each.
use Rattle.std.proofs.Common.{◌≡◌, ◌≢◌, ℕ, ◌-◌, ◌<◌, ◌≤◌, ◌&&◌, Bool, true, false, List, [], ◌∷◌, length, take, drop, Some, Ok, refl, sym, ap, subst, ◌∙◌, get_or, arith}
use Rattle.std.specs.Prelude.{◌%◌, nat_lt, nat_eq}
use Rattle.std.proofs.lemmas.List.{take_all}
use Rattle.std.proofs.lemmas.Bool.Decides.{nat_tests}
use Rattle.rasn_de.specs.declared.ber.de.parser.headers.Spelling.{Spelling}
use Rattle.rasn_types.specs.declared.types.codec.Codec.{Codec}
use Rattle.rasn_types.specs.declared.types.tag.Tag.{Tag}
use Rattle.rasn_types.specs.Framing.{AreOctets, NextTag, definite}
use Rattle.rasn_types.specs.Tags.{form, is_eoc, tag_bit}
use Rattle.rasn_de.specs.Headers.{◌>>=◌, IsPrimitiveIdentifier, tag_of, bit_at, is_longer, identifier_by, tag_number_at, length_at, header_by, header_at, spelled, as_written}
use Rattle.rasn_de.proofs.Headers.NextTag.{next_parsed}
use Rattle.rasn_de.proofs.Headers.Frames.{expected_spelled, as_it_is}

and_false : (a b : Bool) → b ≡ false → a && b ≡ false
and_false true b e = e
and_false false b e = refl

short_identifier : (shortest : Bool) (tag : Tag) (b : ℕ) (l : List ℕ) → IsPrimitiveIdentifier tag b
    → identifier_by shortest (b ∷ l) ≡ Ok (record { tag = tag; bit = false; rest = l })
unfolding identifier_by tag_number_at
short_identifier shortest tag b l (e, v, z, t) =
    let u : b % 64 ≡ tag.value = ap (λ (t : Tag). t.value) e in
    let w : b % 32 ≡ b % 64 = omega arith in
    let a : nat_eq (b % 32) 31 ≡ false = grind (arith, nat_tests) in
    let c : tag_of b (b % 32) ≡ tag = ap (λ (m : ℕ). tag_of b m) w ∙ e in
    let d : bit_at b ≡ false = grind (arith, nat_tests) in
    let k : shortest && is_longer b l (b % 32) ≡ false = and_false shortest _ (rw a refl) in
    let y : is_eoc (tag_of b (b % 32)) ≡ false = ap is_eoc c ∙ z in
    rw a (rw (k, y, c, d) refl)

one_identifier : (shortest : Bool) (b : ℕ) (l : List ℕ) → b % 32 ≢ 31 → is_eoc (tag_of b (b % 32)) ≡ false → identifier_by shortest (b ∷ l) ≡ Ok (record { tag = tag_of b (b % 32); bit = bit_at b; rest = l })
unfolding identifier_by tag_number_at
one_identifier shortest b l v z =
    let a : nat_eq (b % 32) 31 ≡ false = grind (arith, nat_tests) in
    let k : shortest && is_longer b l (b % 32) ≡ false = and_false shortest _ (rw a refl) in
    rw a (rw (k, z) refl)

short_length : (spelling : Spelling) (n : ℕ) (l : List ℕ) → n < 128 → length_at spelling false (n ∷ l) ≡ Ok (Some n, l)
unfolding length_at
short_length spelling n l h =
    let t : nat_lt n 128 ≡ true = grind (arith, nat_tests) in
    rw t refl

short_front : (rule : Codec) (tag : Tag) (b n : ℕ) (l : List ℕ) → IsPrimitiveIdentifier tag b → n < 128 → n ≤ length l
    → header_at (form rule) (as_written rule tag (tag_bit tag)) (b ∷ n ∷ l) ≡ Ok (record { tag = tag; bit = false; extent = definite (take n l); rest = drop n l })
unfolding header_by
short_front rule tag b n l p h k =
    let x = expected_spelled (as_written rule tag (tag_bit tag)) tag false (as_it_is rule tag (tag_bit tag) false (λ s. sym p.3)) in
    let g : nat_lt (length l) n ≡ false = grind (arith, nat_tests) in
    rw (short_identifier (spelled (form rule)).shortest tag b (n ∷ l) p) (rw x (rw (short_length (spelled (form rule)) n l h) (rw g refl)))

-- Such a value is read.
pub short_value : (rule : Codec) (tag : Tag) (l contents rest : List ℕ) → 2 ≤ length l → IsPrimitiveIdentifier tag (get_or l 0 0) → get_or l 1 0 < 128 → get_or l 1 0 ≤ length (take (length l - 2) (drop 2 l))
    → contents ≡ take (get_or l 1 0) (take (length l - 2) (drop 2 l)) → rest ≡ drop (get_or l 1 0) (take (length l - 2) (drop 2 l))
    → header_at (form rule) (as_written rule tag (tag_bit tag)) l ≡ Ok (record { tag = tag; bit = false; extent = definite contents; rest = rest })
short_value rule tag [] contents rest g p h k c r = absurd (omega (arith, g))
short_value rule tag (b ∷ []) contents rest g p h k c r = absurd (omega (arith, g))
short_value rule tag (b ∷ n ∷ l) contents rest g p h k c r =
    let e : take (length (b ∷ n ∷ l) - 2) l ≡ l = take_all _ l (omega arith) in
    rw (c, r, e) (short_front rule tag b n l p h (subst (λ (z : List ℕ). n ≤ length z) e k))

-- An identifier of one octet is the next tag.
pub short_tag : (rule : Codec) (l : List ℕ) → AreOctets l → 1 ≤ length l → get_or l 0 0 % 32 ≢ 31 → is_eoc (tag_of (get_or l 0 0) (get_or l 0 0 % 32)) ≡ false → NextTag (form rule) l (tag_of (get_or l 0 0) (get_or l 0 0 % 32))
short_tag rule [] o g v z = absurd (omega (arith, g))
short_tag rule (b ∷ l) o g v z = next_parsed (form rule) (b ∷ l) _ o (one_identifier (spelled (form rule)).shortest b l v z)
