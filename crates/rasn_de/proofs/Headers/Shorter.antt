-- What is read leaves less.
use Rattle.std.proofs.Common.{◌≡◌, ℕ, ◌+◌, ◌-◌, ◌*◌, ◌%◌, ◌<◌, ◌≤◌, Bool, true, false, ◌&&◌, cond, List, [], ◌∷◌, length, drop, Option, Some, None, Result, Ok, Err, refl, ap, subst, arith, length-drop}
use Rattle.std.specs.Prelude.{nat_lt, nat_le, nat_eq}
use Rattle.rasn_types.specs.declared.types.tag.Tag.{Tag}
use Rattle.rasn_de.specs.declared.ber.de.parser.headers.Spelling.{Spelling}
use Rattle.rasn_de.specs.declared.ber.de.parser.headers.Expected.{Expected}
use Rattle.rasn_de.specs.declared.ber.de.parser.ParseError.{ParseError}
use Rattle.rasn_de.specs.declared.ber.de.parser.ParseError.TheVariants.{UnsupportedTagNumber, IndefiniteLengthNotAllowed, ReservedLengthOctet, Der}
use Rattle.rasn_types.specs.declared.error.decode.DerDecodeErrorKind.TheVariants.{NonMinimalLength}
use Rattle.rasn_types.specs.Tags.{is_eoc}
use Rattle.rasn_de.specs.Headers.{◌>>=◌, number128_at, number256_at, tag_number_at, is_longer, tag_of, Identified, checked_identifier, identifier_by, first_octets, has_spare, long_at, length_at, Header, contents_at, expected_at, header_by}
use Rattle.rasn_de.proofs.Headers.Results.{bind_ok, guarded}

-- a reading leaves no more than there was
abbrev pub Shortens : {X : Type 0} → List ℕ → Result (X × List ℕ) ParseError → Type 0
Shortens l (Ok p) = length p.1 ≤ length l
Shortens l (Err e) = Unit {0}

Shortens-cond : {X : Type 0} (l : List ℕ) (b : Bool) (r s : Result (X × List ℕ) ParseError) → Shortens l r → Shortens l s → Shortens l (cond b r s)
Shortens-cond l true r s p q = p
Shortens-cond l false r s p q = q

Shortens-cons : {X : Type 0} (b : ℕ) (l : List ℕ) (r : Result (X × List ℕ) ParseError) → Shortens l r → Shortens (b ∷ l) r
Shortens-cons b l (Ok p) h = omega (arith, h)
Shortens-cons b l (Err e) h = tt

pub number128_shorter : (wide : ParseError) (n : ℕ) (l : List ℕ) → Shortens l (number128_at wide n l)
unfolding number128_at
number128_shorter wide n [] = tt
number128_shorter wide n (b ∷ l) =
    Shortens-cond (b ∷ l) (nat_le 0x2000000 n) (Err wide) _ tt
    (Shortens-cond (b ∷ l) (nat_lt b 128) (Ok (n * 128 + b, l)) _ (omega arith) (Shortens-cons b l _ (number128_shorter wide (n * 128 + b % 128) l)))

pub tag_number_shorter : (first : ℕ) (l : List ℕ) → Shortens l (tag_number_at first l)
unfolding tag_number_at
tag_number_shorter first l = Shortens-cond l (nat_eq (first % 32) 31) _ (Ok (first % 32, l)) (number128_shorter UnsupportedTagNumber 0 l) (omega arith)

identifier_shorter : (shortest : Bool) (l : List ℕ) (i : Identified) → identifier_by shortest l ≡ Ok i → length i.rest < length l
unfolding identifier_by
identifier_shorter shortest [] i e = cc
identifier_shorter shortest (b ∷ l) i e = go (bind_ok (tag_number_at b l) (checked_identifier shortest b l) i e)
  where
    go : (p : ℕ × List ℕ) × (tag_number_at b l ≡ Ok p) × (checked_identifier shortest b l p ≡ Ok i) → length i.rest < length (b ∷ l)
    go (p, f, g) =
        let k = guarded (is_eoc (tag_of b p.0)) _ _ i g in
        let m = (guarded (shortest && is_longer b l p.0) _ _ i k.1).1 in
        let n : p.1 ≡ i.rest = cc in
        let s : Shortens l (Ok p) = subst (Shortens l) f (tag_number_shorter b l) in
        let t : length p.1 ≡ length i.rest = ap length n in
        omega (arith, s)

octets_shorter : (k : ℕ) (l : List ℕ) (p : List ℕ × List ℕ) → first_octets k l ≡ Ok p → length p.1 ≤ length l
octets_shorter k l p e =
    let g = guarded (nat_lt (length l) k) _ _ p e in
    let f = g.1 in
    let m : drop k l ≡ p.1 = cc in
    let n : length (drop k l) ≡ length p.1 = ap length m in
    omega (arith, length-drop k l)

long_shorter : (shortest : Bool) (k : ℕ) (l : List ℕ) → Shortens l (long_at shortest k l)
unfolding long_at
long_shorter shortest k l = go (first_octets k l) (λ p e. octets_shorter k l p e)
  where
    last : (r : Result ℕ ParseError) (c m : List ℕ) → length m ≤ length l → Shortens l (r >>= λ n. cond (shortest && has_spare c n) (Err (Der NonMinimalLength)) (Ok (Some n, m)))
    last (Ok n) c m h = Shortens-cond l (shortest && has_spare c n) (Err (Der NonMinimalLength)) (Ok (Some n, m)) tt h
    last (Err e) c m h = tt

    go : (r : Result (List ℕ × List ℕ) ParseError) → ((p : List ℕ × List ℕ) → r ≡ Ok p → length p.1 ≤ length l) → Shortens l (r >>= λ p. number256_at 0 p.0 >>= λ n. cond (shortest && has_spare p.0 n) (Err (Der NonMinimalLength)) (Ok (Some n, p.1)))
    go (Ok p) h = last (number256_at 0 p.0) p.0 p.1 (h p refl)
    go (Err e) h = tt

pub length_shorter : (spelling : Spelling) (bit : Bool) (l : List ℕ) → Shortens l (length_at spelling bit l)
unfolding length_at
length_shorter spelling bit [] = tt
length_shorter spelling bit (b ∷ l) =
    Shortens-cond (b ∷ l) (nat_lt b 128) (Ok (Some b, l)) _ (omega arith)
    (Shortens-cond (b ∷ l) (nat_eq b 128) _ _ (Shortens-cond (b ∷ l) (bit && spelling.indefinite) (Ok (None, l)) (Err IndefiniteLengthNotAllowed) (omega arith) tt)
    (Shortens-cond (b ∷ l) (nat_eq b 255) (Err ReservedLengthOctet) _ tt (Shortens-cons b l _ (long_shorter spelling.shortest (b - 128) l))))

contents_shorter : (tag : Tag) (bit : Bool) (n : Option ℕ) (l : List ℕ) (h : Header) → contents_at tag bit n l ≡ Ok h → length h.rest ≤ length l
contents_shorter tag bit None l h e = let m : l ≡ h.rest = cc in let k : length l ≡ length h.rest = ap length m in omega arith
contents_shorter tag bit (Some n) l h e =
    let g = bind_ok (first_octets n l) _ h e in
    let f = g.2 in
    let m : g.0.1 ≡ h.rest = cc in
    let k : length g.0.1 ≡ length h.rest = ap length m in
    omega (arith, octets_shorter n l g.0 g.1)

pub header_shorter : (spelling : Spelling) (expected : Expected) (l : List ℕ) (h : Header) → header_by spelling expected l ≡ Ok h → length h.rest < length l
unfolding header_by
header_shorter spelling expected l h e =
    let i = bind_ok (identifier_by spelling.shortest l) _ h e in
    let u = bind_ok (expected_at expected i.0.tag i.0.bit) _ h i.2 in
    let n = bind_ok (length_at spelling i.0.bit i.0.rest) _ h u.2 in
    let s : Shortens i.0.rest (Ok n.0) = subst (Shortens i.0.rest) n.1 (length_shorter spelling i.0.bit i.0.rest) in
    omega (arith, identifier_shorter spelling.shortest l i.0 i.1, s, contents_shorter i.0.tag i.0.bit n.0.0 n.0.1 h n.2)
