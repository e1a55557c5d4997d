-- JSON of a REAL is read as this value.
use Rattle.std.proofs.Common.{◌≡◌, ◌≢◌, ℕ, zero, suc, ◌+◌, ◌*◌, ◌/◌, ◌%◌, ◌^◌, ◌<◌, ◌≤◌, Bool, true, false, cond, ◌==◌, ℤ, pos, negsuc, neg_ℤ, ◌+ℤ◌, ◌-ℤ◌, ◌≤ℤ◌, ◌<ℤ◌, List, [], ◌∷◌, ◌++◌, length, drop, get_or, Some, inl, inr, rules, refl, sym, ap, ap₂, ◌∙◌, subst, arith, append-nil, append_assoc}
use Rattle.std.specs.Prelude.{All, max, codes, nat_lt}
use Rattle.std.specs.Float.{Float, fin, binary64}
use Rattle.std.specs.Float.Parse.{parse_float}
use Rattle.std.specs.Fmt.{decimal, signed_decimal, digit_glyph}
use Rattle.std.proofs.Math.Nat.{pow-le-pow_right}
use Rattle.std.proofs.lemmas.Float.Parse.{parse_float_on_literals}
use Rattle.std.proofs.lemmas.Fmt.{decimal_is_IsNumeral, decimal_injective, decimal_by_steps_wide, signed_decimal_injective}
use Rattle.std.proofs.lemmas.Int.{ints}
use Rattle.std.proofs.lemmas.List.Elements.{All-nil, All-cons, All-head, All-tail, All-append}
use lib.Ieee.{to_bits}
use lib.Signed.{mag}
use Rattle.json.specs.Json.{Json, number, string}
use Rattle.rasn_types.specs.Framing.{bit_of, number_in, AreOctets}
use Rattle.rasn_types.specs.Text.{hexadecimal}
use Rattle.rasn_types.specs.Contents.{signed, IsDigit, IsSign, number_of_digits, with_sign, sign_text, IsFraction, IsExponent, IsOfForm, IsDecimal, SpellsDigits, IsCanonicalBinary, IsCanonicalDecimal, Real, plus_zero, minus_zero, plus_infinity, minus_infinity, not_a_number, binary, CanonicalReal}
use Rattle.rasn_types.specs.Contents as contents
use Rattle.rasn_types.proofs.Integer.TwosComplement.{within_octets}
use Rattle.rasn_types.proofs.Reals.{bit_low, canonical_contents, canonical_one, decimal_one, grown, odd_one, run_one, spelled}
use Rattle.rasn_schema.specs.declared.real.Real.TheVariants.{Zero, MinusZero, Infinity, MinusInfinity, NotANumber, Binary, Decimal}
use Rattle.rasn_schema.specs.RealShown.{after_mantissa, base_text, exponent_text, mantissa_text, number_text}
use Rattle.rasn_schema.specs.Reals.{IsDouble, IsEqualTo, IsOfBits, IsOfNumeral, IsWholeText, significand}
use Rattle.rasn_json.specs.Reals.{base_ten, decimal_text, RealJson, RealRead, SpecialRead}
use Rattle.rasn_json.proofs.RealTexts.{are_digits, zero_digit}

-- Octets of one value are the same.
octets_of_one : (r : Real) (a b : List ℕ) → CanonicalReal a r → CanonicalReal b r → a ≡ b
octets_of_one r a b h k = canonical_one a a b r r (canonical_contents r a h) (canonical_contents r a h) h k

-- ---- bits of an `f64`

some_power : (m k : ℕ) → m % 2 ≡ 1 → 0 < m * 2 ^ k
some_power m zero o = omega arith
some_power m (suc k) o = let g = grown 2 m k in let r = some_power m k o in omega arith

-- A number isn't zero.
no_zero : (bits : ℕ) (b : Bool) (m : ℕ) (e : ℤ) (h : IsDouble bits b m e) → m % 2 ≡ 1 → 2 ^ 52 * h.scale + h.fraction ≡ 0 → ⊥
no_zero bits b m e h o z =
    let s : h.scale ≡ 0 = omega arith in
    let f : h.fraction ≡ 0 = omega arith in
    let v : 0 ≡ m * 2 ^ h.shift = sym (ap₂ significand s f) ∙ h.value in
    let p = some_power m h.shift o in
    omega arith

same_parts : (a b c d s t : ℕ) → a < 2 → b < 2 → s < 2047 → t < 2047 → c < 2 ^ 52 → d < 2 ^ 52 → 2 ^ 63 * a + (2 ^ 52 * s + c) ≡ 2 ^ 63 * b + (2 ^ 52 * t + d) → (a ≡ b) × (s ≡ t) × (c ≡ d)
same_parts a b c d s t ha hb hs ht hc hd e = (omega arith, omega arith, omega arith)

same_sign : (a b : Bool) → bit_of a ≡ bit_of b → a ≡ b
same_sign false false e = refl
same_sign false true e = absurd (omega arith)
same_sign true false e = absurd (omega arith)
same_sign true true e = refl

two_doubles : (bits : ℕ) (b c : Bool) (m n : ℕ) (d e : ℤ) → IsDouble bits b m d → IsDouble bits c n e → m % 2 ≡ 1 → n % 2 ≡ 1 → binary b m d ≡ binary c n e
two_doubles bits b c m n d e h k o p =
    let t = same_parts (bit_of b) (bit_of c) h.fraction k.fraction h.scale k.scale (bit_low b) (bit_low c) h.finite k.finite h.short k.short (sym h.is ∙ k.is) in
    let v : m * 2 ^ h.shift ≡ n * 2 ^ k.shift = sym h.value ∙ (ap₂ significand t.1 t.2 ∙ k.value) in
    let r = odd_one m n h.shift k.shift o p v in
    let x : d ≡ e = h.exponent ∙ (ap₂ (λ y z. pos (max 1 y + z) -ℤ pos 1075) t.1 r.1 ∙ sym k.exponent) in
    ap (λ z. binary z m d) (same_sign b c t.0) ∙ (ap (λ z. binary c z d) r.0 ∙ ap (λ z. binary c n z) x)

double_bits_are : (bits : ℕ) (b : Bool) (m : ℕ) (e : ℤ) (h : IsDouble bits b m e) → (2 ^ 52 * h.scale + h.fraction < 2047 * 2 ^ 52) × (bits % 2 ^ 63 ≡ 2 ^ 52 * h.scale + h.fraction)
double_bits_are bits b m e h = let t = bit_low b in let f = h.finite in let s = h.short in let i = h.is in (omega arith, omega arith)

double_once : (bits : ℕ) (b : Bool) (m : ℕ) (e : ℤ) (r : Real) (octets : List ℕ) → IsDouble bits b m e → m % 2 ≡ 1 → CanonicalReal octets r → IsEqualTo r bits → binary b m e ≡ r
double_once bits b m e plus_zero octets h o c q = let d = double_bits_are bits b m e h in absurd (no_zero bits b m e h o (omega (arith, d.1)))
double_once bits b m e minus_zero octets h o c q = let d = double_bits_are bits b m e h in absurd (no_zero bits b m e h o (omega (arith, d.1)))
double_once bits b m e plus_infinity octets h o c q = let d = double_bits_are bits b m e h in absurd (omega (arith, d.0, d.1))
double_once bits b m e minus_infinity octets h o c q = let d = double_bits_are bits b m e h in absurd (omega (arith, d.0, d.1))
double_once bits b m e not_a_number octets h o c q = let d = double_bits_are bits b m e h in absurd (omega (arith, d.0, d.1))
double_once bits b m e (binary a n d) octets h o c q = two_doubles bits b a m n e d h q o c.odd
double_once bits b m e (contents.decimal a n d) octets h o c q = absurd q

zero_once : (bits : ℕ) (octets : List ℕ) → bits ≡ 0 → IsOfBits bits octets → octets ≡ []
zero_once bits octets e (plus_zero, c, q) = c
zero_once bits octets e (minus_zero, c, q) = absurd (omega (arith, q))
zero_once bits octets e (plus_infinity, c, q) = absurd (omega (arith, q))
zero_once bits octets e (minus_infinity, c, q) = absurd (omega (arith, q))
zero_once bits octets e (not_a_number, c, q) = absurd (omega (arith, q))
zero_once bits octets e (binary b m d, c, q) = let k = double_bits_are bits b m d q in absurd (no_zero bits b m d q c.odd (omega (arith, k.1)))
zero_once bits octets e (contents.decimal b m d, c, q) = absurd q

pub zero_read : parse_float binary64 (codes "0") ≡ Some (fin false 0 (pos 0))
unfolding parse_float_on_literals
zero_read = search rules

pub zero_bits : to_bits binary64 (fin false 0 (pos 0)) ≡ 0
unfolding to_bits
zero_bits = refl

-- ---- texts in value notation

some_is_one : {X : Type 0} (x y : X) → Some x ≡ Some y → x ≡ y
some_is_one x y e = cc

glyph_low : (d : ℕ) → 48 ≤ digit_glyph true d
glyph_low d = grind arith

glyph_one : (x y : ℕ) → digit_glyph true x ≡ digit_glyph true y → x ≡ y
glyph_one x y e = grind arith

hex_one : (m n : List ℕ) → hexadecimal m ≡ hexadecimal n → m ≡ n
hex_one [] [] e = refl
hex_one [] (b ∷ n) e = absurd cc
hex_one (a ∷ m) [] e = absurd cc
hex_one (a ∷ m) (b ∷ n) e =
    let high : digit_glyph true (a / 16) ≡ digit_glyph true (b / 16) = cc in
    let low : digit_glyph true (a % 16) ≡ digit_glyph true (b % 16) = cc in
    let rest : hexadecimal m ≡ hexadecimal n = cc in
    let h = glyph_one (a / 16) (b / 16) high in
    let l = glyph_one (a % 16) (b % 16) low in
    ap₂ ◌∷◌ (omega arith) (hex_one m n rest)

abbrev IsHigh : ℕ → Type 0
IsHigh c = 48 ≤ c

hex_high : (m : List ℕ) → All IsHigh (hexadecimal m)
hex_high [] = All-nil IsHigh
hex_high (b ∷ m) = All-cons IsHigh (digit_glyph true (b / 16)) (digit_glyph true (b % 16) ∷ hexadecimal m) (glyph_low (b / 16)) (All-cons IsHigh (digit_glyph true (b % 16)) (hexadecimal m) (glyph_low (b % 16)) (hex_high m))

decimal_digits : (n : ℕ) → n < 2 ^ 64 → All IsDigit (decimal n)
decimal_digits n h = are_digits (decimal n) (decimal_is_IsNumeral n h).0.1

high_digits : (l : List ℕ) → All IsDigit l → All IsHigh l
high_digits [] h = All-nil IsHigh
high_digits (c ∷ l) h = All-cons IsHigh c l (All-head IsDigit c l h).0 (high_digits l (All-tail IsDigit c l h))

abbrev chosen : Bool → List ℕ → List ℕ
chosen b m = cond b (decimal (number_in 256 m)) (codes "0x" ++ hexadecimal m)

told_small : (n k : ℕ) → nat_lt n k ≡ true → n < k
told_small n k e = grind arith

high_chosen : (b : Bool) (m : List ℕ) → nat_lt (number_in 256 m) (2 ^ 64) ≡ b → All IsHigh (chosen b m)
high_chosen true m e = high_digits (decimal (number_in 256 m)) (decimal_digits (number_in 256 m) (told_small (number_in 256 m) (2 ^ 64) e))
high_chosen false m e = All-cons IsHigh 48 (120 ∷ hexadecimal m) (omega arith) (All-cons IsHigh 120 (hexadecimal m) (omega arith) (hex_high m))

no_hex : (n : ℕ) (l : List ℕ) → n < 2 ^ 64 → decimal n ≡ 48 ∷ 120 ∷ l → ⊥
no_hex n l h e = let d = All-head IsDigit 120 l (All-tail IsDigit 48 (120 ∷ l) (subst (All IsDigit) e (decimal_digits n h))) in omega (arith, d.1)

one_chosen : (b c : Bool) (m n : List ℕ) → nat_lt (number_in 256 m) (2 ^ 64) ≡ b → nat_lt (number_in 256 n) (2 ^ 64) ≡ c → chosen b m ≡ chosen c n → number_in 256 m ≡ number_in 256 n
one_chosen true true m n h k e = decimal_injective (number_in 256 m) (number_in 256 n) (told_small (number_in 256 m) (2 ^ 64) h) (told_small (number_in 256 n) (2 ^ 64) k) e
one_chosen true false m n h k e = absurd (no_hex (number_in 256 m) (hexadecimal n) (told_small (number_in 256 m) (2 ^ 64) h) e)
one_chosen false true m n h k e = absurd (no_hex (number_in 256 n) (hexadecimal m) (told_small (number_in 256 n) (2 ^ 64) k) (sym e))
one_chosen false false m n h k e = ap (number_in 256) (hex_one m n (ap (drop 2) e))

abbrev StartsLow : List ℕ → Type 0
StartsLow [] = ⊥
StartsLow (c ∷ l) = c ≢ 45

starts_low : (l r : List ℕ) → All IsHigh l → StartsLow r → StartsLow (l ++ r)
starts_low [] r h s = s
starts_low (c ∷ l) r h s = let d = All-head IsHigh c l h in λ e. omega arith

no_minus : (l r : List ℕ) → StartsLow r → 45 ∷ l ≡ r → ⊥
no_minus l [] s e = s
no_minus l (c ∷ r) s e = s (cc)

after_low : (e : List ℕ) → StartsLow (after_mantissa 2 e)
after_low e = λ f. omega arith

cancel : (l x y : List ℕ) → l ++ x ≡ l ++ y → x ≡ y
cancel [] x y e = e
cancel (c ∷ l) x y e = cancel l x y cc

abbrev IsLow : ℕ → Type 0
IsLow c = c < 125

low_digits : (l : List ℕ) → All IsDigit l → All IsLow l
low_digits [] h = All-nil IsLow
low_digits (c ∷ l) h = let d = All-head IsDigit c l h in All-cons IsLow c l (omega arith) (low_digits l (All-tail IsDigit c l h))

-- A number of at most eight octets fits in 64 bits.
abbrev Fits64 : ℤ → Type 0
Fits64 z = (neg_ℤ (pos (2 ^ 63)) ≤ℤ z) × (z <ℤ pos (2 ^ 63))

in_64 : (l : List ℕ) → AreOctets l → length l < 9 → Fits64 (signed l)
in_64 [] o few = (omega (arith, ints), omega (arith, ints))
in_64 (b ∷ l) o few =
    let w = within_octets (b ∷ l) o (omega arith) in
    let few_more : length (b ∷ l) ≤ 8 = omega (arith, few) in
    let p : 256 ^ length (b ∷ l) ≤ 256 ^ 8 = pow-le-pow_right (omega arith) few_more in
    plain (signed (b ∷ l)) (256 ^ length (b ∷ l)) p w.0 w.1
  where
    plain : (z : ℤ) (p : ℕ) → p ≤ 2 ^ 64 → neg_ℤ (pos p) ≤ℤ (z +ℤ z) → (z +ℤ z) <ℤ pos p → Fits64 z
    plain z p k low high = (omega (arith, ints), omega (arith, ints))

low_signed : (z : ℤ) → Fits64 z → All IsLow (signed_decimal z)
low_signed (pos n) i = let a = i.1 in low_digits (decimal n) (decimal_digits n (omega (arith, ints)))
low_signed (negsuc n) i = let a = i.0 in All-cons IsLow 45 (decimal (suc n)) (omega arith) (low_digits (decimal (suc n)) (decimal_digits (suc n) (omega (arith, ints))))

small_size : (z : ℤ) → Fits64 z → mag z < 2 ^ 63
small_size (pos n) i = let a = i.1 in omega (arith, ints)
small_size (negsuc n) i = let a = i.0 in omega (arith, ints)

abbrev IsGlyphLow : ℕ → Type 0
IsGlyphLow d = digit_glyph true d < 125

low_glyph : (d : ℕ) → d < 16 → IsGlyphLow d
low_glyph d h = grind arith

low_hex : (l : List ℕ) → AreOctets l → All IsLow (hexadecimal l)
low_hex [] o = All-nil IsLow
low_hex (b ∷ l) o = All-cons IsLow (digit_glyph true (b / 16)) (digit_glyph true (b % 16) ∷ hexadecimal l) (low_glyph (b / 16) (omega (arith, o.0)))
    (All-cons IsLow (digit_glyph true (b % 16)) (hexadecimal l) (low_glyph (b % 16) (omega arith)) (low_hex l o.1))

abbrev exponent_chosen : Bool → List ℕ → List ℕ
exponent_chosen b l = cond b (signed_decimal (signed l)) (codes "0x" ++ hexadecimal l)

low_exponent : (b : Bool) (l : List ℕ) → AreOctets l → nat_lt (length l) 9 ≡ b → All IsLow (exponent_chosen b l)
low_exponent true l o h = low_signed (signed l) (in_64 l o (told_small (length l) 9 h))
low_exponent false l o h = All-cons IsLow 48 (120 ∷ hexadecimal l) (omega arith) (All-cons IsLow 120 (hexadecimal l) (omega arith) (low_hex l o))

no_signed_hex : (z : ℤ) (l : List ℕ) → Fits64 z → signed_decimal z ≡ 48 ∷ 120 ∷ l → ⊥
no_signed_hex (pos n) l i e = let a = i.1 in no_hex n l (omega (arith, ints)) e
no_signed_hex (negsuc n) l i e = let f = ap (λ x. get_or x 0 0) e in omega (arith, f)

one_exponent_of : (b c : Bool) (d e : List ℕ) → AreOctets d → AreOctets e → nat_lt (length d) 9 ≡ b → nat_lt (length e) 9 ≡ c → exponent_chosen b d ≡ exponent_chosen c e → signed d ≡ signed e
one_exponent_of true true d e o p h k f =
    let i = in_64 d o (told_small (length d) 9 h) in
    let j = in_64 e p (told_small (length e) 9 k) in
    signed_decimal_injective (signed d) (signed e) (small_size (signed d) i) (small_size (signed e) j) f
one_exponent_of true false d e o p h k f = absurd (no_signed_hex (signed d) (hexadecimal e) (in_64 d o (told_small (length d) 9 h)) f)
one_exponent_of false true d e o p h k f = absurd (no_signed_hex (signed e) (hexadecimal d) (in_64 e p (told_small (length e) 9 k)) (sym f))
one_exponent_of false false d e o p h k f = ap signed (hex_one d e (ap (drop 2) f))

one_exponent : (d e : List ℕ) → AreOctets d → AreOctets e → after_mantissa 2 (exponent_text d) ≡ after_mantissa 2 (exponent_text e) → signed d ≡ signed e
one_exponent d e o p f =
    let g = cancel (base_text 2) _ _ f in
    one_exponent_of _ _ d e o p refl refl
    (run_one IsLow (exponent_text d) (exponent_text e) (codes "}") (codes "}") (low_exponent _ d o refl) (low_exponent _ e p refl) (λ h. omega arith) (λ h. omega arith) g).0

one_number : (m n d e : List ℕ) → AreOctets d → AreOctets e → mantissa_text m ++ after_mantissa 2 (exponent_text d) ≡ mantissa_text n ++ after_mantissa 2 (exponent_text e)
    → (number_in 256 m ≡ number_in 256 n) × (signed d ≡ signed e)
one_number m n d e o p f =
    let r = run_one IsHigh (mantissa_text m) (mantissa_text n) (after_mantissa 2 (exponent_text d)) (after_mantissa 2 (exponent_text e)) (high_chosen _ m refl) (high_chosen _ n refl) (λ h. omega arith) (λ h. omega arith) f in
    (one_chosen _ _ m n refl refl r.0, one_exponent d e o p r.1)

one_text : (b c : Bool) (m n d e : List ℕ) → AreOctets d → AreOctets e → number_text b (mantissa_text m) 2 (exponent_text d) ≡ number_text c (mantissa_text n) 2 (exponent_text e)
    → (b ≡ c) × (number_in 256 m ≡ number_in 256 n) × (signed d ≡ signed e)
one_text true true m n d e o p f = let r = one_number m n d e o p (ap (drop 11) f) in (refl, r.0, r.1)
one_text false false m n d e o p f = let r = one_number m n d e o p (ap (drop 10) f) in (refl, r.0, r.1)
one_text true false m n d e o p f = absurd (no_minus _ (mantissa_text n ++ after_mantissa 2 (exponent_text e)) (starts_low (mantissa_text n) _ (high_chosen _ n refl) (after_low (exponent_text e))) (ap (drop 10) f))
one_text false true m n d e o p f = absurd (no_minus _ (mantissa_text m ++ after_mantissa 2 (exponent_text d)) (starts_low (mantissa_text m) _ (high_chosen _ m refl) (after_low (exponent_text d))) (sym (ap (drop 10) f)))

-- The second character tells the strings apart.
abbrev octet_of : ℕ → List ℕ
octet_of c = cond (c == 48) (67 ∷ []) (cond (c == 78) (64 ∷ []) (cond (c == 73) (65 ∷ []) (66 ∷ [])))

special_told : (s o : List ℕ) → SpecialRead s o → o ≡ octet_of (get_or s 1 0)
special_told s o (inl (a, e)) = e ∙ ap (λ l. octet_of (get_or l 1 0)) (sym a)
special_told s o (inr (inl (a, e))) = e ∙ ap (λ l. octet_of (get_or l 1 0)) (sym a)
special_told s o (inr (inr (inl (a, e)))) = e ∙ ap (λ l. octet_of (get_or l 1 0)) (sym a)
special_told s o (inr (inr (inr (a, e)))) = e ∙ ap (λ l. octet_of (get_or l 1 0)) (sym a)

pub second : (s : List ℕ) (b : Bool) (m e : List ℕ) → s ≡ number_text b (mantissa_text m) 2 e → get_or s 1 0 ≡ 109
second s b m e f = ap (λ l. get_or l 1 0) f

no_special : {A : Type 0} (s o : List ℕ) → SpecialRead s o → get_or s 1 0 ≡ 109 → A
no_special s o (inl (a, e)) f = let g : get_or s 1 0 ≡ 48 = ap (λ l. get_or l 1 0) a in absurd (omega (arith, f, g))
no_special s o (inr (inl (a, e))) f = let g : get_or s 1 0 ≡ 78 = ap (λ l. get_or l 1 0) a in absurd (omega (arith, f, g))
no_special s o (inr (inr (inl (a, e)))) f = let g : get_or s 1 0 ≡ 73 = ap (λ l. get_or l 1 0) a in absurd (omega (arith, f, g))
no_special s o (inr (inr (inr (a, e)))) f = let g : get_or s 1 0 ≡ 97 = ap (λ l. get_or l 1 0) a in absurd (omega (arith, f, g))

-- ---- numbers with base 10

sign_spelled : (b : Bool) → IsSign b (sign_text b)
sign_spelled true = refl
sign_spelled false = inl refl

exponent_spelled : (x : List ℕ) (e : ℤ) → IsWholeText x e → IsExponent (69 ∷ x) e
exponent_spelled x e (inl (t, z)) = (69, false, [], 48 ∷ [], inl refl, ap (λ l. 69 ∷ l) t, inl refl, (λ f. let g = ap length f in omega (arith, g)), zero_digit, z)
exponent_spelled x e (inr (b, digits, n, h, t, z)) =
    let d = spelled digits n h in (69, b, sign_text b, digits, inl refl, ap (λ l. 69 ∷ l) t, sign_spelled b, d.0, d.1, z ∙ ap (with_sign b) d.2)

flat : (z : ℤ) → z ≡ z -ℤ pos 0 +ℤ pos 0
flat z = omega (arith, ints)

own_decimal : (b : Bool) (mantissa : List ℕ) (m : ℕ) (x : List ℕ) (e : ℤ) → SpellsDigits mantissa m → m % 10 ≢ 0 → IsWholeText x e → IsDecimal (3 ∷ decimal_text b mantissa x) b m e
own_decimal b mantissa m x e h last i =
    let d = spelled mantissa m h in
    record {
      form = 3;
      spaces = [];
      sign = sign_text b;
      whole = mantissa;
      fraction = [];
      after = [];
      exponent = 69 ∷ x;
      x = e;
      shift = 0;
      is = refl;
      has_spaces = All-nil (λ c. c ≡ 32);
      has_sign = sign_spelled b;
      has_fraction = inl (refl, refl);
      has_form = inr (inr (refl, exponent_spelled x e i));
      whole_digits = d.1;
      after_digits = All-nil IsDigit;
      some = λ f. d.0 (sym (append-nil mantissa) ∙ f);
      last = last;
      value = ap number_of_digits (append-nil mantissa) ∙ (sym d.2 ∙ omega arith);
      scale = flat e;
    }

-- Without an exponent there is no E.
abbrev IsOther : ℕ → Type 0
IsOther c = c ≢ 69

has_exponent : (l r : List ℕ) → All IsOther (l ++ 69 ∷ r) → ⊥
has_exponent [] r h = All-head IsOther 69 r h refl
has_exponent (c ∷ l) r h = has_exponent l r (All-tail IsOther c (l ++ 69 ∷ r) h)

other_spaces : (l : List ℕ) → All (λ c. c ≡ 32) l → All IsOther l
other_spaces [] h = All-nil IsOther
other_spaces (c ∷ l) h = let d = All-head (λ c. c ≡ 32) c l h in All-cons IsOther c l (λ e. omega arith) (other_spaces l (All-tail (λ c. c ≡ 32) c l h))

other_digits : (l : List ℕ) → All IsDigit l → All IsOther l
other_digits [] h = All-nil IsOther
other_digits (c ∷ l) h = let d = All-head IsDigit c l h in All-cons IsOther c l (λ e. omega (arith, d.1)) (other_digits l (All-tail IsDigit c l h))

one_other : (c : ℕ) → c ≢ 69 → All IsOther (c ∷ [])
one_other c n = All-cons IsOther c [] n (All-nil IsOther)

other_sign : (b : Bool) (l : List ℕ) → IsSign b l → All IsOther l
other_sign true l e = subst (All IsOther) (sym e) (one_other 45 (λ f. omega arith))
other_sign false l (inl e) = subst (All IsOther) (sym e) (All-nil IsOther)
other_sign false l (inr e) = subst (All IsOther) (sym e) (one_other 43 (λ f. omega arith))

other_fraction : (l digits : List ℕ) → IsFraction l digits → All IsDigit digits → All IsOther l
other_fraction l digits (inl (e, f)) d = subst (All IsOther) (sym e) (All-nil IsOther)
other_fraction l digits (inr (mark, inl m, e)) d = subst (All IsOther) (sym e) (All-cons IsOther mark digits (λ f. omega arith) (other_digits digits d))
other_fraction l digits (inr (mark, inr m, e)) d = subst (All IsOther) (sym e) (All-cons IsOther mark digits (λ f. omega arith) (other_digits digits d))

no_exponent : (form : ℕ) (s : List ℕ) (b : Bool) (m : ℕ) (e : ℤ) (h : IsDecimal (form ∷ s) b m e) → h.exponent ≡ [] → All IsOther s
no_exponent form s b m e h z =
    let t : s ≡ h.spaces ++ (h.sign ++ (h.whole ++ (h.fraction ++ h.exponent))) = ap (drop 1) h.is in
    subst (All IsOther) (sym t)
    (All-append IsOther h.spaces _ (other_spaces h.spaces h.has_spaces)
    (All-append IsOther h.sign _ (other_sign b h.sign h.has_sign)
    (All-append IsOther h.whole _ (other_digits h.whole h.whole_digits)
    (All-append IsOther h.fraction _ (other_fraction h.fraction h.after h.has_fraction h.after_digits)
    (subst (All IsOther) (sym z) (All-nil IsOther))))))

third_form : (form : ℕ) (l r : List ℕ) (b : Bool) (m : ℕ) (e : ℤ) → IsDecimal (form ∷ (l ++ 69 ∷ r)) b m e → form ≡ 3
third_form form l r b m e h = go h.has_form
  where
    first : form ≡ h.form
    first = let i = h.is in cc

    go : IsOfForm h.form h.fraction h.exponent h.x → form ≡ 3
    go (inl (a, f, z, x)) = absurd (has_exponent l r (no_exponent form (l ++ 69 ∷ r) b m e h z))
    go (inr (inl (a, f, z, x))) = absurd (has_exponent l r (no_exponent form (l ++ 69 ∷ r) b m e h z))
    go (inr (inr (a, x))) = first ∙ a

first_low : {A : Type 0} (form x : ℕ) (s l : List ℕ) → form < 64 → 64 ≤ x → form ∷ s ≡ x ∷ l → A
first_low form x s l low high e = let f : form ≡ x = cc in absurd (omega arith)

module _ (b : Bool) (mantissa : List ℕ) (m : ℕ) (x : List ℕ) (e : ℤ) (s o p : List ℕ) (h : IsCanonicalDecimal o b m e) (k : SpellsDigits mantissa m) (w : IsWholeText x e) (t : s ≡ decimal_text b mantissa x) where
  numeral_value : (form : ℕ) (c : Bool) (n : ℕ) (d : ℤ) → IsDecimal (form ∷ s) c n d → IsCanonicalDecimal p c n d → o ≡ p
  numeral_value form c n d i q =
      let u : s ≡ (sign_text b ++ mantissa) ++ 69 ∷ x = t ∙ sym (append_assoc (sign_text b) mantissa (69 ∷ x)) in
      let f = third_form form (sign_text b ++ mantissa) x c n d (subst (λ l. IsDecimal (form ∷ l) c n d) u i) in
      let j = subst (λ y. IsDecimal (y ∷ decimal_text b mantissa x) c n d) f (subst (λ l. IsDecimal (form ∷ l) c n d) t i) in
      let same = decimal_one (3 ∷ decimal_text b mantissa x) b c m n e d (own_decimal b mantissa m x e k h.last w) j in
      octets_of_one (contents.decimal c n d) o p (subst (CanonicalReal o) same h) q

  numeral_once : IsOfNumeral s p → o ≡ p
  numeral_once (form, low, (plus_zero, i, q, r)) = absurd cc
  numeral_once (form, low, (minus_zero, i, q, r)) = first_low form 67 s [] low (omega arith) i
  numeral_once (form, low, (plus_infinity, i, q, r)) = first_low form 64 s [] low (omega arith) i
  numeral_once (form, low, (minus_infinity, i, q, r)) = first_low form 65 s [] low (omega arith) i
  numeral_once (form, low, (not_a_number, i, q, r)) = first_low form 66 s [] low (omega arith) i
  numeral_once (form, low, (binary c n d, i, q, r)) = first_low form _ s _ low (omega arith) i.is
  numeral_once (form, low, (contents.decimal c n d, i, q, r)) = numeral_value form c n d i q

-- ---- all values

special_once : (s o p : List ℕ) (j : Json) → j ≡ string s → SpecialRead s o → RealRead j p → o ≡ p
special_once s o p j e h (inl (x, l, f, k, y, q)) = absurd (let g : string s ≡ number l = sym e ∙ f in cc)
special_once s o p j e h (inr (inl (l, f, k))) = absurd (let g : string s ≡ base_ten l = sym e ∙ f in cc)
special_once s o p j e h (inr (inr (l, f, inl k))) =
    let g : string s ≡ string l = sym e ∙ f in
    let i : s ≡ l = cc in
    special_told s o h ∙ (ap (λ l. octet_of (get_or l 1 0)) i ∙ sym (special_told l p k))
special_once s o p j e h (inr (inr (l, f, inr (b, m, d, i, k, q)))) =
    let g : string s ≡ string l = sym e ∙ f in
    let a : s ≡ l = cc in
    no_special s o h (second s b m (exponent_text d) (a ∙ k))

zero_value : (o p : List ℕ) (j : Json) → o ≡ [] → j ≡ number (codes "0") → RealRead j p → o ≡ p
zero_value o p j e f (inl (x, l, g, a, y, q)) =
    let h : number (codes "0") ≡ number l = sym f ∙ g in
    let i : codes "0" ≡ l = cc in
    let k : fin false 0 (pos 0) ≡ x = some_is_one (fin false 0 (pos 0)) x (sym zero_read ∙ (ap (parse_float binary64) i ∙ a)) in
    e ∙ sym (zero_once (to_bits binary64 x) p (ap (to_bits binary64) (sym k) ∙ zero_bits) q)
zero_value o p j e f (inr (inl (l, g, k))) = absurd (let h : number (codes "0") ≡ base_ten l = sym f ∙ g in cc)
zero_value o p j e f (inr (inr (l, g, k))) = absurd (let h : number (codes "0") ≡ string l = sym f ∙ g in cc)

module _ (b : Bool) (mantissa x : List ℕ) (own : AreOctets x) (o p : List ℕ) (j : Json) (shown : IsCanonicalBinary o b (number_in 256 mantissa) (signed x)) where
  abbrev e : ℤ
  e = signed x

  nearest_value : (y : Float) (s : List ℕ) → IsDouble (to_bits binary64 y) b (number_in 256 mantissa) e → j ≡ number s → parse_float binary64 s ≡ Some y → RealRead j p → o ≡ p
  nearest_value v s h f g (inl (y, l, i, k, z, (r, c, q))) =
      let u : number s ≡ number l = sym f ∙ i in
      let t : s ≡ l = cc in
      let a : v ≡ y = some_is_one v y (sym g ∙ (ap (parse_float binary64) t ∙ k)) in
      let w = double_once (to_bits binary64 y) b (number_in 256 mantissa) e r p (subst (λ z. IsDouble (to_bits binary64 z) b (number_in 256 mantissa) e) a h) shown.odd c q in
      octets_of_one r o p (subst (CanonicalReal o) w shown) c
  nearest_value v s h f g (inr (inl (l, i, k))) = absurd (let u : number s ≡ base_ten l = sym f ∙ i in cc)
  nearest_value v s h f g (inr (inr (l, i, k))) = absurd (let u : number s ≡ string l = sym f ∙ i in cc)

  notation_value : j ≡ string (number_text b (mantissa_text mantissa) 2 (exponent_text x)) → RealRead j p → o ≡ p
  notation_value f (inl (y, l, i, k, z, q)) = absurd (let u : string (number_text b (mantissa_text mantissa) 2 (exponent_text x)) ≡ number l = sym f ∙ i in cc)
  notation_value f (inr (inl (l, i, k))) = absurd (let u : string (number_text b (mantissa_text mantissa) 2 (exponent_text x)) ≡ base_ten l = sym f ∙ i in cc)
  notation_value f (inr (inr (l, i, inl k))) =
      let u : string (number_text b (mantissa_text mantissa) 2 (exponent_text x)) ≡ string l = sym f ∙ i in
      let t : number_text b (mantissa_text mantissa) 2 (exponent_text x) ≡ l = cc in
      no_special l p k (second l b mantissa (exponent_text x) (sym t))
  notation_value f (inr (inr (l, i, inr (c, other, d, octets, k, (m, shift, odd, canonical))))) =
      let u : string (number_text b (mantissa_text mantissa) 2 (exponent_text x)) ≡ string l = sym f ∙ i in
      let t : number_text b (mantissa_text mantissa) 2 (exponent_text x) ≡ l = cc in
      let r = one_text b c mantissa other x d own octets (t ∙ k) in
      let w = odd_one (number_in 256 mantissa) m 0 shift shown.odd odd.0 (once (number_in 256 mantissa) ∙ (r.1 ∙ odd.1)) in
      octets_of_one (binary b (number_in 256 mantissa) e) o p shown
      (subst (λ z. IsCanonicalBinary p z (number_in 256 mantissa) e) (sym r.0)
      (subst (λ z. IsCanonicalBinary p c z e) (sym w.0) (subst (λ z. IsCanonicalBinary p c m z) (moved shift (signed d) (sym w.1) ∙ sym r.2) canonical)))
    where
      once : (n : ℕ) → n * 2 ^ 0 ≡ n
      once n = omega arith

      moved : (k : ℕ) (z : ℤ) → k ≡ 0 → z +ℤ pos k ≡ z
      moved k z e = omega (arith, ints)

pub real_once : (o p : List ℕ) (j : Json) → RealJson o j → RealRead j p → o ≡ p
real_once o p j (Zero, e, f) r = zero_value o p j e f r
real_once o p j (MinusZero, e, f) r = special_once (codes "-0") o p j f (inl (refl, e)) r
real_once o p j (Infinity, e, f) r = special_once (codes "INF") o p j f (inr (inl (refl, e))) r
real_once o p j (MinusInfinity, e, f) r = special_once (codes "-INF") o p j f (inr (inr (inl (refl, e)))) r
real_once o p j (NotANumber, e, f) r = special_once (codes "NaN") o p j f (inr (inr (inr (refl, e)))) r
real_once o p j (Binary b mantissa d, (e, t, a), inl (x, s, h, f, n, g)) r = nearest_value b mantissa.now d.now a o p j e x s h f g r
real_once o p j (Binary b mantissa d, (e, t, a), inr (none, f)) r = notation_value b mantissa.now d.now a o p j e f r
real_once o p j (Decimal b mantissa d, (m, z, h, k, w), f) (inl (x, l, g, a, y, q)) = absurd (let u : base_ten (decimal_text b mantissa.now d.now) ≡ number l = sym f ∙ g in cc)
real_once o p j (Decimal b mantissa d, (m, z, h, k, w), f) (inr (inl (l, g, q))) =
    let u : base_ten (decimal_text b mantissa.now d.now) ≡ base_ten l = sym f ∙ g in
    let t : decimal_text b mantissa.now d.now ≡ l = cc in
    numeral_once b mantissa.now m d.now z l o p h (subst (λ y. SpellsDigits y m) (sym k) h.mantissa_is) w (sym t) q
real_once o p j (Decimal b mantissa d, (m, z, h, k, w), f) (inr (inr (l, g, q))) = absurd (let u : base_ten (decimal_text b mantissa.now d.now) ≡ string l = sym f ∙ g in cc)
