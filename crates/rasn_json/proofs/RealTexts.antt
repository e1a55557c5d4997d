-- The texts of REALs in JSON, and what is read of them.
use Rattle.std.proofs.Common.{◌≡◌, ℕ, suc, ◌+◌, ◌*◌, ◌^◌, ◌<◌, ◌≤◌, Bool, true, false, cond, ◌||◌, ◌==◌, ℤ, pos, negsuc, ◌+ℤ◌, List, [], ◌∷◌, ◌++◌, length, drop, get_or, Option, Some, None, option_and_then, inl, inr, refl, sym, ap, ap₂, ◌∙◌, subst, arith, rules, append-nil}
use Rattle.std.specs.Prelude.{All, IfSome, IsTrue, MatchOption, encode_utf8_all, codes}
use Rattle.std.specs.List.{prefix_len}
use Rattle.std.specs.Char.{is_ascii_digit, digit_value}
use Rattle.std.specs.Float.{Float, nan, inf, fin, binary64, float_is_finite}
use Rattle.std.specs.Float.Parse.{parse_float}
use Rattle.std.specs.Fmt.{decimal, signed_decimal}
use Rattle.std.specs.Str.Parse.{AllDigits}
use Rattle.std.proofs.lemmas.Bool.{ne_eqb, le-leb, and_from}
use Rattle.std.proofs.lemmas.Fmt.{decimal_is_IsNumeral}
use Rattle.std.proofs.lemmas.Int.{ints}
use Rattle.std.proofs.lemmas.List.{drop_at}
use Rattle.std.proofs.lemmas.List.Elements.{All-nil, All-cons, All-head, All-tail}
use Rattle.std.proofs.lemmas.Str.{encode_ascii}
use lib.Ieee.{to_bits}
use Rattle.json.specs.Json.{Json, number, string, null, boolean, array, object, member, no_members}
use Rattle.json.specs.Value.{value_view, members_view}
use Rattle.json.specs.declared.value.Value.{Value as JsonValue, the_lemmas}
use Rattle.std.specs.Borrow.{Bor}
use Rattle.json.specs.Find.{as_number}
use Rattle.json.specs.Print.{IsNumber}
use Rattle.json.specs.Tree.{depth}
use Rattle.json.specs.Word.{head, after_digits, after_whole, after_fraction, after_exponent, after_number}
use Rattle.json.specs.Token.{Token, begin_object, end_object, key}
use Rattle.rasn_types.specs.Framing.{bit_of, number_in, AreOctets}
use Rattle.rasn_types.specs.Contents.{signed, IsDigit, SpellsDigits, Real, binary, CanonicalReal}
use Rattle.rasn_types.proofs.Reals.{bit_low, canonical_contents, differ, spelled}
use Rattle.rasn_schema.specs.declared.real.Real.{Real as View}
use Rattle.rasn_schema.specs.declared.real.Real.TheVariants.{Zero, MinusZero, Infinity, MinusInfinity, NotANumber, Binary, Decimal}
use Rattle.rasn_schema.specs.RealShown.{mantissa_text, exponent_text, number_text}
use Rattle.rasn_schema.specs.Reals.{IsCanonicalReal, IsOfBinary, IsOfNumeral, IsWholeText, IsDouble, HasBits, IsOfBits}
use Rattle.rasn_json.specs.Json.{Appends}
use Rattle.rasn_json.proofs.Appended.{step}
use Rattle.rasn_json.specs.Reals.{BinaryJson, ViewJson, decimal_text, IsBinaryView, IsDecimalReal, IsFoundReal, RealJson, SpecialRead, base_ten}

-- ---- digits as characters

pub plain_digits : (l : List ℕ) → All IsDigit l → encode_utf8_all l ≡ l
plain_digits [] h = refl
plain_digits (c ∷ l) h =
    let d = All-head IsDigit c l h in
    ap₂ ◌++◌ (encode_ascii c (omega arith)) (plain_digits l (All-tail IsDigit c l h))

pub zero_digit : All IsDigit (48 ∷ [])
zero_digit = All-cons IsDigit 48 [] (omega arith, omega arith) (All-nil IsDigit)

pub plain_whole : (x : List ℕ) (e : ℤ) → IsWholeText x e → encode_utf8_all x ≡ x
plain_whole x e (inl (t, z)) = subst (λ l. encode_utf8_all l ≡ l) (sym t) (plain_digits (48 ∷ []) zero_digit)
plain_whole x e (inr (true, digits, n, h, t, z)) = subst (λ l. encode_utf8_all l ≡ l) (sym t) (ap₂ ◌++◌ (encode_ascii 45 (omega arith)) (plain_digits digits (spelled digits n h).1))
plain_whole x e (inr (false, digits, n, h, t, z)) = subst (λ l. encode_utf8_all l ≡ l) (sym t) (plain_digits digits (spelled digits n h).1)

-- ---- a number with base 10 is a number of JSON

run : (l r : List ℕ) → All IsDigit l → prefix_len is_ascii_digit r ≡ 0 → prefix_len is_ascii_digit (l ++ r) ≡ length l
run [] r h none = none
run (d ∷ l) r h none =
    let range = All-head IsDigit d l h in
    ap (λ b. cond b (1 + prefix_len is_ascii_digit (l ++ r)) 0) (and_from _ _ (le-leb 48 d range.0) (le-leb d 57 (omega arith))) ∙ omega (arith, run l r (All-tail IsDigit d l h) none)

digits_then : (l r : List ℕ) → All IsDigit l → 0 < length l → prefix_len is_ascii_digit r ≡ 0 → after_digits (l ++ r) ≡ Some r
digits_then l r h some none =
    ap (λ n. cond (n == 0) None (Some (drop n (l ++ r)))) (run l r h none) ∙ ap (λ b. cond b None (Some (drop (length l) (l ++ r)))) (ne_eqb (length l) 0 (λ e. omega arith))
    ∙ ap Some (drop_at l r _ refl)

whole_then : (l r : List ℕ) (n : ℕ) → SpellsDigits l n → prefix_len is_ascii_digit r ≡ 0 → (after_whole (l ++ r) ≡ Some r) × ((head (l ++ r) == 45) ≡ false)
whole_then [] r n h none = absurd h
whole_then (d ∷ l) r n h none = (
  ap (λ b. cond b (Some (l ++ r)) (after_digits (d ∷ l ++ r))) (ne_eqb d 48 h.0) ∙ digits_then (d ∷ l) r h.1 (omega arith) none,
  ne_eqb d 45 (λ e. let g = All-head IsDigit d l h.1 in omega arith),
)

digit_range : (d : ℕ) → digit_value d < 10 → IsDigit d
digit_range d h = grind arith

pub are_digits : (l : List ℕ) → AllDigits 10 l → All IsDigit l
are_digits [] h = All-nil IsDigit
are_digits (d ∷ l) h = All-cons IsDigit d l (digit_range d h.0) (are_digits l h.1)

-- The exponent is all that is left.
unsigned_end : (l : List ℕ) → All IsDigit l → 0 < length l → after_exponent (69 ∷ l) ≡ Some []
unsigned_end [] h some = absurd (omega arith)
unsigned_end (d ∷ l) h some =
    let range = All-head IsDigit d l h in
    let unsigned : ((d == 45) || (d == 43)) ≡ false = ap₂ (λ a b. a || b) (ne_eqb d 45 (λ e. omega arith)) (ne_eqb d 43 (λ e. omega arith)) in
    ap (λ b. after_digits (cond b l (d ∷ l))) unsigned ∙ (ap after_digits (sym (append-nil (d ∷ l))) ∙ digits_then (d ∷ l) [] h some refl)

signed_end : (l : List ℕ) → All IsDigit l → 0 < length l → after_exponent (69 ∷ 45 ∷ l) ≡ Some []
signed_end l h some = ap after_digits (sym (append-nil l)) ∙ digits_then l [] h some refl

exponent_ends : (x : List ℕ) (e : ℤ) → IsWholeText x e → after_exponent (69 ∷ x) ≡ Some []
exponent_ends x e (inl (t, z)) = subst (λ l. after_exponent (69 ∷ l) ≡ Some []) (sym t) (unsigned_end (48 ∷ []) zero_digit (omega arith))
exponent_ends x e (inr (b, [], n, h, t, z)) = absurd h
exponent_ends x e (inr (true, c ∷ l, n, h, t, z)) = subst (λ l. after_exponent (69 ∷ l) ≡ Some []) (sym t) (signed_end (c ∷ l) h.1 (omega arith))
exponent_ends x e (inr (false, c ∷ l, n, h, t, z)) = subst (λ l. after_exponent (69 ∷ l) ≡ Some []) (sym t) (unsigned_end (c ∷ l) h.1 (omega arith))

pub decimal_number : (negative : Bool) (mantissa : List ℕ) (n : ℕ) (x : List ℕ) (e : ℤ) → SpellsDigits mantissa n → IsWholeText x e → IsNumber (decimal_text negative mantissa x)
unfolding after_number
decimal_number true mantissa n x e h i =
    let w = whole_then mantissa (69 ∷ x) n h refl in
    ap (λ o. option_and_then after_exponent (option_and_then after_fraction o)) w.0 ∙ exponent_ends x e i
decimal_number false mantissa n x e h i =
    let w = whole_then mantissa (69 ∷ x) n h refl in
    ap (λ b. option_and_then after_exponent (option_and_then after_fraction (after_whole (cond b (drop 1 (mantissa ++ 69 ∷ x)) (mantissa ++ 69 ∷ x))))) w.1
    ∙ (ap (λ o. option_and_then after_exponent (option_and_then after_fraction o)) w.0 ∙ exponent_ends x e i)

-- ---- an `f64` with the bits of a number is finite

nan_bits_are : to_bits binary64 nan ≡ 2047 * 2 ^ 52 + 2 ^ 51
unfolding to_bits
nan_bits_are = refl

inf_bits_are : (s : Bool) → to_bits binary64 (inf s) ≡ 2 ^ 63 * bit_of s + 2047 * 2 ^ 52
unfolding to_bits
inf_bits_are true = refl
inf_bits_are false = refl

pub fin_is : (s : Bool) (m : ℕ) (e : ℤ) → float_is_finite (fin s m e) ≡ true
unfolding float_is_finite
fin_is s m e = refl

pub double_finite : (x : Float) (b : Bool) (m : ℕ) (e : ℤ) → IsDouble (to_bits binary64 x) b m e → IsTrue (float_is_finite x)
double_finite nan b m e h = let t = bit_low b in let f = h.finite in let s = h.short in let i = sym nan_bits_are ∙ h.is in absurd (omega arith)
double_finite (inf s) b m e h = let t = bit_low b in let u = bit_low s in let f = h.finite in let g = h.short in let i = sym (inf_bits_are s) ∙ h.is in absurd (omega arith)
double_finite (fin s n d) b m e h = fin_is s n d

pub view_finite : (v : View) (x : Float) → IsBinaryView v → HasBits v (to_bits binary64 x) → IsTrue (float_is_finite x)
view_finite (Binary negative mantissa exponent) x b h = double_finite x negative (number_in 256 mantissa.now) (signed exponent.now) h
view_finite v x b h = absurd b

-- ---- an object of a number with base 10

pub base_ten_put : (s t : List ℕ) (old one two three new : List Token) → s ≡ t → one ≡ old ++ begin_object ∷ [] → two ≡ one ++ key (codes "base10Value") ∷ [] → three ≡ two ++ Token.number s ∷ []
    → new ≡ three ++ end_object ∷ [] → Appends (λ j. j ≡ base_ten t) old new
base_ten_put s t old one two three new e a b c d =
    (base_ten t, step old _ three new end_object (step old _ two three _ (step old _ one two _ a b) (subst (λ l. three ≡ two ++ Token.number l ∷ []) e c)) d, refl)

-- ---- what is written

pub zero_number : IsNumber (codes "0")
unfolding after_number
zero_number = refl

pub view_binary : (v : View) (j : Json) → IsBinaryView v → BinaryJson v j → ViewJson v j
view_binary (Binary negative mantissa exponent) j b h = h
view_binary v j b h = absurd b

-- Only a number with base 10 is an object.
pub real_flat : (o : List ℕ) (j : Json) (d : ℕ) → RealJson o j → (IsDecimalReal o → 0 < d) → depth j ≤ d
real_flat o j d (Zero, e, f) h = let k = ap depth f in omega (arith, k)
real_flat o j d (MinusZero, e, f) h = let k = ap depth f in omega (arith, k)
real_flat o j d (Infinity, e, f) h = let k = ap depth f in omega (arith, k)
real_flat o j d (MinusInfinity, e, f) h = let k = ap depth f in omega (arith, k)
real_flat o j d (NotANumber, e, f) h = let k = ap depth f in omega (arith, k)
real_flat o j d (Binary b m x, e, inl (y, s, p, f, n, q)) h = let k = ap depth f in omega (arith, k)
real_flat o j d (Binary b m x, e, inr (n, f)) h = let k = ap depth f in omega (arith, k)
real_flat o j d (Decimal b m x, (n, i, e, q, w), f) h = let k = ap depth f in let some = h (_, e.is) in omega (arith, k, some)

pub real_deep : (o : List ℕ) (j : Json) → RealJson o j → IsDecimalReal o → depth j ≡ 1
real_deep o j (Zero, e, f) (l, t) = let g : [] ≡ 3 ∷ l = sym e ∙ t in absurd cc
real_deep o j (MinusZero, e, f) (l, t) = differ 67 3 [] l (λ x. omega (arith, x)) (sym e ∙ t)
real_deep o j (Infinity, e, f) (l, t) = differ 64 3 [] l (λ x. omega (arith, x)) (sym e ∙ t)
real_deep o j (MinusInfinity, e, f) (l, t) = differ 65 3 [] l (λ x. omega (arith, x)) (sym e ∙ t)
real_deep o j (NotANumber, e, f) (l, t) = differ 66 3 [] l (λ x. omega (arith, x)) (sym e ∙ t)
real_deep o j (Binary b m x, e, f) (l, t) = differ _ 3 _ l (λ x. omega (arith, x)) (sym e.0.is ∙ t)
real_deep o j (Decimal b m x, e, f) t = ap depth f

-- ---- what is read

pub canonical_found : (octets : List ℕ) (r : Real) → CanonicalReal octets r → IsCanonicalReal octets
canonical_found octets r h = (r, canonical_contents r octets h, h)

pub number_told : (j : Json) (x : Float) → Some x ≡ option_and_then (parse_float binary64) (as_number j) → (s : List ℕ) × (j ≡ number s) × (parse_float binary64 s ≡ Some x)
number_told null x e = absurd cc
number_told (boolean b) x e = absurd cc
number_told (number s) x e = (s, refl, sym e)
number_told (string s) x e = absurd cc
number_told (array js) x e = absurd cc
number_told (object ms) x e = absurd cc

pub nearest_found : (j : Json) (x : Float) (octets : List ℕ) → Some x ≡ option_and_then (parse_float binary64) (as_number j) → IsTrue (float_is_finite x) → IsOfBits (to_bits binary64 x) octets → IsFoundReal j octets
nearest_found j x octets e f h = let t = number_told j x e in (canonical_found octets h.0 h.1, inl (x, t.0, t.1, t.2, f, h))

pub view_string : (A : Type 0) (s : Bor (List ℕ)) → value_view {A = A} (JsonValue.String s) ≡ string s.now
view_string A s = search (rules, the_lemmas)

as_number_told : (j : Json) (s : List ℕ) → as_number j ≡ Some s → j ≡ number s
as_number_told null s e = absurd cc
as_number_told (boolean b) s e = absurd cc
as_number_told (number t) s e = let f : t ≡ s = cc in ap number f
as_number_told (string t) s e = absurd cc
as_number_told (array js) s e = absurd cc
as_number_told (object ms) s e = absurd cc

-- The one member of an object, which was looked at twice.
pub base_ten_told : {A : Type 0} (j : Json) (l : List (Bor (List ℕ) × JsonValue A)) (m q : Bor (List ℕ) × JsonValue A) (s : List ℕ) → j ≡ object (members_view l) → 1 ≤ length l → length l < 2
    → m ≡ get_or l 0 m → q ≡ get_or l 0 q → m.0.now ≡ codes "base10Value" → as_number (value_view q.1) ≡ Some s → j ≡ base_ten s
base_ten_told j [] m q s e a b f g n v = absurd (omega (arith, a))
base_ten_told j (x ∷ []) m q s e a b f g n v =
    let name : x.0.now ≡ codes "base10Value" = ap (λ (z : Bor (List ℕ) × JsonValue _). z.0.now) (sym f) ∙ n in
    let value : value_view x.1 ≡ number s = ap (λ (z : Bor (List ℕ) × JsonValue _). value_view z.1) (sym g) ∙ as_number_told (value_view q.1) s v in
    e ∙ ap₂ (λ y z. object (member y z no_members)) name value
base_ten_told j (x ∷ y ∷ l) m q s e a b f g n v = absurd (omega (arith, b))

pub base_ten_found : (j : Json) (s octets : List ℕ) → j ≡ base_ten s → IsOfNumeral s octets → IsFoundReal j octets
base_ten_found j s octets e (form, low, (r, h, c, k)) = (canonical_found octets r c, inr (inl (s, e, (form, low, (r, h, c, k)))))

special_canonical : (s octets : List ℕ) → SpecialRead s octets → IsCanonicalReal octets
special_canonical s octets (inl (a, e)) = canonical_found octets Real.minus_zero e
special_canonical s octets (inr (inl (a, e))) = canonical_found octets Real.plus_infinity e
special_canonical s octets (inr (inr (inl (a, e)))) = canonical_found octets Real.minus_infinity e
special_canonical s octets (inr (inr (inr (a, e)))) = canonical_found octets Real.not_a_number e

pub special_found : (s octets : List ℕ) → SpecialRead s octets → IsFoundReal (string s) octets
special_found s octets h = (special_canonical s octets h, inr (inr (s, refl, inl h)))

pub notation_found : (s octets : List ℕ) (negative : Bool) (mantissa exponent : List ℕ) → AreOctets exponent → s ≡ number_text negative (mantissa_text mantissa) 2 (exponent_text exponent)
    → IsOfBinary negative (number_in 256 mantissa) (signed exponent) octets → IsFoundReal (string s) octets
notation_found s octets negative mantissa exponent o e h =
    (canonical_found octets (binary negative h.0 (signed exponent +ℤ pos h.1)) h.3, inr (inr (s, refl, inr (negative, mantissa, exponent, o, e, h))))

-- What holds of a value that is found holds of one of which less is said.
pub some_found : {A : Type 0} (P : Type 0) (Q R : A → Type 0) (o : Option A) → ((v : A) → Q v → R v) → MatchOption o P Q → IfSome o R
some_found P Q R None f h = tt
some_found P Q R (Some v) f h = f v h
