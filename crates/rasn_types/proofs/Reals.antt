-- Values of REAL: their contents octets, and those under canonical rules, are determined (X.690 8.5, 11.3).
use Rattle.std.proofs.Common.{◌≡◌, ◌≢◌, ◌⊎◌, ℕ, zero, suc, ◌+◌, ◌*◌, ◌^◌, ◌%◌, ◌-◌, ◌<◌, ◌≤◌, inl, inr, List, [], ◌∷◌, ◌++◌, length, map, Bool, true, false, ℤ, pos, neg_ℤ, ◌+ℤ◌, ◌-ℤ◌, ◌*ℤ◌, refl, sym, ap, ap₂, ◌∙◌, subst, arith, rules, append-nil}
use Rattle.std.specs.Prelude.{All}
use Rattle.std.proofs.Math.Nat.{mul_comm, mul_assoc, pow-succ', one-le-pow}
use Rattle.std.proofs.lemmas.Bool.{cases_order}
use Rattle.std.proofs.lemmas.Int.{ints}
use Rattle.std.proofs.lemmas.List.{length-map}
use Rattle.std.proofs.lemmas.List.Elements.{All-head, All-tail, All-nil, All-from_recursion}
use Rattle.rasn_types.specs.Framing.{bit_of, number_in, AreOctets}
use Rattle.rasn_types.specs.Contents.{signed, IsShortestInteger, Real, plus_zero, minus_zero, plus_infinity, minus_infinity, not_a_number, binary, decimal, IsBase, HoldsExponent, IsBinary, IsDigit, IsSign, number_of_digits, with_sign, IsFraction, IsExponent, IsOfForm, IsDecimal, RealContents, IsShortestMantissa, IsCanonicalBinary, SpellsDigits, sign_text, IsShortestExponent, IsCanonicalDecimal, CanonicalReal}
use Rattle.rasn_types.proofs.Headers.Frames.{split_one}
use Rattle.rasn_types.proofs.Headers.Digits.{SameDigits, same_digits, longer, lead, front_octets, octets_one, shortest_lengths}
use Rattle.rasn_types.proofs.Integer.Unique.{signed_one}

-- ---- digits

digit_lead : (c : ℕ) → IsDigit c → c ≢ 48 → 0 < (c - 48) % 10
digit_lead c h n = omega arith

same_digit : (a b : ℕ) → IsDigit a → IsDigit b → (a - 48) % 10 ≡ (b - 48) % 10 → a ≡ b
same_digit a b h k e = omega arith

all_same : (k l : List ℕ) → All IsDigit k → All IsDigit l → length k ≡ length l → SameDigits 10 (map (λ c. c - 48) k) (map (λ c. c - 48) l) → k ≡ l
all_same [] [] h i n s = refl
all_same [] (b ∷ l) h i n s = absurd (omega arith)
all_same (a ∷ k) [] h i n s = absurd (omega arith)
all_same (a ∷ k) (b ∷ l) h i n s =
    ap₂ ◌∷◌ (same_digit a b (All-head IsDigit a k h) (All-head IsDigit b l i) s.0) (all_same k l (All-tail IsDigit a k h) (All-tail IsDigit b l i) (omega arith) s.1)

length_values : (l : List ℕ) → length (map (λ c. c - 48) l) ≡ length l
length_values l = length-map l (λ c. c - 48)

pub digits_once : (k l : List ℕ) (m n : ℕ) → SpellsDigits k m → SpellsDigits l n → m ≡ n → k ≡ l
digits_once [] l m n h i e = absurd h
digits_once (a ∷ k) [] m n h i e = absurd i
digits_once (a ∷ k) (b ∷ l) m n h i e = go (cases_order (length k) (length l))
  where
    differ : (x y : ℕ) → x < y → x ≡ y → ⊥
    differ x y h e = omega arith

    v : number_in 10 (map (λ c. c - 48) (a ∷ k)) ≡ number_in 10 (map (λ c. c - 48) (b ∷ l))
    v = sym h.2 ∙ (e ∙ i.2)

    go : (length k ≡ length l) ⊎ ((length k < length l) ⊎ (length l < length k)) → a ∷ k ≡ b ∷ l
    go (inl s) = all_same (a ∷ k) (b ∷ l) h.1 i.1 (omega arith) (same_digits 10 (omega arith) (map (λ c. c - 48) (a ∷ k)) (map (λ c. c - 48) (b ∷ l))
        (length_values (a ∷ k) ∙ (ap suc s ∙ sym (length_values (b ∷ l)))) v)
    go (inr (inl s)) = absurd (differ _ _ (longer 10 (omega arith) (map (λ c. c - 48) (a ∷ k)) (b - 48) (map (λ c. c - 48) l) (digit_lead b (All-head IsDigit b l i.1) i.0)
        (omega (arith, length_values (a ∷ k), length_values l))) v)
    go (inr (inr s)) = absurd (differ _ _ (longer 10 (omega arith) (map (λ c. c - 48) (b ∷ l)) (a - 48) (map (λ c. c - 48) k) (digit_lead a (All-head IsDigit a k h.1) h.0)
        (omega (arith, length_values (b ∷ l), length_values k))) (sym v))

pub spelled : (l : List ℕ) (n : ℕ) → SpellsDigits l n → (l ≢ []) × All IsDigit l × (n ≡ number_of_digits l)
spelled [] n h = absurd h
spelled (c ∷ l) n h = ((λ e. cc), h.1, h.2)

-- ---- base 2

pub bit_low : (a : Bool) → bit_of a < 2
bit_low false = omega arith
bit_low true = omega arith

pub base_low : (bits power : ℕ) → IsBase bits power → bits < 3
base_low bits power (inl h) = omega (arith, h.0)
base_low bits power (inr (inl h)) = omega (arith, h.0)
base_low bits power (inr (inr h)) = omega (arith, h.0)

pub power_one : (bits p q : ℕ) → IsBase bits p → IsBase bits q → p ≡ q
power_one bits p q (inl h) (inl k) = h.1 ∙ sym k.1
power_one bits p q (inl h) (inr (inl k)) = absurd (omega (arith, h.0, k.0))
power_one bits p q (inl h) (inr (inr k)) = absurd (omega (arith, h.0, k.0))
power_one bits p q (inr (inl h)) (inl k) = absurd (omega (arith, h.0, k.0))
power_one bits p q (inr (inl h)) (inr (inl k)) = h.1 ∙ sym k.1
power_one bits p q (inr (inl h)) (inr (inr k)) = absurd (omega (arith, h.0, k.0))
power_one bits p q (inr (inr h)) (inl k) = absurd (omega (arith, h.0, k.0))
power_one bits p q (inr (inr h)) (inr (inl k)) = absurd (omega (arith, h.0, k.0))
power_one bits p q (inr (inr h)) (inr (inr k)) = h.1 ∙ sym k.1

pub form_low : (bits : ℕ) (f e : List ℕ) → HoldsExponent bits f e → bits < 4
form_low bits f e (inl h) = omega (arith, h.0)
form_low bits f e (inr h) = omega (arith, h.0)

-- The exponent and what follows it are determined.
pub exponent_one : (bits : ℕ) (f g d e x y : List ℕ) → HoldsExponent bits f d → HoldsExponent bits g e → f ++ x ≡ g ++ y → (d ≡ e) × (x ≡ y)
exponent_one bits f g d e x y (inl h) (inl k) is = split_one d e x y (h.1 ∙ sym k.1) (ap (λ z. z ++ x) (sym h.2) ∙ (is ∙ ap (λ z. z ++ y) k.2))
exponent_one bits f g d e x y (inl h) (inr k) is = absurd (omega (arith, h.0, k.0))
exponent_one bits f g d e x y (inr h) (inl k) is = absurd (omega (arith, h.0, k.0))
exponent_one bits f g d e x y (inr h) (inr k) is =
    let j : length d ∷ (d ++ x) ≡ length e ∷ (e ++ y) = ap (λ z. z ++ x) (sym h.1) ∙ (is ∙ ap (λ z. z ++ y) k.1) in
    let n : length d ≡ length e = cc in
    let m : d ++ x ≡ e ++ y = cc in
    split_one d e x y n m

pub first_one : (b c s t f g h k : ℕ) → b < 2 → c < 2 → s < 3 → t < 3 → f < 4 → g < 4 → h < 4 → k < 4
    → 128 + 64 * b + 16 * s + 4 * f + h ≡ 128 + 64 * c + 16 * t + 4 * g + k → (b ≡ c) × (s ≡ t) × (f ≡ g) × (h ≡ k)
first_one b c s t f g h k ob oc os ot of og oh ok e = (omega arith, omega arith, omega arith, omega arith)

-- ---- what a text begins with

abbrev pub StartsOff : (ℕ → Type 0) → List ℕ → Type 0
StartsOff P [] = Unit {0}
StartsOff P (c ∷ l) = P c → ⊥

off : (P : ℕ → Type 0) (d : ℕ) (b x y : List ℕ) → StartsOff P x → x ≡ d ∷ (b ++ y) → P d → ⊥
off P d b x y p e h = subst (StartsOff P) e p h

-- What is before the first element for which P doesn't hold is determined.
pub run_one : (P : ℕ → Type 0) (a b x y : List ℕ) → All P a → All P b → StartsOff P x → StartsOff P y → a ++ x ≡ b ++ y → (a ≡ b) × (x ≡ y)
run_one P [] [] x y h k p q e = (refl, e)
run_one P [] (d ∷ b) x y h k p q e = absurd (off P d b x y p e (All-head P d b k))
run_one P (c ∷ a) [] x y h k p q e = absurd (off P c a y x q (sym e) (All-head P c a h))
run_one P (c ∷ a) (d ∷ b) x y h k p q e =
    let f : c ≡ d = cc in
    let r = run_one P a b x y (All-tail P c a h) (All-tail P d b k) p q cc in
    (ap₂ ◌∷◌ f r.0, r.1)

-- ---- canonical octets are contents octets

plain : (z : ℤ) → z ≡ z *ℤ pos 1 +ℤ pos 0
plain z = omega (arith, ints)

flat : (z : ℤ) → z ≡ z -ℤ pos 0 +ℤ pos 0
flat z = omega (arith, ints)

first : (b g : ℕ) → 128 + 64 * b + g ≡ 128 + 64 * b + 16 * 0 + 4 * 0 + g
first b g = omega arith

pub canonical_binary : (l : List ℕ) (b : Bool) (m : ℕ) (e : ℤ) → IsCanonicalBinary l b m e → IsBinary l b m e
canonical_binary l b m e h = record {
  base = 0;
  power = 1;
  factor = 0;
  form = h.form;
  field = h.field;
  exponent = h.exponent;
  mantissa = h.mantissa;
  shift = 0;
  is = h.is ∙ ap (λ z. z ∷ (h.field ++ h.mantissa)) (first (bit_of b) h.form);
  has_base = inl (refl, refl);
  has_factor = omega arith;
  has_exponent = h.has_exponent;
  odd = h.odd;
  value = ap (λ z. z * 2 ^ 0) h.mantissa_is;
  scale = sym h.exponent_is ∙ plain (signed h.exponent);
}

sign_is : (b : Bool) → IsSign b (sign_text b)
sign_is true = refl
sign_is false = inl refl

one_digit : All IsDigit (48 ∷ [])
one_digit = All-from_recursion IsDigit (48 ∷ []) (search rules)

exponent_is : (text : List ℕ) (e : ℤ) → IsShortestExponent text e → IsExponent (69 ∷ text) e
exponent_is text e (inl (t, z)) = (69, false, 43 ∷ [], 48 ∷ [], inl refl, ap (λ l. 69 ∷ l) t, inr refl, (λ f. cc), one_digit, z)
exponent_is text e (inr (b, digits, n, s, t, z)) =
    let d = spelled digits n s in
    (69, b, sign_text b, digits, inl refl, ap (λ l. 69 ∷ l) t, sign_is b, d.0, d.1, z ∙ ap (with_sign b) d.2)

pub canonical_decimal : (l : List ℕ) (b : Bool) (m : ℕ) (e : ℤ) → IsCanonicalDecimal l b m e → IsDecimal l b m e
canonical_decimal l b m e h =
    let d = spelled h.mantissa m h.mantissa_is in
    record {
      form = 3;
      spaces = [];
      sign = sign_text b;
      whole = h.mantissa;
      fraction = 46 ∷ [];
      after = [];
      exponent = 69 ∷ h.exponent;
      x = e;
      shift = 0;
      is = h.is;
      has_spaces = All-nil (λ c. c ≡ 32);
      has_sign = sign_is b;
      has_fraction = inr (46, inl refl, refl);
      has_form = inr (inr (refl, exponent_is h.exponent e h.exponent_is));
      whole_digits = d.1;
      after_digits = All-nil IsDigit;
      some = λ f. d.0 (sym (append-nil h.mantissa) ∙ f);
      last = h.last;
      value = ap number_of_digits (append-nil h.mantissa) ∙ (sym d.2 ∙ omega arith);
      scale = flat e;
    }

pub canonical_contents : (r : Real) (l : List ℕ) → CanonicalReal l r → RealContents l r
canonical_contents plus_zero l h = h
canonical_contents minus_zero l h = h
canonical_contents plus_infinity l h = h
canonical_contents minus_infinity l h = h
canonical_contents not_a_number l h = h
canonical_contents (binary b m e) l h = canonical_binary l b m e h
canonical_contents (decimal b m e) l h = canonical_decimal l b m e h

-- ---- mantissas

-- A power of a base is the base times the power before it.
pub grown : (b n k : ℕ) → n * b ^ suc k ≡ b * (n * b ^ k)
grown b n k = ap (λ x. n * x) (pow-succ' b k) ∙ (sym (mul_assoc n b (b ^ k)) ∙ (ap (λ x. x * b ^ k) (mul_comm n b) ∙ mul_assoc b n (b ^ k)))

-- A number that isn't a multiple of 2 and its power of 2, and the same of 10, are determined.
pub odd_one : (m n j k : ℕ) → m % 2 ≡ 1 → n % 2 ≡ 1 → m * 2 ^ j ≡ n * 2 ^ k → (m ≡ n) × (j ≡ k)
odd_one m n zero zero o p e = (omega arith, refl)
odd_one m n zero (suc k) o p e = let g = grown 2 n k in absurd (omega arith)
odd_one m n (suc j) zero o p e = let g = grown 2 m j in absurd (omega arith)
odd_one m n (suc j) (suc k) o p e =
    let g = grown 2 m j in
    let h = grown 2 n k in
    let r = odd_one m n j k o p (omega arith) in
    (r.0, ap suc r.1)

pub last_one : (m n j k : ℕ) → m % 10 ≢ 0 → n % 10 ≢ 0 → m * 10 ^ j ≡ n * 10 ^ k → (m ≡ n) × (j ≡ k)
last_one m n zero zero o p e = (omega arith, refl)
last_one m n zero (suc k) o p e = let g = grown 10 n k in absurd (o (omega arith))
last_one m n (suc j) zero o p e = let g = grown 10 m j in absurd (p (omega arith))
last_one m n (suc j) (suc k) o p e =
    let g = grown 10 m j in
    let h = grown 10 n k in
    let r = last_one m n j k o p (omega arith) in
    (r.0, ap suc r.1)

-- ---- numbers with base 2

bit_one : (a b : Bool) → bit_of a ≡ bit_of b → a ≡ b
bit_one false false e = refl
bit_one false true e = absurd (omega arith)
bit_one true false e = absurd (omega arith)
bit_one true true e = refl

pub binary_one : (l : List ℕ) (b c : Bool) (m n : ℕ) (d e : ℤ) → IsBinary l b m d → IsBinary l c n e → binary b m d ≡ binary c n e
binary_one l b c m n d e h k =
    let is : (128 + 64 * bit_of b + 16 * h.base + 4 * h.factor + h.form) ∷ (h.field ++ h.mantissa) ≡ (128 + 64 * bit_of c + 16 * k.base + 4 * k.factor + k.form) ∷ (k.field ++ k.mantissa) = sym h.is ∙ k.is in
    let o = first_one (bit_of b) (bit_of c) h.base k.base h.factor k.factor h.form k.form (bit_low b) (bit_low c) (base_low h.base h.power h.has_base) (base_low k.base k.power k.has_base) h.has_factor k.has_factor
    (form_low h.form h.field h.exponent h.has_exponent) (form_low k.form k.field k.exponent k.has_exponent) cc in
    let p = power_one k.base h.power k.power (subst (λ z. IsBase z h.power) o.1 h.has_base) k.has_base in
    let x = exponent_one k.form h.field k.field h.exponent k.exponent h.mantissa k.mantissa (subst (λ z. HoldsExponent z h.field h.exponent) o.3 h.has_exponent) k.has_exponent cc in
    let v : m * 2 ^ h.shift ≡ n * 2 ^ k.shift = sym h.value ∙ (ap₂ (λ z w. number_in 256 z * 2 ^ w) x.1 o.2 ∙ k.value) in
    let r = odd_one m n h.shift k.shift h.odd k.odd v in
    let s : d ≡ e = h.scale ∙ (ap₂ (λ z w. signed z *ℤ pos w +ℤ pos h.shift) x.0 p ∙ (ap (λ z. signed k.exponent *ℤ pos k.power +ℤ pos z) r.1 ∙ sym k.scale)) in
    ap (λ z. binary z m d) (bit_one b c o.0) ∙ (ap (λ z. binary c z d) r.0 ∙ ap (λ z. binary c n z) s)

-- ---- numbers with base 10

-- What a number begins with after its sign: a digit or a mark.
abbrev IsMark : ℕ → Type 0
IsMark c = (c ≡ 46) ⊎ (c ≡ 44)

abbrev Begins : (ℕ → Type 0) → List ℕ → Type 0
Begins P [] = ⊥
Begins P (c ∷ l) = P c

abbrev IsStart : ℕ → Type 0
IsStart c = IsDigit c ⊎ IsMark c

no_minus : IsStart 45 → ⊥
no_minus (inl h) = omega (arith, h.0)
no_minus (inr (inl e)) = omega (arith, e)
no_minus (inr (inr e)) = omega (arith, e)

no_plus : IsStart 43 → ⊥
no_plus (inl h) = omega (arith, h.0)
no_plus (inr (inl e)) = omega (arith, e)
no_plus (inr (inr e)) = omega (arith, e)

no_space : IsStart 32 → ⊥
no_space (inl h) = omega (arith, h.0)
no_space (inr (inl e)) = omega (arith, e)
no_space (inr (inr e)) = omega (arith, e)

signed_start : (c : ℕ) (x y : List ℕ) → Begins IsStart y → (IsStart c → ⊥) → c ∷ x ≡ y → ⊥
signed_start c x y b n e = n (subst (Begins IsStart) (sym e) b)

pub differ : {A : Type 0} (a b : ℕ) (x y : List ℕ) → (a ≡ b → ⊥) → a ∷ x ≡ b ∷ y → A
differ a b x y n e = let f : a ≡ b = cc in absurd (n f)

same_tail : (c : ℕ) (x y : List ℕ) → c ∷ x ≡ c ∷ y → x ≡ y
same_tail c x y e = cc

along : (s t x y u v : List ℕ) → s ≡ u → t ≡ v → s ++ x ≡ t ++ y → u ++ x ≡ v ++ y
along s t x y u v h k e = ap (λ z. z ++ x) (sym h) ∙ (e ∙ ap (λ z. z ++ y) k)

not_below : (s t x y : List ℕ) → s ≡ 45 ∷ [] → IsSign false t → Begins IsStart y → s ++ x ≡ t ++ y → ⊥
not_below s t x y h (inl k) q e = signed_start 45 x y q no_minus (along s t x y (45 ∷ []) [] h k e)
not_below s t x y h (inr k) q e = differ 45 43 x y (λ f. omega (arith, f)) (along s t x y (45 ∷ []) (43 ∷ []) h k e)

not_negative : (s t x y : List ℕ) → IsSign false s → IsSign false t → Begins IsStart x → Begins IsStart y → s ++ x ≡ t ++ y → x ≡ y
not_negative s t x y (inl h) (inl k) p q e = along s t x y [] [] h k e
not_negative s t x y (inl h) (inr k) p q e = absurd (signed_start 43 y x p no_plus (sym (along s t x y [] (43 ∷ []) h k e)))
not_negative s t x y (inr h) (inl k) p q e = absurd (signed_start 43 x y q no_plus (along s t x y (43 ∷ []) [] h k e))
not_negative s t x y (inr h) (inr k) p q e = same_tail 43 x y (along s t x y (43 ∷ []) (43 ∷ []) h k e)

-- The sign and what follows it are determined.
pub sign_one : (a b : Bool) (s t x y : List ℕ) → IsSign a s → IsSign b t → Begins IsStart x → Begins IsStart y → s ++ x ≡ t ++ y → (a ≡ b) × (x ≡ y)
sign_one true true s t x y h k p q e = (refl, same_tail 45 x y (along s t x y (45 ∷ []) (45 ∷ []) h k e))
sign_one true false s t x y h k p q e = absurd (not_below s t x y h k q e)
sign_one false true s t x y h k p q e = absurd (not_below t s y x k h p (sym e))
sign_one false false s t x y h k p q e = (refl, not_negative s t x y h k p q e)

-- An exponent, or nothing.
abbrev IsTail : List ℕ → Type 0
IsTail l = (l ≡ []) ⊎ ((x : ℤ) × IsExponent l x)

pub form_tail : (form : ℕ) (fraction exponent : List ℕ) (x : ℤ) → IsOfForm form fraction exponent x → IsTail exponent
form_tail form fraction exponent x (inl h) = inl h.2
form_tail form fraction exponent x (inr (inl h)) = inl h.2
form_tail form fraction exponent x (inr (inr h)) = inr (x, h.1)

no_digit : (mark : ℕ) → (mark ≡ 69) ⊎ (mark ≡ 101) → IsDigit mark → ⊥
no_digit mark (inl e) h = omega (arith, h.1)
no_digit mark (inr e) h = omega (arith, h.1)

tail_off : (l : List ℕ) → IsTail l → StartsOff IsDigit l
tail_off l (inl e) = subst (StartsOff IsDigit) (sym e) tt
tail_off l (inr (x, h)) = subst (StartsOff IsDigit) (sym h.5) (no_digit h.0 h.4)

mark_off : (mark : ℕ) → IsMark mark → IsDigit mark → ⊥
mark_off mark (inl e) h = omega (arith, h.0)
mark_off mark (inr e) h = omega (arith, h.0)

pub fraction_off : (fraction after l : List ℕ) → IsFraction fraction after → IsTail l → StartsOff IsDigit (fraction ++ l)
fraction_off fraction after l (inl h) t = subst (λ z. StartsOff IsDigit (z ++ l)) (sym h.0) (tail_off l t)
fraction_off fraction after l (inr (mark, m, is)) t = subst (λ z. StartsOff IsDigit (z ++ l)) (sym is) (mark_off mark m)

marked : (mark : ℕ) (x l : List ℕ) → IsMark mark → IsTail l → mark ∷ x ≡ l → ⊥
marked mark x l m (inl e) is = let f = is ∙ e in cc
marked mark x l (inl m) (inr (z, h)) is = let f : mark ∷ x ≡ h.0 ∷ (h.2 ++ h.3) = is ∙ h.5 in let g : mark ≡ h.0 = cc in elim h.4 [ inl e ↦ omega arith | inr e ↦ omega arith ]
marked mark x l (inr m) (inr (z, h)) is = let f : mark ∷ x ≡ h.0 ∷ (h.2 ++ h.3) = is ∙ h.5 in let g : mark ≡ h.0 = cc in elim h.4 [ inl e ↦ omega arith | inr e ↦ omega arith ]

-- The fraction's digits and what follows them are determined.
pub fraction_one : (f g a b x y : List ℕ) → IsFraction f a → IsFraction g b → All IsDigit a → All IsDigit b → IsTail x → IsTail y → f ++ x ≡ g ++ y → (a ≡ b) × (x ≡ y)
fraction_one f g a b x y (inl h) (inl k) p q t u e = (h.1 ∙ sym k.1, ap (λ z. z ++ x) (sym h.0) ∙ (e ∙ ap (λ z. z ++ y) k.0))
fraction_one f g a b x y (inl h) (inr (mark, m, is)) p q t u e = absurd (marked mark (b ++ y) x m t (ap (λ z. z ++ y) (sym is) ∙ (sym e ∙ ap (λ z. z ++ x) h.0)))
fraction_one f g a b x y (inr (mark, m, is)) (inl k) p q t u e = absurd (marked mark (a ++ x) y m u (ap (λ z. z ++ x) (sym is) ∙ (e ∙ ap (λ z. z ++ y) k.0)))
fraction_one f g a b x y (inr (c, m, is)) (inr (d, n, other)) p q t u e =
    let j : c ∷ (a ++ x) ≡ d ∷ (b ++ y) = ap (λ z. z ++ x) (sym is) ∙ (e ∙ ap (λ z. z ++ y) other) in
    let k : a ++ x ≡ b ++ y = cc in
    run_one IsDigit a b x y p q (tail_off x t) (tail_off y u) k

digits_begin : (l : List ℕ) → l ≢ [] → All IsDigit l → Begins IsStart l
digits_begin [] n h = absurd (n refl)
digits_begin (c ∷ l) n h = inl (All-head IsDigit c l h)

pub exponents_one : (l : List ℕ) (x y : ℤ) → IsExponent l x → IsExponent l y → x ≡ y
exponents_one l x y (c, a, s, d, m, is, h, n, p, e) (b, o, t, f, r, other, k, w, q, g) =
    let j : c ∷ (s ++ d) ≡ b ∷ (t ++ f) = sym is ∙ other in
    let v : s ++ d ≡ t ++ f = cc in
    let u = sign_one a o s t d f h k (digits_begin d n p) (digits_begin f w q) v in
    e ∙ (ap₂ (λ z w. with_sign z (number_of_digits w)) u.0 u.1 ∙ sym g)

pub form_one : (form : ℕ) (f g l : List ℕ) (x y : ℤ) → IsOfForm form f l x → IsOfForm form g l y → x ≡ y
form_one form f g l x y (inl h) (inl k) = h.3 ∙ sym k.3
form_one form f g l x y (inl h) (inr (inl k)) = h.3 ∙ sym k.3
form_one form f g l x y (inl h) (inr (inr k)) = absurd (omega (arith, h.0, k.0))
form_one form f g l x y (inr (inl h)) (inl k) = h.3 ∙ sym k.3
form_one form f g l x y (inr (inl h)) (inr (inl k)) = h.3 ∙ sym k.3
form_one form f g l x y (inr (inl h)) (inr (inr k)) = absurd (omega (arith, h.0, k.0))
form_one form f g l x y (inr (inr h)) (inl k) = absurd (omega (arith, h.0, k.0))
form_one form f g l x y (inr (inr h)) (inr (inl k)) = absurd (omega (arith, h.0, k.0))
form_one form f g l x y (inr (inr h)) (inr (inr k)) = exponents_one l x y h.1 k.1

-- What follows the sign.
pub body_begins : (whole fraction after l : List ℕ) → All IsDigit whole → IsFraction fraction after → whole ++ after ≢ [] → Begins IsStart (whole ++ (fraction ++ l))
body_begins (c ∷ whole) fraction after l d h n = inl (All-head IsDigit c whole d)
body_begins [] fraction after l d (inl h) n = absurd (n h.1)
body_begins [] fraction after l d (inr (mark, m, is)) n = subst (λ z. Begins IsStart (z ++ l)) (sym is) (inr m)

space_off : (l : List ℕ) → Begins IsStart l → StartsOff (λ c. c ≡ 32) l
space_off [] b = tt
space_off (c ∷ l) b = λ e. no_space (subst IsStart e b)

pub sign_off : (a : Bool) (s l : List ℕ) → IsSign a s → Begins IsStart l → StartsOff (λ c. c ≡ 32) (s ++ l)
sign_off true s l h b = subst (λ z. StartsOff (λ c. c ≡ 32) (z ++ l)) (sym h) (λ e. omega (arith, e))
sign_off false s l (inl h) b = subst (λ z. StartsOff (λ c. c ≡ 32) (z ++ l)) (sym h) (space_off l b)
sign_off false s l (inr h) b = subst (λ z. StartsOff (λ c. c ≡ 32) (z ++ l)) (sym h) (λ e. omega (arith, e))

pub decimal_one : (l : List ℕ) (b c : Bool) (m n : ℕ) (d e : ℤ) → IsDecimal l b m d → IsDecimal l c n e → decimal b m d ≡ decimal c n e
decimal_one l b c m n d e h k =
    let is : h.form ∷ (h.spaces ++ (h.sign ++ (h.whole ++ (h.fraction ++ h.exponent)))) ≡ k.form ∷ (k.spaces ++ (k.sign ++ (k.whole ++ (k.fraction ++ k.exponent)))) = sym h.is ∙ k.is in
    let f : h.form ≡ k.form = cc in
    let g : h.spaces ++ (h.sign ++ (h.whole ++ (h.fraction ++ h.exponent))) ≡ k.spaces ++ (k.sign ++ (k.whole ++ (k.fraction ++ k.exponent))) = cc in
    let t = form_tail h.form h.fraction h.exponent h.x h.has_form in
    let u = form_tail k.form k.fraction k.exponent k.x k.has_form in
    let p = body_begins h.whole h.fraction h.after h.exponent h.whole_digits h.has_fraction h.some in
    let q = body_begins k.whole k.fraction k.after k.exponent k.whole_digits k.has_fraction k.some in
    let s = run_one (λ z. z ≡ 32) h.spaces k.spaces (h.sign ++ (h.whole ++ (h.fraction ++ h.exponent))) (k.sign ++ (k.whole ++ (k.fraction ++ k.exponent))) h.has_spaces k.has_spaces
    (sign_off b h.sign (h.whole ++ (h.fraction ++ h.exponent)) h.has_sign p) (sign_off c k.sign (k.whole ++ (k.fraction ++ k.exponent)) k.has_sign q) g in
    let o = sign_one b c h.sign k.sign (h.whole ++ (h.fraction ++ h.exponent)) (k.whole ++ (k.fraction ++ k.exponent)) h.has_sign k.has_sign p q s.1 in
    let w = run_one IsDigit h.whole k.whole (h.fraction ++ h.exponent) (k.fraction ++ k.exponent) h.whole_digits k.whole_digits
    (fraction_off h.fraction h.after h.exponent h.has_fraction t) (fraction_off k.fraction k.after k.exponent k.has_fraction u) o.1 in
    let a = fraction_one h.fraction k.fraction h.after k.after h.exponent k.exponent h.has_fraction k.has_fraction h.after_digits k.after_digits t u w.1 in
    let x = form_one k.form h.fraction k.fraction k.exponent h.x k.x (subst (λ z. IsOfForm k.form h.fraction z h.x) a.1 (subst (λ z. IsOfForm z h.fraction h.exponent h.x) f h.has_form)) k.has_form in
    let v : m * 10 ^ h.shift ≡ n * 10 ^ k.shift = sym h.value ∙ (ap₂ (λ y z. number_of_digits (y ++ z)) w.0 a.0 ∙ k.value) in
    let r = last_one m n h.shift k.shift h.last k.last v in
    let y : d ≡ e = h.scale ∙ (ap₂ (λ y z. y -ℤ pos (length z) +ℤ pos h.shift) x a.0 ∙ (ap (λ z. k.x -ℤ pos (length k.after) +ℤ pos z) r.1 ∙ sym k.scale)) in
    ap (λ z. decimal z m d) o.0 ∙ (ap (λ z. decimal c z d) r.0 ∙ ap (λ z. decimal c n z) y)

-- ---- values

-- The first octet tells what kind of value there is.
abbrev IsFirst : (ℕ → Type 0) → List ℕ → Type 0
IsFirst P [] = ⊥
IsFirst P (c ∷ l) = P c

abbrev IsBelow4 : ℕ → Type 0
IsBelow4 c = c < 4

binary_first : (l : List ℕ) (b : Bool) (m : ℕ) (e : ℤ) → IsBinary l b m e → IsFirst (λ c. 128 ≤ c) l
binary_first l b m e h = subst (IsFirst (λ c. 128 ≤ c)) (sym h.is) (omega arith)

pub form_few : (form : ℕ) (f l : List ℕ) (x : ℤ) → IsOfForm form f l x → form < 4
form_few form f l x (inl h) = omega (arith, h.0)
form_few form f l x (inr (inl h)) = omega (arith, h.0)
form_few form f l x (inr (inr h)) = omega (arith, h.0)

decimal_first : (l : List ℕ) (b : Bool) (m : ℕ) (e : ℤ) → IsDecimal l b m e → IsFirst IsBelow4 l
decimal_first l b m e h = subst (IsFirst IsBelow4) (sym h.is) (form_few h.form h.fraction h.exponent h.x h.has_form)

apart : {A : Type 0} (l : List ℕ) → IsFirst (λ c. 128 ≤ c) l → IsFirst IsBelow4 l → A
apart [] h k = absurd h
apart (c ∷ l) h k = absurd (omega (arith, h, k))

pub real_one : (l : List ℕ) (r s : Real) → RealContents l r → RealContents l s → r ≡ s
real_one l plus_zero plus_zero h k = refl
real_one l plus_zero minus_zero h k = let f = sym h ∙ k in absurd cc
real_one l plus_zero plus_infinity h k = let f = sym h ∙ k in absurd cc
real_one l plus_zero minus_infinity h k = let f = sym h ∙ k in absurd cc
real_one l plus_zero not_a_number h k = let f = sym h ∙ k in absurd cc
real_one l plus_zero (binary c n e) h k = absurd (subst (IsFirst (λ z. 128 ≤ z)) h (binary_first l c n e k))
real_one l plus_zero (decimal c n e) h k = absurd (subst (IsFirst IsBelow4) h (decimal_first l c n e k))
real_one l minus_zero plus_zero h k = let f = sym h ∙ k in absurd cc
real_one l minus_zero minus_zero h k = refl
real_one l minus_zero plus_infinity h k = differ 67 64 [] [] (λ e. omega (arith, e)) (sym h ∙ k)
real_one l minus_zero minus_infinity h k = differ 67 65 [] [] (λ e. omega (arith, e)) (sym h ∙ k)
real_one l minus_zero not_a_number h k = differ 67 66 [] [] (λ e. omega (arith, e)) (sym h ∙ k)
real_one l minus_zero (binary c n e) h k = let o : IsFirst (λ z. 128 ≤ z) (67 ∷ []) = subst (IsFirst (λ z. 128 ≤ z)) h (binary_first l c n e k) in absurd (omega (arith, o))
real_one l minus_zero (decimal c n e) h k = let o : IsFirst IsBelow4 (67 ∷ []) = subst (IsFirst IsBelow4) h (decimal_first l c n e k) in absurd (omega (arith, o))
real_one l plus_infinity plus_zero h k = let f = sym h ∙ k in absurd cc
real_one l plus_infinity minus_zero h k = differ 64 67 [] [] (λ e. omega (arith, e)) (sym h ∙ k)
real_one l plus_infinity plus_infinity h k = refl
real_one l plus_infinity minus_infinity h k = differ 64 65 [] [] (λ e. omega (arith, e)) (sym h ∙ k)
real_one l plus_infinity not_a_number h k = differ 64 66 [] [] (λ e. omega (arith, e)) (sym h ∙ k)
real_one l plus_infinity (binary c n e) h k = let o : IsFirst (λ z. 128 ≤ z) (64 ∷ []) = subst (IsFirst (λ z. 128 ≤ z)) h (binary_first l c n e k) in absurd (omega (arith, o))
real_one l plus_infinity (decimal c n e) h k = let o : IsFirst IsBelow4 (64 ∷ []) = subst (IsFirst IsBelow4) h (decimal_first l c n e k) in absurd (omega (arith, o))
real_one l minus_infinity plus_zero h k = let f = sym h ∙ k in absurd cc
real_one l minus_infinity minus_zero h k = differ 65 67 [] [] (λ e. omega (arith, e)) (sym h ∙ k)
real_one l minus_infinity plus_infinity h k = differ 65 64 [] [] (λ e. omega (arith, e)) (sym h ∙ k)
real_one l minus_infinity minus_infinity h k = refl
real_one l minus_infinity not_a_number h k = differ 65 66 [] [] (λ e. omega (arith, e)) (sym h ∙ k)
real_one l minus_infinity (binary c n e) h k = let o : IsFirst (λ z. 128 ≤ z) (65 ∷ []) = subst (IsFirst (λ z. 128 ≤ z)) h (binary_first l c n e k) in absurd (omega (arith, o))
real_one l minus_infinity (decimal c n e) h k = let o : IsFirst IsBelow4 (65 ∷ []) = subst (IsFirst IsBelow4) h (decimal_first l c n e k) in absurd (omega (arith, o))
real_one l not_a_number plus_zero h k = let f = sym h ∙ k in absurd cc
real_one l not_a_number minus_zero h k = differ 66 67 [] [] (λ e. omega (arith, e)) (sym h ∙ k)
real_one l not_a_number plus_infinity h k = differ 66 64 [] [] (λ e. omega (arith, e)) (sym h ∙ k)
real_one l not_a_number minus_infinity h k = differ 66 65 [] [] (λ e. omega (arith, e)) (sym h ∙ k)
real_one l not_a_number not_a_number h k = refl
real_one l not_a_number (binary c n e) h k = let o : IsFirst (λ z. 128 ≤ z) (66 ∷ []) = subst (IsFirst (λ z. 128 ≤ z)) h (binary_first l c n e k) in absurd (omega (arith, o))
real_one l not_a_number (decimal c n e) h k = let o : IsFirst IsBelow4 (66 ∷ []) = subst (IsFirst IsBelow4) h (decimal_first l c n e k) in absurd (omega (arith, o))
real_one l (binary b m d) plus_zero h k = absurd (subst (IsFirst (λ z. 128 ≤ z)) k (binary_first l b m d h))
real_one l (binary b m d) minus_zero h k = let o : IsFirst (λ z. 128 ≤ z) (67 ∷ []) = subst (IsFirst (λ z. 128 ≤ z)) k (binary_first l b m d h) in absurd (omega (arith, o))
real_one l (binary b m d) plus_infinity h k = let o : IsFirst (λ z. 128 ≤ z) (64 ∷ []) = subst (IsFirst (λ z. 128 ≤ z)) k (binary_first l b m d h) in absurd (omega (arith, o))
real_one l (binary b m d) minus_infinity h k = let o : IsFirst (λ z. 128 ≤ z) (65 ∷ []) = subst (IsFirst (λ z. 128 ≤ z)) k (binary_first l b m d h) in absurd (omega (arith, o))
real_one l (binary b m d) not_a_number h k = let o : IsFirst (λ z. 128 ≤ z) (66 ∷ []) = subst (IsFirst (λ z. 128 ≤ z)) k (binary_first l b m d h) in absurd (omega (arith, o))
real_one l (binary b m d) (binary c n e) h k = binary_one l b c m n d e h k
real_one l (binary b m d) (decimal c n e) h k = apart l (binary_first l b m d h) (decimal_first l c n e k)
real_one l (decimal b m d) plus_zero h k = absurd (subst (IsFirst IsBelow4) k (decimal_first l b m d h))
real_one l (decimal b m d) minus_zero h k = let o : IsFirst IsBelow4 (67 ∷ []) = subst (IsFirst IsBelow4) k (decimal_first l b m d h) in absurd (omega (arith, o))
real_one l (decimal b m d) plus_infinity h k = let o : IsFirst IsBelow4 (64 ∷ []) = subst (IsFirst IsBelow4) k (decimal_first l b m d h) in absurd (omega (arith, o))
real_one l (decimal b m d) minus_infinity h k = let o : IsFirst IsBelow4 (65 ∷ []) = subst (IsFirst IsBelow4) k (decimal_first l b m d h) in absurd (omega (arith, o))
real_one l (decimal b m d) not_a_number h k = let o : IsFirst IsBelow4 (66 ∷ []) = subst (IsFirst IsBelow4) k (decimal_first l b m d h) in absurd (omega (arith, o))
real_one l (decimal b m d) (binary c n e) h k = apart l (binary_first l c n e k) (decimal_first l b m d h)
real_one l (decimal b m d) (decimal c n e) h k = decimal_one l b c m n d e h k

-- ---- canonical octets are determined

mantissa_one : (k l : List ℕ) → IsShortestMantissa k → IsShortestMantissa l → AreOctets k → AreOctets l → number_in 256 k ≡ number_in 256 l → k ≡ l
mantissa_one [] l h i o u e = absurd h
mantissa_one (b ∷ k) [] h i o u e = absurd i
mantissa_one (b ∷ k) (c ∷ l) h i o u e = octets_one (b ∷ k) (c ∷ l) o u (ap suc (shortest_lengths b k c l h i o.0 u.0 e)) e

-- The octets of the exponent, and those of the mantissa.
canonical_octets : (l : List ℕ) (b : Bool) (m : ℕ) (e : ℤ) → (h : IsCanonicalBinary l b m e) → AreOctets h.exponent × AreOctets h.mantissa
canonical_octets l b m e h =
    let o = subst AreOctets h.is h.octets in
    let p = front_octets h.field h.mantissa o.1 in
    (held h.has_exponent p.0, p.1)
  where
    held : HoldsExponent h.form h.field h.exponent → AreOctets h.field → AreOctets h.exponent
    held (inl k) o = subst AreOctets k.2 o
    held (inr k) o = (subst AreOctets k.1 o).1

-- An exponent has one form, and with it one field.
field_one : (g h : ℕ) (x y e : List ℕ) → HoldsExponent g x e → HoldsExponent h y e → (g ≡ 3 → 3 < length e) → (h ≡ 3 → 3 < length e) → (g ≡ h) × (x ≡ y)
field_one g h x y e (inl p) (inl q) few less = (omega (arith, p.1, q.1), p.2 ∙ sym q.2)
field_one g h x y e (inl p) (inr q) few less = absurd (omega (arith, p.0, p.1, less q.0))
field_one g h x y e (inr p) (inl q) few less = absurd (omega (arith, q.0, q.1, few p.0))
field_one g h x y e (inr p) (inr q) few less = (p.0 ∙ sym q.0, p.1 ∙ sym q.1)

written_one : (k l : List ℕ) (b : Bool) (m : ℕ) (e : ℤ) → IsCanonicalBinary k b m e → IsCanonicalBinary l b m e → k ≡ l
written_one k l b m e h i =
    let o = canonical_octets k b m e h in
    let u = canonical_octets l b m e i in
    let x = signed_one h.exponent i.exponent h.exponent_shortest i.exponent_shortest o.0 u.0 (h.exponent_is ∙ sym i.exponent_is) in
    let y = mantissa_one h.mantissa i.mantissa h.mantissa_shortest i.mantissa_shortest o.1 u.1 (h.mantissa_is ∙ sym i.mantissa_is) in
    let f = field_one h.form i.form h.field i.field i.exponent (subst (HoldsExponent h.form h.field) x h.has_exponent) i.has_exponent (λ z. subst (λ w. 3 < length w) x (h.few z)) i.few in
    h.is ∙ (ap₂ (λ v w. (128 + 64 * bit_of b + v) ∷ (w ++ h.mantissa)) f.0 f.1 ∙ (ap (λ w. (128 + 64 * bit_of b + i.form) ∷ (i.field ++ w)) y ∙ sym i.is))

-- A number whose first digit isn't 0 isn't 0.
some_number : (l : List ℕ) (n : ℕ) → SpellsDigits l n → 0 < n
some_number [] n h = absurd h
some_number (c ∷ l) n h =
    let d = All-head IsDigit c l h.1 in
    let g : 10 ^ length (map (λ z. z - 48) l) ≤ number_in 10 (map (λ z. z - 48) (c ∷ l)) = lead 10 (c - 48) (map (λ z. z - 48) l) (lead_digit c d h.0) in
    let p = one-le-pow (length (map (λ z. z - 48) l)) 10 (omega arith) in
    let v = h.2 in
    positive (10 ^ length (map (λ z. z - 48) l)) (number_in 10 (map (λ z. z - 48) (c ∷ l))) n p g v
  where
    lead_digit : (c : ℕ) → IsDigit c → c ≢ 48 → 0 < (c - 48) % 10
    lead_digit c d n = omega arith

    positive : (p v n : ℕ) → 1 ≤ p → p ≤ v → n ≡ v → 0 < n
    positive p v n h i e = omega arith

no_zero : (b : Bool) (l : List ℕ) (n : ℕ) → SpellsDigits l n → with_sign b n ≡ pos 0 → ⊥
no_zero true l n h e = let s = some_number l n h in omega (arith, ints)
no_zero false l n h e = let s = some_number l n h in omega (arith, ints)

-- The text of an exponent is determined.
sign_texts : (a b : Bool) (j k : List ℕ) (m n : ℕ) → SpellsDigits j m → SpellsDigits k n → with_sign a m ≡ with_sign b n → sign_text a ++ j ≡ sign_text b ++ k
sign_texts false false j k m n h i e = digits_once j k m n h i cc
sign_texts true true j k m n h i e = ap (λ z. 45 ∷ z) (digits_once j k m n h i (omega (arith, ints)))
sign_texts false true j k m n h i e = absurd (omega (arith, ints, some_number j m h, some_number k n i))
sign_texts true false j k m n h i e = absurd (omega (arith, ints, some_number j m h, some_number k n i))

exponent_text_one : (j k : List ℕ) (e : ℤ) → IsShortestExponent j e → IsShortestExponent k e → j ≡ k
exponent_text_one j k e (inl h) (inl i) = h.0 ∙ sym i.0
exponent_text_one j k e (inl h) (inr (b, digits, n, s, t, z)) = absurd (no_zero b digits n s (sym z ∙ h.1))
exponent_text_one j k e (inr (b, digits, n, s, t, z)) (inl i) = absurd (no_zero b digits n s (sym z ∙ i.1))
exponent_text_one j k e (inr (b, digits, n, s, t, z)) (inr (c, others, m, u, v, w)) = t ∙ (sign_texts b c digits others n m s u (sym z ∙ w) ∙ sym v)

decimal_written : (k l : List ℕ) (b : Bool) (m : ℕ) (e : ℤ) → IsCanonicalDecimal k b m e → IsCanonicalDecimal l b m e → k ≡ l
decimal_written k l b m e h i =
    h.is ∙ (ap₂ (λ y z. 3 ∷ (sign_text b ++ (y ++ 46 ∷ 69 ∷ z))) (digits_once h.mantissa i.mantissa m m h.mantissa_is i.mantissa_is refl) (exponent_text_one h.exponent i.exponent e h.exponent_is i.exponent_is) ∙ sym i.is)

canonical_once : (r : Real) (a b : List ℕ) → CanonicalReal a r → CanonicalReal b r → a ≡ b
canonical_once plus_zero a b h k = h ∙ sym k
canonical_once minus_zero a b h k = h ∙ sym k
canonical_once plus_infinity a b h k = h ∙ sym k
canonical_once minus_infinity a b h k = h ∙ sym k
canonical_once not_a_number a b h k = h ∙ sym k
canonical_once (binary c m e) a b h k = written_one a b c m e h k
canonical_once (decimal c m e) a b h k = decimal_written a b c m e h k

pub canonical_one : (l a b : List ℕ) (r s : Real) → RealContents l r → RealContents l s → CanonicalReal a r → CanonicalReal b s → a ≡ b
canonical_one l a b r s h k c d = canonical_once s a b (subst (CanonicalReal a) (real_one l r s h k) c) d
