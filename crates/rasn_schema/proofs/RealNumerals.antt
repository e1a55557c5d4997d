-- What a numeral says, as the program reads it.
use Rattle.std.proofs.Common.{◌≡◌, ◌≢◌, ◌⊎◌, ℕ, zero, suc, ◌+◌, ◌*◌, ◌^◌, ◌%◌, ◌<◌, ◌≤◌, inl, inr, List, [], ◌∷◌, ◌++◌, length, Bool, true, false, Global, ℤ, pos, ◌+ℤ◌, ◌-ℤ◌, Option, Some, None, refl, sym, ap, ap₂, ◌∙◌, subst, arith, mul-le-mul_right}
use Rattle.std.specs.Prelude.{Vec, MatchOption}
use Rattle.std.proofs.Math.Nat.{one-le-pow}
use Rattle.std.proofs.lemmas.List.{append_cancel_right}
use Rattle.rasn_types.specs.Framing.{bit_of}
use Rattle.rasn_types.specs.Contents.{Real, plus_zero, minus_zero, plus_infinity, minus_infinity, not_a_number, binary, decimal, IsDigit, number_of_digits, IsExponent, IsOfForm, IsDecimal, RealContents}
use Rattle.rasn_types.proofs.Reals.{run_one, last_one, sign_one, form_tail, fraction_off, fraction_one, exponents_one, body_begins, sign_off}
use Rattle.rasn_schema.specs.declared.real_decimal.Exponent.{Exponent}
use Rattle.rasn_schema.specs.declared.real_decimal.Numeral.{Numeral}
use Rattle.rasn_schema.specs.Reals.{IsRealOctets, IsOfNumeral}
use Rattle.rasn_schema.specs.Numerals.{exponent_number, IsExponentPart, exponent_or_zero, HasMark, IsNumeral, IsNoNumeral, HasForm, IsTenPart, moved_exponent, digits_of, IsContentsOf, HasNoContents}

-- The number of an exponent.
pub part_exponent : (l : List ℕ) (x : Exponent) → IsExponentPart l (Some x) → IsExponent l (exponent_number x)
part_exponent l x (mark, sign, m, is, s, n, d) = (mark, x.is_negative, sign, x.digits.now, m, is, s, n, d, refl)

-- The form of a numeral.
form_is : (form : ℕ) (n : Numeral) (fraction exponent : List ℕ) → HasMark n.has_mark fraction → IsExponentPart exponent n.exponent → HasForm form n → IsOfForm form fraction exponent (exponent_or_zero n.exponent)
form_is form n fraction exponent mark small (inl h) =
    inl (h.0, subst (λ z. HasMark z fraction) h.1 mark, subst (IsExponentPart exponent) h.2 small, ap exponent_or_zero h.2)
form_is form n fraction exponent mark small (inr (inl h)) =
    inr (inl (h.0, subst (λ z. HasMark z fraction) h.1 mark, subst (IsExponentPart exponent) h.2 small, ap exponent_or_zero h.2))
form_is form n fraction exponent mark small (inr (inr h)) =
    let s = subst (IsExponentPart exponent) h.1.1 small in
    inr (inr (h.0, subst (IsExponent exponent) (sym (ap exponent_or_zero h.1.1)) (part_exponent exponent h.1.0 s)))

pub read_as : (form : ℕ) (text : List ℕ) (n : Numeral) (m shift : ℕ) → IsNumeral text n → HasForm form n → IsTenPart (digits_of n) m shift
    → IsDecimal (form ∷ text) n.is_negative m (moved_exponent n shift)
read_as form text n m shift h f t = record {
  form = form;
  spaces = h.spaces;
  sign = h.sign;
  whole = n.whole.now;
  fraction = h.fraction;
  after = n.after.now;
  exponent = h.exponent;
  x = exponent_or_zero n.exponent;
  shift = shift;
  is = ap (λ z. form ∷ z) h.is;
  has_spaces = h.has_spaces;
  has_sign = h.has_sign;
  has_fraction = h.has_fraction;
  has_form = form_is form n h.fraction h.exponent h.has_mark h.has_exponent f;
  whole_digits = h.whole_digits;
  after_digits = h.after_digits;
  some = h.some;
  last = t.0;
  value = t.1;
  scale = refl;
}

pub decimal_made : (form : ℕ) (text : List ℕ) (n : Numeral) (octets : List ℕ) → IsNumeral text n → HasForm form n → IsContentsOf n octets → IsRealOctets (form ∷ text) octets
decimal_made form text n octets h f (m, shift, t, c) = (decimal n.is_negative m (moved_exponent n shift), read_as form text n m shift h f t, c, λ z. absurd z)

-- A REAL whose first octet is below 64 has base 10.
ber_decimal : (form : ℕ) (text : List ℕ) → form < 64 → (r : Real) → RealContents (form ∷ text) r → (b : Bool) × (m : ℕ) × (e : ℤ) × IsDecimal (form ∷ text) b m e
ber_decimal form text low plus_zero h = let e = h in absurd cc
ber_decimal form text low minus_zero h = let f : form ≡ 67 = cc in absurd (omega arith)
ber_decimal form text low plus_infinity h = let f : form ≡ 64 = cc in absurd (omega arith)
ber_decimal form text low minus_infinity h = let f : form ≡ 65 = cc in absurd (omega arith)
ber_decimal form text low not_a_number h = let f : form ≡ 66 = cc in absurd (omega arith)
ber_decimal form text low (binary b m e) h =
    let k = h.is in
    let f : form ≡ 128 + 64 * bit_of b + 16 * h.base + 4 * h.factor + h.form = cc in
    absurd (omega arith)
ber_decimal form text low (decimal b m e) h = (b, m, e, h)

pub no_numeral : (form : ℕ) (text : List ℕ) → form < 64 → IsNoNumeral text → (octets : List ℕ) → IsRealOctets (form ∷ text) octets → ⊥
no_numeral form text low bad octets r = let w = ber_decimal form text low r.0 r.1 in bad form w.0 w.1 w.2 w.3

-- ---- the form and the number of a numeral are determined

-- What the octets of a numeral say.
pub record Reading (form : ℕ) (n : Numeral) : Type 0 where
  pub m : ℕ
  pub shift : ℕ
  pub has_form : HasForm form n
  pub part : IsTenPart (digits_of n) m shift

small_tail : (l : List ℕ) (x : Option Exponent) → IsExponentPart l x → (l ≡ []) ⊎ ((y : ℤ) × IsExponent l y)
small_tail l None h = inl h
small_tail l (Some x) h = inr (exponent_number x, part_exponent l x h)

no_mark : (b : Bool) (l : List ℕ) → HasMark b l → l ≡ [] → b ≡ false
no_mark true l h e = absurd (h e)
no_mark false l h e = refl

some_mark : (b : Bool) (l : List ℕ) → HasMark b l → l ≢ [] → b ≡ true
some_mark true l h n = refl
some_mark false l h n = absurd (n h)

not_nothing : (l : List ℕ) (x : ℤ) → IsExponent l x → l ≡ [] → ⊥
not_nothing l x (mark, b, sign, digits, m, is, s, n, d, z) e = let f : [] ≡ mark ∷ (sign ++ digits) = sym e ∙ is in cc

none_at : (l : List ℕ) (o : Option Exponent) → IsExponentPart l o → l ≡ [] → o ≡ None
none_at l None h e = refl
none_at l (Some x) h e = absurd (not_nothing l (exponent_number x) (part_exponent l x h) e)

some_at : (l : List ℕ) (o : Option Exponent) (x : ℤ) → IsExponentPart l o → IsExponent l x → (y : Exponent) × (o ≡ Some y) × (x ≡ exponent_number y)
some_at l None x h k = absurd (not_nothing l x k h)
some_at l (Some y) x h k = (y, refl, exponents_one l x (exponent_number y) k (part_exponent l y h))

form_back : (form : ℕ) (n : Numeral) (fraction exponent : List ℕ) (x : ℤ) → HasMark n.has_mark fraction → IsExponentPart exponent n.exponent → IsOfForm form fraction exponent x
    → HasForm form n × (x ≡ exponent_or_zero n.exponent)
form_back form n fraction exponent x mark small (inl h) =
    let e = none_at exponent n.exponent small h.2 in
    (inl (h.0, no_mark n.has_mark fraction mark h.1, e), h.3 ∙ sym (ap exponent_or_zero e))
form_back form n fraction exponent x mark small (inr (inl h)) =
    let e = none_at exponent n.exponent small h.2 in
    (inr (inl (h.0, some_mark n.has_mark fraction mark h.1, e)), h.3 ∙ sym (ap exponent_or_zero e))
form_back form n fraction exponent x mark small (inr (inr h)) =
    let e = some_at exponent n.exponent x small h.1 in
    (inr (inr (h.0, (e.0, e.1))), e.2 ∙ sym (ap exponent_or_zero e.1))

read_back : (form : ℕ) (text : List ℕ) (n : Numeral) (b : Bool) (m : ℕ) (e : ℤ) → IsNumeral text n → IsDecimal (form ∷ text) b m e → Reading form n
read_back form text n b m e k h =
    let is : form ∷ text ≡ h.form ∷ (h.spaces ++ (h.sign ++ (h.whole ++ (h.fraction ++ h.exponent)))) = h.is in
    let f : form ≡ h.form = cc in
    let g : text ≡ h.spaces ++ (h.sign ++ (h.whole ++ (h.fraction ++ h.exponent))) = cc in
    let t = small_tail k.exponent n.exponent k.has_exponent in
    let u = form_tail h.form h.fraction h.exponent h.x h.has_form in
    let p = body_begins n.whole.now k.fraction n.after.now k.exponent k.whole_digits k.has_fraction k.some in
    let q = body_begins h.whole h.fraction h.after h.exponent h.whole_digits h.has_fraction h.some in
    let s = run_one (λ z. z ≡ 32) k.spaces h.spaces (k.sign ++ (n.whole.now ++ (k.fraction ++ k.exponent))) (h.sign ++ (h.whole ++ (h.fraction ++ h.exponent))) k.has_spaces h.has_spaces
    (sign_off n.is_negative k.sign (n.whole.now ++ (k.fraction ++ k.exponent)) k.has_sign p) (sign_off b h.sign (h.whole ++ (h.fraction ++ h.exponent)) h.has_sign q) (sym k.is ∙ g) in
    let o = sign_one n.is_negative b k.sign h.sign (n.whole.now ++ (k.fraction ++ k.exponent)) (h.whole ++ (h.fraction ++ h.exponent)) k.has_sign h.has_sign p q s.1 in
    let w = run_one IsDigit n.whole.now h.whole (k.fraction ++ k.exponent) (h.fraction ++ h.exponent) k.whole_digits h.whole_digits
    (fraction_off k.fraction n.after.now k.exponent k.has_fraction t) (fraction_off h.fraction h.after h.exponent h.has_fraction u) o.1 in
    let a = fraction_one k.fraction h.fraction n.after.now h.after k.exponent h.exponent k.has_fraction h.has_fraction k.after_digits h.after_digits t u w.1 in
    let r : k.fraction ≡ h.fraction = append_cancel_right k.fraction h.fraction h.exponent (ap (λ z. k.fraction ++ z) (sym a.1) ∙ w.1) in
    let x = form_back h.form n h.fraction h.exponent h.x (subst (HasMark n.has_mark) r k.has_mark) (subst (λ z. IsExponentPart z n.exponent) a.1 k.has_exponent) h.has_form in
    record {
      m = m;
      shift = h.shift;
      has_form = subst (λ z. HasForm z n) (sym f) x.0;
      part = (h.last, ap₂ (λ y z. number_of_digits (y ++ z)) w.0 a.0 ∙ h.value);
    }

pub no_form : (form : ℕ) (text : List ℕ) (n : Numeral) → form < 64 → IsNumeral text n → (HasForm form n → ⊥) → (octets : List ℕ) → IsRealOctets (form ∷ text) octets → ⊥
no_form form text n low k bad octets r = let w = ber_decimal form text low r.0 r.1 in bad (read_back form text n w.0 w.1 w.2 k w.3).has_form

pub no_octets : (form : ℕ) (text : List ℕ) (n : Numeral) → form < 64 → IsNumeral text n → HasNoContents n → (octets : List ℕ) → IsRealOctets (form ∷ text) octets → ⊥
no_octets form text n low k bad octets r =
    let w = ber_decimal form text low r.0 r.1 in
    let b = read_back form text n w.0 w.1 w.2 k w.3 in
    bad b.m b.shift b.part

-- What is found, or that nothing is.
pub found_octets : (form : ℕ) (text : List ℕ) (n : Numeral) → form < 64 → IsNumeral text n → HasForm form n → (r : Option (Vec ℕ Global)) → MatchOption r (HasNoContents n) (λ v. IsContentsOf n v.items)
    → MatchOption r ((octets : List ℕ) → IsRealOctets (form ∷ text) octets → ⊥) (λ v. IsRealOctets (form ∷ text) v.items)
found_octets form text n low k f None h = no_octets form text n low k h
found_octets form text n low k f (Some v) h = decimal_made form text n v.items k f h

-- ---- a numeral in whichever form

the_form : (n : Numeral) → (form : ℕ) × (form < 64) × HasForm form n
the_form n = go n.has_mark n.exponent refl refl
  where
    go : (b : Bool) (o : Option Exponent) → n.has_mark ≡ b → n.exponent ≡ o → (form : ℕ) × (form < 64) × HasForm form n
    go false None e f = (1, omega arith, inl (refl, e, f))
    go true None e f = (2, omega arith, inr (inl (refl, e, f)))
    go false (Some x) e f = (3, omega arith, inr (inr (refl, (x, f))))
    go true (Some x) e f = (3, omega arith, inr (inr (refl, (x, f))))

of_numeral : (text : List ℕ) (n : Numeral) (octets : List ℕ) → IsNumeral text n → IsContentsOf n octets → IsOfNumeral text octets
of_numeral text n octets k c = let f = the_form n in (f.0, f.1, decimal_made f.0 text n octets k f.2 c)

not_of_numeral : (text : List ℕ) (n : Numeral) → IsNumeral text n → HasNoContents n → (octets : List ℕ) → IsOfNumeral text octets → ⊥
not_of_numeral text n k bad octets (form, low, r) = no_octets form text n low k bad octets r

pub found_of_numeral : (text : List ℕ) (n : Numeral) → IsNumeral text n → (r : Option (Vec ℕ Global)) → MatchOption r (HasNoContents n) (λ v. IsContentsOf n v.items)
    → MatchOption r ((octets : List ℕ) → IsOfNumeral text octets → ⊥) (λ v. IsOfNumeral text v.items)
found_of_numeral text n k None h = not_of_numeral text n k h
found_of_numeral text n k (Some v) h = of_numeral text n v.items k h

pub of_no_numeral : (text : List ℕ) → IsNoNumeral text → (octets : List ℕ) → IsOfNumeral text octets → ⊥
of_no_numeral text bad octets (form, low, r) = no_numeral form text low bad octets r

-- ---- the contents of a numeral

pub of_zero : (n : Numeral) → digits_of n ≡ 0 → HasNoContents n
of_zero n z m shift t = by m (10 ^ shift) t.0 (one-le-pow shift 10 (omega arith)) (sym z ∙ t.1)
  where
    by : (m p : ℕ) → m % 10 ≢ 0 → 1 ≤ p → 0 ≡ m * p → ⊥
    by zero p n h e = n refl
    by (suc m) p n h e = let g : 1 * p ≤ suc m * p = mul-le-mul_right p (omega arith) in omega arith
