-- JSON of a REAL that was worked out by hand.
use Rattle.std.proofs.Common.{◌≡◌, ℕ, List, [], ◌∷◌, get_or, pos, negsuc, false, true, inl, inr, refl, sym, ap, ◌∙◌, arith, rules}
use Rattle.std.specs.Prelude.{codes}
use Rattle.std.specs.Float.{fin}
use Rattle.std.specs.Fmt.{decimal, digits}
use Rattle.std.proofs.lemmas.Int.{ints}
use Rattle.std.proofs.lemmas.List.Elements.{All-from_recursion}
use Rattle.json.specs.Json.{number, string}
use Rattle.rasn_types.specs.Contents.{IsDigit, RepeatsSign, IsCanonicalBinary, IsCanonicalDecimal, plus_zero}
use Rattle.rasn_types.proofs.Reals.{differ}
use Rattle.rasn_schema.specs.declared.real.Real.TheVariants.{Zero, MinusZero, Infinity, MinusInfinity, NotANumber, Binary, Decimal}
use Rattle.rasn_schema.specs.RealShown.{mantissa_text, exponent_text, number_text}
use Rattle.rasn_json.specs.Reals.{base_ten, RealJson, RealRead, SpecialRead}
use Rattle.rasn_json.proofs.RealTexts.{fin_is}
use Rattle.rasn_json.proofs.RealsOnce.{second, zero_bits, zero_read}

pub minus_zero_json : RealJson (67 ∷ []) (string (codes "-0"))
minus_zero_json = (MinusZero, refl, refl)

pub no_minus_zero : RealJson (67 ∷ []) (number (codes "0")) → ⊥
no_minus_zero (Zero, e, f) = cc
no_minus_zero (MinusZero, e, f) = cc
no_minus_zero (Infinity, e, f) = cc
no_minus_zero (MinusInfinity, e, f) = cc
no_minus_zero (NotANumber, e, f) = cc
no_minus_zero (Binary b m x, e, f) = differ 67 _ [] _ (λ k. omega (arith, k)) e.0.is
no_minus_zero (Decimal b m x, e, f) = cc

fifteen : IsCanonicalDecimal (3 ∷ codes "15.E-1") false 15 (negsuc 0)
fifteen = record {
  mantissa = codes "15";
  exponent = codes "-1";
  is = refl;
  mantissa_is = ((λ e. omega (arith, e)), All-from_recursion IsDigit (codes "15") (search rules), refl);
  last = λ e. omega (arith, e);
  exponent_is = inr (true, codes "1", 1, ((λ e. omega (arith, e)), All-from_recursion IsDigit (codes "1") (search rules), refl), refl, refl);
}

pub fifteen_json : RealJson (3 ∷ codes "15.E-1") (base_ten (codes "15E-1"))
unfolding fifteen
fifteen_json = (
  Decimal false (record { ref_ptr = (0, 0); now = codes "15" }) (record { ref_ptr = (0, 0); now = codes "-1" }),
  (15, negsuc 0, fifteen, refl, inr (true, codes "1", 1, ((λ e. omega (arith, e)), All-from_recursion IsDigit (codes "1") (search rules), refl), refl, refl)),
  refl,
)

pub zero_is_read : RealRead (number (codes "0")) []
zero_is_read = inl (fin false 0 (pos 0), codes "0", refl, zero_read, fin_is false 0 (pos 0), (plus_zero, refl, zero_bits))

text_is : codes "{mantissa -6, base 2, exponent 5000}" ≡ number_text true (mantissa_text (6 ∷ [])) 2 (exponent_text (19 ∷ 136 ∷ []))
unfolding digits
text_is = refl

six : IsCanonicalBinary (193 ∷ 19 ∷ 137 ∷ 3 ∷ []) true 3 (pos 5001)
six = record {
  form = 1;
  field = 19 ∷ 137 ∷ [];
  exponent = 19 ∷ 137 ∷ [];
  mantissa = 3 ∷ [];
  is = refl;
  has_exponent = inl (omega arith, refl, refl);
  few = λ e. omega (arith, e);
  exponent_is = refl;
  exponent_shortest = λ r. shortest r;
  octets = (omega arith, (omega arith, (omega arith, (omega arith, tt))));
  mantissa_is = refl;
  mantissa_shortest = λ e. omega (arith, e);
  odd = refl;
}
  where
    shortest : RepeatsSign 19 137 → ⊥
    shortest (inl e) = omega (arith, e.0)
    shortest (inr e) = omega (arith, e.0)

pub even_mantissa_read : RealRead (string (codes "{mantissa -6, base 2, exponent 5000}")) (193 ∷ 19 ∷ 137 ∷ 3 ∷ [])
even_mantissa_read =
    inr (inr (codes "{mantissa -6, base 2, exponent 5000}", refl, inr (true, 6 ∷ [], 19 ∷ 136 ∷ [], (omega arith, (omega arith, tt)), text_is, (3, 1, (refl, refl), six))))

no_text : (s octets : List ℕ) → s ≡ codes "1" → SpecialRead s octets → ⊥
no_text s octets e (inl (a, f)) = let g : codes "1" ≡ codes "-0" = sym e ∙ a in cc
no_text s octets e (inr (inl (a, f))) = let g : codes "1" ≡ codes "INF" = sym e ∙ a in cc
no_text s octets e (inr (inr (inl (a, f)))) = let g : codes "1" ≡ codes "-INF" = sym e ∙ a in cc
no_text s octets e (inr (inr (inr (a, f)))) = let g : codes "1" ≡ codes "NaN" = sym e ∙ a in cc

pub string_not_read : (octets : List ℕ) → RealRead (string (codes "1")) octets → ⊥
string_not_read octets (inl (x, s, e, f, g, h)) = cc
string_not_read octets (inr (inl (s, e, f))) = cc
string_not_read octets (inr (inr (s, e, inl k))) = let g : s ≡ codes "1" = cc in no_text s octets g k
string_not_read octets (inr (inr (s, e, inr (b, m, x, i, k, q)))) =
    let g : codes "1" ≡ s = cc in
    let t : 0 ≡ 109 = ap (λ l. get_or l 1 0) g ∙ second s b m (exponent_text x) k in
    omega (arith, t)
