-- Contents octets that were worked out by hand.
use Rattle.std.proofs.Common.{◌≡◌, ◌≢◌, ◌⊎◌, ℕ, zero, suc, ◌+◌, ◌*◌, ◌<◌, get_or, ◌++◌, length, pos, negsuc, List, [], ◌∷◌, true, false, inl, inr, refl, sym, ap, ◌∙◌, subst, arith}
use Rattle.std.specs.Prelude.{All}
use Rattle.std.proofs.Common.{rules}
use Rattle.std.proofs.lemmas.Int.{ints}
use Rattle.std.proofs.lemmas.List.Elements.{All-from_recursion, All-nil, All-head}
use Rattle.rasn_types.specs.Framing.{Spells128, bit_of}
use Rattle.rasn_types.specs.Contents.{Real, plus_zero, minus_zero, plus_infinity, minus_infinity, not_a_number, binary, decimal, IsBinary, IsCanonicalBinary, IsCanonicalDecimal, IsOfForm, IsDecimal, IsDigit, time_marks, IsTimeCharacter, RealContents, Arcs, IsObjectIdentifier}
use Rattle.rasn_types.specs.Grammar.{quads, IsCharacter}
use Rattle.rasn_types.proofs.Reals.{bit_low, base_low, form_low, differ}
use Rattle.rasn_schema.specs.Reals.{IsRealOctets, IsCanonicalReal}
use Rattle.rasn_schema.specs.Relative.{IsRelativeOid, held_arcs, AreTheSameOctets}
use Rattle.rasn_schema.specs.WorkedLeaves.{WorkedLeaves}

fraction : IsBinary (128 ∷ (251 ∷ (5 ∷ []))) false 5 (negsuc 4)
fraction = record {
  base = 0;
  power = 1;
  factor = 0;
  form = 0;
  field = 251 ∷ [];
  exponent = 251 ∷ [];
  mantissa = 5 ∷ [];
  shift = 0;
  is = refl;
  has_base = inl (refl, refl);
  has_factor = omega arith;
  has_exponent = inl (omega arith, refl, refl);
  odd = refl;
  value = refl;
  scale = refl;
}

fraction_canonical : IsCanonicalBinary (128 ∷ (251 ∷ (5 ∷ []))) false 5 (negsuc 4)
fraction_canonical = record {
  form = 0;
  field = 251 ∷ [];
  exponent = 251 ∷ [];
  mantissa = 5 ∷ [];
  is = refl;
  has_exponent = inl (omega arith, refl, refl);
  few = λ e. omega (arith, e);
  exponent_is = refl;
  exponent_shortest = tt;
  octets = (omega arith, (omega arith, (omega arith, tt)));
  mantissa_is = refl;
  mantissa_shortest = λ e. omega (arith, e);
  odd = refl;
}

eight : IsBinary (144 ∷ (1 ∷ (1 ∷ []))) false 1 (pos 3)
eight = record {
  base = 1;
  power = 3;
  factor = 0;
  form = 0;
  field = 1 ∷ [];
  exponent = 1 ∷ [];
  mantissa = 1 ∷ [];
  shift = 0;
  is = refl;
  has_base = inr (inl (refl, refl));
  has_factor = omega arith;
  has_exponent = inl (omega arith, refl, refl);
  odd = refl;
  value = refl;
  scale = refl;
}

eight_canonical : IsCanonicalBinary (128 ∷ (3 ∷ (1 ∷ []))) false 1 (pos 3)
eight_canonical = record {
  form = 0;
  field = 3 ∷ [];
  exponent = 3 ∷ [];
  mantissa = 1 ∷ [];
  is = refl;
  has_exponent = inl (omega arith, refl, refl);
  few = λ e. omega (arith, e);
  exponent_is = refl;
  exponent_shortest = tt;
  octets = (omega arith, (omega arith, (omega arith, tt)));
  mantissa_is = refl;
  mantissa_shortest = λ e. omega (arith, e);
  odd = refl;
}

two_digits : All IsDigit (49 ∷ (53 ∷ []))
two_digits = All-from_recursion IsDigit (49 ∷ (53 ∷ [])) (search rules)

one_digit : All IsDigit (49 ∷ [])
one_digit = All-from_recursion IsDigit (49 ∷ []) (search rules)

half_more : IsDecimal (3 ∷ (49 ∷ (53 ∷ (46 ∷ (69 ∷ (45 ∷ (49 ∷ []))))))) false 15 (negsuc 0)
half_more = record {
  form = 3;
  spaces = [];
  sign = [];
  whole = 49 ∷ (53 ∷ []);
  fraction = 46 ∷ [];
  after = [];
  exponent = 69 ∷ (45 ∷ (49 ∷ []));
  x = negsuc 0;
  shift = 0;
  is = refl;
  has_spaces = All-nil (λ c. c ≡ 32);
  has_sign = inl refl;
  has_fraction = inr (46, inl refl, refl);
  has_form = inr (inr (refl, (69, true, 45 ∷ [], 49 ∷ [], inl refl, refl, refl, (λ e. cc), one_digit, refl)));
  whole_digits = two_digits;
  after_digits = All-nil IsDigit;
  some = λ e. cc;
  last = λ e. omega (arith, e);
  value = refl;
  scale = refl;
}

half_more_canonical : IsCanonicalDecimal (3 ∷ (49 ∷ (53 ∷ (46 ∷ (69 ∷ (45 ∷ (49 ∷ []))))))) false 15 (negsuc 0)
half_more_canonical = record {
  mantissa = 49 ∷ (53 ∷ []);
  exponent = 45 ∷ (49 ∷ []);
  is = refl;
  mantissa_is = ((λ e. omega (arith, e)), two_digits, refl);
  last = λ e. omega (arith, e);
  exponent_is = inr (true, 49 ∷ [], 1, ((λ e. omega (arith, e)), one_digit, refl), refl, refl);
}

same_arcs : AreTheSameOctets
same_arcs = (to, from)
  where
    to : (l arcs : List ℕ) → IsRelativeOid l arcs → IsObjectIdentifier l (held_arcs arcs)
    to l [] h = absurd (h.0 refl)
    to l (s ∷ ns) h = (s, ns, h.1, refl)

    from : (l held : List ℕ) → IsObjectIdentifier l held → (arcs : List ℕ) × IsRelativeOid l arcs × (held ≡ held_arcs arcs)
    from l held (s, ns, a, e) = (s ∷ ns, ((λ f. cc), a), e)

no_character : (a b c d : ℕ) (l ns : List ℕ) → ((n : ℕ) → n ≡ 256 * (256 * (256 * a + b) + c) + d → IsCharacter n → ⊥) → quads (a ∷ (b ∷ (c ∷ (d ∷ l)))) ns → ⊥
no_character a b c d l ns f h = f h.0 h.2 h.3

surrogate : (n : ℕ) → n ≡ 55296 → IsCharacter n → ⊥
surrogate n e (inl h) = omega arith
surrogate n e (inr h) = omega (arith, h.0)

beyond : (n : ℕ) → n ≡ 1114112 → IsCharacter n → ⊥
beyond n e (inl h) = omega arith
beyond n e (inr h) = omega (arith, h.1)

special : (r : Real) → RealContents (68 ∷ []) r → ⊥
special plus_zero h = cc
special minus_zero h = differ 68 67 [] [] (λ e. omega (arith, e)) h
special plus_infinity h = differ 68 64 [] [] (λ e. omega (arith, e)) h
special minus_infinity h = differ 68 65 [] [] (λ e. omega (arith, e)) h
special not_a_number h = differ 68 66 [] [] (λ e. omega (arith, e)) h
special (binary b m e) h = let k = h.is in let f : 68 ≡ 128 + 64 * bit_of b + 16 * h.base + 4 * h.factor + h.form = cc in omega (arith, f)
special (decimal b m e) h = few h.form h.has_form cc
  where
    few : (form : ℕ) {f l : List ℕ} {x : _} → IsOfForm form f l x → 68 ≡ form → ⊥
    few form (inl k) e = omega (arith, k.0, e)
    few form (inr (inl k)) e = omega (arith, k.0, e)
    few form (inr (inr k)) e = omega (arith, k.0, e)

reserved : (b s f g : ℕ) → b < 2 → s < 3 → f < 4 → g < 4 → 176 ≡ 128 + 64 * b + 16 * s + 4 * f + g → ⊥
reserved b s f g h i j k e = omega arith

no_base_in : (r : Real) → RealContents (176 ∷ (1 ∷ (1 ∷ []))) r → ⊥
no_base_in plus_zero h = cc
no_base_in minus_zero h = cc
no_base_in plus_infinity h = cc
no_base_in minus_infinity h = cc
no_base_in not_a_number h = cc
no_base_in (binary b m e) h =
    let k = h.is in
    reserved (bit_of b) h.base h.factor h.form (bit_low b) (base_low h.base h.power h.has_base) h.has_factor (form_low h.form h.field h.exponent h.has_exponent) cc
no_base_in (decimal b m e) h = few h.form h.has_form cc
  where
    few : (form : ℕ) {f l : List ℕ} {x : _} → IsOfForm form f l x → 176 ≡ form → ⊥
    few form (inl k) e = omega (arith, k.0, e)
    few form (inr (inl k)) e = omega (arith, k.0, e)
    few form (inr (inr k)) e = omega (arith, k.0, e)

arcs : Arcs (194 ∷ (123 ∷ (3 ∷ (2 ∷ [])))) (8571 ∷ (3 ∷ (2 ∷ [])))
arcs = (
  194 ∷ (123 ∷ []),
  3 ∷ (2 ∷ []),
  record { chain = inr (omega arith, inl (omega arith, refl)); is = refl; below = omega arith },
  refl,
  (3 ∷ [], 2 ∷ [], record { chain = inl (omega arith, refl); is = refl; below = omega arith }, refl, (2 ∷ [], [], record { chain = inl (omega arith, refl); is = refl; below = omega arith }, refl, refl)),
)

space : IsTimeCharacter 32 → ⊥
space (inl h) = omega (arith, h.0)
space (inr (k, l, e)) = listed k l e
  where
    listed : (k : ℕ) → k < length time_marks → get_or time_marks k 32 ≡ 32 → ⊥
    listed zero l e = omega (arith, e)
    listed (suc zero) l e = omega (arith, e)
    listed (suc (suc zero)) l e = omega (arith, e)
    listed (suc (suc (suc zero))) l e = omega (arith, e)
    listed (suc (suc (suc (suc zero)))) l e = omega (arith, e)
    listed (suc (suc (suc (suc (suc zero))))) l e = omega (arith, e)
    listed (suc (suc (suc (suc (suc (suc zero)))))) l e = omega (arith, e)
    listed (suc (suc (suc (suc (suc (suc (suc zero))))))) l e = omega (arith, e)
    listed (suc (suc (suc (suc (suc (suc (suc (suc zero)))))))) l e = omega (arith, e)
    listed (suc (suc (suc (suc (suc (suc (suc (suc (suc zero))))))))) l e = omega (arith, e)
    listed (suc (suc (suc (suc (suc (suc (suc (suc (suc (suc zero)))))))))) l e = omega (arith, e)
    listed (suc (suc (suc (suc (suc (suc (suc (suc (suc (suc (suc zero))))))))))) l e = omega (arith, e)
    listed (suc (suc (suc (suc (suc (suc (suc (suc (suc (suc (suc (suc zero)))))))))))) l e = omega (arith, e)
    listed (suc (suc (suc (suc (suc (suc (suc (suc (suc (suc (suc (suc (suc zero))))))))))))) l e = omega (arith, e)
    listed (suc (suc (suc (suc (suc (suc (suc (suc (suc (suc (suc (suc (suc (suc zero)))))))))))))) l e = omega (arith, e)
    listed (suc (suc (suc (suc (suc (suc (suc (suc (suc (suc (suc (suc (suc (suc (suc zero))))))))))))))) l e = omega (arith, e)
    listed (suc (suc (suc (suc (suc (suc (suc (suc (suc (suc (suc (suc (suc (suc (suc (suc zero)))))))))))))))) l e = omega (arith, e)
    listed (suc (suc (suc (suc (suc (suc (suc (suc (suc (suc (suc (suc (suc (suc (suc (suc (suc k))))))))))))))))) l e = omega arith

pub worked_leaves : WorkedLeaves
worked_leaves = record {
  a_fraction = (binary false 5 (negsuc 4), fraction, fraction_canonical);
  a_power = (binary false 1 (pos 3), eight, eight_canonical, λ z. absurd z);
  a_decimal = (decimal false 15 (negsuc 0), half_more, half_more_canonical);
  a_zero = (plus_zero, refl, refl);
  nothing_special = λ h. special h.0 h.1;
  no_base = λ octets h. no_base_in h.0 h.1;
  relative = ((λ e. cc), arcs);
  no_arcs = λ l h. h.0 refl;
  same_octets = same_arcs;
  a_character = (97, [], refl, inl (omega arith), refl, refl);
  no_surrogate = λ ns. no_character 0 0 216 0 [] ns surrogate;
  beyond_all = λ ns. no_character 0 17 0 0 [] ns beyond;
  not_three = λ ns h. h;
  no_space = λ h. space (All-head IsTimeCharacter 32 [] h.1);
  no_text = λ h. h.0 refl;
  not_five = λ h. omega (arith, h.0);
}
