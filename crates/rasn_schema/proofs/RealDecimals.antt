-- Numerals as the program cuts them, and the octets that it writes for them.
use Rattle.std.proofs.Common.{◌≡◌, ◌≢◌, ◌⊎◌, ℕ, zero, suc, ◌+◌, ◌-◌, ◌*◌, ◌^◌, ◌%◌, ◌/◌, ◌<◌, ◌≤◌, inl, inr, List, [], ◌∷◌, ◌++◌, length, map, get_or, take, drop, Bool, true, false, nat_eq, ℤ, pos, negsuc, neg_ℤ, FitsSigned, w64, ◌+ℤ◌, ◌-ℤ◌, ◌≤ℤ◌, ◌<ℤ◌, Option, Some, None, refl, sym, ap, ap₂, ◌∙◌, subst, arith, append-nil, append_assoc, length-append, length-drop, take-append-drop, mul-le-mul_right}
use Rattle.std.specs.Prelude.{All}
use Rattle.std.specs.Int.{w128}
use Rattle.std.specs.Fmt.{decimal, signed_decimal}
use Rattle.std.proofs.Math.Nat.{pow-le-pow_right, one-le-pow}
use Rattle.std.proofs.Math.Seq.{take-suc}
use Rattle.std.proofs.lemmas.Bool.{cases_order}
use Rattle.std.proofs.lemmas.Fmt.{decimal_by_steps_wide}
use Rattle.std.proofs.lemmas.Int.{ints}
use Rattle.std.proofs.lemmas.List.{length-map, take_all}
use Rattle.std.proofs.lemmas.List.Elements.{All-nil, All-cons, All-head, All-get_or, All-push}
use Rattle.rasn_types.specs.Truth.{IsWhether}
use Rattle.rasn_types.specs.Contents.{IsDigit, IsSign, number_of_digits, with_sign, sign_text, IsFraction, IsExponent, IsOfForm, IsDecimal, SpellsDigits, IsShortestExponent, IsCanonicalDecimal}
use Rattle.rasn_types.proofs.Headers.Digits.{number_lt, lead}
use Rattle.rasn_types.proofs.Reals.{StartsOff, run_one, differ, form_tail, fraction_off, body_begins, sign_off}
use Rattle.rasn_schema.specs.declared.real_decimal.Exponent.{Exponent}
use Rattle.rasn_schema.specs.declared.real_decimal.Numeral.{Numeral}
use Rattle.rasn_schema.specs.RealParts.{StartsOffSign, StartsOffZeroDigit, EndsOffZeroDigit, AreLeadingDigits, IsAfterSign}
use Rattle.rasn_schema.specs.Numerals.{StartsOffSpace, IsAfterSpaces, StartsOffMark, IsFractionCut, IsExponentPart, IsNoExponentPart, HasMark, IsNumeral, IsNoNumeral, IsTenPart}
use Rattle.rasn_schema.proofs.RealNumbers.{one_off_end, head_split, last_split, ends_off_digit, eq_whether}
use Rattle.rasn_schema.proofs.RealTexts.{off_digits, digits_snoc, last_digit}

-- ---- spaces

off_space : (l : List ℕ) (i : ℕ) → (i < length l → get_or l i 0 ≢ 32) → StartsOffSpace (drop i l)
off_space [] zero h = tt
off_space [] (suc i) h = tt
off_space (c ∷ l) zero h = h (omega arith)
off_space (c ∷ l) (suc i) h = off_space l i (λ k. h (omega arith))

pub spaces_cut : (l : List ℕ) (i : ℕ) → i ≤ length l → All (λ c. c ≡ 32) (take i l) → (i < length l → get_or l i 0 ≢ 32) → IsAfterSpaces l (take (length l - i) (drop i l))
spaces_cut l i h a n =
    let r : take (length l - i) (drop i l) ≡ drop i l = take_all (length l - i) (drop i l) (omega (arith, length-drop i l)) in
    subst (IsAfterSpaces l) (sym r) (take i l, a, sym (take-append-drop i l), off_space l i n)

off_spaces : (l : List ℕ) → StartsOffSpace l → StartsOff (λ c. c ≡ 32) l
off_spaces [] h = tt
off_spaces (c ∷ l) h = h

-- ---- a sign

sign_cut : (text : List ℕ) (b c : Bool) (rest sign body : List ℕ) → IsAfterSign text b rest → IsSign c sign → text ≡ sign ++ body → StartsOffSign body → (b ≡ c) × (rest ≡ body)
sign_cut text true true rest sign body h k e o = let f : 45 ∷ rest ≡ 45 ∷ body = sym h ∙ (e ∙ ap (λ z. z ++ body) k) in (refl, cc)
sign_cut text true false rest sign body h (inl k) e o = absurd ((subst StartsOffSign (sym (e ∙ ap (λ z. z ++ body) k) ∙ h) o).0 refl)
sign_cut text true false rest sign body h (inr k) e o = differ 45 43 rest body (λ f. omega (arith, f)) (sym h ∙ (e ∙ ap (λ z. z ++ body) k))
sign_cut text false true rest sign body (inl h) k e o = differ 43 45 rest body (λ f. omega (arith, f)) (sym h ∙ (e ∙ ap (λ z. z ++ body) k))
sign_cut text false true rest sign body (inr h) k e o = absurd ((subst StartsOffSign (sym h.0 ∙ (e ∙ ap (λ z. z ++ body) k)) h.1).0 refl)
sign_cut text false false rest sign body (inl h) (inl k) e o = absurd ((subst StartsOffSign (sym (e ∙ ap (λ z. z ++ body) k) ∙ h) o).1 refl)
sign_cut text false false rest sign body (inl h) (inr k) e o = let f : 43 ∷ rest ≡ 43 ∷ body = sym h ∙ (e ∙ ap (λ z. z ++ body) k) in (refl, cc)
sign_cut text false false rest sign body (inr h) (inl k) e o = (refl, sym h.0 ∙ (e ∙ ap (λ z. z ++ body) k))
sign_cut text false false rest sign body (inr h) (inr k) e o = absurd ((subst StartsOffSign (sym h.0 ∙ (e ∙ ap (λ z. z ++ body) k)) h.1).1 refl)

sign_found : (text : List ℕ) (b : Bool) (rest : List ℕ) → IsAfterSign text b rest → (sign : List ℕ) × IsSign b sign × (text ≡ sign ++ rest)
sign_found text true rest h = (45 ∷ [], refl, h)
sign_found text false rest (inl h) = (43 ∷ [], inr refl, h)
sign_found text false rest (inr h) = ([], inl refl, h.0)

digits_off_sign : (l m : List ℕ) → l ≢ [] → All IsDigit l → StartsOffSign (l ++ m)
digits_off_sign [] m n d = absurd (n refl)
digits_off_sign (c ∷ l) m n d = off c (All-head IsDigit c l d)
  where
    off : (c : ℕ) → IsDigit c → (c ≢ 45) × (c ≢ 43)
    off c d = ((λ e. omega (arith, d.0)), (λ e. omega (arith, d.0)))

-- ---- an exponent

-- The parts of an exponent after its mark.
pub record AfterMark (text : List ℕ) (b : Bool) (digits rest : List ℕ) : Type 0 where
  pub unsigned : List ℕ
  pub sign : IsAfterSign text b unsigned
  pub leading : AreLeadingDigits unsigned digits rest

all_read : (mark : ℕ) (text : List ℕ) (b : Bool) (digits rest : List ℕ) (x : ℤ) → AfterMark text b digits rest → IsExponent (mark ∷ text) x → rest ≡ []
all_read mark text b digits rest x k (e, c, sign, ds, m, is, s, n, d, z) =
    let t : text ≡ sign ++ ds = cc in
    let o = sign_cut text b c k.unsigned sign ds k.sign s t (subst StartsOffSign (append-nil ds) (digits_off_sign ds [] n d)) in
    (run_one IsDigit digits ds rest [] k.leading.1 d (off_digits rest k.leading.2) tt (sym k.leading.0 ∙ (o.1 ∙ sym (append-nil ds)))).1

not_nothing : (l : List ℕ) → 1 ≤ length l → l ≢ []
not_nothing [] h e = absurd (omega arith)
not_nothing (c ∷ l) h e = absurd cc

pub not_all_read : (l : List ℕ) (b : Bool) (digits rest : List ℕ) → 1 ≤ length l → AfterMark (take (length l - 1) (drop 1 l)) b digits rest → rest ≢ [] → IsNoExponentPart l
not_all_read l b digits rest h k bad = (not_nothing l h, λ x s. bad (all_read (get_or l 0 0) (take (length l - 1) (drop 1 l)) b digits rest x k (subst (λ z. IsExponent z x) (head_split l h) s)))

pub no_digit_read : (l : List ℕ) (b : Bool) (digits rest : List ℕ) → 1 ≤ length l → AfterMark (take (length l - 1) (drop 1 l)) b digits rest → digits ≡ [] → IsNoExponentPart l
no_digit_read l b digits rest h k none = (not_nothing l h, λ x s. none_of x (subst (λ z. IsExponent z x) (head_split l h) s))
  where
    none_of : (x : ℤ) → IsExponent (get_or l 0 0 ∷ take (length l - 1) (drop 1 l)) x → ⊥
    none_of x (e, c, sign, ds, m, is, s, n, d, z) =
        let t : take (length l - 1) (drop 1 l) ≡ sign ++ ds = cc in
        let o = sign_cut (take (length l - 1) (drop 1 l)) b c k.unsigned sign ds k.sign s t (subst StartsOffSign (append-nil ds) (digits_off_sign ds [] n d)) in
        let r = run_one IsDigit digits ds rest [] k.leading.1 d (off_digits rest k.leading.2) tt (sym k.leading.0 ∙ (o.1 ∙ sym (append-nil ds))) in
        n (sym r.0 ∙ none)

pub no_exponent_mark : (l : List ℕ) → 1 ≤ length l → get_or l 0 0 ≢ 69 → get_or l 0 0 ≢ 101 → IsNoExponentPart l
no_exponent_mark l h n k = (not_nothing l h, λ x s. none_of x (subst (λ z. IsExponent z x) (head_split l h) s))
  where
    none_of : (x : ℤ) → IsExponent (get_or l 0 0 ∷ take (length l - 1) (drop 1 l)) x → ⊥
    none_of x (e, c, sign, ds, inl m, is, s, r, d, z) = n cc
    none_of x (e, c, sign, ds, inr m, is, s, r, d, z) = k cc

pub exponent_found : (l rest : List ℕ) (x : Exponent) → 1 ≤ length l → AfterMark (take (length l - 1) (drop 1 l)) x.is_negative x.digits.now rest → (get_or l 0 0 ≡ 69) ⊎ (get_or l 0 0 ≡ 101)
    → x.digits.now ≢ [] → rest ≡ [] → IsExponentPart l (Some x)
exponent_found l rest x h k m n e =
    let s = sign_found (take (length l - 1) (drop 1 l)) x.is_negative k.unsigned k.sign in
    let u : k.unsigned ≡ x.digits.now = k.leading.0 ∙ (ap (λ y. x.digits.now ++ y) e ∙ append-nil x.digits.now) in
    (get_or l 0 0, s.0, m, head_split l h ∙ ap (λ y. get_or l 0 0 ∷ y) (s.2 ∙ ap (λ y. s.0 ++ y) u), s.1, n, k.leading.1)

pub is_nothing : (b : Bool) (l : List ℕ) → b ≡ nat_eq (length l) 0 → b ≡ true → l ≡ []
is_nothing b l e f = none l (subst (λ v. IsWhether v (length l ≡ 0)) (sym e ∙ f) (eq_whether (length l) 0))
  where
    none : (l : List ℕ) → length l ≡ 0 → l ≡ []
    none [] h = refl
    none (c ∷ l) h = absurd (omega arith)

-- ---- a fraction

off_mark : (mark : ℕ) (l : List ℕ) → (mark ≡ 46) ⊎ (mark ≡ 44) → StartsOffMark (mark ∷ l) → ⊥
off_mark mark l (inl e) o = o.0 e
off_mark mark l (inr e) o = o.1 e

fraction_cut : (text : List ℕ) (has_mark : Bool) (digits rest fraction after exponent : List ℕ) → IsFractionCut text has_mark digits rest → IsFraction fraction after → All IsDigit after
    → StartsOffMark exponent → StartsOff IsDigit exponent → text ≡ fraction ++ exponent → (digits ≡ after) × (rest ≡ exponent) × HasMark has_mark fraction
fraction_cut text false digits rest fraction after exponent (d, t, o) (inl k) a m n e = (d ∙ sym k.1, sym t ∙ (e ∙ ap (λ z. z ++ exponent) k.0), k.0)
fraction_cut text false digits rest fraction after exponent (d, t, o) (inr (mark, k, is)) a m n e = absurd (off_mark mark (after ++ exponent) k (subst StartsOffMark (sym t ∙ (e ∙ ap (λ z. z ++ exponent) is)) o))
fraction_cut text true digits rest fraction after exponent (f, inl k, some, t, d, o) h a m n e = absurd (some k.0)
fraction_cut text true digits rest fraction after exponent (f, inr (mark, j, is), some, t, d, o) (inl h) a m n e =
    absurd (off_mark mark (digits ++ rest) j (subst StartsOffMark (ap (λ z. z ++ exponent) (sym h.0) ∙ (sym e ∙ (t ∙ ap (λ z. z ++ rest) is))) m))
fraction_cut text true digits rest fraction after exponent (f, inr (mark, j, is), some, t, d, o) (inr (other, k, are)) a m n e =
    let g : mark ∷ (digits ++ rest) ≡ other ∷ (after ++ exponent) = ap (λ z. z ++ rest) (sym is) ∙ (sym t ∙ (e ∙ ap (λ z. z ++ exponent) are)) in
    let r = run_one IsDigit digits after rest exponent d a (off_digits rest o) n cc in
    (r.0, r.1, (λ z. absurd cc))

fraction_found : (text : List ℕ) (has_mark : Bool) (digits rest : List ℕ) → IsFractionCut text has_mark digits rest → (fraction : List ℕ) × IsFraction fraction digits × HasMark has_mark fraction × (text ≡ fraction ++ rest) × All IsDigit digits
fraction_found text true digits rest (f, k, some, t, d, o) = (f, k, some, t, d)
fraction_found text false digits rest (d, t, o) = ([], inl (refl, d), refl, t, subst (All IsDigit) (sym d) (All-nil IsDigit))

pub fraction_made : (l digits rest : List ℕ) → 1 ≤ length l → (get_or l 0 0 ≡ 46) ⊎ (get_or l 0 0 ≡ 44) → AreLeadingDigits (take (length l - 1) (drop 1 l)) digits rest → IsFractionCut l true digits rest
fraction_made l digits rest h m d =
    (get_or l 0 0 ∷ digits, inr (get_or l 0 0, m, refl), (λ e. absurd cc), head_split l h ∙ ap (λ z. get_or l 0 0 ∷ z) d.0, d.1, d.2)

exponent_off_mark : (form : ℕ) (fraction exponent : List ℕ) (x : ℤ) → IsOfForm form fraction exponent x → StartsOffMark exponent
exponent_off_mark form fraction exponent x (inl h) = subst StartsOffMark (sym h.2) tt
exponent_off_mark form fraction exponent x (inr (inl h)) = subst StartsOffMark (sym h.2) tt
exponent_off_mark form fraction exponent x (inr (inr (f, (mark, b, sign, digits, m, is, s, n, d, z)))) = subst StartsOffMark (sym is) (by mark m)
  where
    by : (mark : ℕ) → (mark ≡ 69) ⊎ (mark ≡ 101) → (mark ≢ 46) × (mark ≢ 44)
    by mark (inl e) = ((λ f. omega arith), (λ f. omega arith))
    by mark (inr e) = ((λ f. omega arith), (λ f. omega arith))

-- ---- a numeral

body_off_sign : (whole fraction after l : List ℕ) → All IsDigit whole → IsFraction fraction after → whole ++ after ≢ [] → StartsOffSign (whole ++ (fraction ++ l))
body_off_sign (c ∷ whole) fraction after l d h n = digits_off_sign (c ∷ whole) (fraction ++ l) (λ e. absurd cc) d
body_off_sign [] fraction after l d (inl h) n = absurd (n h.1)
body_off_sign [] fraction after l d (inr (mark, m, is)) n = subst (λ z. StartsOffSign (z ++ l)) (sym is) (by mark m)
  where
    by : (mark : ℕ) → (mark ≡ 46) ⊎ (mark ≡ 44) → (mark ≢ 45) × (mark ≢ 43)
    by mark (inl e) = ((λ f. omega arith), (λ f. omega arith))
    by mark (inr e) = ((λ f. omega arith), (λ f. omega arith))

-- The parts of a numeral as the program cuts it.
pub record NumeralCut (text : List ℕ) (b : Bool) (whole : List ℕ) (has_mark : Bool) (after rest : List ℕ) : Type 0 where
  pub signed : List ℕ
  pub unsigned : List ℕ
  pub tail : List ℕ
  pub spaces : IsAfterSpaces text signed
  pub sign : IsAfterSign signed b unsigned
  pub digits : AreLeadingDigits unsigned whole tail
  pub fraction : IsFractionCut tail has_mark after rest

record SameNumeral (form : ℕ) (text : List ℕ) (b : Bool) (whole : List ℕ) (has_mark : Bool) (after rest : List ℕ) (c : Bool) (m : ℕ) (e : ℤ) (h : IsDecimal (form ∷ text) c m e) : Type 0 where
  sign_is : b ≡ c
  whole_is : whole ≡ h.whole
  after_is : after ≡ h.after
  rest_is : rest ≡ h.exponent
  mark_is : HasMark has_mark h.fraction

same_numeral : (form : ℕ) (text : List ℕ) (b : Bool) (whole : List ℕ) (has_mark : Bool) (after rest : List ℕ) → NumeralCut text b whole has_mark after rest
    → (c : Bool) (m : ℕ) (e : ℤ) (h : IsDecimal (form ∷ text) c m e) → SameNumeral form text b whole has_mark after rest c m e h
same_numeral form text b whole has_mark after rest k c m e h =
    let is : form ∷ text ≡ h.form ∷ (h.spaces ++ (h.sign ++ (h.whole ++ (h.fraction ++ h.exponent)))) = h.is in
    let g : text ≡ h.spaces ++ (h.sign ++ (h.whole ++ (h.fraction ++ h.exponent))) = cc in
    let t = form_tail h.form h.fraction h.exponent h.x h.has_form in
    let p = body_begins h.whole h.fraction h.after h.exponent h.whole_digits h.has_fraction h.some in
    let s = run_one (λ z. z ≡ 32) k.spaces.0 h.spaces k.signed (h.sign ++ (h.whole ++ (h.fraction ++ h.exponent))) k.spaces.1 h.has_spaces
    (off_spaces k.signed k.spaces.3) (sign_off c h.sign (h.whole ++ (h.fraction ++ h.exponent)) h.has_sign p) (sym k.spaces.2 ∙ g) in
    let o = sign_cut k.signed b c k.unsigned h.sign (h.whole ++ (h.fraction ++ h.exponent)) k.sign h.has_sign s.1
    (body_off_sign h.whole h.fraction h.after h.exponent h.whole_digits h.has_fraction h.some) in
    let w = run_one IsDigit whole h.whole k.tail (h.fraction ++ h.exponent) k.digits.1 h.whole_digits
    (off_digits k.tail k.digits.2) (fraction_off h.fraction h.after h.exponent h.has_fraction t) (sym k.digits.0 ∙ o.1) in
    let f = fraction_cut k.tail has_mark after rest h.fraction h.after h.exponent k.fraction h.has_fraction h.after_digits
    (exponent_off_mark h.form h.fraction h.exponent h.x h.has_form) (fraction_off [] [] h.exponent (inl (refl, refl)) t) w.1 in
    record { sign_is = o.0; whole_is = w.0; after_is = f.0; rest_is = f.1; mark_is = f.2 }

pub no_digits : (text : List ℕ) (b : Bool) (whole : List ℕ) (has_mark : Bool) (after rest : List ℕ) → NumeralCut text b whole has_mark after rest → whole ++ after ≡ [] → IsNoNumeral text
no_digits text b whole has_mark after rest k z form c m e h =
    let s = same_numeral form text b whole has_mark after rest k c m e h in
    h.some (ap₂ ◌++◌ (sym s.whole_is) (sym s.after_is) ∙ z)

pub some_left : (l m : List ℕ) → l ≢ [] → l ++ m ≢ []
some_left [] m n e = n refl
some_left (c ∷ l) m n e = absurd cc

pub some_right : (l m : List ℕ) → m ≢ [] → l ++ m ≢ []
some_right [] m n e = n e
some_right (c ∷ l) m n e = absurd cc

pub no_exponent_part : (text : List ℕ) (b : Bool) (whole : List ℕ) (has_mark : Bool) (after rest : List ℕ) → NumeralCut text b whole has_mark after rest → IsNoExponentPart rest → IsNoNumeral text
no_exponent_part text b whole has_mark after rest k bad form c m e h =
    let s = same_numeral form text b whole has_mark after rest k c m e h in
    none_of h.form h.fraction h.x (subst (λ z. IsOfForm h.form h.fraction z h.x) (sym s.rest_is) h.has_form)
  where
    none_of : (form : ℕ) (fraction : List ℕ) (x : ℤ) → IsOfForm form fraction rest x → ⊥
    none_of form fraction x (inl h) = bad.0 h.2
    none_of form fraction x (inr (inl h)) = bad.0 h.2
    none_of form fraction x (inr (inr h)) = bad.1 x h.1

pub is_numeral : (text : List ℕ) (n : Numeral) (rest : List ℕ) → NumeralCut text n.is_negative n.whole.now n.has_mark n.after.now rest → n.whole.now ++ n.after.now ≢ [] → IsExponentPart rest n.exponent → IsNumeral text n
is_numeral text n rest k some x =
    let s = sign_found k.signed n.is_negative k.unsigned k.sign in
    let f = fraction_found k.tail n.has_mark n.after.now rest k.fraction in
    record {
      spaces = k.spaces.0;
      sign = s.0;
      fraction = f.0;
      exponent = rest;
      is = k.spaces.2 ∙ ap (λ z. k.spaces.0 ++ z) (s.2 ∙ ap (λ z. s.0 ++ z) (k.digits.0 ∙ ap (λ z. n.whole.now ++ z) f.3));
      has_spaces = k.spaces.1;
      has_sign = s.1;
      has_fraction = f.1;
      has_mark = f.2;
      has_exponent = x;
      whole_digits = k.digits.1;
      after_digits = f.4;
      some = some;
    }

-- ---- zeros after digits

pub digit_zero_after : (l : List ℕ) (i : ℕ) → i < length l → get_or l i 0 ≡ 48 → number_of_digits (take (suc i) l) ≡ number_of_digits (take i l) * 10
digit_zero_after l i h e =
    ap number_of_digits (take-suc l i 0 h ∙ ap (λ z. take i l ++ z ∷ []) e) ∙ (digits_snoc (take i l) 48 (omega arith, omega arith) ∙ omega arith)

pub one_digit_fewer : (l : List ℕ) (end : ℕ) → 0 < end → end ≤ length l → get_or l (end - 1) 0 ≡ 48 → number_of_digits l ≡ number_of_digits (take end l) * 10 ^ (length l - end)
    → (end - 1 ≤ length l) × (number_of_digits l ≡ number_of_digits (take (end - 1) l) * 10 ^ (length l - (end - 1)))
one_digit_fewer l end h k z e = one_off_end number_of_digits 10 48 l (digit_zero_after l) end h k z e

pub ends_off_zero : (l : List ℕ) (i : ℕ) → i ≤ length l → (0 < i → get_or l (i - 1) 0 ≢ 48) → EndsOffZeroDigit (take i l)
ends_off_zero l i h bad = ends_off_digit 48 l i h bad

-- ---- the octets of a numeral

-- Digits without the zeros at their ends.
pub record TenPart (digits shown : List ℕ) (shift : ℕ) : Type 0 where
  pub first : SpellsDigits shown (number_of_digits shown)
  pub last : number_of_digits shown % 10 ≢ 0
  pub is : IsTenPart (number_of_digits digits) (number_of_digits shown) shift

pub ten_part : (digits kept shown : List ℕ) (shift : ℕ) → All IsDigit kept → All IsDigit shown → number_of_digits digits ≡ number_of_digits kept * 10 ^ shift
    → number_of_digits shown ≡ number_of_digits kept → StartsOffZeroDigit shown → EndsOffZeroDigit kept → shown ≢ [] → TenPart digits shown shift
ten_part digits kept [] shift k d is same s e n = absurd (n refl)
ten_part digits kept (c ∷ l) shift k d is same s e n = record { first = (s, d, refl); last = last; is = (last, is ∙ ap (λ z. z * 10 ^ shift) (sym same)) }
  where
    lead_digit : (c : ℕ) → IsDigit c → c ≢ 48 → 0 < (c - 48) % 10
    lead_digit c d n = omega arith

    some : 1 ≤ number_of_digits (c ∷ l)
    some =
        let g = lead 10 (c - 48) (map (λ z. z - 48) l) (lead_digit c (All-head IsDigit c l d) s) in
        let p = one-le-pow (length (map (λ z. z - 48) l)) 10 (omega arith) in
        omega arith

    off_end : (kept : List ℕ) → All IsDigit kept → EndsOffZeroDigit kept → 1 ≤ number_of_digits kept → number_of_digits kept % 10 ≢ 0
    off_end [] k e h = absurd (omega arith)
    off_end (b ∷ m) k e h = λ z.
        let i : 1 ≤ length (b ∷ m) = omega arith in
        let j : length (b ∷ m) - 1 < length (b ∷ m) = omega arith in
        let q : IsDigit (get_or (b ∷ m) (length (b ∷ m) - 1) 0) = All-get_or IsDigit (b ∷ m) (length (b ∷ m) - 1) 0 j k in
        let f = last_split (b ∷ m) i in
        e (take (length (b ∷ m) - 1) (b ∷ m)) (get_or (b ∷ m) (length (b ∷ m) - 1) 0) f
        (up (get_or (b ∷ m) (length (b ∷ m) - 1) 0) q (sym (last_digit (take (length (b ∷ m) - 1) (b ∷ m)) (get_or (b ∷ m) (length (b ∷ m) - 1) 0) q) ∙ (ap (λ y. number_of_digits y % 10) (sym f) ∙ z)))
      where
        up : (c : ℕ) → IsDigit c → c - 48 ≡ 0 → c ≡ 48
        up c d e = omega (arith, d.0)

    last : number_of_digits (c ∷ l) % 10 ≢ 0
    last z = off_end kept k e (subst (λ y. 1 ≤ y) same some) (ap (λ y. y % 10) (sym same) ∙ z)

pub nothing_left : (digits kept shown : List ℕ) (shift : ℕ) → number_of_digits digits ≡ number_of_digits kept * 10 ^ shift → number_of_digits shown ≡ number_of_digits kept → shown ≡ [] → number_of_digits digits ≡ 0
nothing_left digits kept shown shift is same e = is ∙ (ap (λ z. z * 10 ^ shift) (sym same ∙ ap number_of_digits e) ∙ omega arith)

-- ---- the text of an exponent

spells_decimal : (n : ℕ) → n < 10 ^ 64 → 0 < n → SpellsDigits (decimal n) n
spells_decimal n h = decimal_by_steps_wide (λ n l. 0 < n → SpellsDigits l n) one more n h
  where
    one : (n : ℕ) → n < 10 → 0 < n → SpellsDigits ((48 + n) ∷ []) n
    one n h p = ((λ e. omega arith), All-cons IsDigit (48 + n) [] (omega arith, omega arith) (All-nil IsDigit), omega arith)

    more : (n : ℕ) (l : List ℕ) → 10 ≤ n → (0 < n / 10 → SpellsDigits l (n / 10)) → 0 < n → SpellsDigits (l ++ (48 + n % 10) ∷ []) n
    more n [] h s p = absurd (s (omega arith))
    more n (c ∷ l) h s p =
        let q = s (omega arith) in
        let d : IsDigit (48 + n % 10) = (omega arith, omega arith) in
        let e : number_of_digits ((c ∷ l) ++ (48 + n % 10) ∷ []) ≡ number_of_digits (c ∷ l) * 10 + (48 + n % 10 - 48) = digits_snoc (c ∷ l) (48 + n % 10) d in
        let f : n / 10 ≡ number_of_digits (c ∷ l) = q.2 in
        (q.0, All-push IsDigit (c ∷ l) (48 + n % 10) q.1 d, joined n (number_of_digits (c ∷ l)) f ∙ sym e)
      where
        joined : (n m : ℕ) → n / 10 ≡ m → n ≡ m * 10 + (48 + n % 10 - 48)
        joined n m e = omega arith

pub shortest_text : (z : ℤ) → neg_ℤ (pos (10 ^ 31)) ≤ℤ z → z ≤ℤ pos (10 ^ 31) → z ≢ pos 0 → IsShortestExponent (signed_decimal z) z
shortest_text (pos zero) l h n = absurd (n refl)
shortest_text (pos (suc n)) l h z = inr (false, decimal (suc n), suc n, spells_decimal (suc n) (omega (arith, ints)) (omega arith), refl, refl)
shortest_text (negsuc n) l h z = inr (true, decimal (suc n), suc n, spells_decimal (suc n) (omega (arith, ints)) (omega arith), refl, omega (arith, ints))

pub joined_items : (items digits text : List ℕ) (b : Bool) → items ≡ (((3 ∷ sign_text b) ++ digits) ++ 46 ∷ 69 ∷ []) ++ text → items ≡ 3 ∷ (sign_text b ++ (digits ++ 46 ∷ 69 ∷ text))
joined_items items digits text b is = is ∙ simp append_assoc

pub canonical_items : (items digits text : List ℕ) (b : Bool) (e : ℤ) → items ≡ 3 ∷ (sign_text b ++ (digits ++ 46 ∷ 69 ∷ text))
    → SpellsDigits digits (number_of_digits digits) → number_of_digits digits % 10 ≢ 0 → IsShortestExponent text e → IsCanonicalDecimal items b (number_of_digits digits) e
canonical_items items digits text b e is first last x = record {
  mantissa = digits;
  exponent = text;
  is = is;
  mantissa_is = first;
  last = last;
  exponent_is = x;
}

-- ---- an exponent of many digits

abbrev pub with_bool : Bool → ℤ → ℤ
with_bool true z = neg_ℤ z
with_bool false z = z

pub long_is : (b : Bool) (digits shown items : List ℕ) (moved away : ℤ) → 10 ^ 30 ≤ number_of_digits digits → neg_ℤ (pos (2 ^ 65)) ≤ℤ away → away ≡ with_bool b moved
    → pos (number_of_digits shown) ≡ pos (number_of_digits digits) +ℤ away → All IsDigit shown → StartsOffZeroDigit shown → items ≡ sign_text b ++ shown
    → IsShortestExponent items (with_sign b (number_of_digits digits) +ℤ moved)
long_is b digits [] items moved away long low is sum d s e = absurd (empty (number_of_digits digits) away long low sum)
  where
    empty : (n : ℕ) (z : ℤ) → 10 ^ 30 ≤ n → neg_ℤ (pos (2 ^ 65)) ≤ℤ z → pos 0 ≡ pos n +ℤ z → ⊥
    empty n z h k e = omega (arith, ints)
long_is b digits (c ∷ l) items moved away long low is sum d s e = inr (b, c ∷ l, number_of_digits (c ∷ l), (s, d, refl), e, by b (number_of_digits (c ∷ l)) (number_of_digits digits) moved away is sum)
  where
    by : (b : Bool) (x n : ℕ) (moved away : ℤ) → away ≡ with_bool b moved → pos x ≡ pos n +ℤ away → with_sign b n +ℤ moved ≡ with_sign b x
    by true x n moved away f g = omega (arith, ints)
    by false x n moved away f g = omega (arith, ints)
