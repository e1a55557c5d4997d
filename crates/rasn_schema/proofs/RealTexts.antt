-- What the text of a REAL with base 10 says, as the program reads it.
use Rattle.std.proofs.Common.{◌≡◌, ◌≢◌, ℕ, suc, ◌+◌, ◌-◌, ◌*◌, ◌^◌, ◌%◌, ◌<◌, ◌≤◌, inl, inr, List, [], ◌∷◌, ◌++◌, length, map, get_or, take, Bool, true, false, not, nat_eq, eqb, Decides, ℤ, refl, sym, ap, ap₂, ◌∙◌, subst, arith, append-nil, length-append, add-one, length-take}
use Rattle.std.specs.Prelude.{All}
use Rattle.std.specs.List.{IsAnyAnswer, HoldsAt}
use Rattle.std.proofs.lemmas.Bool.{false≢true}
use Rattle.std.proofs.lemmas.Bool.Decides.{Decides-eqb}
use Rattle.std.proofs.Math.Nat.{pow-succ', pow-le-pow_right}
use Rattle.std.proofs.Math.Seq.{take-suc}
use Rattle.std.proofs.lemmas.Int.{ints}
use Rattle.std.proofs.lemmas.List.{length-map, take_all}
use Rattle.std.proofs.lemmas.List.Elements.{All-head, All-get_or, All-more, contains_decides, at_read}
use Rattle.rasn_types.specs.Truth.{IsWhether}
use Rattle.rasn_types.specs.Framing.{bit_of}
use Rattle.rasn_types.specs.Contents.{plus_zero, minus_zero, plus_infinity, minus_infinity, not_a_number, binary, decimal, IsDigit, IsTimeCharacter, time_marks, number_of_digits, with_sign, SpellsDigits, sign_text, IsShortestExponent, IsCanonicalDecimal}
use Rattle.rasn_types.proofs.Headers.Digits.{number_lt, lead}
use Rattle.rasn_types.proofs.Reals.{StartsOff, run_one, spelled, differ}
use Rattle.rasn_schema.proofs.RealNumbers.{last_split, eq_whether}
use Rattle.rasn_schema.specs.Reals.{IsCanonicalReal, IsWholeText}
use Rattle.rasn_schema.specs.RealParts.{StartsOffDigits, StartsOffZeroDigit, AreLeadingDigits, StartsOffMinus, IsAfterMinus}

-- ---- digits

pub off_digits : (l : List ℕ) → StartsOffDigits l → StartsOff IsDigit l
off_digits [] h = tt
off_digits (c ∷ l) h = h

pub digits_more : (l : List ℕ) (i : ℕ) → i < length l → All IsDigit (take i l) → IsDigit (get_or l i 0) → All IsDigit (take (i + 1) l)
digits_more l i h a d = All-more IsDigit l i 0 h a d

pub times_more : (l : List ℕ) (i : ℕ) → i < length l → All IsTimeCharacter (take i l) → IsTimeCharacter (get_or l i 0) → All IsTimeCharacter (take (i + 1) l)
times_more l i h a d = All-more IsTimeCharacter l i 0 h a d

all_taken : (P : ℕ → Type 0) (l : List ℕ) → All P (take (length l) l) → All P l
all_taken P l a = subst (All P) (take_all (length l) l (omega arith)) a

pub digits_told : (l : List ℕ) (n : ℕ) → All IsDigit (take (length l) l) → IsWhether (nat_eq (length l) n) ((length l ≡ n) × All IsDigit l)
digits_told l n a = go (nat_eq (length l) n) (eq_whether (length l) n)
  where
    go : (b : Bool) → IsWhether b (length l ≡ n) → IsWhether b ((length l ≡ n) × All IsDigit l)
    go true e = (e, all_taken IsDigit l a)
    go false h = λ k. h k.0

pub time_told : (l : List ℕ) → All IsTimeCharacter (take (length l) l) → IsWhether (not (nat_eq (length l) 0)) ((l ≢ []) × All IsTimeCharacter l)
time_told l a = go (nat_eq (length l) 0) (eq_whether (length l) 0)
  where
    some : (l : List ℕ) → length l ≢ 0 → l ≢ []
    some l h e = h (ap length e)

    none : (l : List ℕ) → length l ≡ 0 → l ≡ []
    none [] e = refl
    none (c ∷ l) e = absurd (omega arith)

    go : (b : Bool) → IsWhether b (length l ≡ 0) → IsWhether (not b) ((l ≢ []) × All IsTimeCharacter l)
    go true e = λ k. k.0 (none l e)
    go false h = (some l h, all_taken IsTimeCharacter l a)

pub mark_told : (r : Bool) (o : ℕ) → (IsDigit o → ⊥) → IsAnyAnswer (λ y b. eqb y o ≡ b) time_marks r → IsWhether r (IsTimeCharacter o)
mark_told r o other h = go r (contains_decides eqb Decides-eqb time_marks o r h)
  where
    listed : (k : ℕ) → k < length time_marks → get_or time_marks k o ≡ o → HoldsAt (λ y. y ≡ o) time_marks k
    listed k l e = at_read time_marks (λ y. y ≡ o) k o l (sym e) refl

    go : (b : Bool) → Decides b ((k : ℕ) × (k < length time_marks) × HoldsAt (λ y. y ≡ o) time_marks k) → IsWhether b (IsTimeCharacter o)
    go true d = let t = d.0 refl in inr (t.0, t.1, t.2 o)
    go false d = λ t. elim t [ inl n ↦ other n | inr n ↦ absurd (false≢true (d.1 (n.0, n.1, listed n.0 n.1 n.2))) ]

-- A digit after others.
pub digits_snoc : (l : List ℕ) (c : ℕ) → IsDigit c → number_of_digits (l ++ c ∷ []) ≡ number_of_digits l * 10 + (c - 48)
digits_snoc [] c d = omega arith
digits_snoc (b ∷ l) c d =
    let n : length (map (λ z. z - 48) (l ++ c ∷ [])) ≡ suc (length (map (λ z. z - 48) l)) =
    length-map (l ++ c ∷ []) (λ z. z - 48) ∙ (length-append l (c ∷ []) ∙ (plus_one (length l) ∙ ap suc (sym (length-map l (λ z. z - 48))))) in
    let p : 10 ^ length (map (λ z. z - 48) (l ++ c ∷ [])) ≡ 10 * 10 ^ length (map (λ z. z - 48) l) = ap (λ z. 10 ^ z) n ∙ pow-succ' 10 (length (map (λ z. z - 48) l)) in
    ap₂ (λ x y. (b - 48) % 10 * x + y) p (digits_snoc l c d) ∙ plain ((b - 48) % 10) (10 ^ length (map (λ z. z - 48) l)) (number_of_digits l) (c - 48)
  where
    plus_one : (n : ℕ) → n + 1 ≡ suc n
    plus_one n = omega arith

    plain : (a p n b : ℕ) → a * (10 * p) + (n * 10 + b) ≡ (a * p + n) * 10 + b
    plain a p n b = omega arith

pub few_digits : (l : List ℕ) → length l ≤ 30 → number_of_digits l < 10 ^ 30
few_digits l h =
    let n : number_of_digits l < 10 ^ length (map (λ z. z - 48) l) = number_lt 10 (omega arith) (map (λ z. z - 48) l) in
    let k : length (map (λ z. z - 48) l) ≤ 30 = omega (arith, length-map l (λ z. z - 48)) in
    let p : 10 ^ length (map (λ z. z - 48) l) ≤ 10 ^ 30 = pow-le-pow_right (omega arith) k in
    omega arith

-- A number of more digits, the first of which isn't 0, is 10^30 or more.
pub many_digits : (l : List ℕ) → All IsDigit l → StartsOffZeroDigit l → 30 < length l → 10 ^ 30 ≤ number_of_digits l
many_digits [] d s h = absurd (omega arith)
many_digits (c ∷ l) d s h =
    let f = All-head IsDigit c l d in
    let g : 10 ^ length (map (λ z. z - 48) l) ≤ number_of_digits (c ∷ l) = lead 10 (c - 48) (map (λ z. z - 48) l) (some c f s) in
    let k : 30 ≤ length (map (λ z. z - 48) l) = omega (arith, length-map l (λ z. z - 48)) in
    let p : 10 ^ 30 ≤ 10 ^ length (map (λ z. z - 48) l) = pow-le-pow_right (omega arith) k in
    omega arith
  where
    some : (c : ℕ) → IsDigit c → c ≢ 48 → 0 < (c - 48) % 10
    some c d n = omega arith

-- A step of the fold of digits.
pub record DigitStep (l : List ℕ) (i : ℕ) (number : ℕ) : Type 0 where
  pub fits : number * 10 + (get_or l i 0 - 48) < 2 ^ 128
  pub is : number * 10 + (get_or l i 0 - 48) ≡ number_of_digits (take (i + 1) l)

pub digit_step : (l : List ℕ) (i number : ℕ) → All IsDigit l → i < length l → length l ≤ 30 → number ≡ number_of_digits (take i l) → DigitStep l i number
digit_step l i number d h few e =
    let s : take (i + 1) l ≡ take i l ++ get_or l i 0 ∷ [] = rw add-one (take-suc l i 0 h) in
    let f : number * 10 + (get_or l i 0 - 48) ≡ number_of_digits (take (i + 1) l) =
    ap (λ x. x * 10 + (get_or l i 0 - 48)) e ∙ (sym (digits_snoc (take i l) (get_or l i 0) (All-get_or IsDigit l i 0 h d)) ∙ ap number_of_digits (sym s)) in
    let m : length (take (i + 1) l) ≤ 30 = omega (arith, length-take (i + 1) l) in
    let b = few_digits (take (i + 1) l) m in
    record { fits = omega arith; is = f }

pub last_digit : (l : List ℕ) (c : ℕ) → IsDigit c → number_of_digits (l ++ c ∷ []) % 10 ≡ c - 48
last_digit l c d = ap (λ z. z % 10) (digits_snoc l c d) ∙ plain (number_of_digits l) c d
  where
    plain : (n c : ℕ) → IsDigit c → (n * 10 + (c - 48)) % 10 ≡ c - 48
    plain n c d = omega arith

pub spells : (c : ℕ) (l : List ℕ) → All IsDigit (c ∷ l) → c ≢ 48 → SpellsDigits (c ∷ l) (number_of_digits (c ∷ l))
spells c l d n = (n, d, refl)

pub first_spells : (l : List ℕ) → All IsDigit l → 1 ≤ length l → IsWhether (not (nat_eq (get_or l 0 0) 48)) (SpellsDigits l (number_of_digits l))
first_spells [] d h = absurd (omega arith)
first_spells (c ∷ l) d h = go (nat_eq c 48) (eq_whether c 48)
  where
    go : (b : Bool) → IsWhether b (c ≡ 48) → IsWhether (not b) (SpellsDigits (c ∷ l) (number_of_digits (c ∷ l)))
    go true e = λ s. s.0 e
    go false n = (n, d, refl)

pub last_is_off : (l : List ℕ) → All IsDigit l → 1 ≤ length l → IsWhether (not (nat_eq (get_or l (length l - 1) 0) 48)) (number_of_digits l % 10 ≢ 0)
last_is_off l d h = go (nat_eq (get_or l (length l - 1) 0) 48) (eq_whether (get_or l (length l - 1) 0) 48)
  where
    k : length l - 1 < length l
    k = omega arith

    last : IsDigit (get_or l (length l - 1) 0)
    last = All-get_or IsDigit l (length l - 1) 0 k d

    e : number_of_digits l % 10 ≡ get_or l (length l - 1) 0 - 48
    e = ap (λ z. number_of_digits z % 10) (last_split l h) ∙ last_digit (take (length l - 1) l) (get_or l (length l - 1) 0) last

    go : (b : Bool) → IsWhether b (get_or l (length l - 1) 0 ≡ 48) → IsWhether (not b) (number_of_digits l % 10 ≢ 0)
    go true z = λ n. n (e ∙ (ap (λ c. c - 48) z ∙ omega arith))
    go false n = λ z. n (up (get_or l (length l - 1) 0) last (sym e ∙ z))
      where
        up : (c : ℕ) → IsDigit c → c - 48 ≡ 0 → c ≡ 48
        up c d e = omega (arith, d.0)

-- ---- a sign

minus_one : (text : List ℕ) (b c : Bool) (rest body : List ℕ) → IsAfterMinus text b rest → text ≡ sign_text c ++ body → StartsOffMinus body → (b ≡ c) × (rest ≡ body)
minus_one text true true rest body h e o = (refl, cc)
minus_one text true false rest body h e o = absurd (subst StartsOffMinus (sym e ∙ h) o refl)
minus_one text false true rest body h e o = absurd (subst StartsOffMinus (sym h.0 ∙ e) h.1 refl)
minus_one text false false rest body h e o = (refl, sym h.0 ∙ e)

digit_off : (l m : List ℕ) (n : ℕ) → SpellsDigits l n → StartsOffMinus (l ++ m)
digit_off [] m n h = absurd h
digit_off (c ∷ l) m n h = let d = All-head IsDigit c l h.1 in off c d
  where
    off : (c : ℕ) → IsDigit c → c ≢ 45
    off c d e = omega (arith, d.0)

-- ---- a number

only_decimal : (text : List ℕ) → IsCanonicalReal (3 ∷ text) → (b : Bool) × (m : ℕ) × (e : ℤ) × IsCanonicalDecimal (3 ∷ text) b m e
only_decimal text (plus_zero, h, c) = let e = h in absurd cc
only_decimal text (minus_zero, h, c) = differ 3 67 text [] (λ e. omega (arith, e)) h
only_decimal text (plus_infinity, h, c) = differ 3 64 text [] (λ e. omega (arith, e)) h
only_decimal text (minus_infinity, h, c) = differ 3 65 text [] (λ e. omega (arith, e)) h
only_decimal text (not_a_number, h, c) = differ 3 66 text [] (λ e. omega (arith, e)) h
only_decimal text (binary b m e, h, c) = let k = c.is in let f : 128 + 64 * bit_of b + c.form ≡ 3 = cc in absurd (omega arith)
only_decimal text (decimal b m e, h, c) = (b, m, e, c)

-- The parts of a text.
pub record Cut (text : List ℕ) (b : Bool) (mantissa rest : List ℕ) : Type 0 where
  pub unsigned : List ℕ
  pub sign : IsAfterMinus text b unsigned
  pub digits : AreLeadingDigits unsigned mantissa rest

record Same (text : List ℕ) (b : Bool) (mantissa rest : List ℕ) (c : Bool) (m : ℕ) (e : ℤ) (h : IsCanonicalDecimal (3 ∷ text) c m e) : Type 0 where
  mantissa_is : mantissa ≡ h.mantissa
  rest_is : rest ≡ 46 ∷ (69 ∷ h.exponent)

same_cut : (text : List ℕ) (b : Bool) (mantissa rest : List ℕ) → Cut text b mantissa rest → (c : Bool) (m : ℕ) (e : ℤ) (h : IsCanonicalDecimal (3 ∷ text) c m e) → Same text b mantissa rest c m e h
same_cut text b mantissa rest k c m e h =
    let i = h.is in
    let t : text ≡ sign_text c ++ (h.mantissa ++ 46 ∷ 69 ∷ h.exponent) = cc in
    let s = minus_one text b c k.unsigned (h.mantissa ++ 46 ∷ 69 ∷ h.exponent) k.sign t (digit_off h.mantissa (46 ∷ 69 ∷ h.exponent) m h.mantissa_is) in
    let d = spelled h.mantissa m h.mantissa_is in
    let r = run_one IsDigit mantissa h.mantissa rest (46 ∷ 69 ∷ h.exponent) k.digits.1 d.1 (off_digits rest k.digits.2) point (sym k.digits.0 ∙ s.1) in
    record { mantissa_is = r.0; rest_is = r.1 }
  where
    point : IsDigit 46 → ⊥
    point d = omega (arith, d.0)

pub no_mark : (text : List ℕ) (b : Bool) (mantissa rest : List ℕ) → Cut text b mantissa rest → ((e : List ℕ) → rest ≡ 46 ∷ (69 ∷ e) → ⊥) → IsCanonicalReal (3 ∷ text) → ⊥
no_mark text b mantissa rest k bad r = let (c, m, e, h) = only_decimal text r in bad h.exponent (same_cut text b mantissa rest k c m e h).rest_is

pub bad_first : (text : List ℕ) (b : Bool) (mantissa rest : List ℕ) → Cut text b mantissa rest → (SpellsDigits mantissa (number_of_digits mantissa) → ⊥) → IsCanonicalReal (3 ∷ text) → ⊥
bad_first text b mantissa rest k bad r =
    let (c, m, e, h) = only_decimal text r in
    let s = same_cut text b mantissa rest k c m e h in
    let d = spelled h.mantissa m h.mantissa_is in
    bad (subst (λ z. SpellsDigits z (number_of_digits z)) (sym s.mantissa_is) (subst (SpellsDigits h.mantissa) d.2 h.mantissa_is))

pub bad_last : (text : List ℕ) (b : Bool) (mantissa rest : List ℕ) → Cut text b mantissa rest → (number_of_digits mantissa % 10 ≢ 0 → ⊥) → IsCanonicalReal (3 ∷ text) → ⊥
bad_last text b mantissa rest k bad r =
    let (c, m, e, h) = only_decimal text r in
    let s = same_cut text b mantissa rest k c m e h in
    let d = spelled h.mantissa m h.mantissa_is in
    bad (λ z. h.last (ap (λ n. n % 10) (d.2 ∙ ap number_of_digits (sym s.mantissa_is)) ∙ z))

pub bad_exponent : (text : List ℕ) (b : Bool) (mantissa rest exponent : List ℕ) → Cut text b mantissa rest → rest ≡ 46 ∷ (69 ∷ exponent)
    → ((e : ℤ) → IsShortestExponent exponent e → ⊥) → IsCanonicalReal (3 ∷ text) → ⊥
bad_exponent text b mantissa rest exponent k is bad r =
    let (c, m, e, h) = only_decimal text r in
    let s = same_cut text b mantissa rest k c m e h in
    let f = s.rest_is in
    let x : h.exponent ≡ exponent = cc in
    bad e (subst (λ z. IsShortestExponent z e) x h.exponent_is)

pub shown : (text : List ℕ) (b : Bool) (mantissa rest exponent whole : List ℕ) → Cut text b mantissa rest → rest ≡ 46 ∷ (69 ∷ exponent)
    → SpellsDigits mantissa (number_of_digits mantissa) → number_of_digits mantissa % 10 ≢ 0 → (e : ℤ) × IsShortestExponent exponent e × IsWholeText whole e
    → (m : ℕ) × (e : ℤ) × (h : IsCanonicalDecimal (3 ∷ text) b m e) × (mantissa ≡ h.mantissa) × IsWholeText whole e
shown text b mantissa rest exponent whole k is first last (e, x, w) = (
  number_of_digits mantissa,
  e,
  record {
    mantissa = mantissa;
    exponent = exponent;
    is = ap (λ z. 3 ∷ z) (signed b k.unsigned (mantissa ++ 46 ∷ 69 ∷ exponent) k.sign (k.digits.0 ∙ ap (λ z. mantissa ++ z) is));
    mantissa_is = first;
    last = last;
    exponent_is = x;
  },
  refl,
  w,
)
  where
    signed : (b : Bool) (rest body : List ℕ) → IsAfterMinus text b rest → rest ≡ body → text ≡ sign_text b ++ body
    signed true rest body h e = h ∙ ap (λ z. 45 ∷ z) e
    signed false rest body h e = h.0 ∙ e

-- ---- an exponent

pub not_empty : (b : Bool) (l : List ℕ) → b ≡ nat_eq (length l) 0 → b ≡ false → l ≢ []
not_empty b l e f z = let g : nat_eq (length l) 0 ≡ true = ap (λ k. nat_eq (length k) 0) z in cc

pub record ExponentCut (text : List ℕ) (b : Bool) (front rest : List ℕ) : Type 0 where
  pub unsigned : List ℕ
  pub sign : IsAfterMinus text b unsigned
  pub digits : AreLeadingDigits unsigned front rest
  pub other : text ≢ 43 ∷ (48 ∷ [])

record SameExponent (front rest : List ℕ) : Type 0 where
  rest_is : rest ≡ []
  spells_it : SpellsDigits front (number_of_digits front)

same_exponent : (text : List ℕ) (b : Bool) (front rest : List ℕ) (e : ℤ) → ExponentCut text b front rest → IsShortestExponent text e → SameExponent front rest
same_exponent text b front rest e k (inl h) = absurd (k.other h.0)
same_exponent text b front rest e k (inr (c, ds, n, s, t, z)) =
    let o = minus_one text b c k.unsigned ds k.sign t (subst StartsOffMinus (append-nil ds) (digit_off ds [] n s)) in
    let d = spelled ds n s in
    let r = run_one IsDigit front ds rest [] k.digits.1 d.1 (off_digits rest k.digits.2) tt (sym k.digits.0 ∙ (o.1 ∙ sym (append-nil ds))) in
    record {
      rest_is = r.1;
      spells_it = subst (λ y. SpellsDigits y (number_of_digits y)) (sym r.0) (subst (SpellsDigits ds) d.2 s);
    }

pub not_all : (text : List ℕ) (b : Bool) (front rest : List ℕ) → ExponentCut text b front rest → rest ≢ [] → (e : ℤ) → IsShortestExponent text e → ⊥
not_all text b front rest k bad e h = bad (same_exponent text b front rest e k h).rest_is

pub not_spelled : (text : List ℕ) (b : Bool) (front rest : List ℕ) → ExponentCut text b front rest → (SpellsDigits front (number_of_digits front) → ⊥) → (e : ℤ) → IsShortestExponent text e → ⊥
not_spelled text b front rest k bad e h = bad (same_exponent text b front rest e k h).spells_it

pub is_spelled : (text : List ℕ) (b : Bool) (front rest : List ℕ) → ExponentCut text b front rest → rest ≡ [] → SpellsDigits front (number_of_digits front) → (e : ℤ) × IsShortestExponent text e × IsWholeText text e
is_spelled text b front rest k e s =
    let is = signed b k.unsigned front k.sign (k.digits.0 ∙ (ap (λ z. front ++ z) e ∙ append-nil front)) in
    (with_sign b (number_of_digits front), inr (b, front, number_of_digits front, s, is, refl), inr (b, front, number_of_digits front, s, is, refl))
  where
    signed : (b : Bool) (rest body : List ℕ) → IsAfterMinus text b rest → rest ≡ body → text ≡ sign_text b ++ body
    signed true rest body h e = h ∙ ap (λ z. 45 ∷ z) e
    signed false rest body h e = h.0 ∙ e

pub two_octets : (l : List ℕ) (b c : ℕ) → 2 ≤ length l → length l < 3 → get_or l 0 0 ≡ b → get_or l 1 0 ≡ c → l ≡ b ∷ (c ∷ [])
two_octets [] b c h k e f = absurd (omega arith)
two_octets (x ∷ []) b c h k e f = absurd (omega arith)
two_octets (x ∷ (y ∷ [])) b c h k e f = ap₂ (λ m n. m ∷ (n ∷ [])) e f
two_octets (x ∷ (y ∷ (z ∷ l))) b c h k e f = absurd (omega arith)
