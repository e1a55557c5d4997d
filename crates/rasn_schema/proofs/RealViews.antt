-- What the contents octets of a REAL say, as the program reads them.
use Rattle.std.proofs.Common.{◌≡◌, ◌≢◌, ◌⊎◌, ℕ, suc, ◌+◌, ◌*◌, ◌^◌, ◌%◌, ◌/◌, ◌<◌, ◌≤◌, inl, inr, List, [], ◌∷◌, ◌++◌, length, Bool, true, false, ℤ, pos, ◌+ℤ◌, ◌*ℤ◌, Option, Some, None, refl, sym, ap, ap₂, ◌∙◌, subst, arith, length-append, mul-le-mul_right}
use Rattle.std.specs.Option.{MatchOption, is_some}
use Rattle.std.specs.Prelude.{All}
use Rattle.std.proofs.Math.Nat.{one-le-pow}
use Rattle.std.proofs.lemmas.Bool.{cases_order}
use Rattle.std.proofs.lemmas.List.Elements.{All-nil, All-cons, All-head, All-tail}
use denote.Bor.{Bor}
use Rattle.rasn_types.specs.Framing.{bit_of, number_in, AreOctets}
use Rattle.rasn_types.specs.Truth.{IsWhether}
use Rattle.rasn_types.specs.Contents.{signed, Real, plus_zero, minus_zero, plus_infinity, minus_infinity, not_a_number, binary, decimal, IsBase, HoldsExponent, IsBinary, IsShortestInteger, IsShortestMantissa, IsCanonicalBinary}
use Rattle.rasn_types.proofs.Headers.Frames.{split_one}
use Rattle.rasn_types.proofs.Headers.Digits.{lead, front_octets}
use Rattle.rasn_types.proofs.Integer.TwosComplement.{number_snoc}
use Rattle.rasn_types.proofs.Reals.{bit_low, base_low, form_low, power_one, exponent_one, first_one, canonical_binary, canonical_decimal}
use Rattle.rasn_schema.specs.declared.real.Real.{Real as View}
use Rattle.rasn_schema.specs.declared.real.Real.TheVariants.{Zero, MinusZero, Infinity, MinusInfinity, NotANumber, Binary, Decimal}
use Rattle.rasn_schema.specs.declared.real_binary.BinaryParts.{BinaryParts}
use Rattle.rasn_schema.specs.Reals.{IsCanonicalReal, IsShownAs}
use Rattle.rasn_schema.specs.RealParts.{IsCut, IsNoCut, IsNoBinary, AreParts, HasCanonicalForm}

-- ---- one octet

not_first : (first k : ℕ) (after l : List ℕ) → first ∷ after ≡ k ∷ l → 64 ≤ k → k ≤ 67 → (first < 64) ⊎ (67 < first) → ⊥
not_first first k after l e low high (inl h) = let f : first ≡ k = cc in omega arith
not_first first k after l e low high (inr h) = let f : first ≡ k = cc in omega arith

not_after : (first k : ℕ) (after : List ℕ) → first ∷ after ≡ k ∷ [] → after ≢ [] → ⊥
not_after first k after e n = n cc

not_one : (first k : ℕ) (after : List ℕ) → first ∷ after ≡ k ∷ [] → 64 ≤ k → k ≤ 67 → (after ≢ []) ⊎ ((first < 64) ⊎ (67 < first)) → ⊥
not_one first k after e low high (inl n) = not_after first k after e n
not_one first k after e low high (inr h) = not_first first k after [] e low high h

pub no_real : (first : ℕ) (after : List ℕ) → first < 128 → first ≢ 3 → (after ≢ []) ⊎ ((first < 64) ⊎ (67 < first)) → IsCanonicalReal (first ∷ after) → ⊥
no_real first after low three bad (plus_zero, h, c) = let e = h in cc
no_real first after low three bad (minus_zero, h, c) = not_one first 67 after h (omega arith) (omega arith) bad
no_real first after low three bad (plus_infinity, h, c) = not_one first 64 after h (omega arith) (omega arith) bad
no_real first after low three bad (minus_infinity, h, c) = not_one first 65 after h (omega arith) (omega arith) bad
no_real first after low three bad (not_a_number, h, c) = not_one first 66 after h (omega arith) (omega arith) bad
no_real first after low three bad (binary b m e, h, c) =
    let k = c.is in
    let f : first ≡ 128 + 64 * bit_of b + c.form = cc in
    omega arith
no_real first after low three bad (decimal b m e, h, c) = let k = c.is in three cc

abbrev pub Views : List ℕ → Option View → Type 0
Views l r = MatchOption r (IsCanonicalReal l → ⊥) (IsShownAs l)

pub at_three : (first : ℕ) (after : List ℕ) (r : Option View) → first ≡ 3 → Views (3 ∷ after) r → Views (first ∷ after) r
at_three first after r e h = subst (λ x. Views (x ∷ after) r) (sym e) h

pub at_one : (first : ℕ) (after : List ℕ) (r : Option View) → first < 128 → first ≢ 3 → after ≡ [] → MatchOption r ((first < 64) ⊎ (67 < first)) (IsShownAs (first ∷ [])) → Views (first ∷ after) r
at_one first after None low three e h = λ c. no_real first after low three (inr h) c
at_one first after (Some v) low three e h = subst (λ z. IsShownAs (first ∷ z) v) (sym e) h

-- What is shown is a value.
pub shown_real : (l : List ℕ) (v : View) → IsShownAs l v → IsCanonicalReal l
shown_real l Zero h = (plus_zero, h, h)
shown_real l MinusZero h = (minus_zero, h, h)
shown_real l Infinity h = (plus_infinity, h, h)
shown_real l MinusInfinity h = (minus_infinity, h, h)
shown_real l NotANumber h = (not_a_number, h, h)
shown_real l (Binary b m e) h = (binary b (number_in 256 m.now) (signed e.now), canonical_binary l b (number_in 256 m.now) (signed e.now) h.0, h.0)
shown_real l (Decimal b m e) h = (decimal b h.0 h.1, canonical_decimal l b h.0 h.1 h.2, h.2)

pub real_told : (l : List ℕ) (o : Option View) (b : Bool) → b ≡ is_some o → Views l o → IsWhether b (IsCanonicalReal l)
real_told l None b e h = subst (λ z. IsWhether z (IsCanonicalReal l)) (sym e) h
real_told l (Some v) b e h = subst (λ z. IsWhether z (IsCanonicalReal l)) (sym e) (shown_real l v h)

-- ---- the octets of an exponent

abbrev Pair : Type 0
Pair = Bor (List ℕ) × Bor (List ℕ)

abbrev pub Cuts : ℕ → List ℕ → Option Pair → Type 0
Cuts form l r = MatchOption r (IsNoCut form l) (λ p. IsCut form l p.0.now p.1.now)

abbrev pub Splits : ℕ → List ℕ → Option Pair → Type 0
Splits count l r = MatchOption r (length l < count) (λ p. (length p.0.now ≡ count) × (l ≡ p.0.now ++ p.1.now))

pub short_cut : (form : ℕ) (l : List ℕ) (r : Option Pair) → form < 3 → Splits (form + 1) l r → Cuts form l r
short_cut form l None low h = λ e m c. bad e m c.0 c.1 c.2
  where
    bad : (e m field : List ℕ) → HoldsExponent form field e → l ≡ field ++ m → ⊥
    bad e m field (inl k) is = omega (arith, k.1, ap length is, ap length k.2, length-append field m)
    bad e m field (inr k) is = omega (arith, k.0)
short_cut form l (Some p) low h = (p.0.now, inl (low, h.0, refl), h.1)

pub no_long_cut : (form : ℕ) → 3 ≤ form → IsNoCut form []
no_long_cut form high e m (field, inl k, is) = omega (arith, k.0)
no_long_cut form high e m (field, inr k, is) = let f = k.1 in let g : [] ≡ length e ∷ (e ++ m) = is ∙ ap (λ z. z ++ m) f in cc

inside : (form count : ℕ) (after e m : List ℕ) → 3 ≤ form → IsCut form (count ∷ after) e m → (count ≡ length e) × (after ≡ e ++ m) × IsShortestInteger e
inside form count after e m high (field, inl k, is) = absurd (omega (arith, k.0))
inside form count after e m high (field, inr k, is) =
    let g : count ∷ after ≡ length e ∷ (e ++ m) = is ∙ ap (λ z. z ++ m) k.1 in
    (cc, cc, k.3)

pub too_short : (form count : ℕ) (after : List ℕ) → 3 ≤ form → length after < count → IsNoCut form (count ∷ after)
too_short form count after high low e m c = let i = inside form count after e m high c in omega (arith, i.0, ap length i.1, length-append e m)

pub not_shortest : (form count : ℕ) (after x y : List ℕ) → 3 ≤ form → length x ≡ count → after ≡ x ++ y → (IsShortestInteger x → ⊥) → IsNoCut form (count ∷ after)
not_shortest form count after x y high n is bad e m c =
    let i = inside form count after e m high c in
    let s = split_one x e y m (n ∙ i.0) (sym is ∙ i.1) in
    bad (subst IsShortestInteger (sym s.0) i.2)

pub long_cut : (form count : ℕ) (after x y : List ℕ) → form ≡ 3 → count < 256 → length x ≡ count → after ≡ x ++ y → IsShortestInteger x → IsCut form (count ∷ after) x y
long_cut form count after x y f low n is s =
    (length x ∷ x, inr (f, refl, subst (λ z. z < 256) (sym n) low, s), ap₂ ◌∷◌ (sym n) is)

-- ---- the first octet

octet : (first b s f g : ℕ) → b < 2 → s < 3 → f < 4 → g < 4 → first ≡ 128 + 64 * b + 16 * s + 4 * f + g
    → (first / 64 % 2 ≡ b) × (first / 16 % 4 ≡ s) × (first / 4 % 4 ≡ f) × (first % 4 ≡ g)
octet first b s f g i j k l e = (omega arith, omega arith, omega arith, omega arith)

whole_octet : (first s : ℕ) → 128 ≤ first → first < 256 → first / 16 % 4 ≡ s → first ≡ 128 + 64 * (first / 64 % 2) + 16 * s + 4 * (first / 4 % 4) + first % 4
whole_octet first s h k e = omega arith

pub bit_is : (b : Bool) (n : ℕ) → n < 2 → IsWhether b (n ≡ 1) → bit_of b ≡ n
bit_is true n h w = sym w
bit_is false n h w = let z : n ≢ 1 = w in omega arith

record First (first : ℕ) (after : List ℕ) (b : Bool) (m : ℕ) (e : ℤ) (h : IsBinary (first ∷ after) b m e) : Type 0 where
  base : first / 16 % 4 ≡ h.base
  form : first % 4 ≡ h.form
  after_is : after ≡ h.field ++ h.mantissa

first_of : (first : ℕ) (after : List ℕ) (b : Bool) (m : ℕ) (e : ℤ) (h : IsBinary (first ∷ after) b m e) → First first after b m e h
first_of first after b m e h =
    let k = h.is in
    let f : first ≡ 128 + 64 * bit_of b + 16 * h.base + 4 * h.factor + h.form = cc in
    let g : after ≡ h.field ++ h.mantissa = cc in
    let o = octet first (bit_of b) h.base h.factor h.form (bit_low b) (base_low h.base h.power h.has_base) h.has_factor (form_low h.form h.field h.exponent h.has_exponent) f in
    record { base = o.1; form = o.3; after_is = g }

pub no_base : (first : ℕ) (after : List ℕ) → ((p : ℕ) → IsBase (first / 16 % 4) p → ⊥) → IsNoBinary (first ∷ after)
no_base first after bad b m e h = let f = first_of first after b m e h in bad h.power (subst (λ z. IsBase z h.power) (sym f.base) h.has_base)

pub no_exponent : (first : ℕ) (after : List ℕ) → IsNoCut (first % 4) after → IsNoBinary (first ∷ after)
no_exponent first after bad b m e h =
    let f = first_of first after b m e h in
    bad h.exponent h.mantissa (h.field, subst (λ z. HoldsExponent z h.field h.exponent) (sym f.form) h.has_exponent, f.after_is)

-- ---- mantissas

pub number_of_zeros : (l : List ℕ) → All (λ o. o ≡ 0) l → number_in 256 l ≡ 0
number_of_zeros [] h = refl
number_of_zeros (b ∷ l) h =
    ap₂ (λ x n. x % 256 * 256 ^ length l + n) (All-head (λ o. o ≡ 0) b l h) (number_of_zeros l (All-tail (λ o. o ≡ 0) b l h)) ∙ plain (256 ^ length l)
  where
    plain : (p : ℕ) → 0 % 256 * p + 0 ≡ 0
    plain p = omega arith

pub zeros_of_number : (l : List ℕ) → AreOctets l → number_in 256 l ≡ 0 → All (λ o. o ≡ 0) l
zeros_of_number [] o e = All-nil (λ o. o ≡ 0)
zeros_of_number (b ∷ l) o e = go (zeros_of_number l o.1) (cases_order b 0)
  where
    p : 1 ≤ 256 ^ length l
    p = one-le-pow (length l) 256 (omega arith)

    rest : b ≡ 0 → number_in 256 l ≡ 0
    rest z = let f : b % 256 * 256 ^ length l ≡ 0 * 256 ^ length l = ap (λ x. x % 256 * 256 ^ length l) z in omega arith

    go : (number_in 256 l ≡ 0 → All (λ o. o ≡ 0) l) → (b ≡ 0) ⊎ ((b < 0) ⊎ (0 < b)) → All (λ o. o ≡ 0) (b ∷ l)
    go more (inl z) = All-cons (λ o. o ≡ 0) b l z (more (rest z))
    go more (inr (inl z)) = absurd (omega arith)
    go more (inr (inr z)) =
        let q : 0 < b % 256 = positive b z o.0 in
        let g : 256 ^ length l ≤ number_in 256 (b ∷ l) = lead 256 b l q in
        absurd (none (256 ^ length l) (number_in 256 (b ∷ l)) p g e)
      where
        positive : (b : ℕ) → 0 < b → b < 256 → 0 < b % 256
        positive b h k = omega arith

        none : (x y : ℕ) → 1 ≤ x → x ≤ y → y ≡ 0 → ⊥
        none x y h k e = omega arith

odd_some : (m p : ℕ) → m % 2 ≡ 1 → 1 ≤ p → 1 ≤ m * p
odd_some m p o h = let g : 1 * p ≤ m * p = mul-le-mul_right p (odd_one m o) in omega arith
  where
    odd_one : (m : ℕ) → m % 2 ≡ 1 → 1 ≤ m
    odd_one m o = omega arith

pub no_mantissa : (first : ℕ) (after x y : List ℕ) → IsCut (first % 4) after x y → number_in 256 y ≡ 0 → IsNoBinary (first ∷ after)
no_mantissa first after x y c z b m e h =
    let f = first_of first after b m e h in
    let s = exponent_one (first % 4) c.0 h.field x h.exponent y h.mantissa c.1 (subst (λ z. HoldsExponent z h.field h.exponent) (sym f.form) h.has_exponent) (sym c.2 ∙ f.after_is) in
    let n : number_in 256 h.mantissa ≡ 0 = ap (number_in 256) (sym s.1) ∙ z in
    let v : 0 * 2 ^ h.factor ≡ m * 2 ^ h.shift = ap (λ q. q * 2 ^ h.factor) (sym n) ∙ h.value in
    let p = odd_some m (2 ^ h.shift) h.odd (one-le-pow h.shift 2 (omega arith)) in
    omega arith

pub the_parts : (first : ℕ) (after : List ℕ) (p : BinaryParts) → 128 ≤ first → first < 256
    → IsBase (first / 16 % 4) p.power → p.factor ≡ first / 4 % 4 → p.form ≡ first % 4 → IsCut (first % 4) after p.exponent.now p.mantissa.now
    → bit_of p.is_negative ≡ first / 64 % 2 → number_in 256 p.mantissa.now ≢ 0 → AreParts (first ∷ after) p
the_parts first after p low high base factor form c bit some = record {
  base = first / 16 % 4;
  field = c.0;
  is = ap₂ ◌∷◌ (whole first (bit_of p.is_negative) (first / 16 % 4) p.factor p.form low high refl bit factor form) c.2;
  has_base = base;
  has_factor = few first p.factor factor;
  has_exponent = subst (λ z. HoldsExponent z c.0 p.exponent.now) (sym form) c.1;
  some = some;
}
  where
    few : (first f : ℕ) → f ≡ first / 4 % 4 → f < 4
    few first f e = omega arith

    whole : (first b s f g : ℕ) → 128 ≤ first → first < 256 → first / 16 % 4 ≡ s → b ≡ first / 64 % 2 → f ≡ first / 4 % 4 → g ≡ first % 4 → first ≡ 128 + 64 * b + 16 * s + 4 * f + g
    whole first b s f g h k e i j l = omega arith

-- ---- canonical parts

first_plain : (b g x s f h : ℕ) → s ≡ 0 → f ≡ 0 → x ≡ 128 + 64 * b + 16 * s + 4 * f + g → x ≡ 128 + 64 * b + g
first_plain b g x s f h e i j = omega arith

base_zero : (base power : ℕ) → IsBase base power → power ≡ 1 → base ≡ 0
base_zero base power (inl h) e = h.0
base_zero base power (inr (inl h)) e = absurd (omega (arith, h.1))
base_zero base power (inr (inr h)) e = absurd (omega (arith, h.1))

-- The octets of an exponent are octets.
pub held_octets : (form : ℕ) (field exponent mantissa : List ℕ) → HoldsExponent form field exponent → AreOctets (field ++ mantissa) → AreOctets exponent
held_octets form field exponent mantissa (inl h) o = subst AreOctets h.2 (front_octets field mantissa o).0
held_octets form field exponent mantissa (inr h) o = (subst AreOctets h.1 (front_octets field mantissa o).0).1

pub canonical_parts : (l : List ℕ) (p : BinaryParts) → AreOctets l → AreParts l p → HasCanonicalForm p
    → IsCanonicalBinary l p.is_negative (number_in 256 p.mantissa.now) (signed p.exponent.now) × IsShortestInteger p.exponent.now × AreOctets p.exponent.now
canonical_parts l p o a c = (
  record {
    form = p.form;
    field = a.field;
    exponent = p.exponent.now;
    mantissa = p.mantissa.now;
    is = a.is ∙ ap (λ z. z ∷ (a.field ++ p.mantissa.now)) (first_plain (bit_of p.is_negative) p.form _ a.base p.factor 0 (base_zero a.base p.power a.has_base c.0) c.1 refl);
    has_exponent = a.has_exponent;
    few = c.3;
    exponent_is = refl;
    exponent_shortest = c.2;
    octets = o;
    mantissa_is = refl;
    mantissa_shortest = c.4;
    odd = c.5;
  },
  c.2,
  held_octets p.form a.field p.exponent.now p.mantissa.now a.has_exponent (subst AreOctets a.is o).1,
)

same_parts : (l : List ℕ) (p : BinaryParts) (b : Bool) (m : ℕ) (e : ℤ) → AreParts l p → IsCanonicalBinary l b m e → HasCanonicalForm p
same_parts l p b m e a h =
    let is : (128 + 64 * bit_of p.is_negative + 16 * a.base + 4 * p.factor + p.form) ∷ (a.field ++ p.mantissa.now) ≡ (128 + 64 * bit_of b + h.form) ∷ (h.field ++ h.mantissa) = sym a.is ∙ h.is in
    let o = first_one (bit_of p.is_negative) (bit_of b) a.base 0 p.factor 0 p.form h.form (bit_low p.is_negative) (bit_low b) (base_low a.base p.power a.has_base) (omega arith) a.has_factor (omega arith)
    (form_low p.form a.field p.exponent.now a.has_exponent) (form_low h.form h.field h.exponent h.has_exponent) (longer (bit_of b) h.form _ cc) in
    let x = exponent_one h.form a.field h.field p.exponent.now h.exponent p.mantissa.now h.mantissa (subst (λ z. HoldsExponent z a.field p.exponent.now) o.3 a.has_exponent) h.has_exponent cc in
    let power = power_one 0 p.power 1 (subst (λ z. IsBase z p.power) o.1 a.has_base) (inl (refl, refl)) in (
      power,
      o.2,
      subst IsShortestInteger (sym x.0) h.exponent_shortest,
      (λ f. subst (λ z. 3 < length z) (sym x.0) (h.few (sym o.3 ∙ f))),
      subst IsShortestMantissa (sym x.1) h.mantissa_shortest,
      ap (λ z. number_in 256 z % 2) x.1 ∙ (ap (λ z. z % 2) h.mantissa_is ∙ h.odd),
    )
  where
    longer : (b g x : ℕ) → x ≡ 128 + 64 * b + g → x ≡ 128 + 64 * b + 16 * 0 + 4 * 0 + g
    longer b g x e = omega arith

-- A REAL whose first octet has its high bit set has base 2.
only_binary : (first : ℕ) (after : List ℕ) → 128 ≤ first → IsCanonicalReal (first ∷ after) → (b : Bool) × (m : ℕ) × (e : ℤ) × IsBinary (first ∷ after) b m e × IsCanonicalBinary (first ∷ after) b m e
only_binary first after high (plus_zero, h, c) = let e = h in absurd cc
only_binary first after high (minus_zero, h, c) = let f : first ≡ 67 = cc in absurd (omega arith)
only_binary first after high (plus_infinity, h, c) = let f : first ≡ 64 = cc in absurd (omega arith)
only_binary first after high (minus_infinity, h, c) = let f : first ≡ 65 = cc in absurd (omega arith)
only_binary first after high (not_a_number, h, c) = let f : first ≡ 66 = cc in absurd (omega arith)
only_binary first after high (binary b m e, h, c) = (b, m, e, h, c)
only_binary first after high (decimal b m e, h, c) = let k = c.is in let f : first ≡ 3 = cc in absurd (omega arith)

pub no_parts : (first : ℕ) (after : List ℕ) → 128 ≤ first → IsNoBinary (first ∷ after) → IsCanonicalReal (first ∷ after) → ⊥
no_parts first after high bad r = let w = only_binary first after high r in bad w.0 w.1 w.2 w.3

pub not_canonical : (first : ℕ) (after : List ℕ) (p : BinaryParts) → 128 ≤ first → AreParts (first ∷ after) p → (HasCanonicalForm p → ⊥) → IsCanonicalReal (first ∷ after) → ⊥
not_canonical first after p high a bad r = let w = only_binary first after high r in bad (same_parts (first ∷ after) p w.0 w.1 w.2 a w.4)

-- ---- the end of a mantissa

pub odd_end : (front : List ℕ) (last : ℕ) → last < 256 → number_in 256 (front ++ last ∷ []) % 2 ≡ last % 2
odd_end front last h = ap (λ z. z % 2) (number_snoc front last h) ∙ plain (number_in 256 front) last
  where
    plain : (n b : ℕ) → (n * 256 + b) % 2 ≡ b % 2
    plain n b = omega arith
