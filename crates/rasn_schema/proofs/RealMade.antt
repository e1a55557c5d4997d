-- The canonical octets of a REAL with base 2 from the parts of others.
use Rattle.std.proofs.Common.{Global, Option, Some, None, ◌≡◌, ◌≢◌, ◌⊎◌, ℕ, ◌+◌, ◌*◌, ◌^◌, ◌/◌, ◌%◌, ◌-ℤ◌, length-append, ◌<◌, ◌≤◌, inl, inr, List, [], ◌∷◌, ◌++◌, length, Bool, true, false, ℤ, pos, negsuc, ◌+ℤ◌, ◌*ℤ◌, refl, sym, ap, ap₂, ◌∙◌, subst, arith, mul-le-mul_right}
use Rattle.std.specs.Prelude.{◌==◌, Vec, MatchOption}
use Rattle.std.proofs.Math.Nat.{mul_assoc, one-le-pow}
use Rattle.std.proofs.lemmas.Nat.{pow-add}
use Rattle.std.proofs.lemmas.Int.{ints}
use Rattle.std.proofs.lemmas.Bool.{cases_order}
use Rattle.rasn_types.specs.Framing.{bit_of, number_in, AreOctets}
use Rattle.rasn_types.specs.Contents.{signed, Real, plus_zero, minus_zero, plus_infinity, minus_infinity, not_a_number, binary, decimal, IsBase, HoldsExponent, IsBinary, RealContents, CanonicalReal, IsShortestInteger, IsShortestMantissa, IsCanonicalBinary}
use Rattle.rasn_types.proofs.Integer.Unique.{signed_one}
use Rattle.rasn_types.proofs.Reals.{bit_low, form_low, odd_one, form_few, real_one}
use Rattle.rasn_schema.proofs.RealViews.{held_octets}
use Rattle.rasn_schema.specs.declared.real_binary.BinaryParts.{BinaryParts}
use Rattle.rasn_schema.specs.Reals.{IsRealOctets, IsOfBinary}
use Rattle.rasn_schema.specs.RealParts.{AreParts, IsNoBinary, StartsOffZero, IsOddPart}

-- A REAL whose first octet has its high bit set has base 2.
ber_binary : (first : ℕ) (after : List ℕ) → 128 ≤ first → (r : Real) → RealContents (first ∷ after) r → (b : Bool) × (m : ℕ) × (e : ℤ) × IsBinary (first ∷ after) b m e
ber_binary first after high plus_zero h = let e = h in absurd cc
ber_binary first after high minus_zero h = let f : first ≡ 67 = cc in absurd (omega arith)
ber_binary first after high plus_infinity h = let f : first ≡ 64 = cc in absurd (omega arith)
ber_binary first after high minus_infinity h = let f : first ≡ 65 = cc in absurd (omega arith)
ber_binary first after high not_a_number h = let f : first ≡ 66 = cc in absurd (omega arith)
ber_binary first after high (binary b m e) h = (b, m, e, h)
ber_binary first after high (decimal b m e) h =
    let k = h.is in
    let f : first ≡ h.form = cc in
    let g = form_few h.form h.fraction h.exponent h.x h.has_form in
    absurd (omega arith)

pub no_octets : (first : ℕ) (after : List ℕ) → 128 ≤ first → IsNoBinary (first ∷ after) → (octets : List ℕ) → IsRealOctets (first ∷ after) octets → ⊥
no_octets first after high bad octets r = let w = ber_binary first after high r.0 r.1 in bad w.0 w.1 w.2 w.3

-- The exponent of the odd part of a mantissa.
abbrev pub moved_exponent : BinaryParts → ℕ → ℤ
moved_exponent p zeros = signed p.exponent.now *ℤ pos p.power +ℤ pos (zeros + p.factor)

spread : (n m zeros factor : ℕ) → n ≡ m * 2 ^ zeros → n * 2 ^ factor ≡ m * 2 ^ (zeros + factor)
spread n m zeros factor e = ap (λ z. z * 2 ^ factor) e ∙ (mul_assoc m (2 ^ zeros) (2 ^ factor) ∙ ap (λ z. m * z) (sym (pow-add 2 zeros factor)))

read_as : (l : List ℕ) (p : BinaryParts) (m zeros : ℕ) (e : ℤ) → AreParts l p → IsOddPart (number_in 256 p.mantissa.now) m zeros → e ≡ moved_exponent p zeros → IsBinary l p.is_negative m e
read_as l p m zeros e a o is = record {
  base = a.base;
  power = p.power;
  factor = p.factor;
  form = p.form;
  field = a.field;
  exponent = p.exponent.now;
  mantissa = p.mantissa.now;
  shift = zeros + p.factor;
  is = a.is;
  has_base = a.has_base;
  has_factor = a.has_factor;
  has_exponent = a.has_exponent;
  odd = o.0;
  value = spread (number_in 256 p.mantissa.now) m zeros p.factor o.1;
  scale = is;
}

pub made : (l : List ℕ) (p : BinaryParts) (m zeros : ℕ) (e : ℤ) (octets : List ℕ) → AreParts l p → IsOddPart (number_in 256 p.mantissa.now) m zeros → e ≡ moved_exponent p zeros
    → IsCanonicalBinary octets p.is_negative m e → IsRealOctets l octets
made l p m zeros e octets a o is c = (binary p.is_negative m e, read_as l p m zeros e a o is, c, λ z. absurd z)

-- Octets that BER reads have the octets of their number alone.
pub not_made : (l : List ℕ) (p : BinaryParts) (m zeros : ℕ) → AreParts l p → IsOddPart (number_in 256 p.mantissa.now) m zeros
    → ((octets : List ℕ) → IsCanonicalBinary octets p.is_negative m (moved_exponent p zeros) → ⊥) → (octets : List ℕ) → IsRealOctets l octets → ⊥
not_made l p m zeros a o bad octets r = bad octets (subst (CanonicalReal octets) (real_one l r.0 (binary p.is_negative m (moved_exponent p zeros)) r.1 (read_as l p m zeros (moved_exponent p zeros) a o refl)) r.2)

-- A number has one odd part.
pub odd_part_one : (n l k m j : ℕ) → IsOddPart n l k → IsOddPart n m j → (l ≡ m) × (k ≡ j)
odd_part_one n l k m j h i = odd_one l m k j h.0 i.0 (sym h.1 ∙ i.1)

-- ---- the octets of a mantissa and an exponent

-- The first octet and those of the exponent.
abbrev pub Begins : List ℕ → Bool → List ℕ → Type 0
Begins l negative exponent = (form : ℕ) × (field : List ℕ) × HoldsExponent form field exponent × (form ≡ 3 → 3 < length exponent) × (l ≡ (128 + 64 * bit_of negative + form) ∷ field)

joined_octets : (a b : List ℕ) → AreOctets a → AreOctets b → AreOctets (a ++ b)
joined_octets [] b o u = u
joined_octets (x ∷ a) b o u = (o.0, joined_octets a b o.1 u)

field_octets : (form : ℕ) (field exponent : List ℕ) → HoldsExponent form field exponent → AreOctets exponent → AreOctets field
field_octets form field exponent (inl h) o = subst AreOctets (sym h.2) o
field_octets form field exponent (inr h) o = subst AreOctets (sym h.1) (h.2, o)

begins_octets : (l exponent : List ℕ) (b : Bool) → Begins l b exponent → AreOctets exponent → AreOctets l
begins_octets l exponent b (form, field, h, f, e) o = subst AreOctets (sym e) (low (bit_of b) form (bit_low b) (form_low form field exponent h), field_octets form field exponent h o)
  where
    low : (b f : ℕ) → b < 2 → f < 4 → 128 + 64 * b + f < 256
    low b f h k = omega arith

mantissa_some : (l : List ℕ) → StartsOffZero l → number_in 256 l % 2 ≡ 1 → IsShortestMantissa l
mantissa_some [] s o = absurd (omega arith)
mantissa_some (b ∷ l) s o = s

pub contents_made : (l front exponent mantissa : List ℕ) (b : Bool) (m : ℕ) → Begins front b exponent → AreOctets mantissa → l ≡ front ++ mantissa → AreOctets exponent → IsShortestInteger exponent
    → StartsOffZero mantissa → number_in 256 mantissa ≡ m → m % 2 ≡ 1 → IsCanonicalBinary l b m (signed exponent)
contents_made l front exponent mantissa b m w o is x short s n odd = record {
  form = w.0;
  field = w.1;
  exponent = exponent;
  mantissa = mantissa;
  is = is ∙ ap (λ k. k ++ mantissa) w.4;
  has_exponent = w.2;
  few = w.3;
  exponent_is = refl;
  exponent_shortest = short;
  octets = subst AreOctets (sym is) (joined_octets front mantissa (begins_octets front exponent b w x) o);
  mantissa_is = n;
  mantissa_shortest = mantissa_some mantissa s (ap (λ k. k % 2) n ∙ odd);
  odd = odd;
}

held_few : (form : ℕ) (field exponent : List ℕ) → HoldsExponent form field exponent → length exponent ≤ 255
held_few form field exponent (inl h) = omega (arith, h.0, h.1)
held_few form field exponent (inr h) = omega (arith, h.2)

pub too_long : (short : List ℕ) (e : ℤ) → AreOctets short → IsShortestInteger short → signed short ≡ e → 255 < length short → (octets : List ℕ) (b : Bool) (m : ℕ) → IsCanonicalBinary octets b m e → ⊥
too_long short e o s is far octets b m c =
    let x = held_octets c.form c.field c.exponent c.mantissa c.has_exponent (subst AreOctets c.is c.octets).1 in
    let same : c.exponent ≡ short = signed_one c.exponent short c.exponent_shortest s x o (c.exponent_is ∙ sym is) in
    let few : length short ≤ 255 = subst (λ l. length l ≤ 255) same (held_few c.form c.field c.exponent c.has_exponent) in
    omega arith

-- ---- no octet, and one

pub empty_octets : (l octets : List ℕ) → length l ≡ 0 → octets ≡ [] → IsRealOctets l octets
empty_octets [] octets e f = (plus_zero, refl, f, λ z. absurd z)
empty_octets (b ∷ l) octets e f = absurd (omega arith)

pub no_octet_left : (b : Bool) (l : List ℕ) → b ≡ (length l == 0) → b ≡ true → l ≡ []
no_octet_left b [] e f = refl
no_octet_left b (c ∷ l) e f = let g : true ≡ false = sym f ∙ (e ∙ not_none (length (c ∷ l)) (omega arith)) in cc
  where
    not_none : (n : ℕ) → 0 < n → (n == 0) ≡ false
    not_none n h = grind arith

pub special_octets : (first : ℕ) (after octets : List ℕ) → 64 ≤ first → first ≤ 67 → after ≡ [] → octets ≡ first ∷ [] → IsRealOctets (first ∷ after) octets
special_octets first after octets low high e f = go (cases_order first 65) (cases_order first 66)
  where
    there : (k : ℕ) → first ≡ k → first ∷ after ≡ k ∷ []
    there k g = ap₂ ◌∷◌ g e

    made_so : (k : ℕ) → first ≡ k → octets ≡ k ∷ []
    made_so k g = f ∙ ap (λ z. z ∷ []) g

    go : (first ≡ 65) ⊎ ((first < 65) ⊎ (65 < first)) → (first ≡ 66) ⊎ ((first < 66) ⊎ (66 < first)) → IsRealOctets (first ∷ after) octets
    go (inl g) y = (minus_infinity, there 65 g, made_so 65 g, λ z. absurd z)
    go (inr (inl g)) y = let k : first ≡ 64 = omega arith in (plus_infinity, there 64 k, made_so 64 k, λ z. absurd z)
    go (inr (inr g)) (inl h) = (not_a_number, there 66 h, made_so 66 h, λ z. absurd z)
    go (inr (inr g)) (inr (inl h)) = absurd (omega arith)
    go (inr (inr g)) (inr (inr h)) = let k : first ≡ 67 = omega arith in (minus_zero, there 67 k, made_so 67 k, λ z. absurd z)

not_special : (first k : ℕ) (after : List ℕ) → first ∷ after ≡ k ∷ [] → k ≤ 67 → (after ≢ []) ⊎ (67 < first) → ⊥
not_special first k after e h (inl n) = n cc
not_special first k after e h (inr m) = let f : first ≡ k = cc in omega arith

pub no_special : (first : ℕ) (after : List ℕ) → 64 ≤ first → first < 128 → (after ≢ []) ⊎ (67 < first) → (octets : List ℕ) → IsRealOctets (first ∷ after) octets → ⊥
no_special first after low high bad octets (plus_zero, h, r, x) = let e = h in cc
no_special first after low high bad octets (minus_zero, h, r, x) = not_special first 67 after h (omega arith) bad
no_special first after low high bad octets (plus_infinity, h, r, x) = not_special first 64 after h (omega arith) bad
no_special first after low high bad octets (minus_infinity, h, r, x) = not_special first 65 after h (omega arith) bad
no_special first after low high bad octets (not_a_number, h, r, x) = not_special first 66 after h (omega arith) bad
no_special first after low high bad octets (binary b m e, h, r, x) =
    let k = h.is in
    let f : first ≡ 128 + 64 * bit_of b + 16 * h.base + 4 * h.factor + h.form = cc in
    omega arith
no_special first after low high bad octets (decimal b m e, h, r, x) =
    let k = h.is in
    let f : first ≡ h.form = cc in
    let g = form_few h.form h.fraction h.exponent h.x h.has_form in
    omega arith

-- ---- zero

pub no_odd_part : (n m shift : ℕ) → n ≡ 0 → IsOddPart n m shift → ⊥
no_odd_part n m shift e o =
    let p : 1 ≤ 2 ^ shift = one-le-pow shift 2 (omega arith) in
    let k : 1 ≤ m = some m o.0 in
    let q : 1 * 2 ^ shift ≤ m * 2 ^ shift = mul-le-mul_right (2 ^ shift) k in
    let v : 0 ≡ m * 2 ^ shift = sym e ∙ o.1 in
    omega arith
  where
    some : (m : ℕ) → m % 2 ≡ 1 → 1 ≤ m
    some m o = omega arith

-- ---- what is found

-- Octets that are those of the number of others.
pub binary_octets : (l : List ℕ) (p : BinaryParts) (odd : List ℕ) (zeros : ℕ) (e : ℤ) (m : ℕ) (found : Option (Vec ℕ Global)) → AreParts l p → IsOddPart (number_in 256 p.mantissa.now) (number_in 256 odd) zeros
    → e ≡ moved_exponent p zeros → m ≡ number_in 256 odd
    → MatchOption found ((octets : List ℕ) → IsCanonicalBinary octets p.is_negative m e → ⊥) (λ v. IsCanonicalBinary v.items p.is_negative m e)
    → MatchOption found ((octets : List ℕ) → IsRealOctets l octets → ⊥) (λ v. IsRealOctets l v.items)
binary_octets l p odd zeros e m None a o is same bad =
    not_made l p (number_in 256 odd) zeros a o (λ octets c. bad octets (subst (λ z. IsCanonicalBinary octets p.is_negative m z) (sym is) (subst (λ z. IsCanonicalBinary octets p.is_negative z (moved_exponent p zeros)) (sym same) c)))
binary_octets l p odd zeros e m (Some v) a o is same c = made l p (number_in 256 odd) zeros e v.items a o is (subst (λ z. IsCanonicalBinary v.items p.is_negative z e) same c)

-- The same of a mantissa and an exponent.
pub of_binary : (b : Bool) (n : ℕ) (e moved : ℤ) (odd zeros m : ℕ) (found : Option (Vec ℕ Global)) → IsOddPart n odd zeros → moved ≡ e +ℤ pos zeros → m ≡ odd
    → MatchOption found ((octets : List ℕ) → IsCanonicalBinary octets b m moved → ⊥) (λ v. IsCanonicalBinary v.items b m moved)
    → MatchOption found ((octets : List ℕ) → IsOfBinary b n e octets → ⊥) (λ v. IsOfBinary b n e v.items)
of_binary b n e moved odd zeros m None o is same bad = λ octets w.
    let s = odd_part_one n w.0 w.1 odd zeros w.2 o in
    bad octets (subst (λ z. IsCanonicalBinary octets b m z) (sym is) (subst (λ z. IsCanonicalBinary octets b z (e +ℤ pos zeros)) (sym same)
    (subst (λ z. IsCanonicalBinary octets b odd (e +ℤ pos z)) s.1 (subst (λ z. IsCanonicalBinary octets b z (e +ℤ pos w.1)) s.0 w.3))))
of_binary b n e moved odd zeros m (Some v) o is same c = (odd, zeros, o, subst (λ z. IsCanonicalBinary v.items b z (e +ℤ pos zeros)) same (subst (λ z. IsCanonicalBinary v.items b m z) is c))
