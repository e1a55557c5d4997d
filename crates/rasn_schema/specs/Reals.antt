-- Values of REAL (X.690 8.5, 11.3).
use Rattle.std.specs.Prelude.{◌≡◌, ◌⊎◌, ℕ, zero, suc, ◌+◌, ◌-◌, ◌*◌, ◌^◌, ◌%◌, ◌<◌, max, Bool, ℤ, pos, ◌+ℤ◌, ◌-ℤ◌, List, [], ◌∷◌, ◌++◌}
use Rattle.rasn_types.specs.declared.types.codec.Codec.TheVariants.{Ber}
use Rattle.rasn_types.specs.Framing.{bit_of, number_in, AreOctets}
use Rattle.rasn_types.specs.Contents.{Real, plus_zero, minus_zero, plus_infinity, minus_infinity, not_a_number, binary, decimal, RealContents, CanonicalReal, IsCanonicalBinary, IsCanonicalDecimal, IsReal, IsShortestInteger, signed, sign_text, with_sign, SpellsDigits}
use Rattle.rasn_schema.specs.RealParts.{IsOddPart}
use Rattle.rasn_schema.specs.declared.real.Real.{Real as View}
use Rattle.rasn_schema.specs.declared.real.Real.TheVariants.{Zero, MinusZero, Infinity, MinusInfinity, NotANumber, Binary, Decimal}

-- Octets that BER reads, and those that canonical rules have for their value.
abbrev pub IsRealOctets : List ℕ → List ℕ → Type 0
IsRealOctets l octets = IsReal Ber l octets

-- Octets that canonical rules have for a value.
abbrev pub IsCanonicalReal : List ℕ → Type 0
IsCanonicalReal octets = (r : Real) × RealContents octets r × CanonicalReal octets r

-- Octets that encode the number of a numeral, in whichever form it is. Bits 8 and 7 of the first octet are 0 (8.5.6).
abbrev pub IsOfNumeral : List ℕ → List ℕ → Type 0
IsOfNumeral text octets = (form : ℕ) × (form < 64) × IsRealOctets (form ∷ text) octets

-- Canonical octets of a number, whether odd or not, times a power of 2.
abbrev pub IsOfBinary : Bool → ℕ → ℤ → List ℕ → Type 0
IsOfBinary negative n e octets = (m : ℕ) × (shift : ℕ) × IsOddPart n m shift × IsCanonicalBinary octets negative m (e +ℤ pos shift)

-- A whole number in decimal: digits after a minus sign or none, of which the first is 0 in the number 0 alone.
abbrev pub IsWholeText : List ℕ → ℤ → Type 0
IsWholeText text e =
    ((text ≡ 48 ∷ []) × (e ≡ pos 0))
    ⊎ ((negative : Bool) × (digits : List ℕ) × (n : ℕ) × SpellsDigits digits n × (text ≡ sign_text negative ++ digits) × (e ≡ with_sign negative n))

-- The value that canonical octets encode. The exponent with base 2 is in two's complement, and that with base 10 in decimal.
abbrev pub IsShownAs : List ℕ → View → Type 0
IsShownAs octets Zero = octets ≡ []
IsShownAs octets MinusZero = octets ≡ 67 ∷ []
IsShownAs octets Infinity = octets ≡ 64 ∷ []
IsShownAs octets MinusInfinity = octets ≡ 65 ∷ []
IsShownAs octets NotANumber = octets ≡ 66 ∷ []
IsShownAs octets (Binary negative mantissa exponent) = IsCanonicalBinary octets negative (number_in 256 mantissa.now) (signed exponent.now) × IsShortestInteger exponent.now × AreOctets exponent.now
IsShownAs octets (Decimal negative mantissa exponent) = (m : ℕ) × (e : ℤ) × (h : IsCanonicalDecimal octets negative m e) × (mantissa.now ≡ h.mantissa) × IsWholeText exponent.now e

-- The bits of an `f64` that is a number: a sign, eleven bits of a scale, and 52 bits of a fraction (IEC 60559, binary64). Below a scale
-- of 1 there is no further bit before the fraction.
abbrev pub significand : ℕ → ℕ → ℕ
significand zero fraction = fraction
significand (suc scale) fraction = 2 ^ 52 + fraction

pub record IsDouble (bits : ℕ) (negative : Bool) (m : ℕ) (e : ℤ) : Type 0 where
  pub scale : ℕ
  pub fraction : ℕ
  pub shift : ℕ
  pub finite : scale < 2047
  pub short : fraction < 2 ^ 52
  pub is : bits ≡ 2 ^ 63 * bit_of negative + (2 ^ 52 * scale + fraction)
  pub value : significand scale fraction ≡ m * 2 ^ shift
  pub exponent : e ≡ pos (max 1 scale + shift) -ℤ pos 1075

-- An `f64` with these bits is equal to the value. Of a number with base 10 none is.
abbrev pub HasBits : View → ℕ → Type 0
HasBits Zero bits = bits ≡ 0
HasBits MinusZero bits = bits ≡ 2 ^ 63
HasBits Infinity bits = bits ≡ 2047 * 2 ^ 52
HasBits MinusInfinity bits = bits ≡ 2 ^ 63 + 2047 * 2 ^ 52
HasBits NotANumber bits = 2047 * 2 ^ 52 < bits % 2 ^ 63
HasBits (Binary negative mantissa exponent) bits = IsDouble bits negative (number_in 256 mantissa.now) (signed exponent.now)
HasBits (Decimal negative mantissa exponent) bits = ⊥

-- The same of a value, and canonical octets of the value that is equal to an `f64` with these bits.
abbrev pub IsEqualTo : Real → ℕ → Type 0
IsEqualTo plus_zero bits = bits ≡ 0
IsEqualTo minus_zero bits = bits ≡ 2 ^ 63
IsEqualTo plus_infinity bits = bits ≡ 2047 * 2 ^ 52
IsEqualTo minus_infinity bits = bits ≡ 2 ^ 63 + 2047 * 2 ^ 52
IsEqualTo not_a_number bits = 2047 * 2 ^ 52 < bits % 2 ^ 63
IsEqualTo (binary negative m e) bits = IsDouble bits negative m e
IsEqualTo (decimal negative m e) bits = ⊥

abbrev pub IsOfBits : ℕ → List ℕ → Type 0
IsOfBits bits octets = (r : Real) × CanonicalReal octets r × IsEqualTo r bits
