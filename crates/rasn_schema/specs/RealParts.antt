-- The parts of a REAL as the program reads them.
use Rattle.std.specs.Prelude.{◌≡◌, ◌≢◌, ℕ, ◌+◌, ◌*◌, ◌^◌, ◌<◌, ◌%◌, Bool, true, false, ℤ, List, [], ◌∷◌, ◌++◌, length, All, ◌⊎◌}
use Rattle.rasn_types.specs.Framing.{bit_of, number_in}
use Rattle.rasn_types.specs.Contents.{IsBase, HoldsExponent, IsBinary, IsShortestInteger, IsShortestMantissa, IsDigit}
use Rattle.rasn_schema.specs.declared.real_binary.BinaryParts.{BinaryParts}

-- The octets of an exponent before those of a mantissa.
abbrev pub IsCut : ℕ → List ℕ → List ℕ → List ℕ → Type 0
IsCut form l exponent mantissa = (field : List ℕ) × HoldsExponent form field exponent × (l ≡ field ++ mantissa)

abbrev pub IsNoCut : ℕ → List ℕ → Type 0
IsNoCut form l = (exponent mantissa : List ℕ) → IsCut form l exponent mantissa → ⊥

-- The parts of a number with base 2. The mantissa isn't 0.
pub record AreParts (l : List ℕ) (p : BinaryParts) : Type 0 where
  pub base : ℕ
  pub field : List ℕ
  pub is : l ≡ (128 + 64 * bit_of p.is_negative + 16 * base + 4 * p.factor + p.form) ∷ (field ++ p.mantissa.now)
  pub has_base : IsBase base p.power
  pub has_factor : p.factor < 4
  pub has_exponent : HoldsExponent p.form field p.exponent.now
  pub some : number_in 256 p.mantissa.now ≢ 0

abbrev pub IsNoBinary : List ℕ → Type 0
IsNoBinary l = (b : Bool) (m : ℕ) (e : ℤ) → IsBinary l b m e → ⊥

-- The parts that canonical rules have (11.3.1).
abbrev pub HasCanonicalForm : BinaryParts → Type 0
HasCanonicalForm p = (p.power ≡ 1) × (p.factor ≡ 0) × IsShortestInteger p.exponent.now × (p.form ≡ 3 → 3 < length p.exponent.now)
    × IsShortestMantissa p.mantissa.now × (number_in 256 p.mantissa.now % 2 ≡ 1)

-- The rest of a text doesn't begin with a digit.
abbrev pub StartsOffDigits : List ℕ → Type 0
StartsOffDigits [] = Unit {0}
StartsOffDigits (c ∷ l) = IsDigit c → ⊥

abbrev pub AreLeadingDigits : List ℕ → List ℕ → List ℕ → Type 0
AreLeadingDigits text digits rest = (text ≡ digits ++ rest) × All IsDigit digits × StartsOffDigits rest

abbrev pub StartsOffMinus : List ℕ → Type 0
StartsOffMinus [] = Unit {0}
StartsOffMinus (c ∷ l) = c ≢ 45

-- What is after a minus sign, or after none.
abbrev pub IsAfterMinus : List ℕ → Bool → List ℕ → Type 0
IsAfterMinus text true rest = text ≡ 45 ∷ rest
IsAfterMinus text false rest = (text ≡ rest) × StartsOffMinus rest

-- What is after a sign, or after none.
abbrev pub StartsOffSign : List ℕ → Type 0
StartsOffSign [] = Unit {0}
StartsOffSign (c ∷ l) = (c ≢ 45) × (c ≢ 43)

abbrev pub IsAfterSign : List ℕ → Bool → List ℕ → Type 0
IsAfterSign text true rest = text ≡ 45 ∷ rest
IsAfterSign text false rest = (text ≡ 43 ∷ rest) ⊎ ((text ≡ rest) × StartsOffSign rest)

abbrev pub StartsOffZero : List ℕ → Type 0
StartsOffZero [] = Unit {0}
StartsOffZero (b ∷ l) = b ≢ 0

abbrev pub StartsOffZeroDigit : List ℕ → Type 0
StartsOffZeroDigit [] = Unit {0}
StartsOffZeroDigit (c ∷ l) = c ≢ 48

-- The power of 2 that a base is.
abbrev pub IsPower : ℕ → Type 0
IsPower power = (power ≡ 1) ⊎ ((power ≡ 3) ⊎ (power ≡ 4))

-- The last octet, if there is one, isn't 0.
abbrev pub EndsOffZero : List ℕ → Type 0
EndsOffZero l = (front : List ℕ) (last : ℕ) → l ≡ front ++ last ∷ [] → last ≢ 0

abbrev pub EndsOffZeroDigit : List ℕ → Type 0
EndsOffZeroDigit l = (front : List ℕ) (last : ℕ) → l ≡ front ++ last ∷ [] → last ≢ 48

-- A number is an odd one times a power of 2.
abbrev pub IsOddPart : ℕ → ℕ → ℕ → Type 0
IsOddPart n m shift = (m % 2 ≡ 1) × (n ≡ m * 2 ^ shift)

-- So many of the last bits of an octet are 0, and the one before these is 1.
abbrev pub LowZeros : ℕ → ℕ → Type 0
LowZeros octet zeros = (zeros < 8) × ((odd : ℕ) × IsOddPart octet odd zeros)

-- The same of a number, unless it is 0.
abbrev pub ZerosAtEnd : List ℕ → ℕ → Type 0
ZerosAtEnd l zeros = (zeros < 8) × (number_in 256 l ≢ 0 → (odd : ℕ) × IsOddPart (number_in 256 l) odd zeros)
