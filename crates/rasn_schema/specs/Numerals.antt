-- Numerals as the program reads them (ISO 6093, X.690 8.5.8).
use Rattle.std.specs.Prelude.{◌≡◌, ◌≢◌, ◌⊎◌, ℕ, ◌*◌, ◌^◌, ◌%◌, Bool, true, false, ℤ, pos, ◌+ℤ◌, ◌-ℤ◌, List, [], ◌∷◌, ◌++◌, length, All, Option, Some, None}
use Rattle.rasn_types.specs.Contents.{IsDigit, IsSign, number_of_digits, with_sign, IsFraction, IsExponent, IsDecimal, IsCanonicalDecimal}
use Rattle.rasn_schema.specs.declared.real_decimal.Exponent.{Exponent}
use Rattle.rasn_schema.specs.declared.real_decimal.Numeral.{Numeral}
use Rattle.rasn_schema.specs.RealParts.{StartsOffDigits}

abbrev pub StartsOffSpace : List ℕ → Type 0
StartsOffSpace [] = Unit {0}
StartsOffSpace (c ∷ l) = c ≢ 32

-- What is after the spaces that a text begins with.
abbrev pub IsAfterSpaces : List ℕ → List ℕ → Type 0
IsAfterSpaces text rest = (spaces : List ℕ) × All (λ c. c ≡ 32) spaces × (text ≡ spaces ++ rest) × StartsOffSpace rest

abbrev pub StartsOffMark : List ℕ → Type 0
StartsOffMark [] = Unit {0}
StartsOffMark (c ∷ l) = (c ≢ 46) × (c ≢ 44)

-- Whether a text begins with a mark, the digits after that, and what is after them.
abbrev pub IsFractionCut : List ℕ → Bool → List ℕ → List ℕ → Type 0
IsFractionCut text false digits rest = (digits ≡ []) × (text ≡ rest) × StartsOffMark rest
IsFractionCut text true digits rest = (fraction : List ℕ) × IsFraction fraction digits × (fraction ≢ []) × (text ≡ fraction ++ rest) × All IsDigit digits × StartsOffDigits rest

-- The number of an exponent: its sign and its digits.
abbrev pub exponent_number : Exponent → ℤ
exponent_number x = with_sign x.is_negative (number_of_digits x.digits.now)

-- All of a text is an exponent, or it is empty.
abbrev pub IsExponentPart : List ℕ → Option Exponent → Type 0
IsExponentPart text None = text ≡ []
IsExponentPart text (Some x) = (mark : ℕ) × (sign : List ℕ) × ((mark ≡ 69) ⊎ (mark ≡ 101)) × (text ≡ mark ∷ (sign ++ x.digits.now)) × IsSign x.is_negative sign × (x.digits.now ≢ []) × All IsDigit x.digits.now

abbrev pub IsNoExponentPart : List ℕ → Type 0
IsNoExponentPart text = (text ≢ []) × ((x : ℤ) → IsExponent text x → ⊥)

abbrev pub HasDigits : Option Exponent → Type 0
HasDigits None = Unit {0}
HasDigits (Some x) = All IsDigit x.digits.now

abbrev pub exponent_or_zero : Option Exponent → ℤ
exponent_or_zero None = pos 0
exponent_or_zero (Some x) = exponent_number x

abbrev pub HasMark : Bool → List ℕ → Type 0
HasMark true fraction = fraction ≢ []
HasMark false fraction = fraction ≡ []

-- All of a text.
pub record IsNumeral (text : List ℕ) (n : Numeral) : Type 0 where
  pub spaces : List ℕ
  pub sign : List ℕ
  pub fraction : List ℕ
  pub exponent : List ℕ
  pub is : text ≡ spaces ++ (sign ++ (n.whole.now ++ (fraction ++ exponent)))
  pub has_spaces : All (λ c. c ≡ 32) spaces
  pub has_sign : IsSign n.is_negative sign
  pub has_fraction : IsFraction fraction n.after.now
  pub has_mark : HasMark n.has_mark fraction
  pub has_exponent : IsExponentPart exponent n.exponent
  pub whole_digits : All IsDigit n.whole.now
  pub after_digits : All IsDigit n.after.now
  pub some : n.whole.now ++ n.after.now ≢ []

abbrev pub IsNoNumeral : List ℕ → Type 0
IsNoNumeral text = (form : ℕ) (b : Bool) (m : ℕ) (e : ℤ) → IsDecimal (form ∷ text) b m e → ⊥

-- NR1, NR2 or NR3.
abbrev pub HasForm : ℕ → Numeral → Type 0
HasForm form n = ((form ≡ 1) × (n.has_mark ≡ false) × (n.exponent ≡ None))
    ⊎ (((form ≡ 2) × (n.has_mark ≡ true) × (n.exponent ≡ None))
    ⊎ ((form ≡ 3) × ((x : Exponent) × (n.exponent ≡ Some x))))

-- A number is one that isn't a multiple of 10 times a power of 10.
abbrev pub IsTenPart : ℕ → ℕ → ℕ → Type 0
IsTenPart n m shift = (m % 10 ≢ 0) × (n ≡ m * 10 ^ shift)

abbrev pub moved_exponent : Numeral → ℕ → ℤ
moved_exponent n shift = exponent_or_zero n.exponent -ℤ pos (length n.after.now) +ℤ pos shift

abbrev pub digits_of : Numeral → ℕ
digits_of n = number_of_digits (n.whole.now ++ n.after.now)

-- Canonical octets of the number of a numeral, and that there are none.
abbrev pub IsContentsOf : Numeral → List ℕ → Type 0
IsContentsOf n octets = (m : ℕ) × (shift : ℕ) × IsTenPart (digits_of n) m shift × IsCanonicalDecimal octets n.is_negative m (moved_exponent n shift)

abbrev pub HasNoContents : Numeral → Type 0
HasNoContents n = (m shift : ℕ) → IsTenPart (digits_of n) m shift → ⊥
