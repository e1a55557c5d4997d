-- The JSON of a REAL (X.697).
use Rattle.std.specs.Prelude.{◌≡◌, ◌⊎◌, ◌++◌, ℕ, Bool, List, [], ◌∷◌, Some, codes, to_bits, IsTrue}
use Rattle.std.specs.Float.{Float, binary64, float_is_finite}
use Rattle.std.specs.Float.Parse.{parse_float}
use Rattle.json.specs.Json.{Json, number, string, object, member, no_members}
use Rattle.json.specs.Print.{IsNumber}
use Rattle.rasn_types.specs.Framing.{number_in, AreOctets}
use Rattle.rasn_types.specs.Contents.{signed, sign_text}
use Rattle.rasn_schema.specs.declared.real.Real.{Real as View}
use Rattle.rasn_schema.specs.declared.real.Real.TheVariants.{Zero, MinusZero, Infinity, MinusInfinity, NotANumber, Binary, Decimal}
use Rattle.rasn_schema.specs.RealShown.{mantissa_text, exponent_text, number_text, real_text}
use Rattle.rasn_schema.specs.Reals.{IsCanonicalReal, IsOfBinary, IsOfNumeral, IsShownAs, HasBits, IsOfBits}

-- Canonical octets of a number with base 10.
abbrev pub IsDecimalReal : List ℕ → Type 0
IsDecimalReal octets = (l : List ℕ) × (octets ≡ 3 ∷ l)

abbrev pub IsBinaryView : View → Type 0
IsBinaryView (Binary negative mantissa exponent) = Unit {0}
IsBinaryView _ = ⊥

-- ---- what is written

-- A number that an `f64` is equal to is a number of JSON whose nearest `f64` it is, and any other one is a string in value notation.
abbrev pub BinaryJson : View → Json → Type 0
BinaryJson v j = ((x : Float) × (s : List ℕ) × HasBits v (to_bits binary64 x) × (j ≡ number s) × IsNumber s × (parse_float binary64 s ≡ Some x))
    ⊎ (((bits : ℕ) → HasBits v bits → ⊥) × (j ≡ string (real_text v)))

-- A number with base 10 by its digits: 15E-1.
abbrev pub decimal_text : Bool → List ℕ → List ℕ → List ℕ
decimal_text negative mantissa exponent = sign_text negative ++ (mantissa ++ 69 ∷ exponent)

abbrev pub base_ten : List ℕ → Json
base_ten s = object (member (codes "base10Value") (number s) no_members)

abbrev pub ViewJson : View → Json → Type 0
ViewJson Zero j = j ≡ number (codes "0")
ViewJson MinusZero j = j ≡ string (codes "-0")
ViewJson Infinity j = j ≡ string (codes "INF")
ViewJson MinusInfinity j = j ≡ string (codes "-INF")
ViewJson NotANumber j = j ≡ string (codes "NaN")
ViewJson (Binary negative mantissa exponent) j = BinaryJson (Binary negative mantissa exponent) j
ViewJson (Decimal negative mantissa exponent) j = j ≡ base_ten (decimal_text negative mantissa.now exponent.now)

abbrev pub RealJson : List ℕ → Json → Type 0
RealJson octets j = (v : View) × IsShownAs octets v × ViewJson v j

-- ---- what is read

-- The `f64` nearest to a number, unless that is an infinity.
abbrev pub NearestRead : Json → List ℕ → Type 0
NearestRead j octets = (x : Float) × (s : List ℕ) × (j ≡ number s) × (parse_float binary64 s ≡ Some x) × IsTrue (float_is_finite x) × IsOfBits (to_bits binary64 x) octets

-- A number with base 10.
abbrev pub BaseTenRead : Json → List ℕ → Type 0
BaseTenRead j octets = (s : List ℕ) × (j ≡ base_ten s) × IsOfNumeral s octets

-- A mantissa, whether odd or not, times a power of 2, in value notation.
abbrev pub NotationRead : List ℕ → List ℕ → Type 0
NotationRead s octets = (negative : Bool) × (mantissa exponent : List ℕ) × AreOctets exponent × (s ≡ number_text negative (mantissa_text mantissa) 2 (exponent_text exponent))
    × IsOfBinary negative (number_in 256 mantissa) (signed exponent) octets

abbrev pub SpecialRead : List ℕ → List ℕ → Type 0
SpecialRead s octets = ((s ≡ codes "-0") × (octets ≡ 67 ∷ [])) ⊎ (((s ≡ codes "INF") × (octets ≡ 64 ∷ []))
    ⊎ (((s ≡ codes "-INF") × (octets ≡ 65 ∷ [])) ⊎ ((s ≡ codes "NaN") × (octets ≡ 66 ∷ []))))

abbrev pub TextRead : Json → List ℕ → Type 0
TextRead j octets = (s : List ℕ) × (j ≡ string s) × (SpecialRead s octets ⊎ NotationRead s octets)

abbrev pub RealRead : Json → List ℕ → Type 0
RealRead j octets = NearestRead j octets ⊎ (BaseTenRead j octets ⊎ TextRead j octets)

abbrev pub IsFoundReal : Json → List ℕ → Type 0
IsFoundReal j octets = IsCanonicalReal octets × RealRead j octets
