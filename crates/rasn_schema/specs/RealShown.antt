-- REAL in value notation.
use Rattle.std.specs.Prelude.{ℕ, ◌^◌, Bool, List, ◌++◌, codes, length, nat_lt, if◌then◌else◌}
use Rattle.std.specs.Fmt.{decimal, signed_decimal}
use Rattle.std.specs.Str.{encode_utf8_all}
use Rattle.rasn_types.specs.Framing.{number_in}
use Rattle.rasn_types.specs.Contents.{signed, sign_text}
use Rattle.rasn_types.specs.Text.{hexadecimal}
use Rattle.rasn_schema.specs.declared.real.Real.{Real as View}
use Rattle.rasn_schema.specs.declared.real.Real.TheVariants.{Zero, MinusZero, Infinity, MinusInfinity, NotANumber, Binary, Decimal}

-- The octets of a mantissa with base 2, without its sign: a number in decimal if it has at most 64 bits, and otherwise in hexadecimal.
abbrev pub mantissa_text : List ℕ → List ℕ
mantissa_text octets = if nat_lt (number_in 256 octets) (2 ^ 64) then decimal (number_in 256 octets) else codes "0x" ++ hexadecimal octets

-- The octets of an exponent with base 2, in two's complement: a number in decimal if there are at most eight, and otherwise in hexadecimal.
abbrev pub exponent_text : List ℕ → List ℕ
exponent_text octets = if nat_lt (length octets) 9 then signed_decimal (signed octets) else codes "0x" ++ hexadecimal octets

-- A sequence of a mantissa, a base and an exponent.
abbrev pub before_mantissa : Bool → List ℕ
before_mantissa negative = codes "{mantissa " ++ sign_text negative

abbrev pub base_text : ℕ → List ℕ
base_text base = codes ", base " ++ (decimal base ++ codes ", exponent ")

abbrev pub after_mantissa : ℕ → List ℕ → List ℕ
after_mantissa base exponent = base_text base ++ (exponent ++ codes "}")

abbrev pub number_text : Bool → List ℕ → ℕ → List ℕ → List ℕ
number_text negative mantissa base exponent = before_mantissa negative ++ (mantissa ++ after_mantissa base exponent)

-- A value in value notation (X.680 21.6). The octets of a mantissa and an exponent with base 10 are those of their digits.
abbrev pub real_text : View → List ℕ
real_text Zero = codes "0"
real_text MinusZero = codes "-0"
real_text Infinity = codes "PLUS-INFINITY"
real_text MinusInfinity = codes "MINUS-INFINITY"
real_text NotANumber = codes "NOT-A-NUMBER"
real_text (Binary negative mantissa exponent) = number_text negative (mantissa_text mantissa.now) 2 (exponent_text exponent.now)
real_text (Decimal negative mantissa exponent) = number_text negative (encode_utf8_all mantissa.now) 10 (encode_utf8_all exponent.now)
