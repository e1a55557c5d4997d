-- The value of an attribute as text (RFC 4514, 2.4).
use Rattle.std.specs.Prelude.{◌/◌, ◌%◌, ◌==◌, ◌||◌, ◌&&◌, ℕ, nat_lt, length, Bool, true, false, List, [], ◌∷◌, ◌++◌, encode_utf8, flat_map, if◌then◌else◌}
use Rattle.std.specs.Fmt.{digit_glyph}

-- The digits of an octet, in hexadecimal.
abbrev pub octet_digits : ℕ → List ℕ
octet_digits b = digit_glyph false (b / 16) ∷ digit_glyph false (b % 16) ∷ []

-- A number sign and the digits of the octets.
abbrev pub octets_text : List ℕ → List ℕ
octets_text octets = 35 ∷ flat_map octet_digits octets

-- The characters " + , ; < > and \, which are escaped everywhere.
abbrev pub is_special : ℕ → Bool
is_special c = (c == 34) || (c == 43) || (c == 44) || (c == 59) || (c == 60) || (c == 62) || (c == 92)

-- What a backslash precedes: these, a space or a number sign that is the first character, and a space that is the last.
abbrev pub is_prefixed : Bool → Bool → ℕ → Bool
is_prefixed is_first is_last c = is_special c || ((is_first || is_last) && (c == 32)) || (is_first && (c == 35))

-- What is written as the digits of its octet after a backslash: null, and the other control characters of ASCII.
abbrev pub is_control : ℕ → Bool
is_control c = nat_lt c 32 || (c == 127)

-- A character of a value. One that isn't escaped is as it is, in UTF-8.
abbrev pub written : Bool → Bool → ℕ → List ℕ
written is_first is_last c = if is_prefixed is_first is_last c then 92 ∷ c ∷ [] else (if is_control c then 92 ∷ octet_digits c else encode_utf8 c)

-- The characters of a value, each with whether it is the first and the last.
abbrev pub written_from : Bool → List ℕ → List ℕ
written_from is_first [] = []
written_from is_first (c ∷ more) = written is_first (length more == 0) c ++ written_from false more

abbrev pub escaped : List ℕ → List ℕ
escaped characters = written_from true characters
