-- The texts of values.
use Rattle.std.specs.Prelude.{◌≡◌, ℕ, ◌<◌, ◌-◌, ◌^◌, ◌≤◌, length, slice_index, All, ◌/◌, ◌%◌, Bool, true, false, List, [], ◌∷◌, ◌++◌, map, ℤ, pos, negsuc, nat_lt, if◌then◌else◌, codes, Option, Some, None}
use Rattle.std.specs.List.{flat_map}
use Rattle.std.specs.Fmt.{decimal, signed_decimal, digit_glyph, ◌++?◌}
use Rattle.std.specs.Int.Digits.{digits_of}
use Rattle.rasn_types.specs.Calendar.{Day, Moment}
use Rattle.rasn_types.specs.Numbered.{AreArcs}
use Rattle.rasn_types.specs.TimeSpelling.{two}
use Rattle.rasn_types.specs.Time.{written_year, written_second, within_second, written_fraction}
use Rattle.rasn_types.specs.Tags.{Tag, Class, Universal, Application, Context, Private, Codec, Ber, Cer, Der}
use Rattle.rasn_types.specs.declared.types.constraints.Bounded.{Bounded}
use Rattle.rasn_types.specs.declared.types.constraints.Bounded.TheVariants.{None as Free, Single, Range}

-- Two hexadecimal digits, in capitals.
abbrev pub two_digits : ℕ → List ℕ
two_digits b = digit_glyph true (b / 16) ∷ digit_glyph true (b % 16) ∷ []

abbrev pub hexadecimal : List ℕ → List ℕ
hexadecimal l = flat_map two_digits l

-- The fewest octets of a whole number in two's complement (X.690 8.3): its digits to the base 256, after a zero octet
-- if the first bit would be set. The octets of a negative number z are the complements of those of -1 - z.
abbrev pub after_sign : List ℕ → List ℕ
after_sign [] = 0 ∷ []
after_sign (b ∷ l) = if nat_lt b 128 then b ∷ l else 0 ∷ b ∷ l

abbrev pub complement : List ℕ → List ℕ
complement l = map (λ b. 255 - b) l

unfoldable pub fewest_octets : ℤ → List ℕ
fewest_octets (pos n) = after_sign (digits_of 256 n)
fewest_octets (negsuc n) = complement (after_sign (digits_of 256 n))

-- A number in decimal if it fits in 128 bits, signed or unsigned, and otherwise its octets in hexadecimal after 0x.
abbrev pub is_of_128_bits : ℤ → Bool
is_of_128_bits (pos n) = nat_lt n (2 ^ 128)
is_of_128_bits (negsuc n) = nat_lt n (2 ^ 127)

unfoldable pub shown_number : ℤ → List ℕ
shown_number z = if is_of_128_bits z then signed_decimal z else codes "0x" ++ hexadecimal (fewest_octets z)

-- A range as in X.680 51.4, with MIN and MAX for open ends.
abbrev pub shown_end : {X : Type 0} → (X → Option (List ℕ)) → List ℕ → Option X → Option (List ℕ)
shown_end shown word None = Some word
shown_end shown word (Some x) = shown x

abbrev pub shown_bounds : {X : Type 0} → (X → Option (List ℕ)) → Bounded X → Option (List ℕ)
shown_bounds shown Free = Some (codes "MIN..MAX")
shown_bounds shown (Single x) = shown x
shown_bounds shown (Range start end) = shown_end shown (codes "MIN") start ++? Some (codes "..") ++? shown_end shown (codes "MAX") end

-- A context-specific tag as in [2], and any other tag with its class, as in universal 16.
abbrev pub shown_in_class : Class → List ℕ → List ℕ
shown_in_class Universal n = codes "universal " ++ n
shown_in_class Application n = codes "application " ++ n
shown_in_class Context n = codes "[" ++ (n ++ codes "]")
shown_in_class Private n = codes "private " ++ n

abbrev pub shown_tag : Tag → List ℕ
shown_tag tag = shown_in_class tag.class (decimal tag.value)

-- The name of the encoding rules.
abbrev pub shown_rules : Codec → List ℕ
shown_rules Ber = codes "BER"
shown_rules Cer = codes "CER"
shown_rules Der = codes "DER"

-- A bit as a digit, and bits in ASN.1 notation (X.680 12.10).
abbrev pub bit_digit : Bool → ℕ
bit_digit true = 49
bit_digit false = 48

abbrev pub shown_bits : List Bool → List ℕ
shown_bits bs = 39 ∷ (map bit_digit bs ++ 39 ∷ 66 ∷ [])

-- An arc in decimal, after a point.
abbrev pub point_and_arc : ℕ → List ℕ
point_and_arc x = 46 ∷ decimal x

-- Arcs in decimal, with a point between each two.
abbrev pub dotted : List ℕ → List ℕ
dotted [] = []
dotted (x ∷ l) = decimal x ++ flat_map point_and_arc l

-- An arc of 32 bits.
abbrev pub IsSmall : ℕ → Type 0
IsSmall n = n < 2 ^ 32

-- The text begins with a digit, and with 0 only if that is the whole text.
pub record IsPlain (text : List ℕ) : Type 0 where
  pub some : 0 < length text
  pub from : 48 ≤ slice_index text 0
  pub to : slice_index text 0 < 58
  pub alone : slice_index text 0 ≡ 48 → length text ≡ 1

-- The text of an arc, and that of the arcs of an object identifier.
abbrev pub IsArcText : List ℕ → ℕ → Type 0
IsArcText text n = IsSmall n × (text ≡ decimal n)

abbrev pub IsDotted : List ℕ → List ℕ → Type 0
IsDotted text arcs = AreArcs arcs × All IsSmall arcs × (text ≡ dotted arcs)

-- A day: YYYY-MM-DD.
unfoldable pub shown_day : Day → List ℕ
shown_day d = written_year d.year ++ (45 ∷ (two d.month ++ (45 ∷ two d.day)))

-- A time of day: HH:MM:SS, and a fraction.
unfoldable pub shown_clock : Moment → List ℕ
shown_clock m = two m.hour ++ (58 ∷ (two m.minute ++ (58 ∷ (two (written_second m) ++ written_fraction (within_second m)))))

-- An instant in UTC.
unfoldable pub shown_moment : Moment → List ℕ
shown_moment m = shown_day m.day ++ (84 ∷ (shown_clock m ++ 90 ∷ []))
