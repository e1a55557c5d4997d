-- JSON that was worked out by hand: what is the JSON of a value, and what isn't.
use Rattle.std.specs.Prelude.{◌≤◌, ℕ, pos, List, [], ◌∷◌, replicate, Bool, true, false, Some, None, codes}
use Rattle.json.specs.Json.{Json, number, string}
use Rattle.rasn_types.specs.Calendar.{Day}
use Rattle.rasn_types.specs.Contents.{signed}
use Rattle.rasn_schema.specs.declared.types.LeafKind.TheVariants.{BitString, NamedBits}
use Rattle.rasn_json.specs.Decimal.{IsLong}
use Rattle.rasn_json.specs.Json.{BitsJson, NumberJson, counted}
use Rattle.rasn_json.specs.Reading.{AllBitsRead}
use Rattle.rasn_json.specs.Reals.{base_ten, RealJson, RealRead}
use Rattle.rasn_json.specs.Texts.{ArcsText, DayText, UnitsText}

-- 1010
abbrev pub four_bits : List Bool
four_bits = true ∷ (false ∷ (true ∷ (false ∷ [])))

abbrev pub day : ℕ → Day
day y = record { year = pos y; month = 11; day = 14 }

pub record WorkedJson : Type 0 where
  pub digits_alone : BitsJson BitString (Some 4) four_bits (string (codes "A0"))
  pub no_digits_alone : BitsJson BitString None four_bits (string (codes "A0")) → ⊥
  pub with_their_number : BitsJson BitString None four_bits (counted (string (codes "A0")) 4)
  pub without_their_number : BitsJson BitString (Some 4) four_bits (counted (string (codes "A0")) 4) → ⊥
  pub no_other_number : BitsJson BitString None four_bits (counted (string (codes "A0")) 5) → ⊥
  pub filled : BitsJson NamedBits (Some 8) (true ∷ []) (string (codes "80"))
  pub not_filled : (j : Json) → BitsJson BitString (Some 8) (true ∷ []) j → ⊥
  pub read_alone : AllBitsRead (Some 4) (string (codes "A0")) four_bits
  pub not_read_alone : (bs : List Bool) → AllBitsRead None (string (codes "A0")) bs → ⊥
  pub a_letter : UnitsText (codes "A") (0 ∷ (0x41 ∷ []))
  pub no_turned_letter : UnitsText (codes "A") (0x41 ∷ (0 ∷ [])) → ⊥
  pub a_pair : UnitsText (0xF0 ∷ (0x9F ∷ (0x98 ∷ (0x80 ∷ [])))) (0xD8 ∷ (0x3D ∷ (0xDE ∷ (0 ∷ []))))
  pub no_text_of_half_a_pair : (s : List ℕ) → UnitsText s (0xD8 ∷ (0x3D ∷ [])) → ⊥
  pub arcs : ArcsText (codes "1.9") (1 ∷ (9 ∷ []))
  pub no_subidentifier : (s : List ℕ) → ArcsText s (1 ∷ (40 ∷ [])) → ⊥
  pub a_day : DayText (codes "1985-11-14") (day 1985)
  pub no_day_of_five_digits : (s : List ℕ) → DayText s (day 12345) → ⊥
  pub five : NumberJson (pos 5) (number (codes "5"))
  pub five_is_not_long : IsLong (pos 5) → ⊥
  pub too_many_octets : (k : ℕ) → 16384 ≤ k → IsLong (signed (1 ∷ replicate k 0))
  pub no_number_of_too_many : (k : ℕ) (j : Json) → 16384 ≤ k → NumberJson (signed (1 ∷ replicate k 0)) j → ⊥
  pub minus_zero : RealJson (67 ∷ []) (string (codes "-0"))
  pub minus_zero_is_no_number : RealJson (67 ∷ []) (number (codes "0")) → ⊥
  pub fifteen_tenths : RealJson (3 ∷ codes "15.E-1") (base_ten (codes "15E-1"))
  pub zero_is_read : RealRead (number (codes "0")) []
  -- -6 * 2^5000, which is -3 * 2^5001
  pub an_even_mantissa_is_read : RealRead (string (codes "{mantissa -6, base 2, exponent 5000}")) (193 ∷ (19 ∷ (137 ∷ (3 ∷ []))))
  pub no_number_in_a_string : (octets : List ℕ) → RealRead (string (codes "1")) octets → ⊥
