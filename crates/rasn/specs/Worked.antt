-- Octets worked out by hand, and the values as which they are read or from which they are written.
use Rattle.std.specs.Prelude.{◌≡◌, ℕ, List, [], ◌∷◌, ◌++◌, length, Bool, true, false, pos, negsuc, map, Some, None}
use Rattle.rasn_types.specs.Tags.{Form, der_form, IsStrict, in_universal}
use Rattle.rasn_types.specs.declared.types.codec.Codec.{Codec}
use Rattle.rasn_types.specs.declared.types.codec.Codec.TheVariants.{Ber, Cer, Der}
use Rattle.rasn_types.specs.Framing.{CompleteEncoding, steps_in, NextTag}
use Rattle.rasn_types.specs.Calendar.{Moment}
use Rattle.rasn_types.specs.Shapes.{Tree, number, bits, numbers, instant, items, set_elements, chosen, absent, every, between, boolean, integer, object_identifier, bit_string, named_bits, octet_string, generalized_time, Shape, any, prefix}
use Rattle.rasn_types.specs.Contents.{bits_of, joined_lists}
use Rattle.rasn_types.specs.Grammar.{Reads, top}
use Rattle.rasn_types.specs.Bytes.{Same, Bytes}
use Rattle.rasn_types.specs.Carried.{Carried}
pub use Rattle.rasn.specs.WorkedShapes.{plain, contextual, named, perhaps_bool, octets_in_set_of, seven, seven_of_set, three_of_set, choice_before}

-- Nothing is read.
abbrev pub IsRefusedBy : Codec → Shape → List ℕ → Type 0
IsRefusedBy rule s input = (t : Tree) (rest : List ℕ) → Reads rule s 128 (top rule) input t rest → ⊥

-- The input is read as this tree, with this rest.
abbrev pub IsReadAs : Codec → Shape → List ℕ → Tree → List ℕ → Type 0
IsReadAs rule s input t rest = Reads rule s 128 (top rule) input t rest

-- The tree is carried, and these are its octets.
abbrev pub IsCarriedAs : Codec → Shape → Tree → List ℕ → Type 0
IsCarriedAs rule s t b = (c : Carried rule s t) × (c.octets ≡ b)

abbrev pub nested : List ℕ
nested = 48 ∷ 128 ∷ 48 ∷ 128 ∷ 2 ∷ 1 ∷ 1 ∷ 0 ∷ 0 ∷ 4 ∷ 1 ∷ 0 ∷ 0 ∷ 0 ∷ []

-- The list of the octet strings `a` and `b`, of one octet each.
abbrev pub octets_each : ℕ → ℕ → Tree
octets_each a b = items (numbers (a ∷ []) ∷ numbers (b ∷ []) ∷ [])

-- The octets are `03 82 03 E8 00` and 999 more: a BIT STRING without unused bits.
abbrev pub IsLongPiece : List ℕ → Type 0
IsLongPiece b = (front : List ℕ) × (length front ≡ 999) × (b ≡ 3 ∷ 130 ∷ 3 ∷ 232 ∷ 0 ∷ front)

-- The octets are `23 80`, a BIT STRING as in `IsLongPiece`, `03 02 00` with one more octet, and `00 00`.
abbrev pub AreTwoPieces : List ℕ → Type 0
AreTwoPieces b = (front : List ℕ) × (last : ℕ) × (length front ≡ 999) × (b ≡ 35 ∷ 128 ∷ 3 ∷ 130 ∷ 3 ∷ 232 ∷ 0 ∷ (front ++ (3 ∷ 2 ∷ 0 ∷ last ∷ 0 ∷ 0 ∷ [])))

abbrev pub leap : Moment
leap = record { day = record { year = pos 2016; month = 12; day = 31 }; hour = 23; minute = 59; second = 59; nanosecond = 1500000000 }

-- The text 20161231235960.5Z.
abbrev pub leap_text : List ℕ
leap_text = 50 ∷ 48 ∷ 49 ∷ 54 ∷ 49 ∷ 50 ∷ 51 ∷ 49 ∷ 50 ∷ 51 ∷ 53 ∷ 57 ∷ 54 ∷ 48 ∷ 46 ∷ 53 ∷ 90 ∷ []

-- The tree of { Smith, TRUE }.
abbrev pub smith : Tree
smith = items (numbers (83 ∷ 109 ∷ 105 ∷ 116 ∷ 104 ∷ []) ∷ number (pos 1) ∷ [])

-- The text 20161231235960.50Z.
abbrev pub long_leap_text : List ℕ
long_leap_text = 50 ∷ 48 ∷ 49 ∷ 54 ∷ 49 ∷ 50 ∷ 51 ∷ 49 ∷ 50 ∷ 51 ∷ 53 ∷ 57 ∷ 54 ∷ 48 ∷ 46 ∷ 53 ∷ 48 ∷ 90 ∷ []

abbrev pub afternoon : Moment
afternoon = record { day = record { year = pos 2018; month = 6; day = 13 }; hour = 12; minute = 29; second = 59; nanosecond = 123456789 }

-- The text 20180613122959.123456789Z, and below it the text with one more digit.
abbrev pub nine_digits : List ℕ
nine_digits = 50 ∷ 48 ∷ 49 ∷ 56 ∷ 48 ∷ 54 ∷ 49 ∷ 51 ∷ 49 ∷ 50 ∷ 50 ∷ 57 ∷ 53 ∷ 57 ∷ 46 ∷ 49 ∷ 50 ∷ 51 ∷ 52 ∷ 53 ∷ 54 ∷ 55 ∷ 56 ∷ 57 ∷ 90 ∷ []

abbrev pub ten_digits : List ℕ
ten_digits = 50 ∷ 48 ∷ 49 ∷ 56 ∷ 48 ∷ 54 ∷ 49 ∷ 51 ∷ 49 ∷ 50 ∷ 50 ∷ 57 ∷ 53 ∷ 57 ∷ 46 ∷ 49 ∷ 50 ∷ 51 ∷ 52 ∷ 53 ∷ 54 ∷ 55 ∷ 56 ∷ 57 ∷ 49 ∷ 90 ∷ []

-- The list 1, 2, 3, and below it the same numbers in descending order.
abbrev pub one_two_three : Tree
one_two_three = items (number (pos 1) ∷ number (pos 2) ∷ number (pos 3) ∷ [])

abbrev pub three_two_one : Tree
three_two_one = items (number (pos 3) ∷ number (pos 2) ∷ number (pos 1) ∷ [])

-- A SET of `80 01 01`, `81 01 02` and `82 01 03`, and below it the same components in descending order.
abbrev pub rising_octets : List ℕ
rising_octets = 49 ∷ 9 ∷ 128 ∷ 1 ∷ 1 ∷ 129 ∷ 1 ∷ 2 ∷ 130 ∷ 1 ∷ 3 ∷ []

abbrev pub falling_octets : List ℕ
falling_octets = 49 ∷ 9 ∷ 130 ∷ 1 ∷ 3 ∷ 129 ∷ 1 ∷ 2 ∷ 128 ∷ 1 ∷ 1 ∷ []

-- BER reads all of the octets as this tree, and DER reads nothing.
abbrev pub IsLenient : Shape → List ℕ → Tree → Type 0
IsLenient s input t = IsReadAs Ber s input t [] × IsRefusedBy Der s input

-- What BER reads and DER doesn't, since DER writes it in another way. Inside open types, DER reads such octets too.
pub record WorkedStrict : Type 0 where
  pub high_tag : IsLenient (plain boolean 1) (31 ∷ 1 ∷ 1 ∷ 255 ∷ []) (number (pos 1))
  pub high_tag_next : NextTag der_form (31 ∷ 1 ∷ 1 ∷ 255 ∷ []) (in_universal 1) → ⊥
  pub long_length : IsLenient (plain boolean 1) (1 ∷ 129 ∷ 1 ∷ 255 ∷ []) (number (pos 1))
  pub long_octets : IsLenient (plain octet_string 4) (4 ∷ 129 ∷ 2 ∷ 161 ∷ 178 ∷ []) (numbers (161 ∷ 178 ∷ []))
  pub built_bool : IsLenient (plain boolean 1) (33 ∷ 1 ∷ 255 ∷ []) (number (pos 1))
  pub primitive_prefix : IsLenient (prefix (contextual 0) (plain (integer every) 2)) (128 ∷ 3 ∷ 2 ∷ 1 ∷ 5 ∷ []) (number (pos 5))
  pub primitive_open : IsLenient (any (Some (contextual 0))) (128 ∷ 2 ∷ 5 ∷ 0 ∷ []) (numbers (5 ∷ 0 ∷ []))
  pub padded_integer : IsLenient (plain (integer every) 2) (2 ∷ 2 ∷ 0 ∷ 5 ∷ []) (number (pos 5))
  pub padded_negative : IsLenient (plain (integer every) 2) (2 ∷ 2 ∷ 255 ∷ 128 ∷ []) (number (negsuc 127))
  pub padded_arc : IsLenient (plain object_identifier 6) (6 ∷ 3 ∷ 42 ∷ 128 ∷ 1 ∷ []) (numbers (1 ∷ 2 ∷ 1 ∷ []))
  pub set_bits : IsLenient (plain bit_string 3) (3 ∷ 2 ∷ 5 ∷ 255 ∷ []) (bits (true ∷ true ∷ true ∷ []))
  pub trailing_zero : IsLenient (plain named_bits 3) (3 ∷ 2 ∷ 6 ∷ 128 ∷ []) (bits (true ∷ []))
  pub default_there : IsLenient seven (48 ∷ 3 ∷ 2 ∷ 1 ∷ 7 ∷ []) (items (number (pos 7) ∷ []))
  pub default_in_set : IsLenient seven_of_set (49 ∷ 3 ∷ 128 ∷ 1 ∷ 7 ∷ []) (items (number (pos 7) ∷ []))
  pub set_of_falls : IsLenient octets_in_set_of (49 ∷ 6 ∷ 4 ∷ 1 ∷ 2 ∷ 4 ∷ 1 ∷ 1 ∷ []) (set_elements (items (numbers (2 ∷ []) ∷ numbers (1 ∷ []) ∷ [])))
  pub set_out_of_order : IsLenient three_of_set falling_octets one_two_three
  pub fraction_ends_in_zero : IsLenient (plain generalized_time 24) (24 ∷ 18 ∷ long_leap_text) (instant leap)
  pub tenth_digit : IsLenient (plain generalized_time 24) (24 ∷ 26 ∷ ten_digits) (instant afternoon)
  pub lenient_open : IsReadAs Der (any None) (2 ∷ 129 ∷ 1 ∷ 5 ∷ []) (numbers (2 ∷ 129 ∷ 1 ∷ 5 ∷ [])) []
  pub lenient_inside : IsReadAs Der (any (Some (contextual 0))) (160 ∷ 4 ∷ 2 ∷ 129 ∷ 1 ∷ 5 ∷ []) (numbers (2 ∷ 129 ∷ 1 ∷ 5 ∷ [])) []

pub record Worked : Type 0 where
  pub any_value : IsReadAs Ber (any None) (nested ++ (2 ∷ 1 ∷ 2 ∷ [])) (numbers nested) (2 ∷ 1 ∷ 2 ∷ [])
  pub five_steps : (w : CompleteEncoding Ber nested) → steps_in w ≡ 5
  pub lenient_true : IsReadAs Ber (plain boolean 1) (1 ∷ 1 ∷ 5 ∷ []) (number (pos 1)) []
  pub strict_true : IsRefusedBy Cer (plain boolean 1) (1 ∷ 1 ∷ 5 ∷ [])
  pub padded_integer : (rule : Codec) → (IsStrict rule → ⊥) → IsReadAs rule (plain (integer (between (negsuc 2147483647) (pos 2147483647))) 2)
      (2 ∷ 6 ∷ 255 ∷ 255 ∷ 255 ∷ 255 ∷ 127 ∷ 0 ∷ []) (number (negsuc 33023)) []
  pub octets_in_segments : IsReadAs Ber (plain octet_string 4)
      (36 ∷ 128 ∷ 4 ∷ 1 ∷ 161 ∷ 36 ∷ 3 ∷ 4 ∷ 1 ∷ 178 ∷ 36 ∷ 128 ∷ 4 ∷ 1 ∷ 195 ∷ 0 ∷ 0 ∷ 0 ∷ 0 ∷ []) (numbers (161 ∷ 178 ∷ 195 ∷ [])) []
  pub bits_in_segments : IsReadAs Ber (plain bit_string 3)
      (35 ∷ 128 ∷ 3 ∷ 3 ∷ 0 ∷ 10 ∷ 59 ∷ 3 ∷ 5 ∷ 4 ∷ 95 ∷ 41 ∷ 28 ∷ 208 ∷ 0 ∷ 0 ∷ [])
      (bits (joined_lists (map bits_of (10 ∷ 59 ∷ 95 ∷ 41 ∷ 28 ∷ [])) ++ (true ∷ true ∷ false ∷ true ∷ []))) []
  pub default_left_out : (rule : Codec) → IsReadAs rule seven (48 ∷ 0 ∷ []) (items (number (pos 7) ∷ [])) []
  pub default_spelled : (rule : Codec) → (IsStrict rule → ⊥) → IsReadAs rule seven (48 ∷ 3 ∷ 2 ∷ 1 ∷ 7 ∷ []) (items (number (pos 7) ∷ [])) []
  pub default_not_written : Bytes Der seven (items (number (pos 7) ∷ [])) (48 ∷ 0 ∷ [])
  pub set_of_out_of_order : (rule : Codec) → (IsStrict rule → ⊥) → IsReadAs rule octets_in_set_of (49 ∷ 6 ∷ 4 ∷ 1 ∷ 2 ∷ 4 ∷ 1 ∷ 1 ∷ []) (set_elements (items (numbers (2 ∷ []) ∷ numbers (1 ∷ []) ∷ []))) []
  pub set_of_not_written : (rule : Codec) (b : List ℕ) → Bytes rule octets_in_set_of (set_elements (items (numbers (2 ∷ []) ∷ numbers (1 ∷ []) ∷ []))) b → ⊥
  pub sets_of_in_any_order : Same (set_elements (octets_each 2 1)) (set_elements (octets_each 1 2))
  pub lists_in_order : Same (octets_each 2 1) (octets_each 1 2) → ⊥
  pub bits_in_one : (bs : List Bool) (b : List ℕ) → length bs ≡ 7992 → Bytes Cer (plain bit_string 3) (bits bs) b → IsLongPiece b
  pub bits_in_two : (bs : List Bool) (b : List ℕ) → length bs ≡ 8000 → Bytes Cer (plain bit_string 3) (bits bs) b → AreTwoPieces b
  pub octets_in_one : (front b : List ℕ) → length front ≡ 1000 → Bytes Cer (plain octet_string 4) (numbers front) b → b ≡ 4 ∷ 130 ∷ 3 ∷ 232 ∷ front
  pub octets_in_two : (front : List ℕ) (last : ℕ) (b : List ℕ) → length front ≡ 1000 → Bytes Cer (plain octet_string 4) (numbers (front ++ (last ∷ []))) b
      → b ≡ 36 ∷ 128 ∷ 4 ∷ 130 ∷ 3 ∷ 232 ∷ (front ++ (4 ∷ 1 ∷ last ∷ 0 ∷ 0 ∷ []))
  pub absent_before_end : IsReadAs Ber perhaps_bool (0 ∷ 0 ∷ []) absent (0 ∷ 0 ∷ [])
  pub no_end_under_der : IsRefusedBy Der perhaps_bool (0 ∷ 0 ∷ [])
  pub absent_before_another : (rule : Codec) → IsReadAs rule perhaps_bool (2 ∷ 1 ∷ 5 ∷ []) absent (2 ∷ 1 ∷ 5 ∷ [])
  pub great_tag : (spelling : Form) → NextTag spelling (31 ∷ 143 ∷ 255 ∷ 255 ∷ 255 ∷ 127 ∷ []) (in_universal 4294967295)
  pub great_arc : (rule : Codec) → IsReadAs rule (plain object_identifier 6) (6 ∷ 5 ∷ 143 ∷ 255 ∷ 255 ∷ 255 ∷ 127 ∷ []) (numbers (2 ∷ 4294967215 ∷ [])) []
  pub leap_second : (rule : Codec) → IsReadAs rule (plain generalized_time 24) (24 ∷ 17 ∷ leap_text) (instant leap) []
  pub zeros_in_definite_string : IsRefusedBy Ber (plain octet_string 4) (36 ∷ 5 ∷ 4 ∷ 1 ∷ 161 ∷ 0 ∷ 0 ∷ [])
  pub choice_absent : (rule : Codec) → IsReadAs rule choice_before (48 ∷ 3 ∷ 2 ∷ 1 ∷ 7 ∷ []) (items (absent ∷ number (pos 7) ∷ [])) []
  pub choice_present : (rule : Codec) → IsReadAs rule choice_before (48 ∷ 6 ∷ 1 ∷ 1 ∷ 255 ∷ 2 ∷ 1 ∷ 7 ∷ []) (items (chosen 0 (number (pos 1)) ∷ number (pos 7) ∷ [])) []
  pub choice_not_left_out : (rule : Codec) → IsReadAs rule choice_before (48 ∷ 6 ∷ 1 ∷ 1 ∷ 255 ∷ 2 ∷ 1 ∷ 7 ∷ []) (items (absent ∷ number (pos 7) ∷ [])) [] → ⊥
  pub smith_in_segments : IsReadAs Ber named (48 ∷ 128 ∷ 54 ∷ 128 ∷ 4 ∷ 2 ∷ 83 ∷ 109 ∷ 4 ∷ 3 ∷ 105 ∷ 116 ∷ 104 ∷ 0 ∷ 0 ∷ 1 ∷ 1 ∷ 1 ∷ 0 ∷ 0 ∷ []) smith []
  pub smith_in_one : (rule : Codec) → IsReadAs rule named (48 ∷ 10 ∷ 22 ∷ 5 ∷ 83 ∷ 109 ∷ 105 ∷ 116 ∷ 104 ∷ 1 ∷ 1 ∷ 255 ∷ []) smith []
  pub smith_in_ber : IsCarriedAs Ber named smith (48 ∷ 10 ∷ 22 ∷ 5 ∷ 83 ∷ 109 ∷ 105 ∷ 116 ∷ 104 ∷ 1 ∷ 1 ∷ 255 ∷ [])
  pub smith_in_der : IsCarriedAs Der named smith (48 ∷ 10 ∷ 22 ∷ 5 ∷ 83 ∷ 109 ∷ 105 ∷ 116 ∷ 104 ∷ 1 ∷ 1 ∷ 255 ∷ [])
  pub smith_in_cer : IsCarriedAs Cer named smith (48 ∷ 128 ∷ 22 ∷ 5 ∷ 83 ∷ 109 ∷ 105 ∷ 116 ∷ 104 ∷ 1 ∷ 1 ∷ 255 ∷ 0 ∷ 0 ∷ [])
