-- Values with their octets, worked out by hand: values that are carried, and values that aren't written or aren't
-- carried.
use Rattle.std.specs.Prelude.{◌≡◌, ℕ, ◌<◌, List, [], ◌∷◌, ◌++◌, length, map, true, false, pos, negsuc, Some, None}
use Rattle.rasn_types.specs.Tags.{in_universal}
use Rattle.rasn_types.specs.declared.types.codec.Codec.{Codec}
use Rattle.rasn_types.specs.declared.types.codec.Codec.TheVariants.{Ber, Cer, Der}
use Rattle.rasn_types.specs.Framing.{AreOctets}
use Rattle.rasn_types.specs.Calendar.{Day}
use Rattle.rasn_types.specs.Shapes.{Tree, number, bits, numbers, instant, on_day, items, set_elements, chosen, absent, integer, every, null, object_identifier, bit_string, named_bits, octet_string, date, any, prefix, choice, sorted_set, list}
use Rattle.rasn_types.specs.Trees.{signed_range}
use Rattle.rasn_types.specs.Bytes.{Bytes}
use Rattle.rasn_types.specs.Carried.{Carried}
use Rattle.rasn.specs.Worked.{IsCarriedAs, IsLenient, IsRefusedBy, IsReadAs, one_two_three, three_two_one, rising_octets, falling_octets}
use Rattle.rasn.specs.WorkedShapes.{plain, contextual, perhaps_bool, validity, three_of_set, turned_round, put_in_order, two_of_set, extensible_set, interleaved, octets_in_set_of, algorithm, relative_name, extended, extensible, known_alternatives, extensible_choice, mixed}

abbrev pub on : ℕ → ℕ → ℕ → Day
on y m d = record { year = pos y; month = m; day = d }

-- A Validity from 2018-01-22 13:29:00, a UTCTime, to 2050-01-01 00:00:00, a GeneralizedTime.
abbrev pub valid : Tree
valid = items (
    chosen 0 (instant (record { day = on 2018 1 22; hour = 13; minute = 29; second = 0; nanosecond = 0 }))
    ∷ chosen 1 (instant (record { day = on 2050 1 1; hour = 0; minute = 0; second = 0; nanosecond = 0 })) ∷ []
    )

-- The octets of `valid`: `30 20`, `17 0D` with 180122132900Z, `18 0F` with 20500101000000Z.
abbrev pub valid_octets : List ℕ
valid_octets = 48 ∷ 32 ∷ 23 ∷ 13 ∷ 49 ∷ 56 ∷ 48 ∷ 49 ∷ 50 ∷ 50 ∷ 49 ∷ 51 ∷ 50 ∷ 57 ∷ 48 ∷ 48 ∷ 90
    ∷ 24 ∷ 15 ∷ 50 ∷ 48 ∷ 53 ∷ 48 ∷ 48 ∷ 49 ∷ 48 ∷ 49 ∷ 48 ∷ 48 ∷ 48 ∷ 48 ∷ 48 ∷ 48 ∷ 90 ∷ []

pub record WorkedValues : Type 0 where
  pub far_below : IsCarriedAs Der (plain (integer (signed_range 32)) 2) (number (negsuc 33023)) (2 ∷ 3 ∷ 255 ∷ 127 ∷ 0 ∷ [])
  pub nothing : IsCarriedAs Der (plain null 5) (number (pos 0)) (5 ∷ 0 ∷ [])
  pub three_arcs : IsCarriedAs Der (plain object_identifier 6) (numbers (2 ∷ 999 ∷ 1 ∷ [])) (6 ∷ 3 ∷ 136 ∷ 55 ∷ 1 ∷ [])
  pub eleven_bits : IsCarriedAs Der (plain bit_string 3) (bits (true ∷ true ∷ false ∷ true ∷ false ∷ true ∷ false ∷ true ∷ true ∷ false ∷ true ∷ []))
      (3 ∷ 3 ∷ 5 ∷ 213 ∷ 160 ∷ [])
  pub first_name : IsCarriedAs Der (plain named_bits 3) (bits (true ∷ [])) (3 ∷ 2 ∷ 7 ∷ 128 ∷ [])
  pub last_day : IsCarriedAs Der (plain date 31) (on_day (on 2012 12 21)) (31 ∷ 31 ∷ 8 ∷ 50 ∷ 48 ∷ 49 ∷ 50 ∷ 49 ∷ 50 ∷ 50 ∷ 49 ∷ [])
  pub no_bool : IsCarriedAs Der perhaps_bool absent []
  pub chosen_times : IsCarriedAs Der validity valid valid_octets
  pub five_in_prefix : IsCarriedAs Der (prefix (contextual 0) (plain (integer every) 2)) (number (pos 5)) (160 ∷ 3 ∷ 2 ∷ 1 ∷ 5 ∷ [])
  pub list_of_nine : IsCarriedAs Der (list (in_universal 16) (plain (integer every) 2) None) (items (number (pos 9) ∷ [])) (48 ∷ 3 ∷ 2 ∷ 1 ∷ 9 ∷ [])

pub record WorkedSets : Type 0 where
  pub set_rises : IsCarriedAs Der three_of_set one_two_three rising_octets
  pub set_never_out_of_order : (rule : Codec) (b : List ℕ) → Bytes rule turned_round three_two_one b → ⊥
  pub set_of_rises : IsCarriedAs Der octets_in_set_of (set_elements (items (numbers (1 ∷ []) ∷ numbers (2 ∷ []) ∷ numbers (1 ∷ 255 ∷ []) ∷ numbers (2 ∷ 1 ∷ []) ∷ [])))
      (49 ∷ 14 ∷ 4 ∷ 1 ∷ 1 ∷ 4 ∷ 1 ∷ 2 ∷ 4 ∷ 2 ∷ 1 ∷ 255 ∷ 4 ∷ 2 ∷ 2 ∷ 1 ∷ [])
  pub all_in_set : IsCarriedAs Der mixed (items (items (number (pos 1) ∷ number (pos 2) ∷ []) ∷ number (pos 7) ∷ numbers (5 ∷ 0 ∷ []) ∷ items (number (pos 9) ∷ []) ∷ []))
      (49 ∷ 22 ∷ 49 ∷ 6 ∷ 128 ∷ 1 ∷ 1 ∷ 129 ∷ 1 ∷ 2 ∷ 64 ∷ 1 ∷ 7 ∷ 162 ∷ 2 ∷ 5 ∷ 0 ∷ 163 ∷ 5 ∷ 48 ∷ 3 ∷ 2 ∷ 1 ∷ 9 ∷ [])
  pub one_name : IsCarriedAs Der relative_name (set_elements (items (items (numbers (2 ∷ 5 ∷ 4 ∷ 3 ∷ []) ∷ numbers (12 ∷ 2 ∷ 65 ∷ 66 ∷ []) ∷ []) ∷ [])))
      (49 ∷ 11 ∷ 48 ∷ 9 ∷ 6 ∷ 3 ∷ 85 ∷ 4 ∷ 3 ∷ 12 ∷ 2 ∷ 65 ∷ 66 ∷ [])

pub record WorkedOpens : Type 0 where
  pub identified : IsCarriedAs Der algorithm (items (numbers (1 ∷ 2 ∷ 840 ∷ 113549 ∷ 1 ∷ 1 ∷ 1 ∷ []) ∷ numbers (5 ∷ 0 ∷ []) ∷ []))
      (48 ∷ 13 ∷ 6 ∷ 9 ∷ 42 ∷ 134 ∷ 72 ∷ 134 ∷ 247 ∷ 13 ∷ 1 ∷ 1 ∷ 1 ∷ 5 ∷ 0 ∷ [])
  pub open_to_the_end : IsReadAs Ber (any (Some (contextual 1))) (161 ∷ 128 ∷ 4 ∷ 2 ∷ 171 ∷ 205 ∷ 0 ∷ 0 ∷ []) (numbers (4 ∷ 2 ∷ 171 ∷ 205 ∷ [])) []
  pub open_closed : IsCarriedAs Cer (any (Some (contextual 1))) (numbers (4 ∷ 2 ∷ 171 ∷ 205 ∷ [])) (161 ∷ 128 ∷ 4 ∷ 2 ∷ 171 ∷ 205 ∷ 0 ∷ 0 ∷ [])
  pub open_empty : (rule : Codec) → IsReadAs rule (any (Some (contextual 1))) (161 ∷ 0 ∷ []) (numbers []) []
  pub empty_not_written : (rule : Codec) → Bytes rule (any (Some (contextual 1))) (numbers []) []
  pub empty_not_carried : (rule : Codec) → Carried rule (any (Some (contextual 1))) (numbers []) → ⊥
  pub addition_there : IsCarriedAs Der extended (items (number (pos 1) ∷ number (pos 5) ∷ [])) (48 ∷ 8 ∷ 1 ∷ 1 ∷ 255 ∷ 160 ∷ 3 ∷ 2 ∷ 1 ∷ 5 ∷ [])
  pub addition_left_out : Bytes Der extended (items (number (pos 1) ∷ absent ∷ [])) (48 ∷ 3 ∷ 1 ∷ 1 ∷ 255 ∷ [])
  pub addition_awaited : (rule : Codec) → IsRefusedBy rule extended (48 ∷ 3 ∷ 1 ∷ 1 ∷ 255 ∷ [])
  pub absent_not_carried : (rule : Codec) → Carried rule extended (items (number (pos 1) ∷ absent ∷ [])) → ⊥
  pub two_segments : (front : List ℕ) (last : ℕ) → length front ≡ 1000 → AreOctets front → last < 256
      → IsCarriedAs Cer (plain octet_string 4) (numbers (front ++ (last ∷ []))) (36 ∷ 128 ∷ 4 ∷ 130 ∷ 3 ∷ 232 ∷ (front ++ (4 ∷ 1 ∷ last ∷ 0 ∷ 0 ∷ [])))

-- The tree of a value of `extensible` with BOOLEAN TRUE, without the INTEGER, and with unknown values of these octets.
abbrev pub with_unknown : List (List ℕ) → Tree
with_unknown values = items (number (pos 1) ∷ absent ∷ items (map numbers values) ∷ [])

-- Unknown values are read up to the end, and written as they were read. A value whose tag is that of the INTEGER isn't
-- unknown: it is written, but isn't read back as an unknown value.
pub record WorkedUnknown : Type 0 where
  pub nothing_unknown : IsReadAs Der extensible (48 ∷ 3 ∷ 1 ∷ 1 ∷ 255 ∷ []) (with_unknown []) []
  pub one_unknown : IsReadAs Der extensible (48 ∷ 6 ∷ 1 ∷ 1 ∷ 255 ∷ 129 ∷ 1 ∷ 7 ∷ []) (with_unknown ((129 ∷ 1 ∷ 7 ∷ []) ∷ [])) []
  pub two_unknown : IsReadAs Der extensible (48 ∷ 8 ∷ 1 ∷ 1 ∷ 255 ∷ 129 ∷ 1 ∷ 7 ∷ 5 ∷ 0 ∷ []) (with_unknown ((129 ∷ 1 ∷ 7 ∷ []) ∷ (5 ∷ 0 ∷ []) ∷ [])) []
  pub one_carried : IsCarriedAs Der extensible (with_unknown ((129 ∷ 1 ∷ 7 ∷ []) ∷ [])) (48 ∷ 6 ∷ 1 ∷ 1 ∷ 255 ∷ 129 ∷ 1 ∷ 7 ∷ [])
  pub known_written : Bytes Der extensible (with_unknown ((128 ∷ 1 ∷ 7 ∷ []) ∷ [])) (48 ∷ 6 ∷ 1 ∷ 1 ∷ 255 ∷ 128 ∷ 1 ∷ 7 ∷ [])
  pub known_not_carried : Carried Der extensible (with_unknown ((128 ∷ 1 ∷ 7 ∷ []) ∷ [])) → ⊥

-- The tree of an unknown value of `extensible_choice` with these octets.
abbrev pub as_unknown : List ℕ → Tree
as_unknown octets = chosen 2 (numbers octets)

-- A value with another tag than those of the alternatives is unknown, and one with such a tag isn't, whatever its
-- contents. Under DER the tag is spelled in the fewest octets, and the rest of an unknown value need not be. A value
-- with the tag of the BOOLEAN is written as unknown, but isn't read back as such.
pub record WorkedOpenChoice : Type 0 where
  pub known_read : IsReadAs Der extensible_choice (1 ∷ 1 ∷ 255 ∷ []) (chosen 0 (number (pos 1))) []
  pub known_refused : IsLenient extensible_choice (1 ∷ 1 ∷ 5 ∷ []) (chosen 0 (number (pos 1)))
  pub unknown_read : (rule : Codec) → IsReadAs rule extensible_choice (129 ∷ 1 ∷ 7 ∷ []) (as_unknown (129 ∷ 1 ∷ 7 ∷ [])) []
  pub no_marker : (rule : Codec) → IsRefusedBy rule (choice known_alternatives) (129 ∷ 1 ∷ 7 ∷ [])
  pub long_tag : IsLenient extensible_choice (159 ∷ 1 ∷ 1 ∷ 7 ∷ []) (as_unknown (159 ∷ 1 ∷ 1 ∷ 7 ∷ []))
  pub long_length : IsReadAs Der extensible_choice (129 ∷ 129 ∷ 1 ∷ 7 ∷ []) (as_unknown (129 ∷ 129 ∷ 1 ∷ 7 ∷ [])) []
  pub no_value : (rule : Codec) → IsRefusedBy rule extensible_choice []
  pub unknown_carried : IsCarriedAs Der extensible_choice (as_unknown (129 ∷ 1 ∷ 7 ∷ [])) (129 ∷ 1 ∷ 7 ∷ [])
  pub known_written : Bytes Der extensible_choice (as_unknown (1 ∷ 1 ∷ 255 ∷ [])) (1 ∷ 1 ∷ 255 ∷ [])
  pub known_not_carried : Carried Der extensible_choice (as_unknown (1 ∷ 1 ∷ 255 ∷ [])) → ⊥

-- The tree of a value of `interleaved`: the CHOICE's INTEGER 7, and 5.
abbrev pub seven_and_five : Tree
seven_and_five = items (chosen 1 (number (pos 7)) ∷ number (pos 5) ∷ [])

-- The tree of a value of `extensible_set`: 1, 3 and unknown values of these octets.
abbrev pub one_three_and : List (List ℕ) → Tree
one_three_and values = items (number (pos 1) ∷ number (pos 3) ∷ items (map numbers values) ∷ [])

-- A SET in the order of its tags. Where a CHOICE is depends on the alternative under DER, and on the least of its tags
-- under CER. An unknown value is read wherever it is, and written where its tag belongs; DER reads no order but this.
-- Unknown values that aren't listed in the order of their tags are put in order, and so aren't read back as listed.
pub record WorkedSortedSets : Type 0 where
  pub components_in_order : IsCarriedAs Der put_in_order three_two_one rising_octets
  pub never_out_of_order : Bytes Der put_in_order three_two_one falling_octets → ⊥
  pub choice_before : IsCarriedAs Der interleaved (items (chosen 0 (number (pos 1)) ∷ number (pos 5) ∷ [])) (49 ∷ 6 ∷ 1 ∷ 1 ∷ 255 ∷ 2 ∷ 1 ∷ 5 ∷ [])
  pub choice_after : IsCarriedAs Der interleaved seven_and_five (49 ∷ 6 ∷ 2 ∷ 1 ∷ 5 ∷ 128 ∷ 1 ∷ 7 ∷ [])
  pub choice_never_before : Bytes Der interleaved seven_and_five (49 ∷ 6 ∷ 128 ∷ 1 ∷ 7 ∷ 2 ∷ 1 ∷ 5 ∷ []) → ⊥
  pub choice_in_one_place : IsCarriedAs Cer interleaved seven_and_five (49 ∷ 128 ∷ 128 ∷ 1 ∷ 7 ∷ 2 ∷ 1 ∷ 5 ∷ 0 ∷ 0 ∷ [])
  pub choice_never_after : Bytes Cer interleaved seven_and_five (49 ∷ 128 ∷ 2 ∷ 1 ∷ 5 ∷ 128 ∷ 1 ∷ 7 ∷ 0 ∷ 0 ∷ []) → ⊥
  pub unknown_between : IsReadAs Der extensible_set (49 ∷ 9 ∷ 128 ∷ 1 ∷ 1 ∷ 129 ∷ 1 ∷ 7 ∷ 130 ∷ 1 ∷ 3 ∷ []) (one_three_and ((129 ∷ 1 ∷ 7 ∷ []) ∷ [])) []
  pub unknown_carried : IsCarriedAs Der extensible_set (one_three_and ((129 ∷ 1 ∷ 7 ∷ []) ∷ [])) (49 ∷ 9 ∷ 128 ∷ 1 ∷ 1 ∷ 129 ∷ 1 ∷ 7 ∷ 130 ∷ 1 ∷ 3 ∷ [])
  pub unknown_falls : IsLenient extensible_set (49 ∷ 9 ∷ 128 ∷ 1 ∷ 1 ∷ 130 ∷ 1 ∷ 3 ∷ 129 ∷ 1 ∷ 7 ∷ []) (one_three_and ((129 ∷ 1 ∷ 7 ∷ []) ∷ []))
  pub no_marker : (rule : Codec) → IsRefusedBy rule (sorted_set false (in_universal 17) two_of_set) (49 ∷ 9 ∷ 128 ∷ 1 ∷ 1 ∷ 129 ∷ 1 ∷ 7 ∷ 130 ∷ 1 ∷ 3 ∷ [])
  pub unknown_put_in_order : Bytes Der extensible_set (one_three_and ((131 ∷ 1 ∷ 9 ∷ []) ∷ (129 ∷ 1 ∷ 7 ∷ []) ∷ []))
      (49 ∷ 12 ∷ 128 ∷ 1 ∷ 1 ∷ 129 ∷ 1 ∷ 7 ∷ 130 ∷ 1 ∷ 3 ∷ 131 ∷ 1 ∷ 9 ∷ [])
  pub falling_not_carried : (rule : Codec) → Carried rule extensible_set (one_three_and ((131 ∷ 1 ∷ 9 ∷ []) ∷ (129 ∷ 1 ∷ 7 ∷ []) ∷ [])) → ⊥
