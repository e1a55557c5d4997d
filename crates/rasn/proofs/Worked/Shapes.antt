-- Shapes that are lawful, and shapes that aren't; shapes of which all that DER reads is carried, and shapes of which it isn't.
use Rattle.std.proofs.Common.{◌≡◌, List, [], ◌∷◌, true, false, pos, inl, inr, refl, sym, arith}
use Rattle.rasn_types.specs.Shapes.{Tree, number, items, set_elements, absent, Same, integer, every, boolean, octet_string}
use Rattle.rasn_types.specs.Lawful.{IsLawful}
use Rattle.rasn_types.proofs.Lawful.{lawful, unlawful}
use Rattle.rasn_types.specs.declared.types.codec.Codec.TheVariants.{Der}
use Rattle.rasn_types.specs.Readings.{definite_form}
use Rattle.rasn_types.specs.Grammar.{Reads, parts_of}
use Rattle.rasn_types.specs.Carried.{IsWithinLimits, Carried}
use Rattle.rasn_types.proofs.SetOf.Same.{items_one}
use Rattle.rasn.specs.WorkedShapes.{plain, three_of_set, octets_in_set_of, seven, added_alone, LawfulShapes, CarriedShapes}
use Rattle.rasn.proofs.ReadBack.Headers.{short}

pub integer_lawful : IsLawful (plain (integer every) 2)
integer_lawful = lawful _ refl

pub bool_lawful : IsLawful (plain boolean 1)
bool_lawful = lawful _ refl

pub octets_lawful : IsLawful (plain octet_string 4)
octets_lawful = lawful _ refl

pub seven_lawful : IsLawful seven
seven_lawful = lawful _ refl

pub set_of_lawful : IsLawful octets_in_set_of
set_of_lawful = lawful _ refl

pub three_lawful : IsLawful three_of_set
three_lawful = lawful _ refl

pub shapes : LawfulShapes
shapes = record {
  certificate = lawful _ refl;
  optional_alone = lawful _ refl;
  any_value = lawful _ refl;
  seven = lawful _ refl;
  seven_of_set = lawful _ refl;
  extended = lawful _ refl;
  added_alone = lawful _ refl;
  mixed = lawful _ refl;
  left_out_before = lawful _ refl;
  choice_in_set = lawful _ refl;
  with_group = lawful _ refl;
  choice_before = lawful _ refl;
  default_choice_between = lawful _ refl;
  choice_unrecognized = unlawful _ refl;
  choice_before_its_second = unlawful _ refl;
  choice_before_an_optional = unlawful _ refl;
  two_choices = unlawful _ refl;
  choice_before_open = unlawful _ refl;
  open_recognized = unlawful _ refl;
  two_optional_integers = unlawful _ refl;
  optional_open = unlawful _ refl;
  optional_within = unlawful _ refl;
  optional_in_prefix = unlawful _ refl;
  other_looked_for = unlawful _ refl;
  one_of_two_integers = unlawful _ refl;
  open_alternative = unlawful _ refl;
  turned_round = unlawful _ refl;
  overlapping = unlawful _ refl;
  open_in_set = unlawful _ refl;
  addition_in_set = unlawful _ refl;
  string_as_sequence = unlawful _ refl;
  value_of_no_tag = unlawful _ refl;
  unknown_alternative = lawful _ refl;
  two_alike_and_unknown = unlawful _ refl;
  unknown_alternative_in_choice = unlawful _ refl;
  unknown_alternative_in_set = unlawful _ refl;
  optional_before_unknown_alternative = unlawful _ refl;
  put_in_order = lawful _ refl;
  interleaved = lawful _ refl;
  extensible_set = lawful _ refl;
  two_alike_in_sorted = unlawful _ refl;
  choice_and_its_tag = unlawful _ refl;
  open_in_sorted = unlawful _ refl;
  unknown_in_sorted = unlawful _ refl;
  unknown_alternative_in_sorted = unlawful _ refl;
  addition_in_sorted = unlawful _ refl;
  sorted_of_no_tag = unlawful _ refl;
  unknown_at_the_end = lawful _ refl;
  unknown_before_a_part = unlawful _ refl;
  unknown_left_out = unlawful _ refl;
  open_before_unknown = unlawful _ refl;
  unknown_in_set = unlawful _ refl;
  unknown_elements = unlawful _ refl;
  unknown_alone = unlawful _ refl;
}

-- Set elements that are no list aren't the same as themselves.
no_set_elements : Same (set_elements (number (pos 0))) (set_elements (number (pos 0))) → ⊥
no_set_elements (vs, ws, e, p, h) = no_list vs h
  where
    no_list : (vs : List Tree) → items vs ≡ number (pos 0) → ⊥
    no_list [] h = cc
    no_list (v ∷ vs) h = cc

-- Empty contents leave an addition out if no part is required.
nothing_read : Reads Der added_alone 128 false (48 ∷ 0 ∷ []) (items (absent ∷ [])) []
unfolding Reads parts_of
nothing_read = (
  omega arith,
  definite_form [] (short 16 true [] [] (omega arith) (omega arith) (omega arith))
      (absent ∷ [], refl, inl ((λ h. elim h [ inl e ↦ cc | inr e ↦ e ], refl, refl), (absent, [], refl, refl, refl), refl)),
)

nothing_carried : Carried Der added_alone (items (absent ∷ [])) → ⊥
unfolding IsWithinLimits
nothing_carried c = none c.within_limits
  where
    none : IsWithinLimits Der added_alone 128 (items (absent ∷ [])) → ⊥
    none (deep, ts, e, (t, us, f, m, ms), taken) =
        let g : ts ≡ absent ∷ [] = items_one ts (absent ∷ []) (sym e) in
        m.0 (cc)

pub carried : CarriedShapes
carried = record {
  whole_certificate = refl;
  default_alone = refl;
  addition_behind_a_part = refl;
  unknown_values = refl;
  unknown_alternative = refl;
  unknown_components = refl;
  tagged_open = refl;
  addition_alone = refl;
  default_of_no_value = refl;
  own_default = (refl, tt, tt);
  no_own_default = λ h. no_set_elements h.0;
  addition_left_out = nothing_read;
  left_out_not_carried = nothing_carried;
}
