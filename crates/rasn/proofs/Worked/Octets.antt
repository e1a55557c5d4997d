-- The octets that were worked out by hand.
use Rattle.std.proofs.Common.{◌≡◌, ℕ, ◌≢◌, inl, inr, List, [], ◌∷◌, ◌++◌, true, false, ℤ, pos, negsuc, rules, Some, None, refl, ap, ◌∙◌, arith}
use Rattle.rasn_types.specs.Tags.{Form, form, basic_form, der_form, IsStrict, in_universal}
use Rattle.rasn_types.specs.declared.types.codec.Codec.{Codec}
use Rattle.rasn_types.specs.declared.types.codec.Codec.TheVariants.{Ber, Cer, Der}
use Rattle.rasn_types.specs.declared.types.tag.Tag.{Tag}
use Rattle.rasn_types.specs.Framing.{definite, CompleteEncoding, plain as definite_whole, closed, none as no_wholes, one_more, steps_in, NextTag, Spells128}
use Rattle.rasn_types.specs.Shapes.{number, numbers, instant, absent, any, between, boolean, integer, object_identifier, generalized_time}
use Rattle.rasn_types.specs.Contents.{IsBool}
use Rattle.rasn_types.specs.Grammar.{Reads, parts_of}
use Rattle.rasn_types.proofs.Headers.Frames.{frame_one, frame_next}
use Rattle.rasn_types.proofs.Encoding.Complete.{whole_one}
use Rattle.rasn_types.specs.declared.ber.time.text.Clock.TheVariants.{Seconds}
use Rattle.rasn_types.specs.declared.ber.time.text.Zone.TheVariants.{Utc}
use Rattle.rasn_types.specs.TimeSpelling.{parts, Spelling}
use Rattle.rasn_types.specs.Time.{StrictGeneralized, at_utc}
use Rattle.rasn.specs.Worked.{Worked, IsReadAs, IsRefusedBy, plain, nested, perhaps_bool, leap, leap_text}
use Rattle.rasn.proofs.Time.Texts.{generalized_of}
use Rattle.rasn.proofs.ReadBack.Headers.{no_eoc, short, without, no_next, plain_read, octets_read}
use Rattle.rasn.proofs.Worked.Strings.{octets_in_segments, bits_in_segments, zeros_in_definite_string}
use Rattle.rasn.proofs.Worked.Cuts.{sets_of_in_any_order, lists_in_order, bits_in_one, bits_in_two, octets_in_one, octets_in_two}
use Rattle.rasn.proofs.Worked.Choices.{choice_absent, choice_present, choice_not_left_out}
use Rattle.rasn.proofs.Worked.Parts.{default_left_out, default_spelled, default_not_written, set_of_out_of_order, set_of_not_written, smith_in_segments, smith_in_one, smith_in_ber, smith_in_der, smith_in_cer}

nested_whole : CompleteEncoding Ber nested
nested_whole = closed (in_universal 16) true _ (48 ∷ 128 ∷ 2 ∷ 1 ∷ 1 ∷ 0 ∷ 0 ∷ 4 ∷ 1 ∷ 0 ∷ []) (without 16 _ tt (omega arith) (omega arith))
    (one_more (48 ∷ 128 ∷ 2 ∷ 1 ∷ 1 ∷ 0 ∷ 0 ∷ []) (4 ∷ 1 ∷ 0 ∷ [])
    (closed (in_universal 16) true _ (2 ∷ 1 ∷ 1 ∷ []) (without 16 _ tt (omega arith) (omega arith))
    (one_more (2 ∷ 1 ∷ 1 ∷ []) [] (definite_whole (in_universal 2) false (1 ∷ []) (short 2 false (1 ∷ []) [] (omega arith) (omega arith) (omega arith))) no_wholes refl) refl)
    (one_more (4 ∷ 1 ∷ 0 ∷ []) [] (definite_whole (in_universal 4) false (0 ∷ []) (short 4 false (0 ∷ []) [] (omega arith) (omega arith) (omega arith))) no_wholes refl) refl) refl

any_value : IsReadAs Ber (any None) (nested ++ (2 ∷ 1 ∷ 2 ∷ [])) (numbers nested) (2 ∷ 1 ∷ 2 ∷ [])
unfolding Reads parts_of
any_value = (nested, refl, nested_whole, refl)

five_steps : (w : CompleteEncoding Ber nested) → steps_in w ≡ 5
unfolding nested_whole
five_steps w = (whole_one [] [] w nested_whole refl).1

lenient_true : IsReadAs Ber (plain boolean 1) (1 ∷ 1 ∷ 5 ∷ []) (number (pos 1)) []
unfolding Reads parts_of
lenient_true = ((false, 5 ∷ [], short 1 false (5 ∷ []) [] (omega arith) (omega arith) (omega arith), (pos 1, refl, (5, refl, inr ((λ e. omega arith), refl))), λ s. absurd s), tt)

strict_true : IsRefusedBy Cer (plain boolean 1) (1 ∷ 1 ∷ 5 ∷ [])
unfolding Reads parts_of
strict_true t rest ((bit, contents, frame, (z, e, h), s), w) =
    let o = frame_one _ (short {spelling = basic_form} 1 false (5 ∷ []) [] (omega arith) (omega arith) (omega arith)) frame in
    let f : definite (5 ∷ []) ≡ definite contents = o.extent in
    let g : 5 ∷ [] ≡ contents = cc in
    neither contents z g h
  where
    neither : (l : List ℕ) (z : ℤ) → 5 ∷ [] ≡ l → IsBool Cer l z → ⊥
    neither l z e (inl h) = let k : ◌≡◌ {A = List ℕ} (5 ∷ []) (0 ∷ []) = e ∙ h.0 in cc
    neither l z e (inr h) = let k : ◌≡◌ {A = List ℕ} (5 ∷ []) (255 ∷ []) = e ∙ h.0 in cc

padded_integer : (rule : Codec) → (IsStrict rule → ⊥) → IsReadAs rule (plain (integer (between (negsuc 2147483647) (pos 2147483647))) 2)
    (2 ∷ 6 ∷ 255 ∷ 255 ∷ 255 ∷ 255 ∷ 127 ∷ 0 ∷ []) (number (negsuc 33023)) []
unfolding Reads parts_of
padded_integer rule lax = (
  plain_read rule (integer (between (negsuc 2147483647) (pos 2147483647))) 2 (255 ∷ 255 ∷ 255 ∷ 255 ∷ 127 ∷ 0 ∷ []) [] (number (negsuc 33023)) 128 (omega arith) (omega arith) (omega arith)
      (refl, (λ e. cc), (search rules, search rules)) (λ z. absurd (lax z)),
  tt,
)

absent_before_end : IsReadAs Ber perhaps_bool (0 ∷ 0 ∷ []) absent (0 ∷ 0 ∷ [])
unfolding Reads parts_of
absent_before_end = inl (inl (inr (refl, [], refl)), refl, refl)

no_end_under_der : IsRefusedBy Der perhaps_bool (0 ∷ 0 ∷ [])
unfolding Reads parts_of
no_end_under_der t rest (inl (inl (inl e), f, g)) = cc
no_end_under_der t rest (inl (inl (inr e), f, g)) = let d = e.0 in cc
no_end_under_der t rest (inl (inr (next, h, n), f, g)) = no_next der_form next h
no_end_under_der t rest (inr ((e, h), r)) = no_next der_form (in_universal 1) h

absent_before_another : (rule : Codec) → IsReadAs rule perhaps_bool (2 ∷ 1 ∷ 5 ∷ []) absent (2 ∷ 1 ∷ 5 ∷ [])
unfolding Reads parts_of
absent_before_another rule =
    inl (inr (in_universal 2, frame_next (short {spelling = form rule} 2 false (5 ∷ []) [] (omega arith) (omega arith) (omega arith)), other), refl, refl)
  where
    other : in_universal 2 ≢ in_universal 1
    other e = let f : ◌≡◌ {A = ℕ} 2 1 = ap (λ (t : Tag). t.value) e in omega arith

great : Spells128 (143 ∷ 255 ∷ 255 ∷ 255 ∷ 127 ∷ []) 4294967295
great = record { chain = inr (omega arith, inr (omega arith, inr (omega arith, inr (omega arith, inl (omega arith, refl))))); is = refl; below = omega arith }

great_tag : (spelling : Form) → NextTag spelling (31 ∷ 143 ∷ 255 ∷ 255 ∷ 255 ∷ 127 ∷ []) (in_universal 4294967295)
great_tag spelling = record {
  begins = record { id = 31 ∷ 143 ∷ 255 ∷ 255 ∷ 255 ∷ 127 ∷ []; bit = false; more = []; spells = record { low = 31; leading = refl; number = inr (refl, great) }; is = refl };
  is_one = no_eoc 4294967295 (omega arith);
  shortest = λ z. (omega arith, (λ e. omega arith));
}

great_arc : (rule : Codec) → IsReadAs rule (plain object_identifier 6) (6 ∷ 5 ∷ 143 ∷ 255 ∷ 255 ∷ 255 ∷ 127 ∷ []) (numbers (2 ∷ 4294967215 ∷ [])) []
unfolding Reads parts_of
great_arc rule = (
  plain_read rule object_identifier 6 (143 ∷ 255 ∷ 255 ∷ 255 ∷ 127 ∷ []) [] (numbers (2 ∷ 4294967215 ∷ [])) 128 (omega arith) (omega arith) (omega arith)
      (2 ∷ 4294967215 ∷ [], refl, (4294967295, [], (143 ∷ 255 ∷ 255 ∷ 255 ∷ 127 ∷ [], [], great, refl, refl), refl))
      (λ z. (refl, (4294967295 ∷ [], (143 ∷ 255 ∷ 255 ∷ 255 ∷ 127 ∷ [], [], great, (λ e. omega arith), refl, refl)))),
  tt,
)

leap_spelling : Spelling
leap_spelling = record { month = 12; day = 31; hour = 23; clock = Seconds 59 60; fraction = Some (46, 5 ∷ []); zone = Utc }

pub leap_strict : StrictGeneralized leap_text (at_utc leap)
unfolding parts leap_spelling
leap_strict = record {
  is = record {
    year = 2016;
    rest = leap_spelling;
    below = omega arith;
    spelled = record { month = omega arith; day = omega arith; hour = omega arith; clock = (omega arith, omega arith); fraction = (inl refl, (λ e. cc), (omega arith, tt)); zone = tt };
    allowed = refl;
    is = refl;
    exists = record {
      day = record { year_from = search rules; year_to = search rules; month_from = omega arith; month_to = omega arith; day_from = omega arith; day_to = omega arith };
      hour = omega arith;
      minute = omega arith;
      second = omega arith;
      nanosecond = omega arith;
      leap = λ h. refl;
    };
    meant = refl;
  };
  short = (omega arith, (λ e. omega arith));
}

leap_second : (rule : Codec) → IsReadAs rule (plain generalized_time 24) (24 ∷ 17 ∷ leap_text) (instant leap) []
unfolding Reads parts_of
leap_second rule = ((leap_text, octets_read rule 24 leap_text [] 128 (omega arith) (omega arith) (omega arith), (at_utc leap, refl, generalized_of rule leap_text (at_utc leap) leap_strict)), tt)

pub worked : Worked
worked = record {
  any_value = any_value;
  five_steps = five_steps;
  lenient_true = lenient_true;
  strict_true = strict_true;
  padded_integer = padded_integer;
  octets_in_segments = octets_in_segments;
  bits_in_segments = bits_in_segments;
  default_left_out = default_left_out;
  default_spelled = default_spelled;
  default_not_written = default_not_written;
  set_of_out_of_order = set_of_out_of_order;
  set_of_not_written = set_of_not_written;
  sets_of_in_any_order = sets_of_in_any_order;
  lists_in_order = lists_in_order;
  bits_in_one = bits_in_one;
  bits_in_two = bits_in_two;
  octets_in_one = octets_in_one;
  octets_in_two = octets_in_two;
  absent_before_end = absent_before_end;
  no_end_under_der = no_end_under_der;
  absent_before_another = absent_before_another;
  great_tag = great_tag;
  great_arc = great_arc;
  leap_second = leap_second;
  zeros_in_definite_string = zeros_in_definite_string;
  choice_absent = choice_absent;
  choice_present = choice_present;
  choice_not_left_out = choice_not_left_out;
  smith_in_segments = smith_in_segments;
  smith_in_one = smith_in_one;
  smith_in_ber = smith_in_ber;
  smith_in_der = smith_in_der;
  smith_in_cer = smith_in_cer;
}
