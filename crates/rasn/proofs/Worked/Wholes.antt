-- Octets that were worked out by hand are refused where values contain others.
use Rattle.std.proofs.Common.{◌≡◌, ◌≢◌, ℕ, inl, inr, List, [], ◌∷◌, length, true, false, pos, Ok, Err, refl, sym, subst, arith}
use Rattle.rasn_types.specs.Tags.{form, in_universal}
use Rattle.rasn_types.specs.declared.types.codec.Codec.TheVariants.{Der}
use Rattle.rasn_types.specs.declared.types.tag.Class.TheVariants.{Context}
use Rattle.rasn_types.specs.declared.error.decode.DecodeError.{DecodeError}
use Rattle.rasn_types.specs.Errors.{IsOutOfMemory}
use Rattle.rasn_types.specs.Framing.{AreOctets, NextTag}
use Rattle.rasn_types.specs.Order.{IsLess}
use Rattle.rasn_types.specs.declared.error.decode.DerDecodeErrorKind.TheVariants.{SetOfOutOfOrder, DefaultValuePresent}
use Rattle.rasn_types.specs.Shapes.{number}
use Rattle.rasn_de.specs.declared.ber.de.parser.ParseError.{ParseError}
use Rattle.rasn_de.specs.declared.ber.de.parser.ParseError.TheVariants as parse
use Rattle.rasn_de.specs.Headers.{number128_at, tag_number_at, identifier_by, number256_at, long_at, length_at, header_by}
use Rattle.rasn_de.specs.Causes.{fault, error_kind}
use Rattle.rasn_de.specs.State.{State, IsEnd, at}
use Rattle.rasn_de.specs.Leaves.{FromContents, definite_at, as_cause, bool_in, BoolAt, FailsAs}
use Rattle.rasn_de.specs.Enumerated.{NullAt}
use Rattle.rasn_de.specs.Constructed.{sequence_header, constructed_header_at, inside}
use Rattle.rasn_de.proofs.Headers.NextTag.{kind_memory}
use Rattle.rasn_de.proofs.Leaves.Boolean.{bool_ensured}
use Rattle.rasn_de.proofs.Leaves.Null.{null_ensured}
use Rattle.rasn_de.specs.Optional.{present}
use Rattle.rasn.specs.Headline.{front}
use Rattle.rasn.proofs.ReadBack.Headers.{short}
use Rattle.rasn_types.proofs.Headers.Frames.{frame_next}
use Rattle.rasn.specs.WorkedKinds.{IsRefusedWith}
use Rattle.rasn.proofs.Worked.RefusedSets.{held, within, goes_on, parts_read, component_missing, component_twice, components_fall, components_read, no_alternative, alternative_refused, alternative_read}
use Rattle.rasn.specs.WorkedWholes.{sequence_errors, prefix_errors, list_errors, set_of_errors, optional_errors, default_errors, WorkedWholes}

true_read : (contents after : List ℕ) → definite_at Der (in_universal 1) contents ≡ Ok (255 ∷ [], after) → BoolAt Der (in_universal 1) contents (Ok (true, after))
true_read contents after e = subst (λ d. FromContents (λ c r. as_cause (bool_in Der c) ≡ r) d (Ok (true, after))) (sym e) (refl, refl)

-- A BOOLEAN is read, and the NULL after it is refused.
second_refused : (input contents after left rest : List ℕ) (f : ParseError) → constructed_header_at (sequence_header (in_universal 16)) Der 128 input ≡ Ok (held (in_universal 16) contents rest) → IsEnd input rest
    → AreOctets contents → AreOctets after → definite_at Der (in_universal 1) contents ≡ Ok (255 ∷ [], after) → f ≢ parse.OutOfMemory
    → FailsAs (NullAt Der (in_universal 5) after) (within contents after) (record { kind = error_kind f; codec = Der }) (within contents left) → IsRefusedWith sequence_errors Der input (error_kind f) rest
second_refused input contents after left rest f opened end o p first n second =
    let e : DecodeError = record { kind = error_kind f; codec = Der } in
    let read = (bool_ensured (in_universal 1) (within contents contents) (within contents after) (Ok true) o (true_read contents after first, refl)).reads in
    let unread = (null_ensured (in_universal 5) (within contents after) (within contents left) (Err e) p second).reads in (
      (
        record { stays = refl; end = end },
        inside (held (in_universal 16) contents rest) opened (within contents left)
            (inr (number (pos 1), within contents after, read, inl unread), inr (number (pos 1), within contents after, read, inl second)) refl,
      ),
      kind_memory f n,
    )

missing_part : IsRefusedWith sequence_errors Der (48 ∷ 3 ∷ 1 ∷ 1 ∷ 255 ∷ 9 ∷ []) (error_kind (parse.Incomplete 1)) (9 ∷ [])
unfolding number128_at tag_number_at identifier_by number256_at long_at length_at header_by
missing_part = second_refused (48 ∷ 3 ∷ 1 ∷ 1 ∷ 255 ∷ 9 ∷ []) (1 ∷ 1 ∷ 255 ∷ []) [] [] (9 ∷ []) (parse.Incomplete 1) refl (48 ∷ 3 ∷ 1 ∷ 1 ∷ 255 ∷ [], refl)
    (omega arith, (omega arith, (omega arith, tt))) tt refl (λ e. cc) (fault (parse.Incomplete 1), refl, refl, refl, refl)

second_part : IsRefusedWith sequence_errors Der (48 ∷ 6 ∷ 1 ∷ 1 ∷ 255 ∷ 5 ∷ 1 ∷ 0 ∷ []) (error_kind (parse.MismatchedLength 0 1)) []
unfolding number128_at tag_number_at identifier_by number256_at long_at length_at header_by
second_part = second_refused (48 ∷ 6 ∷ 1 ∷ 1 ∷ 255 ∷ 5 ∷ 1 ∷ 0 ∷ []) (1 ∷ 1 ∷ 255 ∷ 5 ∷ 1 ∷ 0 ∷ []) (5 ∷ 1 ∷ 0 ∷ []) [] [] (parse.MismatchedLength 0 1) refl (48 ∷ 6 ∷ 1 ∷ 1 ∷ 255 ∷ 5 ∷ 1 ∷ 0 ∷ [], refl)
    (omega arith, (omega arith, (omega arith, (omega arith, (omega arith, (omega arith, tt)))))) (omega arith, (omega arith, (omega arith, tt))) refl (λ e. cc)
    (fault (parse.MismatchedLength 0 1), (((λ e. cc), refl), refl), refl, refl, refl)

tag_not_memory : IsOutOfMemory (error_kind (parse.MismatchedTag (in_universal 1) (in_universal 5))) → ⊥
tag_not_memory e = cc

first_part_missing : IsRefusedWith sequence_errors Der (48 ∷ 2 ∷ 5 ∷ 0 ∷ 9 ∷ []) (error_kind (parse.MismatchedTag (in_universal 1) (in_universal 5))) (9 ∷ [])
unfolding number128_at tag_number_at identifier_by number256_at long_at length_at header_by
first_part_missing =
    let contents = 5 ∷ 0 ∷ [] in
    let f = parse.MismatchedTag (in_universal 1) (in_universal 5) in
    let a : FailsAs (BoolAt Der (in_universal 1) contents) (within contents contents) (record { kind = error_kind f; codec = Der }) (within contents contents) = (fault f, refl, refl, refl, refl) in
    let unread = (bool_ensured (in_universal 1) (within contents contents) (within contents contents) (Err (record { kind = error_kind f; codec = Der })) (omega arith, (omega arith, tt)) a).reads in (
      (record { stays = refl; end = (48 ∷ 2 ∷ 5 ∷ 0 ∷ [], refl) }, inside (held (in_universal 16) contents (9 ∷ [])) refl (within contents contents) (inl unread, inl a) refl),
      tag_not_memory,
    )

five_refused : FailsAs (BoolAt Der (in_universal 1) (1 ∷ 1 ∷ 5 ∷ [])) (within (1 ∷ 1 ∷ 5 ∷ []) (1 ∷ 1 ∷ 5 ∷ [])) (record { kind = error_kind (parse.InvalidBool 5); codec = Der }) (within (1 ∷ 1 ∷ 5 ∷ []) [])
unfolding number128_at tag_number_at identifier_by number256_at long_at length_at header_by
five_refused = (fault (parse.InvalidBool 5), (refl, refl), refl, refl, refl)

not_memory : IsOutOfMemory (error_kind (parse.InvalidBool 5)) → ⊥
not_memory e = cc

inside_a_tag : IsRefusedWith prefix_errors Der (160 ∷ 3 ∷ 1 ∷ 1 ∷ 5 ∷ 9 ∷ []) (error_kind (parse.InvalidBool 5)) (9 ∷ [])
unfolding number128_at tag_number_at identifier_by number256_at long_at length_at header_by
inside_a_tag =
    let contents = 1 ∷ 1 ∷ 5 ∷ [] in
    let read = (bool_ensured (in_universal 1) (within contents contents) (within contents []) (Err (record { kind = error_kind (parse.InvalidBool 5); codec = Der })) (omega arith, (omega arith, (omega arith, tt))) five_refused).reads in (
      (
        record { stays = refl; end = (160 ∷ 3 ∷ 1 ∷ 1 ∷ 5 ∷ [], refl) },
        inside (held (record { class = Context; value = 0 }) contents (9 ∷ [])) refl (within contents []) (read, five_refused) refl,
      ),
      not_memory,
    )

-- The decoder inside a list.
abbrev in_list : List ℕ → List ℕ → State
in_list contents l = record { rule = Der; depth = 126; closing = false; whole = contents; rest = l }

five_in_list : FailsAs (BoolAt Der (in_universal 1) (1 ∷ 1 ∷ 5 ∷ [])) (in_list (1 ∷ 1 ∷ 5 ∷ []) (1 ∷ 1 ∷ 5 ∷ [])) (record { kind = error_kind (parse.InvalidBool 5); codec = Der }) (in_list (1 ∷ 1 ∷ 5 ∷ []) [])
unfolding number128_at tag_number_at identifier_by number256_at long_at length_at header_by
five_in_list = (fault (parse.InvalidBool 5), (refl, refl), refl, refl, refl)

inside_a_list : IsRefusedWith list_errors Der (48 ∷ 3 ∷ 1 ∷ 1 ∷ 5 ∷ 9 ∷ []) (error_kind (parse.InvalidBool 5)) (9 ∷ [])
unfolding number128_at tag_number_at identifier_by number256_at long_at length_at header_by
inside_a_list =
    let contents = 1 ∷ 1 ∷ 5 ∷ [] in
    let read = (bool_ensured (in_universal 1) (in_list contents contents) (in_list contents []) (Err (record { kind = error_kind (parse.InvalidBool 5); codec = Der })) (omega arith, (omega arith, (omega arith, tt))) five_in_list).reads in (
      inl (
        record { stays = refl; end = (48 ∷ 3 ∷ 1 ∷ 1 ∷ 5 ∷ [], refl) },
        inside (held (in_universal 16) contents (9 ∷ [])) refl (in_list contents []) ([], in_list contents contents, refl, goes_on 1 (1 ∷ 5 ∷ []), inl (read, five_in_list)) refl,
      ),
      not_memory,
    )

first_there : BoolAt Der (in_universal 1) (1 ∷ 1 ∷ 255 ∷ 1 ∷ 1 ∷ 0 ∷ []) (Ok (true, 1 ∷ 1 ∷ 0 ∷ []))
unfolding number128_at tag_number_at identifier_by number256_at long_at length_at header_by
first_there = (refl, refl)

second_there : BoolAt Der (in_universal 1) (1 ∷ 1 ∷ 0 ∷ []) (Ok (false, []))
unfolding number128_at tag_number_at identifier_by number256_at long_at length_at header_by
second_there = (refl, refl)

falls : IsLess (1 ∷ 1 ∷ 0 ∷ []) (1 ∷ 1 ∷ 255 ∷ [])
falls = inr (refl, inr (refl, inl (omega arith)))

order_not_memory : IsOutOfMemory (error_kind (parse.Der SetOfOutOfOrder)) → ⊥
order_not_memory e = cc

three_of_six : length {A = ℕ} (1 ∷ 1 ∷ 0 ∷ []) ≢ length {A = ℕ} (1 ∷ 1 ∷ 255 ∷ 1 ∷ 1 ∷ 0 ∷ [])
three_of_six e = cc

none_of_three : length {A = ℕ} [] ≢ length {A = ℕ} (1 ∷ 1 ∷ 0 ∷ [])
none_of_three e = cc

out_of_order : IsRefusedWith set_of_errors Der (49 ∷ 6 ∷ 1 ∷ 1 ∷ 255 ∷ 1 ∷ 1 ∷ 0 ∷ 9 ∷ []) (error_kind (parse.Der SetOfOutOfOrder)) (9 ∷ [])
unfolding number128_at tag_number_at identifier_by number256_at long_at length_at header_by
out_of_order =
    let all = 1 ∷ 1 ∷ 255 ∷ 1 ∷ 1 ∷ 0 ∷ [] in
    let last = 1 ∷ 1 ∷ 0 ∷ [] in
    let first = (bool_ensured (in_universal 1) (in_list all all) (in_list all last) (Ok true) (omega arith, (omega arith, (omega arith, (omega arith, (omega arith, (omega arith, tt)))))) (first_there, refl)).reads in
    let second = (bool_ensured (in_universal 1) (in_list all last) (in_list all []) (Ok false) (omega arith, (omega arith, (omega arith, tt))) (second_there, refl)).reads in (
      inl (
        record { stays = refl; end = (49 ∷ 6 ∷ all, refl) },
        inside (held (in_universal 17) all (9 ∷ [])) refl (in_list all []) (
          true ∷ [],
          (1 ∷ 1 ∷ 255 ∷ []) ∷ [],
          in_list all last,
          (1 ∷ 1 ∷ 255 ∷ [], [], in_list all last, refl, refl, goes_on 1 (1 ∷ 255 ∷ last), (first, tt), three_of_six, (refl, refl)),
          (λ s. tt),
          goes_on 1 (1 ∷ 0 ∷ []),
          inr (false, last, (second, tt), refl, none_of_three, tt, (λ up. up.0 falls), refl),
        )
            refl,
      ),
      order_not_memory,
    )

-- A value that may be left out.
identifier_cut : IsRefusedWith optional_errors Der (31 ∷ []) (error_kind (parse.Incomplete 1)) (31 ∷ [])
unfolding number128_at tag_number_at identifier_by number256_at long_at length_at header_by
identifier_cut = ((inl (((λ e. cc), (λ h. elim h [ inl e ↦ cc | inr e ↦ (let f = e.0 in cc) ]), (parse.Incomplete 1, refl, refl)), refl)), λ e. cc)

false_before_nine : BoolAt Der (in_universal 1) (1 ∷ 1 ∷ 0 ∷ 9 ∷ []) (Ok (false, 9 ∷ []))
unfolding number128_at tag_number_at identifier_by number256_at long_at length_at header_by
false_before_nine = (refl, refl)

default_not_memory : IsOutOfMemory (error_kind (parse.Der DefaultValuePresent)) → ⊥
default_not_memory e = cc

default_encoded : IsRefusedWith default_errors Der (1 ∷ 1 ∷ 0 ∷ 9 ∷ []) (error_kind (parse.Der DefaultValuePresent)) (9 ∷ [])
default_encoded =
    let old = front Der (1 ∷ 1 ∷ 0 ∷ 9 ∷ []) in
    let next : NextTag (form Der) old.rest (in_universal 1) = frame_next (short {spelling = form Der} 1 false (0 ∷ []) (9 ∷ []) (omega arith) (omega arith) (omega arith)) in
    let read = (bool_ensured (in_universal 1) old (at old (9 ∷ [])) (Ok false) (omega arith, (omega arith, (omega arith, (omega arith, tt)))) (false_before_nine, refl)).reads in
    (present ((λ h. goes_on 1 (1 ∷ 0 ∷ 9 ∷ []) h), next) false (read, tt) tt false refl refl refl, default_not_memory)

pub worked : WorkedWholes
worked = record {
  missing_part = missing_part;
  second_part = second_part;
  inside_a_tag = inside_a_tag;
  inside_a_list = inside_a_list;
  out_of_order = out_of_order;
  first_part_missing = first_part_missing;
  parts_read = parts_read;
  component_missing = component_missing;
  component_twice = component_twice;
  components_fall = components_fall;
  components_read = components_read;
  no_alternative = no_alternative;
  alternative_refused = alternative_refused;
  alternative_read = alternative_read;
  identifier_cut = identifier_cut;
  default_encoded = default_encoded;
}
