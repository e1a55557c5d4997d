-- Octets that were worked out by hand are refused.
use Rattle.std.proofs.Common.{◌≡◌, ◌≢◌, ℕ, zero, suc, ℤ, Bool, true, false, ◌≤◌, inl, inr, List, [], ◌∷◌, Result, Ok, Err, refl, sym, subst, arith}
use Rattle.rasn_types.specs.Tags.{in_universal}
use Rattle.rasn_types.specs.declared.types.codec.Codec.{Codec}
use Rattle.rasn_types.specs.declared.types.codec.Codec.TheVariants.{Ber, Cer, Der}
use Rattle.rasn_types.specs.declared.types.tag.Tag.{Tag}
use Rattle.rasn_types.specs.declared.types.constraints.Bounded.TheVariants.{Single}
use Rattle.rasn_types.specs.declared.error.decode.DerDecodeErrorKind.TheVariants.{NonMinimalInteger, NonMinimalArc}
use Rattle.rasn_types.specs.Trees.{unconstrained, signed_range}
use Rattle.rasn_de.specs.declared.ber.de.parser.ParseError.{ParseError}
use Rattle.rasn_de.specs.declared.ber.de.parser.ParseError.TheVariants as parse
use Rattle.rasn_de.specs.Headers.{number128_at, tag_number_at, identifier_by, number256_at, long_at, length_at, header_by}
use Rattle.rasn_de.specs.Segments.{segments_at, string_of}
use Rattle.rasn_de.specs.Causes.{Cause, fault, out_of_bound, error_kind}
use Rattle.rasn_de.specs.State.{at}
use Rattle.rasn_de.specs.Leaves.{FromContents, definite_at, LeafAt, FailsAs, as_cause, bool_in, IntegerIn}
use Rattle.rasn_de.specs.Enumerated.{EnumeratedIn, NullIn}
use Rattle.rasn_de.specs.ObjectIdentifier.{ObjectIdentifierIn}
use Rattle.rasn_de.specs.OctetString.{octet_string_at}
use Rattle.rasn_de.specs.CharacterString.{StringCheck, StringAt, ByLength, ByAlphabet, BySize, ByUtf8, ByUnits}
use Rattle.rasn_de.specs.BitString.{bit_string_at, DecodesBitString}
use Rattle.rasn_de.proofs.Strings.BitString.{bits_decodes}
use Rattle.rasn_de.proofs.Strings.NamedBits.{named_found}
use Rattle.rasn_de.proofs.Headers.NextTag.{kind_memory}
use Rattle.rasn.specs.Headline.{front}
use Rattle.rasn.specs.OneRefusal.{ReportsBound}
use Rattle.rasn.proofs.OneRefusal.Decided.{report}
use Rattle.rasn.proofs.OneRefusal.Leaves.{reports, integer_apart}
use Rattle.rasn.proofs.OneRefusal.Strings.{string_apart, by_alphabet_once, named_bits_apart}
use Rattle.rasn_de.proofs.Leaves.Integer.{integer_ensured}
use Rattle.rasn_de.proofs.Strings.CharacterString.{string_decodes}
use Rattle.rasn_de.proofs.Strings.Checks.{by_alphabet}
use Rattle.rasn_types.specs.declared.error.decode.DecodeErrorKind.{DecodeErrorKind}
use Rattle.rasn_types.specs.declared.types.strings.alphabet.Alphabet.TheVariants.{Visible}
use Rattle.rasn_types.specs.CharacterString.{IsAdmitted}
use Rattle.rasn_types.specs.Framing.{AreOctets}
use Rattle.rasn_types.specs.Shapes.{number, numbers, bits, every, Admits}
use Rattle.rasn_types.specs.BitString.{significant}
use Rattle.std.specs.Prelude.{pos, Contains, IsUtf8}
use Rattle.std.specs.Str.{is_utf8, chars}
use Rattle.std.proofs.lemmas.Str.{is_utf8-from_IsUtf8}
use Rattle.std.proofs.lemmas.List.Elements.{AllWithin-none, AllWithin-more, All-from_all_within}
use Rattle.rasn.specs.WorkedKinds.{five, five_errors, text_errors, IsRefusedWith, IsNotRefused, bool_errors, switch_errors, null_errors, small_errors, object_errors, bits_errors, four_errors, long_errors, named_errors, pair, pair_errors, utf8_errors, unit_errors, WorkedKinds}
use Rattle.rasn.proofs.Worked.RefusedTimes.{day_not_in_month, seconds_left_out, seconds_not_needed, zone_left_out, zone_not_needed, hyphens_kept}
use Rattle.rasn.proofs.Worked.RefusedOpen.{open_type_cut, second_unknown_cut, open_type_read}

-- Contents that are refused, where the header is read.
in_contents : {X : Type 0} (read : List ℕ → Result X Cause → Type 0) (rule : Codec) (tag : Tag) (input c rest : List ℕ) (f : ParseError) → definite_at rule tag input ≡ Ok (c, rest) → read c (Err (fault f))
    → FailsAs (LeafAt read rule tag input) (front rule input) (record { kind = error_kind f; codec = rule }) (at (front rule input) rest)
in_contents read rule tag input c rest f e a = (fault f, subst (λ d. FromContents read d (Err (fault f, rest))) (sym e) (a, refl), refl, refl, refl)

null_of_an_octet : IsRefusedWith null_errors Der (5 ∷ 1 ∷ 0 ∷ 9 ∷ []) (error_kind (parse.MismatchedLength 0 1)) (9 ∷ [])
unfolding number128_at tag_number_at identifier_by number256_at long_at length_at header_by
null_of_an_octet = (in_contents NullIn Der (in_universal 5) (5 ∷ 1 ∷ 0 ∷ 9 ∷ []) (0 ∷ []) (9 ∷ []) (parse.MismatchedLength 0 1) refl ((λ e. cc), refl), λ e. cc)

null_framed : definite_at Der (in_universal 5) (5 ∷ 0 ∷ 9 ∷ []) ≡ Ok ([], 9 ∷ [])
unfolding number128_at tag_number_at identifier_by number256_at long_at length_at header_by
null_framed = refl

null_read : IsNotRefused null_errors Der (5 ∷ 0 ∷ 9 ∷ [])
null_read e new ((cause, a, h, c, s), n) = let k = subst (λ d. FromContents NullIn d (Err (cause, new.rest))) null_framed a in k.0.0 refl

number_of_no_octets : IsRefusedWith small_errors Ber (2 ∷ 0 ∷ 9 ∷ []) (error_kind parse.UnexpectedEmptyInput) (9 ∷ [])
unfolding number128_at tag_number_at identifier_by number256_at long_at length_at header_by
number_of_no_octets = (inr (in_contents (IntegerIn Ber 8 (signed_range 8) unconstrained) Ber (in_universal 2) (2 ∷ 0 ∷ 9 ∷ []) [] (9 ∷ []) parse.UnexpectedEmptyInput refl (inl (inl (refl, refl)))), λ e. cc)

superfluous_octet : IsRefusedWith small_errors Der (2 ∷ 2 ∷ 0 ∷ 1 ∷ []) (error_kind (parse.Der NonMinimalInteger)) []
unfolding number128_at tag_number_at identifier_by number256_at long_at length_at header_by
superfluous_octet = (
  inr (in_contents (IntegerIn Der 8 (signed_range 8) unconstrained) Der (in_universal 2) (2 ∷ 2 ∷ 0 ∷ 1 ∷ []) (0 ∷ 1 ∷ []) [] (parse.Der NonMinimalInteger) refl
      (inl (inr ((λ e. cc), tt, (λ h. h (inl (refl, omega arith))), refl)))),
  λ e. cc,
)

no_subidentifier : IsRefusedWith object_errors Ber (6 ∷ 0 ∷ []) (error_kind (parse.Incomplete 1)) []
unfolding number128_at tag_number_at identifier_by number256_at long_at length_at header_by
no_subidentifier = (
  inr (
    (λ e. cc),
    in_contents (ObjectIdentifierIn Ber) Ber (in_universal 6) (6 ∷ 0 ∷ []) [] [] (parse.Incomplete 1) refl
        (record { front = []; numbers = []; back = []; whole = refl; short = λ s. refl; is = refl; owed = inl refl; stops = refl }),
  ),
  λ e. cc,
)

padded_subidentifier : IsRefusedWith object_errors Der (6 ∷ 2 ∷ 128 ∷ 1 ∷ []) (error_kind (parse.Der NonMinimalArc)) []
unfolding number128_at tag_number_at identifier_by number256_at long_at length_at header_by
padded_subidentifier = (
  inr (
    (λ e. cc),
    in_contents (ObjectIdentifierIn Der) Der (in_universal 6) (6 ∷ 2 ∷ 128 ∷ 1 ∷ []) (128 ∷ 1 ∷ []) [] (parse.Der NonMinimalArc) refl
        (record { front = []; numbers = []; back = 128 ∷ 1 ∷ []; whole = refl; short = λ s. refl; is = refl; owed = inl refl; stops = refl }),
  ),
  λ e. cc,
)

-- A segment that is refused consumes nothing.
in_segment : (rule : Codec) (input : List ℕ) (f : ParseError) → f ≢ parse.OutOfMemory → bit_string_at rule 128 (in_universal 3) input ≡ Err f → IsRefusedWith bits_errors rule input (error_kind f) input
in_segment rule input f n e = let m = kind_memory f n in (inr (inr (m, (fault f, inl (f, e, refl), refl, refl, refl))), m)

no_unused_count : IsRefusedWith bits_errors Der (3 ∷ 0 ∷ []) (error_kind parse.UnexpectedEmptyInput) (3 ∷ 0 ∷ [])
unfolding number128_at tag_number_at identifier_by number256_at long_at length_at header_by string_of segments_at
no_unused_count = in_segment Der (3 ∷ 0 ∷ []) parse.UnexpectedEmptyInput (λ e. cc) refl

eight_unused_bits : IsRefusedWith bits_errors Der (3 ∷ 2 ∷ 8 ∷ 0 ∷ []) (error_kind (parse.InvalidBitString 8)) (3 ∷ 2 ∷ 8 ∷ 0 ∷ [])
unfolding number128_at tag_number_at identifier_by number256_at long_at length_at header_by string_of segments_at
eight_unused_bits = in_segment Der (3 ∷ 2 ∷ 8 ∷ 0 ∷ []) (parse.InvalidBitString 8) (λ e. cc) refl

-- All octets of a string that are refused consume it.
in_text : (Told : StringCheck) (tag : Tag) (input xs rest : List ℕ) (f : ParseError) → f ≢ parse.OutOfMemory → octet_string_at Der 128 tag input ≡ Ok (xs, rest) → Told xs (Err f)
    → FailsAs (StringAt Told Der 128 tag input) (front Der input) (record { kind = error_kind f; codec = Der }) (at (front Der input) rest)
in_text Told tag input xs rest f n e a = (fault f, inr (xs, f, e, a, refl), refl, refl, refl)

one_of_four_octets : IsRefusedWith four_errors Der (4 ∷ 1 ∷ 7 ∷ 9 ∷ []) (error_kind (parse.SizeConstraintNotSatisfied 1 (Single 4))) (9 ∷ [])
unfolding number128_at tag_number_at identifier_by number256_at long_at length_at header_by string_of segments_at
one_of_four_octets = (inr (inr ((λ e. cc), in_text (ByLength 4 unconstrained.size) (in_universal 4) (4 ∷ 1 ∷ 7 ∷ 9 ∷ []) (7 ∷ []) (9 ∷ []) (parse.SizeConstraintNotSatisfied 1 (Single 4)) (λ e. cc) refl (inl ((λ e. cc), refl)))), λ e. cc)

-- A number out of the width of its type, and one out of its bound.
number_out_of_width : IsRefusedWith small_errors Der (2 ∷ 2 ∷ 1 ∷ 0 ∷ 9 ∷ []) (error_kind (parse.IntegerOverflow 8)) (9 ∷ [])
unfolding number128_at tag_number_at identifier_by number256_at long_at length_at header_by
number_out_of_width = (
  inr (in_contents (IntegerIn Der 8 (signed_range 8) unconstrained) Der (in_universal 2) (2 ∷ 2 ∷ 1 ∷ 0 ∷ 9 ∷ []) (1 ∷ 0 ∷ []) (9 ∷ []) (parse.IntegerOverflow 8) refl
      (inr (((λ e. cc), (λ s. λ r. elim r [ inl h ↦ (let e = h.0 in cc) | inr h ↦ (let e = h.0 in cc) ])), (λ h. omega (arith, h.1)), refl))),
  λ e. cc,
)

number_framed : definite_at Der (in_universal 2) (2 ∷ 1 ∷ 127 ∷ []) ≡ Ok (127 ∷ [], [])
unfolding number128_at tag_number_at identifier_by number256_at long_at length_at header_by
number_framed = refl

-- What is read isn't refused.
number_in_width : IsNotRefused small_errors Der (2 ∷ 1 ∷ 127 ∷ [])
number_in_width e new a =
    let here = front Der (2 ∷ 1 ∷ 127 ∷ []) in
    let o : AreOctets here.rest = (omega arith, (omega arith, (omega arith, tt))) in
    let there = subst (λ d. FromContents (IntegerIn Der 8 (signed_range 8) unconstrained) d (Ok (pos 127, []))) (sym number_framed) ((((λ e. cc), (λ s. tt)), (omega arith, omega arith), tt, refl), refl) in
    let x = (integer_ensured 8 (signed_range 8) unconstrained (λ (z : ℤ). z) (λ z. ⊥) (in_universal 2) here (at here []) (Ok (pos 127)) o (there, refl)).reads in
    (integer_apart 8 (signed_range 8) unconstrained (λ z. ⊥) (in_universal 2)).unread here o e new a (number (pos 127)) [] x.exact.0

six_framed : definite_at Der (in_universal 2) (2 ∷ 1 ∷ 6 ∷ 9 ∷ []) ≡ Ok (6 ∷ [], 9 ∷ [])
unfolding number128_at tag_number_at identifier_by number256_at long_at length_at header_by
six_framed = refl

six_is_not_five : pos 6 ≡ pos 5 → ⊥
six_is_not_five e = cc

number_out_of_bound : (kind : DecodeErrorKind) × ReportsBound (pos 6) (Single (pos 5)) kind × IsRefusedWith five_errors Der (2 ∷ 1 ∷ 6 ∷ 9 ∷ []) kind (9 ∷ [])
number_out_of_bound =
    let k = report (out_of_bound (pos 6) (Single (pos 5))) tt in
    let there = subst (λ d. FromContents (IntegerIn Der 8 (signed_range 8) five) d (Err (out_of_bound (pos 6) (Single (pos 5)), 9 ∷ []))) (sym six_framed)
    ((((λ e. cc), (λ s. tt)), (omega arith, omega arith), (λ h. elim h [ inl e ↦ cc | inr e ↦ six_is_not_five e ]), refl, refl), refl) in
    (k.0, reports (pos 6) (Single (pos 5)) k.0 k.2 k.1, (inr (out_of_bound (pos 6) (Single (pos 5)), there, k.1, refl, refl), k.2))

-- Characters.
letter_framed : octet_string_at Der 128 (in_universal 26) (26 ∷ 1 ∷ 65 ∷ 9 ∷ []) ≡ Ok (65 ∷ [], 9 ∷ [])
unfolding number128_at tag_number_at identifier_by number256_at long_at length_at header_by string_of segments_at
letter_framed = refl

characters_read : IsNotRefused text_errors Der (26 ∷ 1 ∷ 65 ∷ 9 ∷ [])
characters_read e new a =
    let here = front Der (26 ∷ 1 ∷ 65 ∷ 9 ∷ []) in
    let o : AreOctets here.rest = (omega arith, (omega arith, (omega arith, (omega arith, tt)))) in
    let x = string_decodes (by_alphabet Visible unconstrained) (λ (l : List ℕ). l) (in_universal 26) here (at here (9 ∷ [])) (Ok (65 ∷ [])) o ((65 ∷ [], letter_framed, (refl, tt, All-from_all_within (IsAdmitted Visible) (65 ∷ []) (AllWithin-more (IsAdmitted Visible) (65 ∷ []) 0 0 (AllWithin-none (IsAdmitted Visible) (65 ∷ []) 0) (λ d. (omega arith, omega arith))))), refl) in
    (string_apart (by_alphabet Visible unconstrained) (by_alphabet_once Visible unconstrained.size) (in_universal 26)).unread here o e new a (numbers (65 ∷ [])) (9 ∷ []) x.exact.0

foreign_character : IsRefusedWith text_errors Der (26 ∷ 2 ∷ 65 ∷ 10 ∷ 9 ∷ []) (error_kind (parse.PermittedAlphabetError 10 1)) (9 ∷ [])
unfolding number128_at tag_number_at identifier_by number256_at long_at length_at header_by string_of segments_at
foreign_character = (
  inr (inr (
    (λ e. cc),
    in_text (ByAlphabet Visible unconstrained.size) (in_universal 26) (26 ∷ 2 ∷ 65 ∷ 10 ∷ 9 ∷ []) (65 ∷ 10 ∷ []) (9 ∷ []) (parse.PermittedAlphabetError 10 1) (λ e. cc) refl
        (inr (tt, (1, omega arith, AllWithin-more (IsAdmitted Visible) (65 ∷ 10 ∷ []) 0 0 (AllWithin-none (IsAdmitted Visible) (65 ∷ 10 ∷ []) 0) (λ d. (omega arith, omega arith)), (λ h. omega (arith, h.0)), refl))),
  )),
  λ e. cc,
)

-- BOOLEAN.
boolean_of_two_octets : IsRefusedWith bool_errors Ber (1 ∷ 2 ∷ 0 ∷ 0 ∷ 9 ∷ []) (error_kind (parse.MismatchedLength 1 2)) (9 ∷ [])
unfolding number128_at tag_number_at identifier_by number256_at long_at length_at header_by
boolean_of_two_octets = (in_contents (λ c r. as_cause (bool_in Ber c) ≡ r) Ber (in_universal 1) (1 ∷ 2 ∷ 0 ∷ 0 ∷ 9 ∷ []) (0 ∷ 0 ∷ []) (9 ∷ []) (parse.MismatchedLength 1 2) refl refl, λ e. cc)

neither_true_nor_false : IsRefusedWith bool_errors Der (1 ∷ 1 ∷ 5 ∷ 9 ∷ []) (error_kind (parse.InvalidBool 5)) (9 ∷ [])
unfolding number128_at tag_number_at identifier_by number256_at long_at length_at header_by
neither_true_nor_false = (in_contents (λ c r. as_cause (bool_in Der c) ≡ r) Der (in_universal 1) (1 ∷ 1 ∷ 5 ∷ 9 ∷ []) (5 ∷ []) (9 ∷ []) (parse.InvalidBool 5) refl refl, λ e. cc)

five_framed : definite_at Ber (in_universal 1) (1 ∷ 1 ∷ 5 ∷ 9 ∷ []) ≡ Ok (5 ∷ [], 9 ∷ [])
unfolding number128_at tag_number_at identifier_by number256_at long_at length_at header_by
five_framed = refl

true_by_any_octet : IsNotRefused bool_errors Ber (1 ∷ 1 ∷ 5 ∷ 9 ∷ [])
true_by_any_octet e new ((cause, a, h, c, s), n) = let k = subst (λ d. FromContents (λ c r. as_cause (bool_in Ber c) ≡ r) d (Err (cause, new.rest))) five_framed a in let z : ◌≡◌ {A = Result Bool Cause} (Ok true) (Err cause) = k.0 in cc

-- ENUMERATED.
abbrev off_and_on : List ℤ
off_and_on = pos 0 ∷ pos 1 ∷ []

two_is_not_named : Contains off_and_on (pos 2) → ⊥
two_is_not_named (zero, b, e) = cc
two_is_not_named (suc zero, b, e) = cc
two_is_not_named (suc (suc k), b, e) = omega (arith, b)

number_without_name : IsRefusedWith switch_errors Der (10 ∷ 1 ∷ 2 ∷ 9 ∷ []) (error_kind (parse.DiscriminantValueNotFound (pos 2))) (9 ∷ [])
unfolding number128_at tag_number_at identifier_by number256_at long_at length_at header_by
number_without_name = (
  in_contents (EnumeratedIn Der off_and_on) Der (in_universal 10) (10 ∷ 1 ∷ 2 ∷ 9 ∷ []) (2 ∷ []) (9 ∷ []) (parse.DiscriminantValueNotFound (pos 2)) refl
      (inr (inr (((λ e. cc), (λ s. tt)), (omega arith, omega arith), two_is_not_named, refl))),
  λ e. cc,
)

one_framed : definite_at Der (in_universal 10) (10 ∷ 1 ∷ 1 ∷ 9 ∷ []) ≡ Ok (1 ∷ [], 9 ∷ [])
unfolding number128_at tag_number_at identifier_by number256_at long_at length_at header_by
one_framed = refl

one_is_read : (cause : Cause) → EnumeratedIn Der off_and_on (1 ∷ []) (Err cause) → ⊥
one_is_read (fault f) (inl (inl (e, w))) = cc
one_is_read (fault f) (inl (inr (n, s, long, w))) = long tt
one_is_read (fault f) (inr (inl (is, out, w))) = out (omega arith, omega arith)
one_is_read (fault f) (inr (inr (is, within, unnamed, w))) = unnamed (1, omega arith, refl)
one_is_read (out_of_bound z bound) a = a

number_with_name : IsNotRefused switch_errors Der (10 ∷ 1 ∷ 1 ∷ 9 ∷ [])
number_with_name e new ((cause, a, h, c, s), n) = let k = subst (λ d. FromContents (EnumeratedIn Der off_and_on) d (Err (cause, new.rest))) one_framed a in one_is_read cause k.0

-- An INTEGER of any size, named bits, octets and characters.
long_number_of_no_octets : IsRefusedWith long_errors Ber (2 ∷ 0 ∷ 9 ∷ []) (error_kind parse.UnexpectedEmptyInput) (9 ∷ [])
unfolding number128_at tag_number_at identifier_by number256_at long_at length_at header_by
long_number_of_no_octets = (inr (in_contents (IntegerIn Ber 0 every unconstrained) Ber (in_universal 2) (2 ∷ 0 ∷ 9 ∷ []) [] (9 ∷ []) parse.UnexpectedEmptyInput refl (inl (inl (refl, refl)))), λ e. cc)

bits_framed : (rule : Codec) → bit_string_at rule 128 (in_universal 3) (3 ∷ 2 ∷ 6 ∷ 128 ∷ 9 ∷ []) ≡ Ok (true ∷ false ∷ [], 9 ∷ [])
unfolding number128_at tag_number_at identifier_by number256_at long_at length_at header_by string_of segments_at
bits_framed Ber = refl
bits_framed Cer = refl
bits_framed Der = refl

bits_there : (rule : Codec) → DecodesBitString (in_universal 3) unconstrained (front rule (3 ∷ 2 ∷ 6 ∷ 128 ∷ 9 ∷ [])) (Ok (true ∷ false ∷ [])) (at (front rule (3 ∷ 2 ∷ 6 ∷ 128 ∷ 9 ∷ [])) (9 ∷ []))
bits_there rule = ((bits_framed rule, omega arith, tt), refl)

zero_is_trailing : significant (true ∷ false ∷ []) ≢ true ∷ false ∷ []
zero_is_trailing e = cc

zeros_after_named_bits : IsRefusedWith named_errors Der (3 ∷ 2 ∷ 6 ∷ 128 ∷ 9 ∷ []) (error_kind parse.TrailingZeroBits) (9 ∷ [])
zeros_after_named_bits = (inr (true ∷ false ∷ [], parse.TrailingZeroBits, bits_there Der, inl (tt, zero_is_trailing, refl), refl), λ e. cc)

bits_octets : AreOctets (3 ∷ 2 ∷ 6 ∷ 128 ∷ 9 ∷ [])
bits_octets = (omega arith, (omega arith, (omega arith, (omega arith, (omega arith, tt)))))

zeros_in_ber : IsNotRefused named_errors Ber (3 ∷ 2 ∷ 6 ∷ 128 ∷ 9 ∷ [])
zeros_in_ber e new a =
    let here = front Ber (3 ∷ 2 ∷ 6 ∷ 128 ∷ 9 ∷ []) in
    let d = bits_decodes (in_universal 3) unconstrained here (at here (9 ∷ [])) (Ok (true ∷ false ∷ [])) bits_octets (bits_there Ber) in
    let x = (named_found (in_universal 3) unconstrained here (at here (9 ∷ [])) (true ∷ false ∷ []) d (bits_there Ber) (λ c. absurd c) (0, tt) (true ∷ []) refl).reads in
    (named_bits_apart (in_universal 3) unconstrained).unread here bits_octets e new a (bits (true ∷ [])) (9 ∷ []) x.exact.0

one_isnt_two : Admits ◌≤◌ pair.size 1 → ⊥
one_isnt_two (inl e) = cc
one_isnt_two (inr e) = omega (arith, e)

one_of_two_octets : IsRefusedWith pair_errors Der (4 ∷ 1 ∷ 7 ∷ 9 ∷ []) (error_kind (parse.SizeConstraintNotSatisfied 1 (Single 2))) (9 ∷ [])
unfolding number128_at tag_number_at identifier_by number256_at long_at length_at header_by string_of segments_at
one_of_two_octets = (inr (inr ((λ e. cc), in_text (BySize pair.size) (in_universal 4) (4 ∷ 1 ∷ 7 ∷ 9 ∷ []) (7 ∷ []) (9 ∷ []) (parse.SizeConstraintNotSatisfied 1 (Single 2)) (λ e. cc) refl (one_isnt_two, refl))), λ e. cc)

not_utf8 : IsUtf8 (255 ∷ []) → ⊥
unfolding is_utf8 chars
not_utf8 u = let e = is_utf8-from_IsUtf8 (255 ∷ []) u in cc

no_character : IsRefusedWith utf8_errors Der (12 ∷ 1 ∷ 255 ∷ 9 ∷ []) (error_kind (parse.StringConversionFailed (in_universal 12))) (9 ∷ [])
unfolding number128_at tag_number_at identifier_by number256_at long_at length_at header_by string_of segments_at
no_character = (
  inr (inr ((λ e. cc), in_text (ByUtf8 unconstrained.size) (in_universal 12) (12 ∷ 1 ∷ 255 ∷ 9 ∷ []) (255 ∷ []) (9 ∷ []) (parse.StringConversionFailed (in_universal 12)) (λ e. cc) refl (inl ((λ ns m. not_utf8 m.0), refl)))),
  λ e. cc,
)

half_a_unit : IsRefusedWith unit_errors Der (30 ∷ 1 ∷ 65 ∷ 9 ∷ []) (error_kind (parse.StringConversionFailed (in_universal 30))) (9 ∷ [])
unfolding number128_at tag_number_at identifier_by number256_at long_at length_at header_by string_of segments_at
half_a_unit = (
  inr (inr ((λ e. cc), in_text (ByUnits unconstrained.size) (in_universal 30) (30 ∷ 1 ∷ 65 ∷ 9 ∷ []) (65 ∷ []) (9 ∷ []) (parse.StringConversionFailed (in_universal 30)) (λ e. cc) refl (inl ((λ ns m. m), refl)))),
  λ e. cc,
)

pub worked : WorkedKinds
worked = record {
  null_of_an_octet = null_of_an_octet;
  null_read = null_read;
  number_of_no_octets = number_of_no_octets;
  superfluous_octet = superfluous_octet;
  no_subidentifier = no_subidentifier;
  padded_subidentifier = padded_subidentifier;
  no_unused_count = no_unused_count;
  eight_unused_bits = eight_unused_bits;
  one_of_four_octets = one_of_four_octets;
  number_out_of_width = number_out_of_width;
  number_in_width = number_in_width;
  number_out_of_bound = number_out_of_bound;
  foreign_character = foreign_character;
  characters_read = characters_read;
  boolean_of_two_octets = boolean_of_two_octets;
  neither_true_nor_false = neither_true_nor_false;
  true_by_any_octet = true_by_any_octet;
  number_without_name = number_without_name;
  number_with_name = number_with_name;
  day_not_in_month = day_not_in_month;
  seconds_left_out = seconds_left_out;
  seconds_not_needed = seconds_not_needed;
  zone_left_out = zone_left_out;
  zone_not_needed = zone_not_needed;
  hyphens_kept = hyphens_kept;
  long_number_of_no_octets = long_number_of_no_octets;
  zeros_after_named_bits = zeros_after_named_bits;
  zeros_in_ber = zeros_in_ber;
  one_of_two_octets = one_of_two_octets;
  no_character = no_character;
  half_a_unit = half_a_unit;
  open_type_cut = open_type_cut;
  second_unknown_cut = second_unknown_cut;
  open_type_read = open_type_read;
}
