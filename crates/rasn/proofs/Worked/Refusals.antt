-- Why octets that were worked out by hand aren't read as a whole BOOLEAN.
use Rattle.std.proofs.Common.{◌≡◌, ℕ, ℤ, inl, inr, List, [], ◌∷◌, ◌++◌, length, Bool, true, false, pos, Result, Ok, Err, refl, sym, ◌∙◌, ap, subst, arith}
use Rattle.rasn_types.specs.Tags.{der_form, in_universal}
use Rattle.rasn_types.specs.declared.types.codec.Codec.{Codec}
use Rattle.rasn_types.specs.declared.types.codec.Codec.TheVariants.{Ber, Cer, Der}
use Rattle.rasn_types.specs.declared.error.decode.DecodeError.{DecodeError}
use Rattle.rasn_types.specs.declared.error.decode.DecodeErrorKind.TheVariants.{InvalidBool, UnexpectedExtraData}
use Rattle.rasn_types.specs.Framing.{definite}
use Rattle.rasn_types.specs.Shapes.{number, boolean}
use Rattle.rasn_types.specs.Contents.{IsBool}
use Rattle.rasn_types.specs.Grammar.{Reads, parts_of, top}
use Rattle.rasn_types.proofs.Headers.Frames.{frame_one}
use Rattle.rasn_de.specs.declared.ber.de.parser.ParseError.{ParseError}
use Rattle.rasn_de.specs.declared.ber.de.parser.ParseError.TheVariants as parse
use Rattle.rasn_de.specs.Headers.{number128_at, tag_number_at, identifier_by, number256_at, long_at, length_at, header_by}
use Rattle.rasn_de.specs.Causes.{Cause, fault, HasCause, error_kind}
use Rattle.rasn_de.specs.Leaves.{definite_at, bool_in, BoolAt, FromContents, as_cause, FailsAs}
use Rattle.rasn_de.specs.Outcomes.{Exact, Got, refusal}
use Rattle.rasn_de.specs.ValueErrors.{Errors}
use Rattle.rasn.specs.Refusals.{FailsFirst, FailsAlone}
use Rattle.rasn.specs.Worked.{IsRefusedBy}
use Rattle.rasn.specs.WorkedShapes.{plain}
use Rattle.rasn.specs.WorkedRefusals.{FailsOnlyAs, FailsAloneOnlyAs, WorkedRefusals}
use Rattle.rasn.proofs.LawsHold.Written.{one_reading}
use Rattle.rasn.proofs.ReadBack.Headers.{short}
use Rattle.rasn.proofs.Worked.Shapes.{bool_lawful}

abbrev errors_of_bool : Errors
errors_of_bool old = FailsAs (BoolAt old.rule (in_universal 1) old.rest) old

abbrev read_bool : Codec → List ℕ → Result Bool Cause → Type 0
read_bool rule c r = as_cause (bool_in rule c) ≡ r

cause_or : Cause → Result (Bool × List ℕ) (Cause × List ℕ) → Cause
cause_or cause (Ok p) = cause
cause_or cause (Err p) = p.0

same_cause : {left input : List ℕ} {f : ParseError} (cause : Cause) → ◌≡◌ {A = Result (Bool × List ℕ) (Cause × List ℕ)} (Err (cause, left)) (Err (fault f, input)) → fault f ≡ cause
unfolding cause_or
same_cause cause e = sym (ap (cause_or cause) e)

own_cause : {f : ParseError} (cause : Cause) → ◌≡◌ {A = Result Bool Cause} (Err (fault f)) (Err cause) → fault f ≡ cause
own_cause {f} cause e = cc

-- An error with this cause is of its kind.
of_cause : {rule : Codec} {f : ParseError} (cause : Cause) (e : DecodeError) → fault f ≡ cause → HasCause cause e.kind → e.codec ≡ rule → e ≡ record { kind = error_kind f; codec = rule }
of_cause {rule} {f} cause e is has by =
    let k : e.kind ≡ error_kind f = subst (λ c. HasCause c e.kind) (sym is) has in
    subst (λ x. e ≡ record { kind = x; codec = rule }) k (subst (λ c. e ≡ record { kind = e.kind; codec = c }) by refl)

-- A fault of the header is the only error.
in_header : {rule : Codec} {input : List ℕ} (f : ParseError) → definite_at rule (in_universal 1) input ≡ Err (fault f, input) → FailsOnlyAs errors_of_bool rule input (error_kind f)
in_header {rule} {input} f is e = (
  (λ h. of_cause h.error.0 e (same_cause h.error.0 (subst (λ d. FromContents (read_bool rule) d (Err (h.error.0, h.left))) is h.error.1)) h.error.2 h.error.3),
  (λ h. record {
    left = input;
    end = ([], refl);
    error = (fault f, subst (λ d. FromContents (read_bool rule) d (Err (fault f, input))) (sym is) refl, subst (λ (x : DecodeError). x.kind ≡ error_kind f) (sym h) refl, subst (λ (x : DecodeError). x.codec ≡ rule) (sym h) refl, refl);
  }),
)

-- A fault of the contents is the only error.
in_contents : {rule : Codec} {input : List ℕ} (header contents rest : List ℕ) (f : ParseError) → input ≡ header ++ rest → definite_at rule (in_universal 1) input ≡ Ok (contents, rest) → bool_in rule contents ≡ Err f
    → FailsOnlyAs errors_of_bool rule input (error_kind f)
in_contents {rule} {input} header contents rest f all is why e = (
  (λ h.
      let g = subst (λ d. FromContents (read_bool rule) d (Err (h.error.0, h.left))) is h.error.1 in
      let k : as_cause (Err f) ≡ Err h.error.0 = subst (λ r. as_cause r ≡ Err h.error.0) why g.0 in
      of_cause h.error.0 e (own_cause h.error.0 k) h.error.2 h.error.3),
  (λ h. record {
    left = rest;
    end = (header, all);
    error = (
      fault f,
      subst (λ d. FromContents (read_bool rule) d (Err (fault f, rest))) (sym is) (ap as_cause why, refl),
      subst (λ (x : DecodeError). x.kind ≡ error_kind f) (sym h) refl,
      subst (λ (x : DecodeError). x.codec ≡ rule) (sym h) refl,
      refl,
    );
  }),
)

-- There is no error if the contents are read.
none : {rule : Codec} {input : List ℕ} (contents rest : List ℕ) (b : Bool) → definite_at rule (in_universal 1) input ≡ Ok (contents, rest) → bool_in rule contents ≡ Ok b
    → (e : DecodeError) → FailsFirst errors_of_bool rule input e → ⊥
none {rule} contents rest b is why e h =
    let g = subst (λ d. FromContents (read_bool rule) d (Err (h.error.0, h.left))) is h.error.1 in
    let k : as_cause (Ok b) ≡ Err h.error.0 = subst (λ r. as_cause r ≡ Err h.error.0) why g.0 in
    cc

true_in : (rule : Codec) → IsBool rule (255 ∷ []) (pos 1)
true_in Ber = (255, refl, inr ((λ e. omega arith), refl))
true_in Cer = inr (refl, refl)
true_in Der = inr (refl, refl)

true_first : (rule : Codec) → Reads rule (plain boolean 1) 128 (top rule) (1 ∷ 1 ∷ 255 ∷ 0 ∷ 0 ∷ []) (number (pos 1)) (0 ∷ 0 ∷ [])
unfolding Reads parts_of
true_first rule = ((false, 255 ∷ [], short 1 false (255 ∷ []) (0 ∷ 0 ∷ []) (omega arith) (omega arith) (omega arith), (pos 1, refl, true_in rule), λ s. (refl, tt)), tt)

true_alone : (rule : Codec) → Exact (Reads rule (plain boolean 1) 128 (top rule)) (1 ∷ 1 ∷ 255 ∷ 0 ∷ 0 ∷ []) (Got (number (pos 1)) (0 ∷ 0 ∷ []))
true_alone rule = (
  true_first rule,
  λ u s h.
      let o = one_reading (plain boolean 1) bool_lawful rule 128 (top rule) _ u (number (pos 1)) s (0 ∷ 0 ∷ []) h (true_first rule) in
      (o.0, o.1),
)

no_octets : (rule : Codec) → FailsOnlyAs errors_of_bool rule [] (error_kind (parse.Incomplete 1))
unfolding number128_at tag_number_at identifier_by number256_at long_at length_at header_by
no_octets Ber = in_header (parse.Incomplete 1) refl
no_octets Cer = in_header (parse.Incomplete 1) refl
no_octets Der = in_header (parse.Incomplete 1) refl

no_length : (rule : Codec) → FailsOnlyAs errors_of_bool rule (1 ∷ []) (error_kind (parse.Incomplete 1))
unfolding number128_at tag_number_at identifier_by number256_at long_at length_at header_by
no_length Ber = in_header (parse.Incomplete 1) refl
no_length Cer = in_header (parse.Incomplete 1) refl
no_length Der = in_header (parse.Incomplete 1) refl

three_missing : (rule : Codec) → FailsOnlyAs errors_of_bool rule (1 ∷ 4 ∷ 0 ∷ []) (error_kind (parse.Incomplete 3))
unfolding number128_at tag_number_at identifier_by number256_at long_at length_at header_by
three_missing Ber = in_header (parse.Incomplete 3) refl
three_missing Cer = in_header (parse.Incomplete 3) refl
three_missing Der = in_header (parse.Incomplete 3) refl

another_tag : (rule : Codec) → FailsOnlyAs errors_of_bool rule (2 ∷ 1 ∷ 255 ∷ []) (error_kind (parse.MismatchedTag (in_universal 1) (in_universal 2)))
unfolding number128_at tag_number_at identifier_by number256_at long_at length_at header_by
another_tag Ber = in_header (parse.MismatchedTag (in_universal 1) (in_universal 2)) refl
another_tag Cer = in_header (parse.MismatchedTag (in_universal 1) (in_universal 2)) refl
another_tag Der = in_header (parse.MismatchedTag (in_universal 1) (in_universal 2)) refl

two_octets : (rule : Codec) → FailsOnlyAs errors_of_bool rule (1 ∷ 2 ∷ 0 ∷ 0 ∷ []) (error_kind (parse.MismatchedLength 1 2))
unfolding number128_at tag_number_at identifier_by number256_at long_at length_at header_by
two_octets Ber = in_contents (1 ∷ 2 ∷ 0 ∷ 0 ∷ []) (0 ∷ 0 ∷ []) [] (parse.MismatchedLength 1 2) refl refl refl
two_octets Cer = in_contents (1 ∷ 2 ∷ 0 ∷ 0 ∷ []) (0 ∷ 0 ∷ []) [] (parse.MismatchedLength 1 2) refl refl refl
two_octets Der = in_contents (1 ∷ 2 ∷ 0 ∷ 0 ∷ []) (0 ∷ 0 ∷ []) [] (parse.MismatchedLength 1 2) refl refl refl

neither_octet : FailsOnlyAs errors_of_bool Der (1 ∷ 1 ∷ 5 ∷ []) (error_kind (parse.InvalidBool 5))
unfolding number128_at tag_number_at identifier_by number256_at long_at length_at header_by
neither_octet = in_contents (1 ∷ 1 ∷ 5 ∷ []) (5 ∷ []) [] (parse.InvalidBool 5) refl refl refl

neither_before : FailsOnlyAs errors_of_bool Der (1 ∷ 1 ∷ 5 ∷ 0 ∷ 0 ∷ []) (error_kind (parse.InvalidBool 5))
unfolding number128_at tag_number_at identifier_by number256_at long_at length_at header_by
neither_before = in_contents (1 ∷ 1 ∷ 5 ∷ []) (5 ∷ []) (0 ∷ 0 ∷ []) (parse.InvalidBool 5) refl refl refl

any_octet : (e : DecodeError) → FailsFirst errors_of_bool Ber (1 ∷ 1 ∷ 5 ∷ []) e → ⊥
unfolding number128_at tag_number_at identifier_by number256_at long_at length_at header_by
any_octet = none (5 ∷ []) [] true refl refl

true_read : (rule : Codec) → (e : DecodeError) → FailsFirst errors_of_bool rule (1 ∷ 1 ∷ 255 ∷ 0 ∷ 0 ∷ []) e → ⊥
unfolding number128_at tag_number_at identifier_by number256_at long_at length_at header_by
true_read Ber = none (255 ∷ []) (0 ∷ 0 ∷ []) true refl refl
true_read Cer = none (255 ∷ []) (0 ∷ 0 ∷ []) true refl refl
true_read Der = none (255 ∷ []) (0 ∷ 0 ∷ []) true refl refl

-- Octets follow a value, and nothing else is the error.
followed : (rule : Codec) → FailsAloneOnlyAs errors_of_bool rule (1 ∷ 1 ∷ 255 ∷ 0 ∷ 0 ∷ []) (UnexpectedExtraData 2)
followed rule e = (forth, λ h. inr (record { t = number (pos 1); rest = 0 ∷ 0 ∷ []; read = true_alone rule; extra = record { some = λ z. cc; told = h } }))
  where
    forth : FailsAlone errors_of_bool rule (plain boolean 1) (1 ∷ 1 ∷ 255 ∷ 0 ∷ 0 ∷ []) e → e ≡ record { kind = UnexpectedExtraData 2; codec = rule }
    forth (inl u) = absurd (true_read rule e u.fails)
    forth (inr f) = subst (λ l. e ≡ record { kind = UnexpectedExtraData (length l); codec = rule }) (sym (f.read.1 (number (pos 1)) (0 ∷ 0 ∷ []) (true_first rule)).1) f.extra.told

five_refused : IsRefusedBy Der (plain boolean 1) (1 ∷ 1 ∷ 5 ∷ 0 ∷ 0 ∷ [])
unfolding Reads parts_of
five_refused t rest ((bit, contents, frame, (z, e, h), s), w) =
    let o = frame_one _ (short {spelling = der_form} 1 false (5 ∷ []) (0 ∷ 0 ∷ []) (omega arith) (omega arith) (omega arith)) frame in
    let f : definite (5 ∷ []) ≡ definite contents = o.extent in
    let g : 5 ∷ [] ≡ contents = cc in
    neither contents z g h
  where
    neither : (l : List ℕ) (z : ℤ) → 5 ∷ [] ≡ l → IsBool Der l z → ⊥
    neither l z e (inl h) = let k : ◌≡◌ {A = List ℕ} (5 ∷ []) (0 ∷ []) = e ∙ h.0 in cc
    neither l z e (inr h) = let k : ◌≡◌ {A = List ℕ} (5 ∷ []) (255 ∷ []) = e ∙ h.0 in cc

-- A value that can't be read is refused for itself, also if octets follow it.
refused_before : FailsAloneOnlyAs errors_of_bool Der (1 ∷ 1 ∷ 5 ∷ 0 ∷ 0 ∷ []) (InvalidBool 5)
refused_before e = (forth, λ h. inl (record { unread = subst (λ (x : DecodeError). Exact (Reads Der (plain boolean 1) 128 (top Der)) (1 ∷ 1 ∷ 5 ∷ 0 ∷ 0 ∷ []) (refusal x.kind)) (sym h) five_refused; fails = (neither_before e).1 h }))
  where
    forth : FailsAlone errors_of_bool Der (plain boolean 1) (1 ∷ 1 ∷ 5 ∷ 0 ∷ 0 ∷ []) e → e ≡ record { kind = InvalidBool 5; codec = Der }
    forth (inl u) = (neither_before e).0 u.fails
    forth (inr f) = absurd (five_refused f.t f.rest f.read.0)

pub worked : WorkedRefusals errors_of_bool
worked = record {
  no_octets = no_octets;
  no_length = no_length;
  three_missing = three_missing;
  another_tag = another_tag;
  two_octets = two_octets;
  neither_octet = neither_octet;
  any_octet = any_octet;
  followed = followed;
  refused_before = refused_before;
}
