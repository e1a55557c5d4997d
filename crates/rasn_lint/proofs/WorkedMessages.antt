-- The octets of a BOOLEAN, worked out by hand.
use Rattle.std.specs.Prelude.{MatchOption}
use Rattle.std.proofs.Common.{◌≡◌, inl, inr, ℕ, ℤ, pos, List, [], ◌∷◌, Bool, true, false, Option, Some, None, Result, Err, Vec, Global, refl, sym, ap, ◌∙◌, subst, arith}
use Rattle.rasn_types.specs.declared.types.codec.Codec.TheVariants.{Ber, Der}
use Rattle.rasn_types.specs.declared.types.tag.Tag.{Tag}
use Rattle.rasn_types.specs.declared.error.decode.DecodeError.{DecodeError}
use Rattle.rasn_types.specs.declared.error.decode.DerDecodeErrorKind.TheVariants.{NonMinimalLength}
use Rattle.rasn_types.specs.Bytes.{Bytes, fields_of}
use Rattle.rasn_types.specs.Contents.{IsBool}
use Rattle.rasn_types.specs.Framing.{Extent, Frame, with_length, definite, NextTag}
use Rattle.rasn_types.specs.Grammar.{Reads, parts_of}
use Rattle.rasn_types.specs.Shapes.{Tree, number, numbers, boolean, Same}
use Rattle.rasn_types.specs.Tags.{basic_form, der_form, in_universal}
use Rattle.rasn_types.proofs.Headers.Frames.{frame_one, next_one}
use Rattle.rasn_de.specs.declared.ber.de.parser.ParseError.{ParseError}
use Rattle.rasn_de.specs.declared.ber.de.parser.ParseError.TheVariants.{Der as DerFault}
use Rattle.rasn_de.specs.Causes.{error_kind}
use Rattle.rasn_de.specs.Constructed.{sequence_header, constructed_header_at}
use Rattle.rasn_de.specs.Headers.{Header, header_by, identifier_by, tag_number_at, length_at, long_at, number256_at}
use Rattle.rasn_de.proofs.Headers.Fronts.{frame_shorter}
use Rattle.rasn_schema.specs.declared.types.NamedNumber.{NamedNumber}
use Rattle.rasn_schema.specs.Shapes.{shape_of_type}
use Rattle.rasn_dynamic.specs.Entry.{shape_of}
use Rattle.rasn.specs.WorkedShapes.{plain}
use Rattle.rasn.proofs.ReadBack.Headers.{no_eoc, short, short_written}
use Rattle.rasn.proofs.Worked.StrictLeaves.{long_length}
use Rattle.rasn_lint.specs.Header.{IsOfLength, IsLengthFault, ReadsHeader}
use Rattle.rasn_lint.specs.Leaf.{IsMended}
use Rattle.rasn_lint.specs.Lint.{IsDer, IsLint}
use Rattle.rasn_lint.specs.Place.{der_error, IsValue}
use Rattle.rasn_lint.specs.declared.by_schema.OpenTypes.TheVariants.{Unexamined}
use Rattle.rasn_lint.specs.declared.departure.Departure.{Departure}
use Rattle.rasn_lint.specs.declared.leaf.Segments.TheVariants.{Whole}
use Rattle.rasn_lint.proofs.WorkedList.{one_listed}
use Rattle.rasn_lint.specs.WorkedMessages.{a_boolean, short_true, long_true, WorkedMessages}

-- ---- readings

shape_is : (names : Vec NamedNumber Global) → shape_of (a_boolean names) 0 ≡ plain boolean 1
unfolding shape_of_type
shape_is names = refl

true_by_der : Reads Der (plain boolean 1) 128 false short_true (number (pos 1)) []
unfolding Reads parts_of
true_by_der = ((false, 255 ∷ [], short 1 false (255 ∷ []) [] (omega arith) (omega arith) (omega arith), (pos 1, refl, inr (refl, refl)), λ s. (refl, tt)), tt)

read : (names : Vec NamedNumber Global) → IsDer (a_boolean names) 0 short_true
read names = (number (pos 1), subst (λ s. Reads Der s 128 false short_true (number (pos 1)) []) (sym (shape_is names)) true_by_der)

not_read : (names : Vec NamedNumber Global) → IsDer (a_boolean names) 0 long_true → ⊥
not_read names (t, r) = long_length.1 t [] (subst (λ s. Reads Der s 128 false long_true t []) (shape_is names) r)

long_read : (names : Vec NamedNumber Global) → IsValue (a_boolean names) 0 long_true (number (pos 1))
long_read names = subst (λ s. Reads Ber s 128 true long_true (number (pos 1)) []) (sym (shape_is names)) long_length.0

-- An octet follows the value, so there is no list.
true_followed : Reads Ber (plain boolean 1) 128 true (1 ∷ 1 ∷ 255 ∷ 0 ∷ []) (number (pos 1)) (0 ∷ [])
unfolding Reads parts_of
true_followed = ((false, 255 ∷ [], short 1 false (255 ∷ []) (0 ∷ []) (omega arith) (omega arith) (omega arith), (pos 1, refl, (255, refl, inr ((λ e. cc), refl))), λ s. (refl, tt)), tt)

one_follows : (names : Vec NamedNumber Global) (ds : List Departure) → IsLint Unexamined (a_boolean names) 0 (1 ∷ 1 ∷ 255 ∷ 0 ∷ []) ds → ⊥
one_follows names ds l =
    let read = l.are_parts.listed.reads.exact in
    let one = read.1 (number (pos 1)) (0 ∷ []) (subst (λ s. Reads Ber s 128 true (1 ∷ 1 ∷ 255 ∷ 0 ∷ []) (number (pos 1)) (0 ∷ [])) (sym (shape_is names)) true_followed) in
    let rest : ◌≡◌ {A = List ℕ} (0 ∷ []) [] = one.1 ∙ l.whole in
    cc

long_frame : Frame basic_form long_true (in_universal 1) false [] (definite (255 ∷ []))
long_frame = with_length (1 ∷ []) (129 ∷ 1 ∷ []) (255 ∷ []) (record { spells = record { low = 1; leading = refl; number = inl (omega arith, refl, refl) }; is_one = no_eoc 1 (omega arith) })
    (inr (refl, omega arith, omega arith, refl, omega arith)) (λ s. absurd s) refl

not_zero : (l : List ℕ) (z : ℤ) → 255 ∷ [] ≡ l → IsBool Ber l z → z ≡ pos 1
not_zero l z e (b, q, inl (n, p)) = let k : ◌≡◌ {A = List ℕ} (255 ∷ []) (0 ∷ []) = e ∙ (q ∙ ap (λ x. x ∷ []) n) in cc
not_zero l z e (b, q, inr (n, p)) = p

only_true : (t : Tree) → Reads Ber (plain boolean 1) 128 true long_true t [] → t ≡ number (pos 1)
unfolding Reads parts_of
only_true t ((bit, contents, frame, (z, e, h), s), w) =
    let o = frame_one _ long_frame frame in
    let f : definite (255 ∷ []) ≡ definite contents = o.extent in
    let g : 255 ∷ [] ≡ contents = cc in
    e ∙ ap (λ x. number x) (not_zero contents z g h)

not_false : (names : Vec NamedNumber Global) (t : Tree) → IsValue (a_boolean names) 0 long_true t → Same t (number (pos 0)) → ⊥
not_false names t r s =
    let e = only_true t (subst (λ x. Reads Ber x 128 true long_true t []) (shape_is names) r) in
    let k : number (pos 0) ≡ number (pos 1) = subst (λ x. Same x (number (pos 0))) e s in
    cc

-- ---- lengths

computed : constructed_header_at (sequence_header (in_universal 1)) Der 128 long_true ≡ Err (DerFault NonMinimalLength, long_true)
unfolding header_by identifier_by tag_number_at length_at long_at number256_at
computed = refl

long_next : NextTag der_form long_true (in_universal 1)
long_next = record {
  begins = record { id = 1 ∷ []; bit = false; more = 129 ∷ 1 ∷ 255 ∷ []; spells = record { low = 1; leading = refl; number = inl (omega arith, refl, refl) }; is = refl };
  is_one = no_eoc 1 (omega arith);
  shortest = λ s. tt;
}

long : IsLengthFault long_true (Some (der_error NonMinimalLength))
long = inl (in_universal 1, long_next, ((DerFault NonMinimalLength, long_true, computed, refl), inl refl))

same_fault : (f : ParseError) (rest : List ℕ) → constructed_header_at (sequence_header (in_universal 1)) Der 128 long_true ≡ Err (f, rest) → f ≡ DerFault NonMinimalLength
same_fault f rest p =
    let q : ◌≡◌ {A = Result Header (ParseError × List ℕ)} (Err (DerFault NonMinimalLength, long_true)) (Err (f, rest)) = sym computed ∙ p in
    let k : ◌≡◌ {A = ParseError × List ℕ} (DerFault NonMinimalLength, long_true) (f, rest) = cc in
    sym (ap (λ (x : ParseError × List ℕ). x.0) k)

of_length : (r : Option DecodeError) → ReadsHeader (in_universal 1) long_true r → MatchOption r (Unit {0}) (λ e. IsOfLength e → ⊥) → ⊥
of_length None (h, p) n = let k = sym computed ∙ p in cc
of_length (Some e) (f, rest, p, q) n = n (inl (ap (λ (x : DecodeError). x.kind) q ∙ ap error_kind (same_fault f rest p)))

long_is_seen : IsLengthFault long_true None → ⊥
long_is_seen (inl (t, next, (refused, reads, n))) = of_length refused (subst (λ z. ReadsHeader z long_true refused) (next_one long_true t (in_universal 1) next long_next) reads) n
long_is_seen (inr (none, h)) = none (in_universal 1) long_next

-- ---- contents after a header of DER

mended : IsMended Whole (in_universal 1) long_true short_true
unfolding Reads parts_of Bytes fields_of
mended = (
  numbers (255 ∷ []),
  [],
  (false, 255 ∷ [], refl, (λ s. absurd s), inl long_frame),
  (tt, (255 ∷ [], refl, inl ((λ c. omega arith), 255 ∷ [], (refl, (omega arith, tt)), short_written 1 false (255 ∷ []) (omega arith) (omega arith)))),
)

no_frame : {tag : Tag} {bit : Bool} {rest : List ℕ} {extent : Extent} → Frame basic_form [] tag bit rest extent → ⊥
no_frame f = let n = frame_shorter f in omega (arith, n)

nothing_to_mend : (octets : List ℕ) → IsMended Whole (in_universal 1) [] octets → ⊥
unfolding Reads parts_of
nothing_to_mend octets (t, rest, (bit, contents, e, s, inl f), b) = no_frame f
nothing_to_mend octets (t, rest, (bit, contents, e, s, inr (body, f, c, q)), b) = no_frame f

pub worked_messages : (names : Vec NamedNumber Global) → WorkedMessages names
worked_messages names = record {
  read = read names;
  not_read = not_read names;
  long = long;
  long_is_seen = long_is_seen;
  mended = mended;
  nothing_to_mend = nothing_to_mend;
  default = (number (pos 1), long_read names, refl, refl);
  default_is_seen = λ h. h (number (pos 1)) (long_read names) refl;
  not_the_default = not_false names;
  one_listed = λ ps e d a o. one_listed names (shape_is names) (not_read names) true_by_der long mended ps e d a o;
  listed = λ l. not_read names (l.clean.0 refl).0;
  one_follows = one_follows names;
  not_listed = λ ds l. l.clean.1 (read names, tt);
  none_first = (read names, tt);
  one_is_first = λ h. not_read names h.0;
  not_one = λ d h. h.0 (read names);
}
