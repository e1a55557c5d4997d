-- Octets that were worked out by hand are refused as a SET and as a CHOICE of a BOOLEAN and a NULL, or aren't.
use Rattle.std.proofs.Common.{◌≡◌, ◌≢◌, ◌<◌, ◌≤◌, ℕ, Bool, inl, inr, List, [], ◌∷◌, true, false, pos, Ok, Err, refl, sym, ap, subst, arith}
use lib.Utf8.{encode}
use Rattle.std.proofs.lemmas.Option.{same_Some}
use Rattle.rasn_types.specs.Tags.{form, in_universal, IsTagBelow}
use Rattle.rasn_types.specs.Order.{AreAscending}
use Rattle.rasn_types.specs.declared.types.codec.Codec.TheVariants.{Der}
use Rattle.rasn_types.specs.declared.types.tag.Tag.{Tag}
use Rattle.rasn_types.specs.declared.error.decode.DecodeErrorKind.{DecodeErrorKind}
use Rattle.rasn_types.specs.declared.error.decode.DecodeErrorKind.TheVariants.{NoValidChoice, MissingField, DuplicateField, OutOfMemory}
use Rattle.rasn_types.specs.declared.error.decode.DerDecodeErrorKind.TheVariants.{SetComponentsOutOfOrder}
use Rattle.rasn_types.specs.Errors.{IsOutOfMemory}
use Rattle.rasn_types.specs.Framing.{AreOctets, definite, NextTag, Ended}
use Rattle.rasn_types.specs.Shapes.{Tree, number, items, chosen, leaf, null, choice, seq, part, required}
use Rattle.rasn_types.specs.Shapes.Parts.{none}
use Rattle.rasn_types.specs.Grammar.{Reads}
use Rattle.rasn_types.specs.Readings.{NoneOf, OneOf, AreInTagOrder}
use Rattle.rasn_types.specs.Trees.{unconstrained, bool_tree}
use Rattle.rasn_types.proofs.Headers.Frames.{frame_next}
use Rattle.rasn_de.specs.declared.ber.de.parser.ParseError.TheVariants as parse
use Rattle.rasn_de.specs.Headers.{Header, number128_at, tag_number_at, identifier_by, number256_at, long_at, length_at, header_by}
use Rattle.rasn_de.specs.Causes.{fault, error_kind}
use Rattle.rasn_de.specs.State.{State, Call, IsEnd, at}
use Rattle.rasn_de.specs.Decodes.{Decodes}
use Rattle.rasn_de.specs.Leaves.{FromContents, definite_at, as_cause, bool_in, BoolAt, FailsAs}
use Rattle.rasn_de.specs.Enumerated.{NullIn}
use Rattle.rasn_de.specs.SequenceOf.{DecodesInTurnFrom}
use Rattle.rasn_de.specs.Constructed.{sequence_header, constructed_header_at, inside}
use Rattle.rasn_de.specs.Set.{falls}
use Rattle.rasn_de.specs.SetPartTypes.{DecodesOneOf, AreOnce, RepeatsFirst, DecodesNamedContents, DecodesNamedParts, set_by}
use Rattle.rasn_de.specs.PartTypes.{DecodesSequenceParts}
use Rattle.rasn_de.specs.Choice.{IsOnlyAlternative}
use Rattle.rasn_de.proofs.Headers.Tags.{tags_one}
use Rattle.rasn_de.proofs.Leaves.Boolean.{bool_ensured}
use Rattle.rasn_de.proofs.Leaves.Null.{null_ensured}
use Rattle.rasn_de.proofs.OwnTypes.Alternatives.{alternative_got}
use Rattle.rasn_de.proofs.OwnTypes.Parts.{no_parts, part_got}
use Rattle.rasn.specs.Headline.{front}
use Rattle.rasn.specs.OneRefusal.{IsName, ReadsShape, HaveOwnTags}
use Rattle.rasn.specs.WorkedKinds.{IsRefusedWith, IsNotRefused}
use Rattle.rasn.specs.WorkedWholes.{a_boolean, two, two_errors, sequence_errors, errors_by_tag, set_errors, choice_errors, IsRefusedByName}
use Rattle.rasn_de.specs.NamedErrors.{IsNoValidChoice, IsMissingField, IsDuplicateField}
use Rattle.rasn.proofs.OneRefusal.Alternatives.{choice_exact}
use Rattle.rasn.proofs.OneRefusal.Calls.{not_both, refused_none}
use Rattle.rasn.proofs.OneRefusal.Parts.{sequence_exact}
use Rattle.rasn.proofs.OneRefusal.Sets.{set_exact}
use Rattle.rasn.proofs.OneRefusal.SettledAlternatives.{named}
use Rattle.rasn.proofs.ReadBack.Headers.{short}

-- The header of a value whose contents and rest are these.
abbrev pub held : Tag → List ℕ → List ℕ → Header
held tag contents rest = record { tag = tag; bit = true; extent = definite contents; rest = rest }

-- The decoder inside a value with these contents, before the last of them.
abbrev pub within : List ℕ → List ℕ → State
within contents l = record { rule = Der; depth = 127; closing = false; whole = contents; rest = l }

abbrev itself : Tree → Tree
itself t = t

one_isnt_five : in_universal 1 ≡ in_universal 5 → ⊥
one_isnt_five e = let v = ap (λ (x : Tag). x.value) e in cc

five_isnt_one : in_universal 5 ≡ in_universal 1 → ⊥
five_isnt_one e = let v = ap (λ (x : Tag). x.value) e in cc

one_boolean : IsOnlyAlternative two 0 required a_boolean (in_universal 1)
one_boolean = (refl, refl, refl, λ h. elim h [ inl e ↦ one_isnt_five e | inr n ↦ n ])

one_null : IsOnlyAlternative two 1 required (leaf null (in_universal 5) unconstrained) (in_universal 5)
one_null = (five_isnt_one, (refl, refl, refl, λ n. n))

boolean_next : (b : ℕ) (l : List ℕ) → NextTag (form Der) (1 ∷ 1 ∷ b ∷ l) (in_universal 1)
boolean_next b l = frame_next (short {spelling = form Der} 1 false (b ∷ []) l (omega arith) (omega arith) (omega arith))

null_next : (l : List ℕ) → NextTag (form Der) (5 ∷ 0 ∷ l) (in_universal 5)
null_next l = frame_next (short {spelling = form Der} 5 false [] l (omega arith) (omega arith) (omega arith))

boolean_read : (whole l after : List ℕ) (octet : ℕ) (b : Bool) → AreOctets l → definite_at Der (in_universal 1) l ≡ Ok (octet ∷ [], after) → bool_in Der (octet ∷ []) ≡ Ok b → Decodes a_boolean itself (within whole l) (Ok (bool_tree b)) (within whole after)
boolean_read whole l after octet b o e r =
    (bool_ensured (in_universal 1) (within whole l) (within whole after) (Ok b) o (subst (λ d. FromContents (λ c r. as_cause (bool_in Der c) ≡ r) d (Ok (b, after))) (sym e) (ap as_cause r, refl), refl)).reads

null_read : (whole l after : List ℕ) → AreOctets l → definite_at Der (in_universal 5) l ≡ Ok ([], after) → Decodes (leaf null (in_universal 5) unconstrained) itself (within whole l) (Ok (number (pos 0))) (within whole after)
null_read whole l after o e =
    (null_ensured (in_universal 5) (within whole l) (within whole after) (Ok tt) o (subst (λ d. FromContents NullIn d (Ok (tt, after))) (sym e) (refl, refl), refl)).reads

-- TRUE alone, TRUE and FALSE before NULL, NULL before TRUE, and TRUE before NULL.
abbrev alone : List ℕ
alone = 1 ∷ 1 ∷ 255 ∷ []

abbrev nothing : List ℕ
nothing = 5 ∷ 0 ∷ []

abbrev untrue : List ℕ
untrue = 1 ∷ 1 ∷ 0 ∷ 5 ∷ 0 ∷ []

abbrev thrice : List ℕ
thrice = 1 ∷ 1 ∷ 255 ∷ 1 ∷ 1 ∷ 0 ∷ 5 ∷ 0 ∷ []

abbrev turned : List ℕ
turned = 5 ∷ 0 ∷ 1 ∷ 1 ∷ 255 ∷ []

abbrev both : List ℕ
both = 1 ∷ 1 ∷ 255 ∷ 5 ∷ 0 ∷ []

nothing_octets : AreOctets nothing
nothing_octets = (omega arith, (omega arith, tt))

both_octets : AreOctets both
both_octets = (omega arith, (omega arith, (omega arith, nothing_octets)))

untrue_octets : AreOctets untrue
untrue_octets = (omega arith, (omega arith, (omega arith, nothing_octets)))

true_alone : Decodes a_boolean itself (within alone alone) (Ok (number (pos 1))) (within alone [])
unfolding number128_at tag_number_at identifier_by number256_at long_at length_at header_by
true_alone = boolean_read alone alone [] 255 true (omega arith, (omega arith, (omega arith, tt))) refl refl

true_of_three : Decodes a_boolean itself (within thrice thrice) (Ok (number (pos 1))) (within thrice untrue)
unfolding number128_at tag_number_at identifier_by number256_at long_at length_at header_by
true_of_three = boolean_read thrice thrice untrue 255 true (omega arith, (omega arith, (omega arith, untrue_octets))) refl refl

false_of_three : Decodes a_boolean itself (within thrice untrue) (Ok (number (pos 0))) (within thrice nothing)
unfolding number128_at tag_number_at identifier_by number256_at long_at length_at header_by
false_of_three = boolean_read thrice untrue nothing 0 false untrue_octets refl refl

null_of : (whole : List ℕ) → Decodes (leaf null (in_universal 5) unconstrained) itself (within whole nothing) (Ok (number (pos 0))) (within whole [])
unfolding number128_at tag_number_at identifier_by number256_at long_at length_at header_by
null_of whole = null_read whole nothing [] nothing_octets refl

null_turned : Decodes (leaf null (in_universal 5) unconstrained) itself (within turned turned) (Ok (number (pos 0))) (within turned alone)
unfolding number128_at tag_number_at identifier_by number256_at long_at length_at header_by
null_turned = null_read turned turned alone (omega arith, (omega arith, (omega arith, (omega arith, (omega arith, tt))))) refl

true_of_two : Decodes a_boolean itself (within both both) (Ok (number (pos 1))) (within both nothing)
unfolding number128_at tag_number_at identifier_by number256_at long_at length_at header_by
true_of_two = boolean_read both both nothing 255 true both_octets refl refl

-- As components.
abbrev One : Call Tree
One = DecodesOneOf false two (83 ∷ []) errors_by_tag

boolean_chosen : (whole l after : List ℕ) (t : Tree) → NextTag (form Der) l (in_universal 1) → Decodes a_boolean itself (within whole l) (Ok t) (within whole after) → One (within whole l) (Ok (chosen 0 t)) (within whole after)
boolean_chosen whole l after t n a = (alternative_got two 0 required a_boolean (in_universal 1) n one_boolean a, tt)

null_chosen : (whole l after : List ℕ) (t : Tree) → NextTag (form Der) l (in_universal 5) → Decodes (leaf null (in_universal 5) unconstrained) itself (within whole l) (Ok t) (within whole after) → One (within whole l) (Ok (chosen 1 t)) (within whole after)
null_chosen whole l after t n a = (alternative_got two 1 required (leaf null (in_universal 5) unconstrained) (in_universal 5) n one_null a, tt)

pub goes_on : (x : ℕ) (l : List ℕ) → Ended false (x ∷ l) → ⊥
goes_on x l (inl e) = cc
goes_on x l (inr (e, more, f)) = cc

unequal : (m n : ℕ) → m < n → m ≢ n
unequal m n h e = omega (arith, h, e)

not_below : (m n : ℕ) → n ≤ m → IsTagBelow (in_universal m) (in_universal n) → ⊥
not_below m n h (inl k) = omega (arith, k)
not_below m n h (inr k) = omega (arith, h, k.1)

abbrev Turn : List ℕ → List Tree → List (List ℕ) → List ℕ → Type 0
Turn whole vs bs l = DecodesInTurnFrom One (within whole whole) vs bs (within whole l)

alone_read : Turn alone (chosen 0 (number (pos 1)) ∷ []) (alone ∷ []) []
alone_read = (alone, [], within alone [], refl, refl, goes_on 1 (1 ∷ 255 ∷ []), boolean_chosen alone alone [] (number (pos 1)) (boolean_next 255 []) true_alone, unequal 0 3 (omega arith), (refl, refl))

three_read : Turn thrice (chosen 0 (number (pos 1)) ∷ chosen 0 (number (pos 0)) ∷ chosen 1 (number (pos 0)) ∷ []) (alone ∷ (1 ∷ 1 ∷ 0 ∷ []) ∷ nothing ∷ []) []
three_read = (
  alone,
  (1 ∷ 1 ∷ 0 ∷ []) ∷ nothing ∷ [],
  within thrice untrue,
  refl,
  refl,
  goes_on 1 (1 ∷ 255 ∷ untrue),
  boolean_chosen thrice thrice untrue (number (pos 1)) (boolean_next 255 untrue) true_of_three,
  unequal 5 8 (omega arith),
  (
    1 ∷ 1 ∷ 0 ∷ [],
    nothing ∷ [],
    within thrice nothing,
    refl,
    refl,
    goes_on 1 (1 ∷ 0 ∷ nothing),
    boolean_chosen thrice untrue nothing (number (pos 0)) (boolean_next 0 nothing) false_of_three,
    unequal 2 5 (omega arith),
    (
      nothing,
      [],
      within thrice [],
      refl,
      refl,
      goes_on 5 (0 ∷ []),
      null_chosen thrice nothing [] (number (pos 0)) (null_next []) (null_of thrice),
      unequal 0 2 (omega arith),
      (refl, refl),
    ),
  ),
)

null_first : Turn turned (chosen 1 (number (pos 0)) ∷ []) (nothing ∷ []) alone
null_first =
    (nothing, [], within turned alone, refl, refl, goes_on 5 (0 ∷ alone), null_chosen turned turned alone (number (pos 0)) (null_next alone) null_turned, unequal 3 5 (omega arith), (refl, refl))

two_read : Turn both (chosen 0 (number (pos 1)) ∷ chosen 1 (number (pos 0)) ∷ []) (alone ∷ nothing ∷ []) []
two_read = (
  alone,
  nothing ∷ [],
  within both nothing,
  refl,
  refl,
  goes_on 1 (1 ∷ 255 ∷ nothing),
  boolean_chosen both both nothing (number (pos 1)) (boolean_next 255 nothing) true_of_two,
  unequal 2 5 (omega arith),
  (nothing, [], within both [], refl, refl, goes_on 5 (0 ∷ []), null_chosen both nothing [] (number (pos 0)) (null_next []) (null_of both), unequal 0 2 (omega arith), (refl, refl)),
)

-- What is read of each part.
once_read : OneOf 0 (number (pos 1)) (chosen 0 (number (pos 1)) ∷ [])
once_read = record { before = []; after = []; is = refl; none_before = tt; none_after = tt }

no_null : NoneOf 1 (chosen 0 (number (pos 1)) ∷ [])
no_null = (λ u e. cc, tt)

one_part : AreOnce 0 (required ∷ required ∷ []) (chosen 0 (number (pos 1)) ∷ [])
one_part = (inr (number (pos 1), once_read), (inl no_null, tt))

-- a, b and C are names.
are_names : IsName (97 ∷ []) × IsName (98 ∷ []) × IsName (67 ∷ [])
unfolding encode
are_names = (((97 ∷ [], (refl, refl)), omega arith), ((98 ∷ [], (refl, refl)), omega arith), ((67 ∷ [], (refl, refl)), omega arith))

abbrev names : List (List ℕ)
names = (97 ∷ []) ∷ (98 ∷ []) ∷ []

abbrev Contents : Call Tree
Contents = DecodesNamedContents false two itself (83 ∷ []) names errors_by_tag

-- A SET whose contents are refused.
set_refused : (input contents rest : List ℕ) (kind : DecodeErrorKind) (left : State) → constructed_header_at (sequence_header (in_universal 17)) Der 128 input ≡ Ok (held (in_universal 17) contents rest) → IsEnd input rest
    → Contents (within contents contents) (Err (record { kind = kind; codec = Der })) left → (IsOutOfMemory kind → ⊥) → IsRefusedWith set_errors Der input kind rest
set_refused input contents rest kind left opened end a n = ((record { stays = refl; end = end }, inside (held (in_universal 17) contents rest) opened left a refl), n)

pub component_missing : IsRefusedByName set_errors IsMissingField (98 ∷ []) (49 ∷ 3 ∷ 1 ∷ 1 ∷ 255 ∷ 9 ∷ []) (9 ∷ [])
unfolding number128_at tag_number_at identifier_by number256_at long_at length_at header_by
component_missing =
    let kind = MissingField (named (98 ∷ []) are_names.1) in (
      kind,
      refl,
      set_refused (49 ∷ 3 ∷ 1 ∷ 1 ∷ 255 ∷ 9 ∷ []) alone (9 ∷ []) kind (within alone []) refl (49 ∷ 3 ∷ alone, refl) (inr (
        chosen 0 (number (pos 1)) ∷ [],
        (alone ∷ [], (alone_read, λ s. (in_universal 1 ∷ [], (in_universal 1, [], refl, (boolean_next 255 []).begins, refl), tt)), inl refl),
        (inr (inr (one_part, (1, ((λ e n. n.0 (number (pos 1)) refl), (refl, no_null)), (refl, inl refl)))), λ w. (let n : kind ≡ OutOfMemory → ⊥ = λ x. cc in absurd (n w))),
      )) (λ w. cc),
    )

pub component_twice : IsRefusedByName set_errors IsDuplicateField (97 ∷ []) (49 ∷ 8 ∷ 1 ∷ 1 ∷ 255 ∷ 1 ∷ 1 ∷ 0 ∷ 5 ∷ 0 ∷ 9 ∷ []) (9 ∷ [])
unfolding number128_at tag_number_at identifier_by number256_at long_at length_at header_by
component_twice =
    let kind = DuplicateField (named (97 ∷ []) are_names.0) in
    let repeats : RepeatsFirst two 0 (chosen 0 (number (pos 1)) ∷ chosen 0 (number (pos 0)) ∷ chosen 1 (number (pos 0)) ∷ []) =
    record { before = chosen 0 (number (pos 1)) ∷ []; value = number (pos 0); after = chosen 1 (number (pos 0)) ∷ []; is = refl; once = one_part; is_part = tt; read = (number (pos 1), once_read) } in (
      kind,
      refl,
      set_refused (49 ∷ 8 ∷ 1 ∷ 1 ∷ 255 ∷ 1 ∷ 1 ∷ 0 ∷ 5 ∷ 0 ∷ 9 ∷ []) thrice (9 ∷ []) kind (within thrice []) refl (49 ∷ 8 ∷ thrice, refl) (inr (
        chosen 0 (number (pos 1)) ∷ chosen 0 (number (pos 0)) ∷ chosen 1 (number (pos 0)) ∷ [],
        (
          alone ∷ (1 ∷ 1 ∷ 0 ∷ []) ∷ nothing ∷ [],
          (
            three_read,
            λ s. (
              in_universal 1 ∷ in_universal 1 ∷ in_universal 5 ∷ [],
              (in_universal 1, in_universal 1 ∷ in_universal 5 ∷ [], refl, (boolean_next 255 []).begins, (in_universal 1, in_universal 5 ∷ [], refl, (boolean_next 0 []).begins, (in_universal 5, [], refl, (null_next []).begins, refl))),
              (not_below 1 1 (omega arith), (not_below 5 1 (omega arith), tt)),
            ),
          ),
          inl refl,
        ),
        (inr (inl (0, repeats, (refl, inl refl))), λ w. inl (0, repeats)),
      )) (λ w. cc),
    )

turned_out_of_order : AreInTagOrder (nothing ∷ alone ∷ []) → ⊥
turned_out_of_order (tags, each, up) =
    let same = tags_one (nothing ∷ alone ∷ []) tags (in_universal 5 ∷ in_universal 1 ∷ []) each (in_universal 5, in_universal 1 ∷ [], refl, (null_next []).begins, (in_universal 1, [], refl, (boolean_next 255 []).begins, refl)) in
    (subst (AreAscending IsTagBelow) same up).0 (inr (refl, omega arith))

pub components_fall : IsRefusedWith set_errors Der (49 ∷ 5 ∷ 5 ∷ 0 ∷ 1 ∷ 1 ∷ 255 ∷ 9 ∷ []) (error_kind (parse.Der SetComponentsOutOfOrder)) (9 ∷ [])
unfolding number128_at tag_number_at identifier_by number256_at long_at length_at header_by
components_fall =
    set_refused (49 ∷ 5 ∷ 5 ∷ 0 ∷ 1 ∷ 1 ∷ 255 ∷ 9 ∷ []) turned (9 ∷ []) (error_kind (parse.Der SetComponentsOutOfOrder)) (within turned alone) refl (49 ∷ 5 ∷ turned, refl) (inl (
      chosen 1 (number (pos 0)) ∷ [],
      nothing ∷ [],
      within turned alone,
      (null_first, λ s. (in_universal 5 ∷ [], (in_universal 5, [], refl, (null_next []).begins, refl), tt)),
      goes_on 1 (1 ∷ 255 ∷ []),
      falls tt (in_universal 1) (boolean_next 255 []) turned_out_of_order refl refl,
    )) (λ w. cc)

-- A SET and a SEQUENCE that are read.
abbrev set_tree : Tree
set_tree = items (number (pos 1) ∷ number (pos 0) ∷ [])

set_contents : Contents (within both both) (Ok set_tree) (within both [])
set_contents = (
  chosen 0 (number (pos 1)) ∷ chosen 1 (number (pos 0)) ∷ [],
  (
    alone ∷ nothing ∷ [],
    (
      two_read,
      λ s. (
        in_universal 1 ∷ in_universal 5 ∷ [],
        (in_universal 1, in_universal 5 ∷ [], refl, (boolean_next 255 []).begins, (in_universal 5, [], refl, (null_next []).begins, refl)),
        (not_below 5 1 (omega arith), tt),
      ),
    ),
    inl refl,
  ),
  (
    (
      number (pos 1) ∷ number (pos 0) ∷ [],
      [],
      (refl, refl),
      (
        number (pos 1),
        number (pos 0) ∷ [],
        refl,
        inl (record { before = []; after = chosen 1 (number (pos 0)) ∷ []; is = refl; none_before = tt; none_after = (λ u e. cc, tt) }),
        (number (pos 0), [], refl, inl (record { before = chosen 0 (number (pos 1)) ∷ []; after = []; is = refl; none_before = (λ u e. cc, tt); none_after = tt }), refl),
      ),
      inr ((λ u e. cc), inr ((λ u e. cc), refl)),
    ),
    tt,
  ),
)

set_there : DecodesNamedParts false two itself (83 ∷ []) names errors_by_tag (in_universal 17) (front Der (49 ∷ 5 ∷ 1 ∷ 1 ∷ 255 ∷ 5 ∷ 0 ∷ 9 ∷ [])) (Ok set_tree) (at (front Der (49 ∷ 5 ∷ 1 ∷ 1 ∷ 255 ∷ 5 ∷ 0 ∷ 9 ∷ [])) (9 ∷ []))
unfolding number128_at tag_number_at identifier_by number256_at long_at length_at header_by
set_there = (record { stays = refl; end = (49 ∷ 5 ∷ both, refl) }, record { header = held (in_universal 17) both (9 ∷ []); opened = refl; left = within both []; call = set_contents; closed = refl })

whole_octets : (n : ℕ) → n < 256 → AreOctets (n ∷ 5 ∷ 1 ∷ 1 ∷ 255 ∷ 5 ∷ 0 ∷ 9 ∷ [])
whole_octets n h = (h, (omega arith, (omega arith, (omega arith, (omega arith, (omega arith, (omega arith, (omega arith, tt))))))))

pub components_read : IsNotRefused set_errors Der (49 ∷ 5 ∷ 1 ∷ 1 ∷ 255 ∷ 5 ∷ 0 ∷ 9 ∷ [])
components_read e new (a, n) =
    not_both (DecodesNamedParts false two itself (83 ∷ []) names errors_by_tag (in_universal 17)) (ReadsShape (set_by false (in_universal 17) two)) itself (set_exact false two (83 ∷ []) errors_by_tag itself names (in_universal 17))
    (front Der (49 ∷ 5 ∷ 1 ∷ 1 ∷ 255 ∷ 5 ∷ 0 ∷ 9 ∷ [])) (whole_octets 49 (omega arith)) set_tree e _ new set_there a n

sequence_there : DecodesSequenceParts two itself two_errors (in_universal 16) (front Der (48 ∷ 5 ∷ 1 ∷ 1 ∷ 255 ∷ 5 ∷ 0 ∷ 9 ∷ [])) (Ok set_tree) (at (front Der (48 ∷ 5 ∷ 1 ∷ 1 ∷ 255 ∷ 5 ∷ 0 ∷ 9 ∷ [])) (9 ∷ []))
unfolding number128_at tag_number_at identifier_by number256_at long_at length_at header_by
sequence_there = (
  record { stays = refl; end = (48 ∷ 5 ∷ both, refl) },
  record {
    header = held (in_universal 16) both (9 ∷ []);
    opened = refl;
    left = within both [];
    call = part_got required a_boolean (part required (leaf null (in_universal 5) unconstrained) none) true_of_two (part_got required (leaf null (in_universal 5) unconstrained) none (null_of both) no_parts);
    closed = refl;
  },
)

pub parts_read : IsNotRefused sequence_errors Der (48 ∷ 5 ∷ 1 ∷ 1 ∷ 255 ∷ 5 ∷ 0 ∷ 9 ∷ [])
parts_read e new (a, n) =
    not_both (DecodesSequenceParts two itself two_errors (in_universal 16)) (ReadsShape (seq (in_universal 16) two)) itself (sequence_exact two itself two_errors refl (in_universal 16))
    (front Der (48 ∷ 5 ∷ 1 ∷ 1 ∷ 255 ∷ 5 ∷ 0 ∷ 9 ∷ [])) (whole_octets 48 (omega arith)) set_tree e _ new sequence_there a n

-- A CHOICE.
two_isnt : (n : ℕ) → (2 ≡ n → ⊥) → in_universal 2 ≡ in_universal n → ⊥
two_isnt n h e = h (ap (λ (x : Tag). x.value) e)

pub no_alternative : IsRefusedByName choice_errors IsNoValidChoice (67 ∷ []) (2 ∷ 1 ∷ 5 ∷ 9 ∷ []) (2 ∷ 1 ∷ 5 ∷ 9 ∷ [])
no_alternative =
    let kind = NoValidChoice (named (67 ∷ []) are_names.2) in
    let next : NextTag (form Der) (2 ∷ 1 ∷ 5 ∷ 9 ∷ []) (in_universal 2) = frame_next (short {spelling = form Der} 2 false (5 ∷ []) (9 ∷ []) (omega arith) (omega arith) (omega arith)) in
    let one = two_isnt 1 (λ e. cc) in
    let five = two_isnt 5 (λ e. cc) in (
      kind,
      refl,
      (
        (
          inr (in_universal 2, next, inr ((λ e. one (sym (same_Some _ _ e))), inr ((λ e. five (sym (same_Some _ _ e))), ((refl, inl refl), refl)))),
          inr (in_universal 2, next, inr (one, inr (five, tt))),
        ),
        λ w. cc,
      ),
    )

five_refused : FailsAs (BoolAt Der (in_universal 1) (1 ∷ 1 ∷ 5 ∷ 9 ∷ [])) (front Der (1 ∷ 1 ∷ 5 ∷ 9 ∷ [])) (record { kind = error_kind (parse.InvalidBool 5); codec = Der }) (at (front Der (1 ∷ 1 ∷ 5 ∷ 9 ∷ [])) (9 ∷ []))
unfolding number128_at tag_number_at identifier_by number256_at long_at length_at header_by
five_refused = (fault (parse.InvalidBool 5), (refl, refl), refl, refl, refl)

pub alternative_refused : IsRefusedWith choice_errors Der (1 ∷ 1 ∷ 5 ∷ 9 ∷ []) (error_kind (parse.InvalidBool 5)) (9 ∷ [])
alternative_refused =
    let old = front Der (1 ∷ 1 ∷ 5 ∷ 9 ∷ []) in
    let unread = (bool_ensured (in_universal 1) old (at old (9 ∷ [])) (Err (record { kind = error_kind (parse.InvalidBool 5); codec = Der })) (omega arith, (omega arith, (omega arith, (omega arith, tt)))) five_refused).reads in
    ((inr (in_universal 1, boolean_next 5 (9 ∷ []), inl (refl, unread)), inr (in_universal 1, boolean_next 5 (9 ∷ []), inl (refl, five_refused))), λ w. cc)

null_there : Decodes (leaf null (in_universal 5) unconstrained) itself (front Der (5 ∷ 0 ∷ 9 ∷ [])) (Ok (number (pos 0))) (at (front Der (5 ∷ 0 ∷ 9 ∷ [])) (9 ∷ []))
unfolding number128_at tag_number_at identifier_by number256_at long_at length_at header_by
null_there =
    let old = front Der (5 ∷ 0 ∷ 9 ∷ []) in
    (null_ensured (in_universal 5) old (at old (9 ∷ [])) (Ok tt) (omega arith, (omega arith, (omega arith, tt))) ((refl, refl), refl)).reads

pub own_tags : HaveOwnTags two
own_tags = (refl, (in_universal 1, refl, λ h. elim h [ inl e ↦ one_isnt_five e | inr n ↦ n ]), (refl, (in_universal 5, refl, λ n. n), tt))

pub alternative_read : IsNotRefused choice_errors Der (5 ∷ 0 ∷ 9 ∷ [])
alternative_read e new (a, n) =
    let old = front Der (5 ∷ 0 ∷ 9 ∷ []) in
    let read = alternative_got two 1 required (leaf null (in_universal 5) unconstrained) (in_universal 5) (null_next (9 ∷ [])) one_null null_there in
    refused_none e.kind (Reads Der (choice two) old.depth old.closing) old.rest n (choice_exact false two itself (67 ∷ []) errors_by_tag own_tags old (omega arith, (omega arith, (omega arith, tt))) e new a).exact (chosen 1 (number (pos 0))) (9 ∷ []) read.exact.0
