-- Values whose contents octets are read at once and kept as octets: REAL and times.
use Rattle.std.proofs.Common.{◌≡◌, ◌≢◌, ℕ, Bool, List, Result, Ok, Err, refl, sym, ap, ◌∙◌, subst}
use Rattle.rasn_types.specs.declared.types.codec.Codec.{Codec}
use Rattle.rasn_types.specs.declared.types.codec.Codec.TheVariants.{Ber, Cer, Der}
use Rattle.rasn_types.specs.declared.types.tag.Tag.{Tag}
use Rattle.rasn_types.specs.declared.types.constraints.Constraints.{Constraints}
use Rattle.rasn_types.specs.declared.error.decode.DecodeError.{DecodeError}
use Rattle.rasn_types.specs.declared.error.decode.DecodeErrorKind.{DecodeErrorKind}
use Rattle.rasn_types.specs.Errors.{IsOutOfMemory}
use Rattle.rasn_types.specs.Framing.{AreOctets}
use Rattle.rasn_types.specs.Tags.{IsStrict, IsCanonical, in_universal}
use Rattle.rasn_types.specs.Shapes.{Tree, numbers, Kind, leaf, real, time_text, time_digits, object_identifier}
use Rattle.rasn_types.specs.Trees.{unconstrained}
use Rattle.rasn_types.specs.Contents.{IsShortest, Contents, CanonicalReal, IsReal, IsTimeText, AreTimeDigits}
use Rattle.rasn_types.specs.Grammar.{Reads}
use Rattle.rasn_types.proofs.Reals.{canonical_one, canonical_contents}
use Rattle.rasn_de.specs.declared.ber.de.parser.ParseError.TheVariants.{StringConversionFailed}
use Rattle.rasn_de.specs.Causes.{Cause, fault}
use Rattle.rasn_de.specs.Leaves.{LeafAt, FailsAs, DecodesLeaf, definite_at}
use Rattle.rasn_de.specs.State.{State, at}
use Rattle.rasn_de.specs.Steps.{IsErrorOf}
use Rattle.rasn_de.specs.Outcomes.{Outcome, Exact, Got, refusal}
use Rattle.rasn_de.specs.Decodes.{DecodesBy, DecodesExactly}
use Rattle.rasn_de.proofs.Leaves.Errors.{leaf_refused, contents_refused, contents_read}
use Rattle.rasn_de.proofs.Leaves.Outcomes.{Agrees, plain_agrees, decoded_answers, definite_end, alloc_failed}
use Rattle.rasn_schema.specs.declared.types.LeafKind.{LeafKind}
use Rattle.rasn_schema.specs.declared.types.LeafKind.TheVariants.{Boolean, Null, ObjectIdentifier, BitString, NamedBits, OctetString, FixedOctetString, Integer, Signed32, Signed64, Unsigned32, Unsigned64, Numeric, Printable, Visible, Ia5, AnyOctets, Bmp, Utf8, UtcTime, GeneralizedTime, Date, Universal, RelativeOid, Real, Time, Duration, TimeOfDay, DateTime}
use Rattle.rasn_schema.specs.Reals.{IsRealOctets, IsCanonicalReal}
use Rattle.rasn_schema.specs.Shapes.{kind_of}
use Rattle.rasn_schema.specs.Fitting.{OctetsFit}
use Rattle.rasn_dynamic.specs.LeafErrors.{ContentsIn, IsAnyReal, contents_errors}

-- What octets mean, under these rules.
abbrev Meaning : Type 1
Meaning = Codec → List ℕ → List ℕ → Type 0

-- Octets that mean themselves, where they are such.
abbrev pub Themselves : (List ℕ → Type 0) → Meaning
Themselves Are rule c x = Are c × (x ≡ c)

-- The contents octets mean these, or they mean nothing of the type whose universal tag has this number.
abbrev pub ByMeaning : (List ℕ → List ℕ → Type 0) → ℕ → List ℕ → Result (List ℕ) Cause → Type 0
ByMeaning Means number c (Ok x) = Means c x
ByMeaning Means number c (Err e) = ((x : List ℕ) → Means c x → ⊥) × (e ≡ fault (StringConversionFailed (in_universal number)))

-- What a reading by the meaning says is what the grammar says of a kind.
abbrev pub AgreesBy : Kind → Meaning → Type 0
AgreesBy kind Means = (number : ℕ) (rule : Codec) (tag : Tag) (depth : ℕ) (closing : Bool) (l : List ℕ) → AreOctets l → (r : Result (List ℕ × List ℕ) (Cause × List ℕ))
    → LeafAt (ByMeaning (Means rule) number) rule tag l r → Agrees (Reads rule (leaf kind tag unconstrained) depth closing) numbers l r

-- ---- REAL

real_found : (number : ℕ) (rule : Codec) (c x : List ℕ) → AreOctets c → ByMeaning (IsReal rule) number c (Ok x) → Contents rule real c (numbers x) × (IsStrict rule → IsShortest real c) × Unit {0}
real_found number rule c x o h = ((x, refl, h), (λ s. tt), tt)

real_only : (number : ℕ) (rule : Codec) (c x : List ℕ) (t : Tree) → AreOctets c → ByMeaning (IsReal rule) number c (Ok x) → Contents rule real c t → Unit {0} → t ≡ numbers x
real_only number rule c x t o h (y, e, k) u = e ∙ ap numbers (canonical_one c y x k.0 h.0 k.1 h.1 k.2 h.2)

real_none : (number : ℕ) (rule : Codec) (c : List ℕ) (e : Cause) (t : Tree) → AreOctets c → ByMeaning (IsReal rule) number c (Err e) → Contents rule real c t → (IsStrict rule → IsShortest real c) → Unit {0} → ⊥
real_none number rule c e t o h (y, q, k) s u = h.0 y k

pub real_agrees : AgreesBy real IsReal
unfolding Reads
real_agrees number rule tag depth closing l o r a =
    plain_agrees rule tag l o real depth (λ t. Unit {0}) numbers (ByMeaning (IsReal rule) number) (real_found number rule) (real_only number rule) (real_none number rule) r a

-- Canonical octets mean themselves.
pub canonical_meant : (rule : Codec) (c : List ℕ) → IsCanonicalReal c → IsReal rule c c
canonical_meant rule c h = (h.0, h.1, h.2, λ k. refl)

-- Under canonical rules no others mean anything.
pub only_canonical : (rule : Codec) (c x : List ℕ) → IsCanonical rule → IsReal rule c x → IsCanonicalReal c
only_canonical rule c x k h = (h.0, h.1, subst (λ l. CanonicalReal l h.0) (sym (h.3 k)) h.2)

-- What canonical rules have is canonical.
pub is_canonical : (c x : List ℕ) → IsRealOctets c x → IsCanonicalReal x
is_canonical c x h = (h.0, canonical_contents h.0 x h.2, h.2)

module _ (old new : State) (rule : Codec) (stays : new ≡ at old new.rest) (same : rule ≡ new.rule) where
  rule_before : rule ≡ old.rule
  rule_before = same ∙ ap (λ (s : State). s.rule) stays

  -- Other rules than BER are canonical.
  pub not_ber : rule ≢ Ber → IsCanonical old.rule
  not_ber n = go old.rule (λ e. n (rule_before ∙ e))
    where
      go : (r : Codec) → r ≢ Ber → IsCanonical r
      go Ber m = absurd (m refl)
      go Cer m = tt
      go Der m = tt

  pub under_ber : rule ≡ Ber → (c x : List ℕ) → IsRealOctets c x → IsReal old.rule c x
  under_ber e c x h = subst (λ r. IsReal r c x) (sym e ∙ rule_before) h

  pub only_under_ber : rule ≡ Ber → (c x : List ℕ) → IsReal old.rule c x → IsRealOctets c x
  only_under_ber e c x h = subst (λ r. IsReal r c x) (sym rule_before ∙ e) h

-- ---- times

text_found : (number : ℕ) (rule : Codec) (c x : List ℕ) → AreOctets c → ByMeaning (Themselves IsTimeText rule) number c (Ok x) → Contents rule time_text c (numbers x) × (IsStrict rule → IsShortest time_text c) × Unit {0}
text_found number rule c x o h = ((ap numbers h.1, h.0), (λ s. tt), tt)

text_only : (number : ℕ) (rule : Codec) (c x : List ℕ) (t : Tree) → AreOctets c → ByMeaning (Themselves IsTimeText rule) number c (Ok x) → Contents rule time_text c t → Unit {0} → t ≡ numbers x
text_only number rule c x t o h k u = k.0 ∙ ap numbers (sym h.1)

text_none : (number : ℕ) (rule : Codec) (c : List ℕ) (e : Cause) (t : Tree) → AreOctets c → ByMeaning (Themselves IsTimeText rule) number c (Err e) → Contents rule time_text c t → (IsStrict rule → IsShortest time_text c) → Unit {0} → ⊥
text_none number rule c e t o h k s u = h.0 c (k.1, refl)

pub text_agrees : AgreesBy time_text (Themselves IsTimeText)
unfolding Reads
text_agrees number rule tag depth closing l o r a =
    plain_agrees rule tag l o time_text depth (λ t. Unit {0}) numbers (ByMeaning (Themselves IsTimeText rule) number) (text_found number rule) (text_only number rule) (text_none number rule) r a

module _ (n : ℕ) where
  digits_found : (number : ℕ) (rule : Codec) (c x : List ℕ) → AreOctets c → ByMeaning (Themselves (AreTimeDigits n) rule) number c (Ok x) → Contents rule (time_digits n) c (numbers x) × (IsStrict rule → IsShortest (time_digits n) c) × Unit {0}
  digits_found number rule c x o h = ((ap numbers h.1, h.0), (λ s. tt), tt)

  digits_only : (number : ℕ) (rule : Codec) (c x : List ℕ) (t : Tree) → AreOctets c → ByMeaning (Themselves (AreTimeDigits n) rule) number c (Ok x) → Contents rule (time_digits n) c t → Unit {0} → t ≡ numbers x
  digits_only number rule c x t o h k u = k.0 ∙ ap numbers (sym h.1)

  digits_none : (number : ℕ) (rule : Codec) (c : List ℕ) (e : Cause) (t : Tree) → AreOctets c → ByMeaning (Themselves (AreTimeDigits n) rule) number c (Err e) → Contents rule (time_digits n) c t → (IsStrict rule → IsShortest (time_digits n) c) → Unit {0} → ⊥
  digits_none number rule c e t o h k s u = h.0 c (k.1, refl)

  pub digits_agree : AgreesBy (time_digits n) (Themselves (AreTimeDigits n))
  unfolding Reads
  digits_agree number rule tag depth closing l o r a =
      plain_agrees rule tag l o (time_digits n) depth (λ t. Unit {0}) numbers (ByMeaning (Themselves (AreTimeDigits n) rule) number) (digits_found number rule) (digits_only number rule) (digits_none number rule) r a

-- ---- what a call does that reads such contents

module _ (kind : Kind) (Means : Meaning) (agrees : AgreesBy kind Means) (tag : Tag) (old new : State) (o : AreOctets old.rest) where
  abbrev ReadsKind : Codec → ℕ → Bool → List ℕ → Tree → List ℕ → Type 0
  ReadsKind rule = Reads rule (leaf kind tag unconstrained)

  by_meaning : (number : ℕ) (r : Result (List ℕ) DecodeError) → DecodesLeaf (λ x. x) (LeafAt (ByMeaning (Means old.rule) number) old.rule tag old.rest) old r new → DecodesBy ReadsKind numbers old r new
  by_meaning number r d =
      decoded_answers ReadsKind numbers (λ x. x) (LeafAt (ByMeaning (Means old.rule) number) old.rule tag old.rest) old new r (agrees number old.rule tag old.depth old.closing old.rest o) d

  -- There are no contents.
  pub contents_unread : (e : DecodeError) → FailsAs (λ r. definite_at old.rule tag old.rest ≡ r) old e new → DecodesExactly ReadsKind old (refusal e.kind) new
  contents_unread e f = by_meaning 0 (Err e) (leaf_refused (ByMeaning (Means old.rule) 0) tag old new e f)

  module _ (c : List ℕ) (there : definite_at old.rule tag old.rest ≡ Ok (c, new.rest)) (stays : new ≡ at old new.rest) where
    pub contents_got : (x : List ℕ) → Means old.rule c x → DecodesExactly ReadsKind old (Got (numbers x) new.rest) new
    contents_got x m = by_meaning 0 (Ok x) (contents_read (λ x. x) (ByMeaning (Means old.rule) 0) tag old new c x there m stays)

    pub contents_meaningless : (number : ℕ) (e : DecodeError) → ((x : List ℕ) → Means old.rule c x → ⊥) → IsErrorOf (StringConversionFailed (in_universal number)) new e → DecodesExactly ReadsKind old (refusal e.kind) new
    contents_meaningless number e none k =
        by_meaning number (Err e) (contents_refused (ByMeaning (Means old.rule) number) tag old new c (StringConversionFailed (in_universal number)) e there (none, refl) stays k)

    pub contents_unkept : (e : DecodeError) → IsOutOfMemory e.kind → DecodesExactly ReadsKind old (refusal e.kind) new
    contents_unkept e m = alloc_failed {X = List ℕ} ReadsKind numbers old new e m stays (definite_end old.rule tag old.rest o c new.rest there)

-- ---- errors

module _ (Are : Codec → List ℕ → Type 0) (number : ℕ) (tag : Tag) (old new : State) (e : DecodeError) where
  pub fails_unread : FailsAs (λ r. definite_at old.rule tag old.rest ≡ r) old e new → contents_errors Are number tag old e new
  fails_unread f = leaf_refused (ContentsIn (Are old.rule) number) tag old new e f

  pub fails_meaningless : (c : List ℕ) → definite_at old.rule tag old.rest ≡ Ok (c, new.rest) → new ≡ at old new.rest → (Are old.rule c → ⊥) → IsErrorOf (StringConversionFailed (in_universal number)) new e → contents_errors Are number tag old e new
  fails_meaningless c there stays none k = contents_refused (ContentsIn (Are old.rule) number) tag old new c (StringConversionFailed (in_universal number)) e there (none, refl) stays k

-- ---- kinds

-- Octets that are the text of a time fit a kind with such texts.
pub text_fits : (kind : LeafKind) (l : List ℕ) → kind_of kind ≡ time_text → IsTimeText l → OctetsFit kind l
text_fits Time l e h = h
text_fits Duration l e h = h
text_fits _ l e h = absurd cc

pub digits_fit : (kind : LeafKind) (n : ℕ) (l : List ℕ) → kind_of kind ≡ time_digits n → AreTimeDigits n l → OctetsFit kind l
digits_fit TimeOfDay n l e h = let same : 6 ≡ n = cc in subst (λ m. AreTimeDigits m l) (sym same) h
digits_fit DateTime n l e h = let same : 14 ≡ n = cc in subst (λ m. AreTimeDigits m l) (sym same) h
digits_fit _ n l e h = absurd cc

-- ---- constraints

-- No constraint bounds such values.
pub unbounded : (kind : Kind) (tag : Tag) (c : Constraints) (old new : State) (o : Outcome) → ((rule : Codec) (depth : ℕ) (closing : Bool) → Exact (Reads rule (leaf kind tag unconstrained) depth closing) old.rest o → Exact (Reads rule (leaf kind tag c) depth closing) old.rest o)
    → DecodesExactly (λ rule. Reads rule (leaf kind tag unconstrained)) old o new → DecodesExactly (λ rule. Reads rule (leaf kind tag c)) old o new
unbounded kind tag c old new o f d = record { stays = d.stays; end = d.end; exact = f old.rule old.depth old.closing d.exact }

pub real_unbounded : (tag : Tag) (c : Constraints) (old new : State) (o : Outcome) → DecodesExactly (λ rule. Reads rule (leaf real tag unconstrained)) old o new → DecodesExactly (λ rule. Reads rule (leaf real tag c)) old o new
unfolding Reads
real_unbounded tag c old new o d = unbounded real tag c old new o (λ rule depth closing x. x) d

pub text_unbounded : (tag : Tag) (c : Constraints) (old new : State) (o : Outcome) → DecodesExactly (λ rule. Reads rule (leaf time_text tag unconstrained)) old o new → DecodesExactly (λ rule. Reads rule (leaf time_text tag c)) old o new
unfolding Reads
text_unbounded tag c old new o d = unbounded time_text tag c old new o (λ rule depth closing x. x) d

pub digits_unbounded : (n : ℕ) (tag : Tag) (c : Constraints) (old new : State) (o : Outcome) → DecodesExactly (λ rule. Reads rule (leaf (time_digits n) tag unconstrained)) old o new → DecodesExactly (λ rule. Reads rule (leaf (time_digits n) tag c)) old o new
unfolding Reads
digits_unbounded n tag c old new o d = unbounded (time_digits n) tag c old new o (λ rule depth closing x. x) d
