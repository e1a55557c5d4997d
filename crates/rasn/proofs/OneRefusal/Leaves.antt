-- Leaves that are read at once are refused in one way.
use Rattle.std.proofs.Common.{◌≡◌, ℕ, ◌+◌, ◌*◌, ◌^◌, ◌<◌, ℤ, inl, inr, List, [], ◌∷◌, ◌++◌, length, Bool, true, false, Result, Ok, Err, refl, sym, ap, ap₂, ◌∙◌, subst, arith, append_assoc}
use Rattle.std.proofs.lemmas.Bool.Decides.{nat_tests}
use Rattle.rasn_types.specs.declared.types.codec.Codec.{Codec}
use Rattle.rasn_types.specs.declared.types.tag.Tag.{Tag}
use Rattle.rasn_types.specs.declared.types.constraints.Constraints.{Constraints}
use Rattle.rasn_types.specs.declared.types.constraints.Bounded.{Bounded}
use Rattle.rasn_types.specs.declared.error.decode.DecodeError.{DecodeError}
use Rattle.rasn_types.specs.declared.error.decode.DecodeErrorKind.{DecodeErrorKind}
use Rattle.rasn_types.specs.declared.error.decode.DecodeErrorKind.TheVariants.{OutOfMemory, ValueConstraintNotSatisfied}
use Rattle.rasn_types.specs.Errors.{IsOutOfMemory}
use Rattle.rasn_types.specs.declared.types.codec.Codec.TheVariants.{Ber, Cer, Der}
use Rattle.rasn_types.specs.Framing.{AreOctets, IsChain, Spells128, number_in}
use Rattle.rasn_types.specs.Tags.{IsStrict}
use Rattle.rasn_types.specs.Numbered.{fit_isize}
use Rattle.rasn_types.specs.Shapes.{Tree, Interval, leaf, boolean, null, integer, enumerated, object_identifier, number}
use Rattle.rasn_types.specs.Trees.{unconstrained}
use Rattle.rasn_types.specs.Contents.{Contents, signed, Arcs, ShortArcs, IsShortest, IsShortest128}
use Rattle.rasn_types.specs.Grammar.{Reads}
use Rattle.rasn_types.proofs.Enumerated.Range.{fits-isize}
use Rattle.rasn_de.specs.declared.ber.de.parser.ParseError.{ParseError}
use Rattle.rasn_de.specs.declared.ber.de.parser.ParseError.TheVariants.{UnsupportedObjectIdentifierArc}
use Rattle.rasn_de.specs.Headers.{number128_at, is_padded}
use Rattle.rasn_de.specs.Decodes.{DecodesBy}
use Rattle.rasn_de.proofs.Headers.Numbers.{number128_spelled}
use Rattle.rasn_de.proofs.Leaves.Outcomes.{decoded_answers, plain_agrees}
use Rattle.rasn_de.specs.Causes.{Cause, fault, out_of_bound, HasCause}
use Rattle.rasn_de.specs.State.{State, at}
use Rattle.rasn_de.specs.ValueErrors.{errors_of, integer_errors}
use Rattle.rasn_de.specs.Leaves.{Readings, FromContents, definite_at, LeafAt, as_cause, bool_in, BoolAt, IsIntegerContents, IsNotIntegerContents, IntegerIn, IntegerAt, FailsAs, DecodesLeaf}
use Rattle.rasn_de.specs.Enumerated.{EnumeratedIn, EnumeratedAt, NullIn, NullAt}
use Rattle.rasn_de.specs.ObjectIdentifier.{arc_at, ObjectIdentifierIn, ObjectIdentifierAt, DecodesObjectIdentifier}
use Rattle.rasn_de.proofs.Leaves.Boolean.{bool_ensured}
use Rattle.rasn_de.proofs.Leaves.Null.{null_ensured}
use Rattle.rasn_de.proofs.Leaves.Integer.{integer_ensured}
use Rattle.rasn_de.proofs.Leaves.ObjectIdentifier.{object_decodes}
use Rattle.rasn.specs.OneRefusal.{ReportsBound, IsSameKind, equal, same_bound, IsSameError, ReadsShape, IsRefusedOnce, AreApart}
use Rattle.rasn.proofs.OneRefusal.Calls.{exactly_apart}

pub reports : (z : ℤ) (bound : Bounded ℤ) (k : DecodeErrorKind) → (IsOutOfMemory k → ⊥) → HasCause (out_of_bound z bound) k → ReportsBound z bound k
reports z bound (ValueConstraintNotSatisfied value expected) n h = h
reports z bound OutOfMemory n h = absurd (n refl)
reports z bound _ n h = h

-- One cause has one kind of error.
pub one_cause : (cause : Cause) (k l : DecodeErrorKind) → (IsOutOfMemory k → ⊥) → (IsOutOfMemory l → ⊥) → HasCause cause k → HasCause cause l → IsSameKind k l
one_cause (fault f) k l m n h i = equal (h ∙ sym i)
one_cause (out_of_bound z bound) k l m n h i = same_bound z bound (reports z bound k m h) (reports z bound l n i)

-- A reading that fails for one cause, and leaves one rest.
abbrev pub FailsOnce : {Y : Type 0} → Readings Y → Type 0
FailsOnce Is = (p q : Cause × List ℕ) → Is (Err p) → Is (Err q) → p ≡ q

pub fails_once : {Y : Type 0} (Is : Readings Y) → FailsOnce Is → (old : State) (e f : DecodeError) (new other : State) → (IsOutOfMemory e.kind → ⊥) → (IsOutOfMemory f.kind → ⊥)
    → FailsAs Is old e new → FailsAs Is old f other → IsSameError e f × (new ≡ other)
fails_once Is one old e f new other m n (c, a, h, r, s) (d, b, i, q, t) =
    let p = one (c, new.rest) (d, other.rest) a b in
    let cause : c ≡ d = ap (λ (x : Cause × List ℕ). x.0) p in
    let rest : new.rest ≡ other.rest = ap (λ (x : Cause × List ℕ). x.1) p in
    ((one_cause d e.kind f.kind m n (subst (λ x. HasCause x e.kind) cause h) i, r ∙ sym q), s ∙ (ap (at old) rest ∙ sym t))

abbrev pub OneFault : {X : Type 0} → (List ℕ → Result X Cause → Type 0) → Type 0
OneFault read = (c : List ℕ) (a b : Cause) → read c (Err a) → read c (Err b) → a ≡ b

contents_once : {X : Type 0} (read : List ℕ → Result X Cause → Type 0) → OneFault read → (d : Result (List ℕ × List ℕ) (Cause × List ℕ)) → FailsOnce {Y = X} (FromContents read d)
contents_once read one (Ok x) p q (a, e) (b, f) = ap₂ (λ (u : Cause) (v : List ℕ). (u, v)) (one x.0 p.0 q.0 a b) (e ∙ sym f)
contents_once {X} read one (Err x) p q a b = let y : p ≡ x = cc in let z : q ≡ x = cc in y ∙ sym z

pub leaf_once : {X : Type 0} (read : List ℕ → Result X Cause → Type 0) → OneFault read → (rule : Codec) (tag : Tag) (l : List ℕ) → FailsOnce {Y = X} (LeafAt read rule tag l)
leaf_once read one rule tag l = contents_once read one (definite_at rule tag l)

-- BOOLEAN and NULL.
bool_once : (rule : Codec) → OneFault {X = Bool} (λ c r. as_cause (bool_in rule c) ≡ r)
bool_once rule c a b p q = let z : ◌≡◌ {A = Result Bool Cause} (Err a) (Err b) = sym p ∙ q in cc

pub boolean_apart : (tag : Tag) → AreApart (λ old. FailsAs (BoolAt old.rule tag old.rest) old) (ReadsShape (leaf boolean tag unconstrained))
boolean_apart tag = exactly_apart _ (ReadsShape (leaf boolean tag unconstrained)) (λ old o e new a. (bool_ensured tag old new (Err e) o a).reads)
    (λ old o e f new other a b. fails_once (BoolAt old.rule tag old.rest) (leaf_once (λ c r. as_cause (bool_in old.rule c) ≡ r) (bool_once old.rule) old.rule tag old.rest) old e f new other a.1 b.1 a.0 b.0)

null_once : OneFault {X = Unit {0}} NullIn
null_once c a b (m, p) (n, q) = p ∙ sym q

pub null_apart : (tag : Tag) → AreApart (λ old. FailsAs (NullAt old.rule tag old.rest) old) (ReadsShape (leaf null tag unconstrained))
null_apart tag = exactly_apart _ (ReadsShape (leaf null tag unconstrained)) (λ old o e new a. (null_ensured tag old new (Err e) o a).reads)
    (λ old o e f new other a b. fails_once (NullAt old.rule tag old.rest) (leaf_once NullIn null_once old.rule tag old.rest) old e f new other a.1 b.1 a.0 b.0)

-- INTEGER.
pub not_number : (rule : Codec) (c : List ℕ) (f : ParseError) → IsNotIntegerContents rule c f → IsIntegerContents rule c → ⊥
not_number rule c f (inl (e, g)) (n, s) = n e
not_number rule c f (inr (m, strict, h, g)) (n, s) = h (s strict)

pub no_number_once : (rule : Codec) (c : List ℕ) (f g : ParseError) → IsNotIntegerContents rule c f → IsNotIntegerContents rule c g → f ≡ g
no_number_once rule c f g (inl (e, p)) (inl (d, q)) = p ∙ sym q
no_number_once rule c f g (inl (e, p)) (inr (n, strict, h, q)) = absurd (n e)
no_number_once rule c f g (inr (n, strict, h, p)) (inl (e, q)) = absurd (n e)
no_number_once rule c f g (inr (n, strict, h, p)) (inr (m, s, i, q)) = p ∙ sym q

module _ (width : ℕ) (range : Interval) (bounds : Constraints) where
  integer_once : (rule : Codec) → OneFault (IntegerIn rule width range bounds)
  integer_once rule c (fault f) (fault g) (inl h) (inl k) = ap fault (no_number_once rule c f g h k)
  integer_once rule c (fault f) (fault g) (inl h) (inr k) = absurd (not_number rule c f h k.0)
  integer_once rule c (fault f) (fault g) (inr h) (inl k) = absurd (not_number rule c g k h.0)
  integer_once rule c (fault f) (fault g) (inr h) (inr k) = ap fault (h.2 ∙ sym k.2)
  integer_once rule c (fault f) (out_of_bound y d) (inl h) k = absurd (not_number rule c f h k.0)
  integer_once rule c (fault f) (out_of_bound y d) (inr h) k = absurd (h.1 k.1)
  integer_once rule c (out_of_bound z b) (fault g) h (inl k) = absurd (not_number rule c g k h.0)
  integer_once rule c (out_of_bound z b) (fault g) h (inr k) = absurd (k.1 h.1)
  integer_once rule c (out_of_bound z b) (out_of_bound y d) h k = ap₂ out_of_bound (h.3 ∙ sym k.3) (h.4 ∙ sym k.4)

  pub integer_apart : (Takes : ℤ → Type 0) (tag : Tag) → AreApart (integer_errors Takes width range tag bounds) (ReadsShape (leaf (integer range) tag bounds))
  integer_apart Takes tag = exactly_apart _ (ReadsShape (leaf (integer range) tag bounds)) (λ old o e new a. (integer_ensured width range bounds (λ (z : ℤ). z) Takes tag old new (Err e) o a).reads) one
    where
      one : IsRefusedOnce (integer_errors Takes width range tag bounds)
      one old o e f new other (inl a, m) b = absurd (m a.0)
      one old o e f new other (inr a, m) (inl b, n) = absurd (n b.0)
      one old o e f new other (inr a, m) (inr b, n) =
          fails_once (IntegerAt width range bounds old.rule tag old.rest) (leaf_once (IntegerIn old.rule width range bounds) (integer_once old.rule) old.rule tag old.rest) old e f new other m n a b

-- ENUMERATED.
module _ (known : List ℤ) where
  pub enumerated_once : (rule : Codec) → OneFault (EnumeratedIn rule known)
  enumerated_once rule c (fault f) (fault g) (inl h) (inl k) = ap fault (no_number_once rule c f g h k)
  enumerated_once rule c (fault f) (fault g) (inl h) (inr (inl k)) = absurd (not_number rule c f h k.0)
  enumerated_once rule c (fault f) (fault g) (inl h) (inr (inr k)) = absurd (not_number rule c f h k.0)
  enumerated_once rule c (fault f) (fault g) (inr (inl h)) (inl k) = absurd (not_number rule c g k h.0)
  enumerated_once rule c (fault f) (fault g) (inr (inr h)) (inl k) = absurd (not_number rule c g k h.0)
  enumerated_once rule c (fault f) (fault g) (inr (inl h)) (inr (inl k)) = ap fault (h.2 ∙ sym k.2)
  enumerated_once rule c (fault f) (fault g) (inr (inl h)) (inr (inr k)) = absurd (h.1 k.1)
  enumerated_once rule c (fault f) (fault g) (inr (inr h)) (inr (inl k)) = absurd (k.1 h.1)
  enumerated_once rule c (fault f) (fault g) (inr (inr h)) (inr (inr k)) = ap fault (h.3 ∙ sym k.3)
  enumerated_once rule c (fault f) (out_of_bound z b) h k = absurd k
  enumerated_once rule c (out_of_bound z b) q h k = absurd h

  enumerated_found : (rule : Codec) (c : List ℕ) (z : ℤ) → AreOctets c → EnumeratedIn rule known c (Ok z) → Contents rule (enumerated known) c (number z) × (IsStrict rule → IsShortest (enumerated known) c) × Unit {0}
  enumerated_found rule c z o (n, k, e) = ((ap number e, n.0, k), n.1, tt)

  enumerated_only : (rule : Codec) (c : List ℕ) (z : ℤ) (t : Tree) → AreOctets c → EnumeratedIn rule known c (Ok z) → Contents rule (enumerated known) c t → Unit {0} → t ≡ number z
  enumerated_only rule c z t o (n, k, e) h u = h.0 ∙ ap number (sym e)

  module _ (fits : fit_isize known ≡ true) where
    enumerated_none : (rule : Codec) (c : List ℕ) (e : Cause) (t : Tree) → AreOctets c → EnumeratedIn rule known c (Err e) → Contents rule (enumerated known) c t → (IsStrict rule → IsShortest (enumerated known) c) → Unit {0} → ⊥
    enumerated_none rule c (fault f) t o (inl h) k s u = not_number rule c f h (k.1, s)
    enumerated_none rule c (fault f) t o (inr (inl h)) k s u = h.1 (fits-isize known (signed c) fits k.2)
    enumerated_none rule c (fault f) t o (inr (inr h)) k s u = h.2 k.2
    enumerated_none rule c (out_of_bound z b) t o h k s u = h

    pub enumerated_exact : (tag : Tag) (old : State) → AreOctets old.rest → (r : Result ℤ DecodeError) (new : State) → DecodesLeaf (λ (z : ℤ). z) (EnumeratedAt known old.rule tag old.rest) old r new
        → DecodesBy (ReadsShape (leaf (enumerated known) tag unconstrained)) number old r new
    unfolding Reads
    enumerated_exact tag old o r new a =
        decoded_answers (ReadsShape (leaf (enumerated known) tag unconstrained)) number (λ (z : ℤ). z) _ old new r
        (plain_agrees old.rule tag old.rest o (enumerated known) old.depth (λ t. Unit {0}) number (EnumeratedIn old.rule known) (enumerated_found old.rule) (enumerated_only old.rule) (enumerated_none old.rule)) a

    pub enumerated_apart : (tag : Tag) → AreApart (λ old. FailsAs (EnumeratedAt known old.rule tag old.rest) old) (ReadsShape (leaf (enumerated known) tag unconstrained))
    enumerated_apart tag = exactly_apart _ (ReadsShape (leaf (enumerated known) tag unconstrained)) (λ old o e new a. enumerated_exact tag old o (Err e) new a)
        (λ old o e f new other a b. fails_once (EnumeratedAt known old.rule tag old.rest) (leaf_once (EnumeratedIn old.rule known) (enumerated_once old.rule) old.rule tag old.rest) old e f new other a.1 b.1 a.0 b.0)

-- OBJECT IDENTIFIER: a subidentifier is read in one way, so the first that can't be read is in one place.
number_spelled : (p q : List ℕ) (n : ℕ) → Spells128 p n → number128_at UnsupportedObjectIdentifierArc 0 (p ++ q) ≡ Ok (n, q)
number_spelled p q n s =
    let e : 0 * 128 ^ length p + number_in 128 p ≡ n = no_more (128 ^ length p) (number_in 128 p) ∙ sym s.is in
    number128_spelled UnsupportedObjectIdentifierArc 0 p q s.chain (subst (λ z. z < 2 ^ 32) (sym e) s.below) ∙ ap (λ z. Ok (z, q)) e
  where
    no_more : (x y : ℕ) → 0 * x + y ≡ y
    no_more x y = omega arith

not_padded : (p q : List ℕ) → IsChain p → IsShortest128 p → is_padded (p ++ q) ≡ false
not_padded [] q c w = absurd c
not_padded (b ∷ p) q c w = grind (arith, nat_tests)

short_arcs : (ns l : List ℕ) → ShortArcs l ns → Arcs l ns
short_arcs [] l a = a
short_arcs (n ∷ ns) l (p, q, s, w, e, a) = (p, q, s, e, short_arcs ns q a)

record FirstArc (rule : Codec) (l back : List ℕ) (n : ℕ) (ns : List ℕ) : Type 0 where
  after : List ℕ
  read : arc_at rule (l ++ back) ≡ Ok (n, after ++ back)
  whole : Arcs after ns
  short : IsStrict rule → ShortArcs after ns

arcs_on : (p q l back : List ℕ) → l ≡ p ++ q → l ++ back ≡ p ++ (q ++ back)
arcs_on p q l back e = ap (λ z. z ++ back) e ∙ append_assoc p q back

first_arc : (rule : Codec) (l back : List ℕ) (n : ℕ) (ns : List ℕ) → Arcs l (n ∷ ns) → (IsStrict rule → ShortArcs l (n ∷ ns)) → FirstArc rule l back n ns
first_arc Ber l back n ns (p, q, s, e, a) short = record { after = q; read = ap (arc_at Ber) (arcs_on p q l back e) ∙ number_spelled p (q ++ back) n s; whole = a; short = λ h. absurd h }
first_arc Cer l back n ns (p, q, s, e, a) short = record { after = q; read = ap (arc_at Cer) (arcs_on p q l back e) ∙ number_spelled p (q ++ back) n s; whole = a; short = λ h. absurd h }
first_arc Der l back n ns whole short = go (short tt)
  where
    go : ShortArcs l (n ∷ ns) → FirstArc Der l back n ns
    go (p, q, s, w, e, a) =
        let r : arc_at Der (p ++ (q ++ back)) ≡ Ok (n, q ++ back) = rw (not_padded p (q ++ back) s.chain w) (number_spelled p (q ++ back) n s) in
        record { after = q; read = ap (arc_at Der) (arcs_on p q l back e) ∙ r; whole = short_arcs ns q a; short = λ h. a }

stop_once : (rule : Codec) (ns ms p q back other : List ℕ) (f g : ParseError) → Arcs p ns → (IsStrict rule → ShortArcs p ns) → Arcs q ms → (IsStrict rule → ShortArcs q ms)
    → p ++ back ≡ q ++ other → arc_at rule back ≡ Err f → arc_at rule other ≡ Err g → f ≡ g
stop_once rule [] [] p q back other f g a s b t e h k =
    let x : back ≡ other = ap (λ z. z ++ back) (sym a) ∙ (e ∙ ap (λ z. z ++ other) b) in
    let y : ◌≡◌ {A = Result (ℕ × List ℕ) ParseError} (Err f) (Err g) = sym h ∙ (ap (arc_at rule) x ∙ k) in
    cc
stop_once rule [] (m ∷ ms) p q back other f g a s b t e h k =
    let r = first_arc rule q other m ms b t in
    let x : back ≡ q ++ other = ap (λ z. z ++ back) (sym a) ∙ e in
    let y : ◌≡◌ {A = Result (ℕ × List ℕ) ParseError} (Err f) (Ok (m, r.after ++ other)) = sym h ∙ (ap (arc_at rule) x ∙ r.read) in
    cc
stop_once rule (n ∷ ns) [] p q back other f g a s b t e h k =
    let r = first_arc rule p back n ns a s in
    let x : other ≡ p ++ back = ap (λ z. z ++ other) (sym b) ∙ sym e in
    let y : ◌≡◌ {A = Result (ℕ × List ℕ) ParseError} (Err g) (Ok (n, r.after ++ back)) = sym k ∙ (ap (arc_at rule) x ∙ r.read) in
    cc
stop_once rule (n ∷ ns) (m ∷ ms) p q back other f g a s b t e h k =
    let u = first_arc rule p back n ns a s in
    let v = first_arc rule q other m ms b t in
    let y : ◌≡◌ {A = Result (ℕ × List ℕ) ParseError} (Ok (n, u.after ++ back)) (Ok (m, v.after ++ other)) = sym u.read ∙ (ap (arc_at rule) e ∙ v.read) in
    let z : (n, u.after ++ back) ≡ (m, v.after ++ other) = cc in
    stop_once rule ns ms u.after v.after back other f g u.whole u.short v.whole v.short (ap (λ (i : ℕ × List ℕ). i.1) z) h k

object_once : (rule : Codec) → OneFault (ObjectIdentifierIn rule)
object_once rule c (fault f) (fault g) h k =
    ap fault (stop_once rule h.numbers k.numbers h.front k.front h.back k.back f g h.whole h.short k.whole k.short (sym h.is ∙ k.is) h.stops k.stops)
object_once rule c (fault f) (out_of_bound z b) h k = absurd k
object_once rule c (out_of_bound z b) d h k = absurd h

pub object_identifier_apart : (tag : Tag) → AreApart (errors_of (DecodesObjectIdentifier tag)) (ReadsShape (leaf object_identifier tag unconstrained))
object_identifier_apart tag = exactly_apart _ (ReadsShape (leaf object_identifier tag unconstrained)) (λ old o e new a. object_decodes tag old new (Err e) o a) one
  where
    one : IsRefusedOnce (errors_of (DecodesObjectIdentifier tag))
    one old o e f new other (inl a, m) b = absurd (m a.0)
    one old o e f new other (inr a, m) (inl b, n) = absurd (n b.0)
    one old o e f new other (inr a, m) (inr b, n) =
        fails_once (ObjectIdentifierAt old.rule tag old.rest) (leaf_once (ObjectIdentifierIn old.rule) (object_once old.rule) old.rule tag old.rest) old e f new other m n a.1 b.1
