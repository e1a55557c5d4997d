-- Leaves that are read at once are read or refused.
use Rattle.std.proofs.Common.{◌≡◌, ◌≢◌, ℕ, ℤ, ◌≤ℤ◌, inl, inr, List, [], ◌∷◌, length, Bool, true, Result, Ok, Err, refl, sym, ap, subst}
use denote.RawPtr.{null_ptr}
use Rattle.rasn_types.specs.declared.types.codec.Codec.{Codec}
use Rattle.rasn_types.specs.declared.types.codec.Codec.TheVariants.{Ber, Cer, Der}
use Rattle.rasn_types.specs.declared.types.tag.Tag.{Tag}
use Rattle.rasn_types.specs.declared.types.constraints.Constraints.{Constraints}
use Rattle.rasn_types.specs.declared.error.decode.DecodeError.{DecodeError}
use Rattle.rasn_types.specs.declared.error.decode.DecodeErrorKind.{DecodeErrorKind}
use Rattle.rasn_types.specs.declared.error.decode.DecodeErrorKind.TheVariants.{ValueConstraintNotSatisfied}
use Rattle.rasn_types.specs.declared.error.decode.DerDecodeErrorKind.TheVariants.{NonMinimalInteger}
use Rattle.rasn_types.specs.Errors.{IsOutOfMemory}
use Rattle.rasn_types.specs.Tags.{IsStrict}
use Rattle.rasn_types.specs.Numbered.{fit_isize}
use Rattle.rasn_types.specs.Shapes.{Interval, IsIn, Admits, constraint_of, leaf, boolean, null, integer, enumerated, number}
use Rattle.std.specs.Prelude.{Contains}
use Rattle.rasn_types.specs.Trees.{unconstrained, bool_tree, signed_range}
use Rattle.rasn_types.specs.Contents.{signed, IsShortestInteger}
use Rattle.rasn_de.specs.declared.ber.de.parser.ParseError.{ParseError}
use Rattle.rasn_de.specs.declared.ber.de.parser.ParseError.TheVariants as parse
use Rattle.rasn_de.specs.Causes.{Cause, fault, out_of_bound, HasCause, error_kind}
use Rattle.rasn_de.specs.State.{State, at}
use Rattle.rasn_de.specs.ValueErrors.{integer_errors, DecodesOr}
use Rattle.rasn_de.specs.Leaves.{DecodesLeaf, DecodesNumber, FromContents, definite_at, LeafAt, as_cause, bool_in, BoolAt, IsIntegerContents, IntegerIn, FailsAs}
use Rattle.rasn_de.specs.Enumerated.{EnumeratedIn, EnumeratedAt, NullIn, NullAt}
use Rattle.rasn_de.proofs.Headers.NextTag.{kind_memory}
use Rattle.rasn_de.proofs.Leaves.Boolean.{bool_ensured}
use Rattle.rasn_de.proofs.Leaves.Null.{null_ensured}
use Rattle.rasn_de.proofs.Leaves.Integer.{integer_ensured}
use Rattle.rasn_de.proofs.Leaves.Memory.{Plainly, definite_plain, bool_plain}
use Rattle.rasn.specs.OneRefusal.{Refuses, Settles}
use Rattle.rasn.specs.RefusalLaws.{null_tree}
use Rattle.rasn.proofs.OneRefusal.Calls.{or_settles}
use Rattle.rasn.proofs.OneRefusal.Leaves.{enumerated_exact}

-- A cause other than missing memory is reported by some error.
abbrev pub IsReported : Cause → Type 0
IsReported (fault f) = f ≢ parse.OutOfMemory
IsReported (out_of_bound z bound) = Unit {0}

pub report : (cause : Cause) → IsReported cause → (k : DecodeErrorKind) × HasCause cause k × (IsOutOfMemory k → ⊥)
report (fault f) n = (error_kind f, refl, kind_memory f n)
report (out_of_bound z bound) n = (ValueConstraintNotSatisfied z (record { ptr = null_ptr; alloc = record { memory = record { seal = tt } }; value = bound }), (refl, refl), λ e. cc)

plain_reported : (cause : Cause) (rest : List ℕ) → Plainly {A = List ℕ × List ℕ} (Err (cause, rest)) → IsReported cause
plain_reported (fault f) rest n = n
plain_reported (out_of_bound z bound) rest n = absurd n

-- Contents are accepted or refused: none are neither.
abbrev pub NoneLeft : {X : Type 0} → (List ℕ → Result X Cause → Type 0) → Type 0
NoneLeft {X} read = (c : List ℕ) → ((x : X) → read c (Ok x) → ⊥) → ((e : Cause) → IsReported e → read c (Err e) → ⊥) → ⊥

pub leaf_none : {X : Type 0} (read : List ℕ → Result X Cause → Type 0) → NoneLeft read → (tag : Tag) (old : State) → ((x : X) (rest : List ℕ) → LeafAt read old.rule tag old.rest (Ok (x, rest)) → ⊥)
    → ((e : DecodeError) (new : State) → Refuses (λ o. FailsAs (LeafAt read o.rule tag o.rest) o) old e new → ⊥) → ⊥
leaf_none {X} read none tag old unread unrefused = go (definite_at old.rule tag old.rest) refl
  where
    refused : (cause : Cause) (rest : List ℕ) → IsReported cause → LeafAt read old.rule tag old.rest (Err (cause, rest)) → ⊥
    refused cause rest n a = let k = report cause n in unrefused (record { kind = k.0; codec = old.rule }) (at old rest) ((cause, a, k.1, refl, refl), k.2)

    go : (d : Result (List ℕ × List ℕ) (Cause × List ℕ)) → definite_at old.rule tag old.rest ≡ d → ⊥
    go (Err p) q =
        refused p.0 p.1 (plain_reported p.0 p.1 (subst Plainly q (definite_plain old.rule tag old.rest)))
        (subst (λ d. FromContents read d (Err (p.0, p.1))) (sym q) refl)
    go (Ok p) q =
        none p.0 (λ x a. unread x p.1 (subst (λ d. FromContents read d (Ok (x, p.1))) (sym q) (a, refl)))
        (λ e n a. refused e p.1 n (subst (λ d. FromContents read d (Err (e, p.1))) (sym q) (a, refl)))

bool_none : (rule : Codec) → NoneLeft {X = Bool} (λ c r. as_cause (bool_in rule c) ≡ r)
bool_none rule c accepted refused = go (bool_in rule c) refl
  where
    go : (r : Result Bool ParseError) → bool_in rule c ≡ r → ⊥
    go (Ok b) q = accepted b (ap as_cause q)
    go (Err f) q = refused (fault f) (bool_plain rule c (fault f) (ap as_cause q)) (ap as_cause q)

pub boolean_decided : (tag : Tag) → Settles (DecodesOr (leaf boolean tag unconstrained) bool_tree (λ old. FailsAs (BoolAt old.rule tag old.rest) old))
boolean_decided tag =
    or_settles (λ old. DecodesLeaf (λ (b : Bool). b) (BoolAt old.rule tag old.rest) old) (leaf boolean tag unconstrained) bool_tree (λ old o r new a. (bool_ensured tag old new r o a).reads)
    (λ old o b passed failed. leaf_none (λ c r. as_cause (bool_in old.rule c) ≡ r) (bool_none old.rule) tag old (λ x rest a. passed x (at old rest) (a, refl)) failed)

null_none : NoneLeft {X = Unit {0}} NullIn
null_none [] accepted refused = accepted tt refl
null_none (b ∷ l) accepted refused = refused (fault (parse.MismatchedLength 0 (length (b ∷ l)))) (λ e. cc) ((λ e. cc), refl)

pub null_decided : (tag : Tag) → Settles (DecodesOr (leaf null tag unconstrained) null_tree (λ old. FailsAs (NullAt old.rule tag old.rest) old))
null_decided tag =
    or_settles (λ old. DecodesLeaf (λ (u : Unit {0}). u) (NullAt old.rule tag old.rest) old) (leaf null tag unconstrained) null_tree (λ old o r new a. (null_ensured tag old new r o a).reads)
    (λ old o b passed failed. leaf_none NullIn null_none tag old (λ x rest a. passed x (at old rest) (a, refl)) failed)

-- Numbers.
shortest_unless : (c : List ℕ) → c ≢ [] → ((IsShortestInteger c → ⊥) → ⊥) → IsShortestInteger c
shortest_unless [] n h = absurd (n refl)
shortest_unless (a ∷ []) n h = tt
shortest_unless (a ∷ b ∷ l) n h = λ r. h (λ s. s r)

numbers_unless : (rule : Codec) (c : List ℕ) → ((f : ParseError) → f ≢ parse.OutOfMemory → (c ≡ []) × (f ≡ parse.UnexpectedEmptyInput) → ⊥)
    → ((f : ParseError) → f ≢ parse.OutOfMemory → (c ≢ []) × IsStrict rule × (IsShortestInteger c → ⊥) × (f ≡ parse.Der NonMinimalInteger) → ⊥) → IsIntegerContents rule c
numbers_unless rule c empty long = (some, shortest rule long)
  where
    some : c ≢ []
    some e = empty parse.UnexpectedEmptyInput (λ h. cc) (e, refl)

    shortest : (r : Codec) → ((f : ParseError) → f ≢ parse.OutOfMemory → (c ≢ []) × IsStrict r × (IsShortestInteger c → ⊥) × (f ≡ parse.Der NonMinimalInteger) → ⊥) → IsStrict r → IsShortestInteger c
    shortest Ber h s = absurd s
    shortest Cer h s = absurd s
    shortest Der h s = shortest_unless c some (λ n. h (parse.Der NonMinimalInteger) (λ e. cc) (some, s, n, refl))

module _ (width : ℕ) (range : Interval) (bounds : Constraints) where
  integer_none : (rule : Codec) → NoneLeft (IntegerIn rule width range bounds)
  integer_none rule c accepted refused = out_of_range (λ inside. out_of_bounds inside (λ a. accepted (signed c) (is, inside, a, refl)))
    where
      is : IsIntegerContents rule c
      is = numbers_unless rule c (λ f n h. refused (fault f) n (inl (inl h))) (λ f n h. refused (fault f) n (inl (inr h)))

      out_of_range : (IsIn range (signed c) → ⊥) → ⊥
      out_of_range n = refused (fault (parse.IntegerOverflow width)) (λ e. cc) (inr (is, n, refl))

      out_of_bounds : IsIn range (signed c) → (Admits ◌≤ℤ◌ bounds.value (signed c) → ⊥) → ⊥
      out_of_bounds i n = refused (out_of_bound (signed c) (constraint_of bounds.value)) tt (is, i, n, refl, refl)

  pub integer_decided : (Takes : ℤ → Type 0) (tag : Tag) → Settles (DecodesOr (leaf (integer range) tag bounds) number (integer_errors Takes width range tag bounds))
  integer_decided Takes tag =
      or_settles (DecodesNumber (λ (z : ℤ). z) Takes width range tag bounds) (leaf (integer range) tag bounds) number (λ old o r new a. (integer_ensured width range bounds (λ (z : ℤ). z) Takes tag old new r o a).reads)
      (λ old o b passed failed. leaf_none (IntegerIn old.rule width range bounds) (integer_none old.rule) tag old (λ x rest a. passed x (at old rest) (a, refl)) (λ e new r. failed e new (inr r.0, r.1)))

module _ (known : List ℤ) (fits : fit_isize known ≡ true) where
  enumerated_none : (rule : Codec) → NoneLeft (EnumeratedIn rule known)
  enumerated_none rule c accepted refused = out_of_range (λ inside. unnamed inside (λ k. accepted (signed c) (is, k, refl)))
    where
      is : IsIntegerContents rule c
      is = numbers_unless rule c (λ f n h. refused (fault f) n (inl (inl h))) (λ f n h. refused (fault f) n (inl (inr h)))

      out_of_range : (IsIn (signed_range 64) (signed c) → ⊥) → ⊥
      out_of_range n = refused (fault (parse.IntegerOverflow 64)) (λ e. cc) (inr (inl (is, n, refl)))

      unnamed : IsIn (signed_range 64) (signed c) → (Contains known (signed c) → ⊥) → ⊥
      unnamed i n = refused (fault (parse.DiscriminantValueNotFound (signed c))) (λ e. cc) (inr (inr (is, i, n, refl)))

  pub enumerated_decided : (tag : Tag) → Settles (DecodesOr (leaf (enumerated known) tag unconstrained) number (λ old. FailsAs (EnumeratedAt known old.rule tag old.rest) old))
  enumerated_decided tag =
      or_settles (λ old. DecodesLeaf (λ (z : ℤ). z) (EnumeratedAt known old.rule tag old.rest) old) (leaf (enumerated known) tag unconstrained) number (λ old o r new a. enumerated_exact known fits tag old o r new a)
      (λ old o b passed failed. leaf_none (EnumeratedIn old.rule known) (enumerated_none old.rule) tag old (λ x rest a. passed x (at old rest) (a, refl)) failed)
