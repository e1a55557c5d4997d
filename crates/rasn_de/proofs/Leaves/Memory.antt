-- Readings that take no memory.
use Rattle.std.proofs.Common.{◌≡◌, ◌≢◌, ℕ, ℤ, ◌⊎◌, inl, inr, Bool, true, false, List, [], ◌∷◌, Result, Ok, Err, sym, ap, ◌∙◌, subst}
use Rattle.std.specs.Prelude.{nat_eq, IfErr, Option, Some, None}
use Rattle.rasn_types.specs.declared.types.tag.Tag.{Tag}
use Rattle.rasn_types.specs.declared.types.codec.Codec.{Codec}
use Rattle.rasn_types.specs.declared.error.decode.DecodeError.{DecodeError}
use Rattle.rasn_types.specs.declared.error.decode.DecodeErrorKind.{DecodeErrorKind}
use Rattle.rasn_types.specs.Framing.{Extent, definite, indefinite}
use Rattle.rasn_types.proofs.Headers.Frames.{frame_one}
use Rattle.rasn_types.specs.Errors.{IsOutOfMemory}
use Rattle.rasn_de.specs.declared.ber.de.parser.ParseError.{ParseError}
use Rattle.rasn_de.specs.declared.ber.de.parser.ParseError.TheVariants.{OutOfMemory, InvalidBool}
use Rattle.rasn_types.specs.Tags.{form, loose, tag_bit}
use Rattle.rasn_de.specs.Headers.{spelled, Header, header_at, as_written}
use Rattle.rasn_de.specs.Causes.{Cause, fault, out_of_bound, HasCause}
use Rattle.rasn_de.specs.Leaves.{on_header, definite_in, definite_at, FromContents, LeafAt, as_cause, is_ber, bool_in, FailsAs, DecodesLeaf, IsNotIntegerContents, IntegerIn, IntegerAt, DecodesInteger, TakesThere, IsOutOfBound}
use Rattle.rasn_types.specs.declared.types.constraints.Constraints.{Constraints}
use Rattle.rasn_types.specs.Shapes.{Interval, looked_for}
use Rattle.rasn_de.specs.declared.ber.de.parser.headers.Expected.TheVariants.{AnyTag}
use Rattle.rasn_de.specs.OctetString.{IsPrimitive}
use Rattle.rasn_de.specs.CharacterString.{DecodesOctetString}
use Rattle.rasn_de.specs.Any.{IsOpenFault, BorrowsOpenType, SkipsValue}
use Rattle.rasn_de.specs.Skipping.{IsFault}
use Rattle.rasn_de.specs.State.{State}
use Rattle.rasn_de.proofs.Headers.Memory.{NoMemory, header_none, none_cond}
use Rattle.rasn_de.proofs.Headers.NextTag.{kind_memory}

-- The cause isn't running out of memory.
abbrev pub IsPlainCause : Cause → Type 0
IsPlainCause (fault f) = f ≢ OutOfMemory
IsPlainCause (out_of_bound z bound) = ⊥

pub tells_plain : (cause : Cause) (k : DecodeErrorKind) → IsPlainCause cause → HasCause cause k → IsOutOfMemory k → ⊥
tells_plain (fault f) k n t m = kind_memory f n (sym t ∙ m)
tells_plain (out_of_bound z bound) k n t m = n

abbrev pub Plainly : {A : Type 0} → Result A (Cause × List ℕ) → Type 0
Plainly (Ok x) = Unit {0}
Plainly (Err e) = IsPlainCause e.0

extent_plain : (x : Extent) (rest : List ℕ) → Plainly (definite_in x rest)
extent_plain (definite c) rest = tt
extent_plain indefinite rest = λ e. cc

header_plain : (l : List ℕ) (r : Result Header ParseError) → NoMemory r → Plainly (on_header l r (λ h. definite_in h.extent h.rest))
header_plain l (Ok h) n = extent_plain h.extent h.rest
header_plain l (Err f) n = n

pub definite_plain : (rule : Codec) (tag : Tag) (l : List ℕ) → Plainly (definite_at rule tag l)
definite_plain rule tag l = header_plain l (header_at (form rule) (as_written rule tag (tag_bit tag)) l) (header_none (spelled (form rule)) (as_written rule tag (tag_bit tag)) l)

contents_plain : {X : Type 0} (read : List ℕ → Result X Cause → Type 0) → ((c : List ℕ) (e : Cause) → read c (Err e) → IsPlainCause e) → (d : Result (List ℕ × List ℕ) (Cause × List ℕ)) → Plainly d
    → (e : Cause × List ℕ) → FromContents read d (Err e) → IsPlainCause e.0
contents_plain read f (Ok p) n e (a, b) = f p.0 e.0 a
contents_plain {X} read f (Err d) n e a = let z : e ≡ d = cc in subst (λ (u : Cause × List ℕ). IsPlainCause u.0) (sym z) n

-- A leaf whose contents are refused plainly is refused plainly.
pub leaf_plain : {X : Type 0} (read : List ℕ → Result X Cause → Type 0) → ((c : List ℕ) (e : Cause) → read c (Err e) → IsPlainCause e) → (tag : Tag) (old new : State) (e : DecodeError)
    → FailsAs (LeafAt read old.rule tag old.rest) old e new → IsOutOfMemory e.kind → ⊥
leaf_plain read f tag old new e (cause, a, t, c, s) m =
    tells_plain cause e.kind (contents_plain read f (definite_at old.rule tag old.rest) (definite_plain old.rule tag old.rest) (cause, new.rest) a) t m

pub decoded_plain : {X Y : Type 0} (see : Y → X) (read : List ℕ → Result X Cause → Type 0) → ((c : List ℕ) (e : Cause) → read c (Err e) → IsPlainCause e) → (tag : Tag) (old new : State) (result : Result Y DecodeError)
    → DecodesLeaf see (LeafAt read old.rule tag old.rest) old result new → IfErr result (λ e. IsOutOfMemory e.kind → ⊥)
decoded_plain see read f tag old new (Ok v) g = tt
decoded_plain see read f tag old new (Err e) g = leaf_plain read f tag old new e g

bool_none : (rule : Codec) (c : List ℕ) → NoMemory (bool_in rule c)
bool_none rule [] = λ e. cc
bool_none rule (b ∷ []) = none_cond (nat_eq b 0) (Ok false) _ tt (none_cond (nat_eq b 255) (Ok true) _ tt (none_cond (is_ber rule) (Ok true) (Err (InvalidBool b)) tt (λ e. cc)))
bool_none rule (b ∷ c ∷ l) = λ e. cc

cause_plain : (r : Result Bool ParseError) → NoMemory r → (e : Cause) → as_cause r ≡ Err e → IsPlainCause e
cause_plain (Ok x) n e h = cc
cause_plain (Err f) n e h = let z : fault f ≡ e = cc in subst IsPlainCause z n

pub bool_plain : (rule : Codec) (c : List ℕ) (e : Cause) → as_cause (bool_in rule c) ≡ Err e → IsPlainCause e
bool_plain rule c e h = cause_plain (bool_in rule c) (bool_none rule c) e h

-- The cause isn't running out of memory, or it is a number out of its bound, which is copied.
abbrev pub IsPlainOrBound : Cause → Type 0
IsPlainOrBound (fault f) = f ≢ OutOfMemory
IsPlainOrBound (out_of_bound z bound) = Unit {0}

plain_or : (e : Cause) → IsPlainCause e → IsPlainOrBound e
plain_or (fault f) n = n
plain_or (out_of_bound z bound) n = tt

contents_bound : {X : Type 0} (read : List ℕ → Result X Cause → Type 0) → ((c : List ℕ) (e : Cause) → read c (Err e) → IsPlainOrBound e) → (d : Result (List ℕ × List ℕ) (Cause × List ℕ)) → Plainly d
    → (e : Cause × List ℕ) → FromContents read d (Err e) → IsPlainOrBound e.0
contents_bound read f (Ok p) n e (a, b) = f p.0 e.0 a
contents_bound {X} read f (Err d) n e a = let z : e ≡ d = cc in subst (λ (u : Cause × List ℕ). IsPlainOrBound u.0) (sym z) (plain_or d.0 n)

pub lacks_plain : (rule : Codec) (c : List ℕ) (f : ParseError) → IsNotIntegerContents rule c f → f ≢ OutOfMemory
lacks_plain rule c f (inl (n, g)) = λ h. cc
lacks_plain rule c f (inr (n, s, k, g)) = λ h. cc

integer_cause : (rule : Codec) (width : ℕ) (range : Interval) (bounds : Constraints) (c : List ℕ) (e : Cause) → IntegerIn rule width range bounds c (Err e) → IsPlainOrBound e
integer_cause rule width range bounds c (fault f) (inl h) = lacks_plain rule c f h
integer_cause rule width range bounds c (fault f) (inr (n, i, g)) = λ h. cc
integer_cause rule width range bounds c (out_of_bound z bound) a = tt

integer_memory : {X : Type 0} (see : X → ℤ) (Takes : ℤ → Type 0) (width : ℕ) (range : Interval) (bounds : Constraints) (tag : Tag) (old new : State) (e : DecodeError)
    → DecodesInteger see Takes tag (IntegerAt width range bounds old.rule tag old.rest) old (Err e) new → IsOutOfMemory e.kind → TakesThere Takes tag old new.rest ⊎ IsOutOfBound (IntegerAt width range bounds old.rule tag old.rest) new.rest
integer_memory see Takes width range bounds tag old new e (inl (m, c, s, l, h, i, g)) n = inl (l, h, g)
integer_memory see Takes width range bounds tag old new e (inr (cause, a, t, c, s)) n =
    inr (go cause a t (contents_bound (IntegerIn old.rule width range bounds) (integer_cause old.rule width range bounds) (definite_at old.rule tag old.rest) (definite_plain old.rule tag old.rest) (cause, new.rest) a))
  where
    go : (x : Cause) → IntegerAt width range bounds old.rule tag old.rest (Err (x, new.rest)) → HasCause x e.kind → IsPlainOrBound x → IsOutOfBound (IntegerAt width range bounds old.rule tag old.rest) new.rest
    go (fault f) a t p = absurd (tells_plain (fault f) e.kind p t n)
    go (out_of_bound z bound) a t p = (z, bound, a)

pub decoded_integer_memory : {X : Type 0} (see : X → ℤ) (Takes : ℤ → Type 0) (width : ℕ) (range : Interval) (bounds : Constraints) (tag : Tag) (old new : State) (result : Result X DecodeError)
    → DecodesInteger see Takes tag (IntegerAt width range bounds old.rule tag old.rest) old result new → IfErr result (λ e. IsOutOfMemory e.kind → TakesThere Takes tag old new.rest ⊎ IsOutOfBound (IntegerAt width range bounds old.rule tag old.rest) new.rest)
decoded_integer_memory see Takes width range bounds tag old new (Ok v) g = tt
decoded_integer_memory see Takes width range bounds tag old new (Err e) g = integer_memory see Takes width range bounds tag old new e g

-- A primitive OCTET STRING is lent, so it asks for no memory.
pub primitive_plain : (tag : Tag) (bounds : Constraints) (old new : State) (e : DecodeError) → DecodesOctetString tag bounds old (Err e) new → IsPrimitive old.rule tag old.rest → IsOutOfMemory e.kind → ⊥
primitive_plain tag bounds old new e (inl (m, c, s, ((rest, x, f), w))) (after, contents, p) h = let b : false ≡ true = (frame_one old.rest p f).bit in cc
primitive_plain tag bounds old new e (inr (n, g)) p h = n h

-- The first fault where a whole encoding has to follow is one of a header.
fault_plain : (rule : Codec) (input : List ℕ) (f : ParseError) → IsFault rule input f → f ≢ OutOfMemory
fault_plain rule input f (inl e) = subst NoMemory e (header_none (spelled (loose rule)) AnyTag input)
fault_plain rule input f (inr (tag, body, x, unparsable)) = subst NoMemory unparsable.refused (header_none (spelled (loose rule)) AnyTag unparsable.left)

pub skips_plain : (old new : State) (e : DecodeError) → SkipsValue old (Err e) new → IsOutOfMemory e.kind → ⊥
skips_plain old new e (f, (never, refused), k, s) h = kind_memory f (fault_plain old.rule old.rest f refused) (sym (ap (λ (x : DecodeError). x.kind) k) ∙ h)

-- Nor is the first fault of an open type.
open_fault_plain : (rule : Codec) (tag : Option Tag) (input : List ℕ) (f : ParseError) → IsOpenFault rule tag input f → f ≢ OutOfMemory
open_fault_plain rule None input f h = fault_plain rule input f h
open_fault_plain rule (Some tag) input f (inl e) = subst NoMemory e (header_none (spelled (form rule)) (as_written rule tag true) input)
open_fault_plain rule (Some tag) input f (inr (h, e, x, unparsable)) = subst NoMemory unparsable.refused (header_none (spelled (loose rule)) AnyTag unparsable.left)

pub borrowed_plain : (tag : Tag) (old new : State) (e : DecodeError) → BorrowsOpenType tag old (Err e) new → IsOutOfMemory e.kind → ⊥
borrowed_plain tag old new e ((f, x, k), s) h = kind_memory f (open_fault_plain old.rule (looked_for tag) old.rest f x.1) (sym (ap (λ (x : DecodeError). x.kind) k) ∙ h)
