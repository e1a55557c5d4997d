-- Calls whose errors are those of one refusal.
use Rattle.std.proofs.Common.{◌≡◌, ◌≢◌, ℕ, List, Result, Ok, Err, refl, sym, ap, ◌∙◌, subst}
use Rattle.rasn_types.specs.declared.types.codec.Codec.{Codec}
use Rattle.rasn_types.specs.declared.error.decode.DecodeError.{DecodeError}
use Rattle.rasn_types.specs.declared.error.decode.DecodeErrorKind.{DecodeErrorKind}
use Rattle.rasn_types.specs.declared.error.decode.DecodeErrorKind.TheVariants.{OutOfMemory}
use Rattle.rasn_types.specs.Errors.{IsOutOfMemory}
use Rattle.rasn_types.specs.Framing.{AreOctets}
use Rattle.rasn_types.specs.Shapes.{Tree, Shape}
use Rattle.rasn_types.specs.Readings.{Reading}
use Rattle.rasn_de.specs.declared.ber.de.parser.ParseError.{ParseError}
use Rattle.rasn_de.specs.declared.ber.de.parser.ParseError.TheVariants as parse
use Rattle.rasn_de.specs.Causes.{error_kind}
use Rattle.rasn_de.specs.State.{State, Call, at, IsEnd}
use Rattle.rasn_de.specs.Steps.{PeeksTag}
use Rattle.rasn_de.specs.Outcomes.{Exact, refusal}
use Rattle.rasn_de.specs.Decodes.{DecodesExactly, DecodesBy}
use Rattle.rasn_de.specs.ValueErrors.{Errors, errors_of, DecodesOr}
use Rattle.rasn_de.proofs.Headers.Results.{octets_back}
use Rattle.rasn.specs.OneRefusal.{equal, IsSameError, ReadingBy, ReadsShape, IsRefusedOnce, AreApart, LeaveNone, Settles, IsDetermined}

-- Errors are the same if they are equal, or report the same fault.
pub equal_errors : {e f : DecodeError} → e ≡ f → IsSameError e f
equal_errors p = (equal (ap (λ (x : DecodeError). x.kind) p), ap (λ (x : DecodeError). x.codec) p)

pub same_fault : {f g : ParseError} {rule : Codec} {e h : DecodeError} → f ≡ g → e ≡ record { kind = error_kind f; codec = rule } → h ≡ record { kind = error_kind g; codec = rule } → IsSameError e h
same_fault {f} {g} {rule} {e} {h} p a b = equal_errors (a ∙ (ap (λ (x : ParseError). record { kind = error_kind x; codec = rule }) p ∙ sym b))

-- A fault other than missing memory is reported as such.
pub no_memory : {f : ParseError} {rule : Codec} {e : DecodeError} → e ≡ record { kind = error_kind f; codec = rule } → (IsOutOfMemory e.kind → ⊥) → f ≢ parse.OutOfMemory
no_memory {f} {rule} {e} a n p = n (ap (λ (x : DecodeError). x.kind) a ∙ ap error_kind p)

-- A refusal relates the input to nothing.
pub refused_none : (k : DecodeErrorKind) (R : Reading Tree) (input : List ℕ) → (IsOutOfMemory k → ⊥) → Exact R input (refusal k) → (t : Tree) (rest : List ℕ) → R input t rest → ⊥
refused_none OutOfMemory R input n x = absurd (n refl)
refused_none _ R input n x = x

-- The octets that remain are octets.
pub octets_end : {l m : List ℕ} → AreOctets l → IsEnd l m → AreOctets m
octets_end o (front, e) = octets_back front _ (subst AreOctets e o)

-- What errors of exact calls are, besides one.
pub exactly_apart : (errors : Errors) (reads : ReadingBy) → ((old : State) → AreOctets old.rest → (e : DecodeError) (new : State) → errors old e new → DecodesExactly reads old (refusal e.kind) new)
    → IsRefusedOnce errors → AreApart errors reads
exactly_apart errors reads exact one = record {
  unread = λ old o e new r. refused_none e.kind (reads old.rule old.depth old.closing) old.rest r.1 (exact old o e new r.0).exact;
  once = one;
  kept = λ old o e new r. let x = exact old o e new r.0 in record { stays = x.stays; end = x.end };
}

-- A call that returns what the reading relates.
abbrev pub IsExactCall : {D : Type 0} → Call D → ReadingBy → (D → Tree) → Type 0
IsExactCall {D} read reads tree = (old : State) → AreOctets old.rest → (r : Result D DecodeError) (new : State) → read old r new → DecodesBy reads tree old r new

-- What remains where a value is decoded is an end of the input.
abbrev pub LeaveEnds : {D : Type 0} → Call D → Type 0
LeaveEnds {D} read = (old : State) → AreOctets old.rest → (v : D) (new : State) → read old (Ok v) new → IsEnd old.rest new.rest

module _ {D : Type 0} (read : Call D) (reads : ReadingBy) (tree : D → Tree) (exact : IsExactCall read reads tree) where
  -- It returns one value, and leaves one rest.
  pub one_value : (old : State) → AreOctets old.rest → (v w : D) (new other : State) → read old (Ok v) new → read old (Ok w) other → (tree v ≡ tree w) × (new ≡ other)
  one_value old o v w new other a b =
      let x = exact old o (Ok v) new a in
      let y = exact old o (Ok w) other b in
      let q = x.exact.1 (tree w) other.rest y.exact.0 in
      (sym q.0, x.stays ∙ (ap (at old) (sym q.1) ∙ sym y.stays))

  -- It doesn't return a value and an error.
  pub not_both : (old : State) → AreOctets old.rest → (v : D) (e : DecodeError) (new other : State) → read old (Ok v) new → read old (Err e) other → (IsOutOfMemory e.kind → ⊥) → ⊥
  not_both old o v e new other a b n =
      refused_none e.kind (reads old.rule old.depth old.closing) old.rest n (exact old o (Err e) other b).exact (tree v) new.rest (exact old o (Ok v) new a).exact.0

  pub call_apart : IsRefusedOnce (errors_of read) → AreApart (errors_of read) reads
  call_apart one = exactly_apart (errors_of read) reads (λ old o e new a. exact old o (Err e) new a) one

  pub exactly_determined : IsRefusedOnce (errors_of read) → IsDetermined read
  exactly_determined one = record { unrefused = λ old o v e new other a b. not_both old o v e new other a b.0 b.1; left = λ old o v w new other a b. (one_value old o v w new other a b).1; once = one }

  pub exactly_ends : LeaveEnds read
  exactly_ends old o v new a = (exact old o (Ok v) new a).end

-- The look at the next tag fails in one way.
pub peeks_once : (s : State) (e f : DecodeError) → PeeksTag s (Err e) → PeeksTag s (Err f) → IsSameError e f
peeks_once s e f (x, p, a) (y, q, b) = let z : x ≡ y = cc in same_fault z a b

-- A call whose value is a shape's, with the errors of the call.
pub or_settles : {D : Type 0} (call : Call D) (s : Shape) (tree : D → Tree) → IsExactCall call (ReadsShape s) tree → Settles call → Settles (DecodesOr s tree (errors_of call))
or_settles call s tree exact all old o b passed failed =
    all old o b (λ v new a. passed v new (exact old o (Ok v) new a, tt)) (λ e new a. failed e new ((exact old o (Err e) new a.0, a.0), a.1))

-- Then each input is read or refused.
pub settled_none : {D : Type 0} (s : Shape) (tree : D → Tree) (errors : Errors) → Settles (DecodesOr s tree errors) → LeaveNone errors (ReadsShape s)
settled_none s tree errors all old o b unread unrefused =
    all old o b (λ v new a. unread (tree v) new.rest a.0.exact.0) (λ e new a. unrefused e new (a.0.1, a.1))
