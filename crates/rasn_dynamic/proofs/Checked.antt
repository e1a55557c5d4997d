-- What is read from the front of an input.
use Rattle.std.proofs.Common.{◌≡◌, List, ℕ, [], inl, inr, Bool, true, Option, Some, None, Result, Ok, Err, refl, sym, subst}
use Rattle.std.specs.Prelude.{◌⊎◌, MatchResult, IfOk, IfErr}
use Rattle.std.specs.Borrow.{Bor}
use Rattle.rasn_types.specs.declared.types.codec.Codec.{Codec}
use Rattle.rasn_types.specs.declared.error.decode.DecodeError.{DecodeError}
use Rattle.rasn_types.specs.declared.error.decode.DecodeErrorKind.{DecodeErrorKind}
use Rattle.rasn_types.specs.declared.error.decode.DecodeErrorKind.TheVariants.{OutOfMemory}
use Rattle.rasn_types.specs.Errors.{IsOutOfMemory}
use Rattle.rasn_types.specs.Readings.{Reading}
use Rattle.rasn_types.specs.Shapes.{Shape, Tree}
use Rattle.rasn_types.specs.Grammar.{Reads, top}
use Rattle.rasn_de.specs.State.{State, IsEnd}
use Rattle.rasn_de.specs.Outcomes.{Exact, Outcome, Got, refusal}
use Rattle.rasn_de.specs.Decodes.{DecodesExactly}
use Rattle.rasn.specs.Headline.{IsExtraData, IsFollowed, Answered, AnsweredAlone}
use Rattle.rasn_schema.specs.declared.value.Value.{Value}
use Rattle.rasn_schema.specs.Trees.{tree_of}
use Rattle.rasn_dynamic.specs.declared.refusal.Refusal.{Refusal}
use Rattle.rasn_dynamic.specs.Entry.{IsChecked, IsCheckedUpTo, IsReadFirst, Agree}
use Rattle.rasn_dynamic.specs.declared.trace.UnreadValue.{UnreadValue}
use Rattle.rasn_dynamic.specs.Faults.{IsRefusalOf, start, unlocated}
use Rattle.rasn_dynamic.specs.Inside.{DecodesTree}
use Rattle.rasn_dynamic.proofs.Making.{kept_tree}

module _ (rule : Codec) (s : Shape) (input : List ℕ) (old : State) (e : old ≡ start rule input) where
  at_front : (o : Outcome) (new : State) → DecodesExactly (λ r. Reads r s) old o new → Exact (Reads rule s 128 (top rule)) input o
  at_front o new h = subst (λ (z : State). Exact (Reads z.rule s z.depth z.closing) z.rest o) e h.exact

  pub read_first : (t : Tree) (new : State) (rest : List ℕ) → new.rest ≡ rest → DecodesTree s old (Ok t) new → Exact (Reads rule s 128 (top rule)) input (Got t rest)
  read_first t new rest r h = subst (λ l. Exact (Reads rule s 128 (top rule)) input (Got t l)) r (at_front (Got t new.rest) new h)

  pub refused_first : (k : DecodeErrorKind) (new : State) → DecodesExactly (λ r. Reads r s) old (refusal k) new → Exact (Reads rule s 128 (top rule)) input (refusal k)
  refused_first k new h = at_front (refusal k) new h

-- A refusal keeps the error.
pub same_error : (e : DecodeError) (t : Option UnreadValue) (len : ℕ) (r : Refusal) → IsRefusalOf e t len r → r.error ≡ e
same_error e None len r h = h
same_error e (Some f) len r h = h.0

module _ (rule : Codec) (s : Shape) (input : List ℕ) where
  pub answered_first : (r : Result (Value × Bor (List ℕ)) Refusal) → IsReadFirst true rule s input r → Answered rule s tree_of input (unlocated r)
  answered_first (Ok read) (last, e, m) = read_first rule s input (start rule input) refl (tree_of read.0) last read.1.now e (kept_tree tree_of (DecodesTree s) (start rule input) read.0 last m)
  answered_first (Err r) (last, d) = refused_first rule s input (start rule input) refl r.error.kind last d

  pub checked_first : (keep : Bool) (read : Value × Bor (List ℕ)) → IsReadFirst keep rule s input (Ok read) → IsCheckedUpTo rule s input (Ok read.1)
  checked_first keep read (last, e, m) = (m.0, read_first rule s input (start rule input) refl m.0 last read.1.now e m.2)

  pub refused_check : (keep : Bool) (r : Refusal) → IsReadFirst keep rule s input (Err r) → IsCheckedUpTo rule s input (Err r.error)
  refused_check keep r (last, d) = refused_first rule s input (start rule input) refl r.error.kind last d

  -- What follows the value is refused.
  pub checked : (rest : Bor (List ℕ)) → IsCheckedUpTo rule s input (Ok rest) → (r : Result (Unit {0}) DecodeError) → MatchResult r (λ u. rest.now ≡ []) (IsExtraData rule rest.now) → IsChecked rule s input r
  checked rest (t, h) (Ok u) f = (t, subst (λ l. Exact (Reads rule s 128 (top rule)) input (Got t l)) f h)
  checked rest (t, h) (Err x) f = inr (record { t = t; rest = rest.now; read = h; extra = f })

-- Octets follow the value that was checked.
pub followed : (X : DecodeError → Type 0) (rule : Codec) (s : Shape) (input : List ℕ) (rest : Bor (List ℕ)) → IsCheckedUpTo rule s input (Ok rest) → (r : Result (Unit {0}) DecodeError)
    → MatchResult r (λ u. rest.now ≡ []) (IsExtraData rule rest.now) → IfErr r (λ e. X e ⊎ IsFollowed rule s input e)
followed X rule s input rest (t, h) (Ok u) f = tt
followed X rule s input rest (t, h) (Err x) f = inr (record { t = t; rest = rest.now; read = h; extra = f })

pub memory_or_none : (k : DecodeErrorKind) (R : Reading Tree) (input : List ℕ) (t : Tree) (rest : List ℕ) → Exact R input (refusal k) → R input t rest → IsOutOfMemory k
memory_or_none OutOfMemory R input t rest h r = refl
memory_or_none _ R input t rest h r = absurd (h t rest r)

-- What follows the value is an end of the input.
pub ends_first : (keep : Bool) (rule : Codec) (s : Shape) (input : List ℕ) (r : Result (Value × Bor (List ℕ)) Refusal) → IsReadFirst keep rule s input r → IfOk r (λ read. IsEnd input read.1.now)
ends_first keep rule s input (Ok read) (last, e, m) = subst (IsEnd input) e m.2.end
ends_first keep rule s input (Err r) h = tt

-- What is checked is read.
module _ {T : Type 0} (rule : Codec) (s : Shape) (tree : T → Tree) (input : List ℕ) where
  pub agrees : (r : Result (Unit {0}) DecodeError) → IsChecked rule s input r → (q : Result T DecodeError) → AnsweredAlone rule s tree input q → Agree r q
  agrees (Ok u) h (Ok v) k = tt
  agrees (Ok u) (t, h) (Err e) (inl k) = memory_or_none e.kind (Reads rule s 128 (top rule)) input t [] k h.0
  agrees (Ok u) (t, h) (Err e) (inr f) = absurd (f.extra.some (sym (f.read.1 t [] h.0).1))
  agrees (Err e) (inl k) (Ok v) h = memory_or_none e.kind (Reads rule s 128 (top rule)) input (tree v) [] k h.0
  agrees (Err e) (inr f) (Ok v) h = absurd (f.extra.some (sym (f.read.1 (tree v) [] h.0).1))
  agrees (Err e) h (Err d) k = tt
