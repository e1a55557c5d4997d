-- What is written of a value, and what DER reads of it.
use Rattle.std.proofs.Common.{◌≡◌, ◌⊎◌, inl, inr, ℕ, [], List, Bool, true, false, Result, Ok, Err, refl, sym, ap, ◌∙◌, subst, true≢false}
use Rattle.std.specs.Prelude.{IfOk, IfErr}
use Rattle.std.proofs.lemmas.Result.{IfErr-weaker}
use Rattle.rasn_types.specs.declared.types.codec.Codec.{Codec}
use Rattle.rasn_types.specs.declared.types.codec.Codec.TheVariants.{Der}
use Rattle.rasn_types.specs.declared.error.encode.EncodeError.{EncodeError}
use Rattle.rasn_types.specs.declared.error.decode.DecodeError.{DecodeError}
use Rattle.rasn_types.specs.declared.error.decode.DecodeErrorKind.{DecodeErrorKind}
use Rattle.rasn_types.specs.declared.error.decode.DecodeErrorKind.TheVariants.{OutOfMemory}
use Rattle.rasn_types.specs.Errors.{IsOutOfMemory}
use Rattle.rasn_types.specs.Equality.{DecidesSame}
use Rattle.rasn_types.specs.Shapes.{Shape, Tree}
use Rattle.rasn_types.specs.Readings.{Reading}
use Rattle.rasn_types.specs.Grammar.{Reads, top}
use Rattle.rasn_types.specs.Bytes.{Bytes, Same}
use Rattle.rasn_types.proofs.SetOf.Same.{same_sym}
use Rattle.rasn_de.specs.Outcomes.{Exact, refusal}
use Rattle.rasn_enc.specs.View.{View, started, AreTagsInOrder}
use Rattle.rasn_enc.specs.Encoding.{EncodeFails, NoEncoding}
use Rattle.rasn_enc.specs.Primitive.{IsAllocError, IsOrderError}
use Rattle.rasn.specs.Headline.{Identify, IsFollowed, EncodingFails}
use Rattle.rasn.specs.Normal.{Means, IsByRules}
use Rattle.rasn.specs.declared.normal.NormaliseError.{NormaliseError}
use Rattle.rasn.specs.declared.normal.NormaliseError.TheVariants.{Decode, Encode, NotCanonical}
use Rattle.rasn.proofs.LawsHold.Written.{identify}
use Rattle.rasn_schema.specs.declared.types.«Type».{«Type»}
use Rattle.rasn_dynamic.specs.Entry.{IsReadBack, IsNormalOf, IsNoNormalOf, IsByDer}
use Rattle.rasn_dynamic.specs.Refusals.{IsReadingError}

pub identified : {V E : Type 0} (items : V → List ℕ) (s : Shape) (t : Tree) (rule : Codec) (r : Result V E) → rule ≡ Der → IfOk r (λ v. Bytes rule s t (items v)) → IfOk r (λ v. Identify s t (items v))
identified items s t rule (Ok v) der is = identify s t (items v) (subst (λ k. Bytes k s t (items v)) der is)
identified items s t rule (Err e) _ _ = tt

-- A value that is refused at the start of an encoder has no octets.
pub start_refused : (rule : Codec) (s : Shape) (t : Tree) (v : View) (e : EncodeError) → v ≡ started rule false → EncodeFails s t v e → EncodingFails rule s t e
start_refused rule s t v e i h = elim h.why [
  | inl m ↦ inl m
  | inr (inl n) ↦ inr (subst (λ (c : Codec). NoEncoding c s t) (ap (λ (x : View). x.rule) i) n)
  | inr (inr n) ↦ absurd (n.keeps (ap (λ (x : View). x.last.tags) i))
]

-- The error of the output names the rules.
pub output_rules : {R : Type 0} (r : Result R EncodeError) (u : View) (rule : Codec) → u.rule ≡ rule → IfErr r (λ x. IsAllocError u.rule x ⊎ ((AreTagsInOrder u → ⊥) × IsOrderError u.rule x)) → IfErr r (λ x. x.codec ≡ rule)
output_rules r u rule i h = IfErr-weaker r _ _ (λ x. elim [
  | inl m ↦ ap (λ (y : EncodeError). y.codec) m ∙ i
  | inr k ↦ ap (λ (y : EncodeError). y.codec) k.1 ∙ i
]) h

-- ---- what DER reads of what it wrote

read_or_memory : (k : DecodeErrorKind) (R : Reading Tree) (input : List ℕ) → Exact R input (refusal k) → (IsOutOfMemory k → ⊥) → (t : Tree) (rest : List ℕ) → R input t rest → ⊥
read_or_memory OutOfMemory R input h n t rest r = n refl
read_or_memory _ R input h n t rest r = h t rest r

module _ (s : Shape) (t : Tree) (octets : List ℕ) where
  pub read_told : (u : Tree) (b : Bool) → Means Der s octets u → DecidesSame b u t → IsReadBack b s t octets
  read_told u true means tells = (u, means, same_sym u t (tells.same refl))
  read_told u false means tells = λ v h k. true≢false (sym (tells.equal (same_sym t u (subst (Same t) (means.1 v [] h).0 k))))

  pub unread_told : (e : DecodeError) → Exact (Reads Der s 128 (top Der)) octets (refusal e.kind) ⊎ IsFollowed Der s octets e → (IsOutOfMemory e.kind → ⊥) → IsReadBack false s t octets
  unread_told e (inl x) n = λ v h k. read_or_memory e.kind (Reads Der s 128 (top Der)) octets x n v [] h
  unread_told e (inr f) n = λ v h k. f.extra.some (sym (f.read.1 v [] h).1)

  pub normal_octets : Bytes Der s t octets → IsReadBack true s t octets → IsNormalOf s t octets
  normal_octets w (again, read, same) = λ rule input means. record { value = t; means = means; written = w; again = again; read_again = read; same = same }

  pub not_read_back : Bytes Der s t octets → IsReadBack false s t octets → IsNoNormalOf s t NotCanonical
  not_read_back w n = λ rule input means. record { value = t; means = means; octets = octets; written = w; other = n }

pub memory_ran_out : (s : Shape) (t : Tree) (e : DecodeError) → IsOutOfMemory e.kind → IsNoNormalOf s t (Decode e)
memory_ran_out s t e m = λ rule input means. inl (subst (λ k. Exact (Reads rule s 128 (top rule)) input (refusal k)) (sym m) tt)

pub not_written : (s : Shape) (t : Tree) (e : EncodeError) → EncodingFails Der s t e → IsNoNormalOf s t (Encode e)
not_written s t e h = λ rule input means. elim h [
  | inl m ↦ inl m
  | inr n ↦ inr (t, means, n)
]

-- ---- by which rules

pub by_rules : (rule : Codec) (e : NormaliseError) → IsByDer e → IsByRules rule e
by_rules rule (Decode e) h = inr h
by_rules rule (Encode e) h = h
by_rules rule NotCanonical h = tt

pub after_reading : (types : List «Type») (rule : Codec) (id : ℕ) (input : List ℕ) (e : NormaliseError) → IsByDer e → IsReadingError types rule id input e
after_reading types rule id input (Decode e) h = inr h.0
after_reading types rule id input (Encode e) h = tt
after_reading types rule id input NotCanonical h = tt
