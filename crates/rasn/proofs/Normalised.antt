-- What the laws of the grammar say of a normal encoding.
use Rattle.std.proofs.Common.{◌≡◌, ◌⊎◌, ◌↔◌, inl, inr, ℕ, List, [], Bool, true, false, Result, Ok, Err, refl, sym, ◌∙◌, subst, append-nil, true≢false}
use Rattle.std.specs.Prelude.{MatchResult, IfOk, IfErr, IsTrue, is_ok, nat_eq}
use Rattle.std.specs.Cmp.Lexicographic.{pointwise, bytes_decides}
use Rattle.rasn_types.specs.Truth.{IsWhether}
use Rattle.rasn_types.specs.declared.types.codec.Codec.{Codec}
use Rattle.rasn_types.specs.declared.types.codec.Codec.TheVariants.{Ber, Der}
use Rattle.rasn_types.specs.declared.error.decode.DecodeErrorKind.{DecodeErrorKind}
use Rattle.rasn_types.specs.declared.error.decode.DecodeErrorKind.TheVariants.{OutOfMemory}
use Rattle.rasn_types.specs.declared.error.decode.DecodeError.{DecodeError}
use Rattle.rasn_types.specs.Errors.{IsOutOfMemory}
use Rattle.rasn_types.specs.Equality.{DecidesSame}
use Rattle.rasn_types.specs.Framing.{AreOctets}
use Rattle.rasn_types.specs.Shapes.{Tree, Shape}
use Rattle.rasn_types.specs.Readings.{Reading}
use Rattle.rasn_types.specs.Grammar.{Reads, top}
use Rattle.rasn_types.specs.Bytes.{Same, Bytes}
use Rattle.rasn_types.specs.Carried.{Carried}
use Rattle.rasn_types.proofs.SetOf.Same.{same_sym}
use Rattle.rasn_types.proofs.Encoding.SameAsItself.{one_writing, written_same}
use Rattle.rasn_de.specs.Outcomes.{Exact, refusal}
use Rattle.rasn_de.specs.ValueErrors.{Errors}
use Rattle.rasn.specs.Headline.{IsFollowed}
use Rattle.rasn.specs.Refusals.{FailsAlone}
use Rattle.rasn.proofs.LawsHold.Written.{one_reading, included, read_again, canonical}
use Rattle.rasn.proofs.StrictDer.Carried.{strict_der}
use Rattle.rasn.proofs.StrictDer.Carried.{stays_carried}
use Rattle.rasn.specs.declared.normal.NormaliseError.{NormaliseError}
use Rattle.rasn.specs.declared.normal.NormaliseError.TheVariants.{Decode, Encode, NotCanonical}
use Rattle.rasn.specs.Normal.{Means, IsNormal, IsNotCanonical, FailsReadBack, IsNoNormal, IsOutOfMemoryAlone, IsCarriedIn, IsIdentified, IsKept, IsUnchanged, IsAnswered, SameExactlyIfEqual}

abbrev answer : (T D : Type 0) → T → Result T D
answer T D v = Ok v

-- What `map_err` kept.
pub was_ok : {T E : Type 0} (D : Type 0) (Q : E → Type 0) (r : Result T E) (v : T) → MatchResult r (λ x. answer T D v ≡ Ok x) Q → true ≡ is_ok r → r ≡ Ok v
was_ok D Q (Ok x) v h i = cc
was_ok D Q (Err e) v h i = absurd (true≢false i)

-- The value, its octets, and what DER reads of these.
pub normal : {rule : Codec} {s : Shape} {input octets text : List ℕ} {same : Bool} (t u : Tree) → Means rule s input t → Bytes Der s t octets → text ≡ octets → Means Der s text u
    → DecidesSame same u t → same ≡ true → IsNormal rule s input octets
normal {rule} {s} t u means is e again tells equal =
    record { value = t; means = means; written = is; again = u; read_again = subst (λ l. Means Der s l u) e again; same = same_sym u t (tells.same equal) }

pub read_otherwise : {rule : Codec} {s : Shape} {input octets text : List ℕ} {same : Bool} (t u : Tree) → Means rule s input t → Bytes Der s t octets → text ≡ octets → Means Der s text u
    → DecidesSame same u t → same ≡ false → IsNotCanonical rule s input
read_otherwise {rule} {s} {input} {octets} t u means is e again tells apart = record {
  value = t;
  means = means;
  octets = octets;
  written = is;
  other = λ v h k.
      let f : v ≡ u = (again.1 v [] (subst (λ l. Reads Der s 128 (top Der) l v []) (sym e) h)).0 in
      true≢false (sym (tells.equal (same_sym t u (subst (Same t) f k))) ∙ apart);
}

-- A refused read is one for running out of memory, or nothing is related.
memory_or_none : (k : DecodeErrorKind) (R : Reading Tree) (input : List ℕ) → Exact R input (refusal k) → IsOutOfMemory k ⊎ ((t : Tree) (rest : List ℕ) → R input t rest → ⊥)
memory_or_none OutOfMemory R input h = inl refl
memory_or_none _ R input h = inr h

pub not_read : {rule : Codec} {s : Shape} {input octets text : List ℕ} (t : Tree) (e : DecodeError) → Means rule s input t → Bytes Der s t octets → text ≡ octets
    → Exact (Reads Der s 128 (top Der)) text (refusal e.kind) ⊎ IsFollowed Der s text e → (IsOutOfMemory e.kind → ⊥) → IsNotCanonical rule s input
not_read {rule} {s} {input} {octets} {text} t e means is f refused other = record {
  value = t;
  means = means;
  octets = octets;
  written = is;
  other = λ v h k. none refused v (subst (λ l. Reads Der s 128 (top Der) l v []) (sym f) h);
}
  where
    none : Exact (Reads Der s 128 (top Der)) text (refusal e.kind) ⊎ IsFollowed Der s text e → (v : Tree) → Reads Der s 128 (top Der) text v [] → ⊥
    none (inl x) v h = elim (memory_or_none e.kind (Reads Der s 128 (top Der)) text x) [
      | inl m ↦ other m
      | inr n ↦ n v [] h
    ]
    none (inr y) v h = y.extra.some (sym (y.read.1 v [] h).1)

pub not_read_back : {errors : Errors} {rule : Codec} {s : Shape} {input octets text : List ℕ} {memory : Bool} (t : Tree) (e : DecodeError) → Means rule s input t → Bytes Der s t octets → text ≡ octets
    → FailsAlone errors Der s text e → IsWhether memory (IsOutOfMemory e.kind) → memory ≡ true → FailsReadBack errors rule s input e
not_read_back {errors} {rule} {s} {input} {octets} t e means is f fails tells m = record {
  value = t;
  means = means;
  octets = octets;
  written = is;
  memory = subst (λ b. IsWhether b (IsOutOfMemory e.kind)) m tells;
  fails = subst (λ l. FailsAlone errors Der s l e) f fails;
}

-- The normal encoding of a carried value is its octets.
module _ {rule : Codec} {s : Shape} {input octets : List ℕ} (n : IsNormal rule s input octets) {t : Tree} (c : IsCarriedIn rule s input t) where
  written_of : Bytes Der s t octets
  written_of = subst (λ z. Bytes Der s z octets) (sym (n.means.1 t [] c.reads).0) n.written

  carried_as : Carried Der s t
  carried_as = record { octets = octets; is = written_of; within_limits = c.carried.within_limits }

pub identified : {rule : Codec} {s : Shape} {input octets : List ℕ} → IsNormal rule s input octets → IsIdentified rule s input octets
unfolding carried_as written_of
identified {rule} {s} n = λ lawful t c u d. canonical s lawful t u (carried_as n c) d

pub kept : {rule : Codec} {s : Shape} {input octets : List ℕ} → AreOctets octets → IsNormal rule s input octets → IsKept rule s input octets
unfolding carried_as written_of
kept {rule} {s} {input} {octets} o n = λ lawful t c.
    let u = n.again in
    let h = stays_carried s lawful t (carried_as n c) o u n.read_again.0 in
    let is : Bytes Der s u octets = subst (Bytes Der s u) h.1 h.0.is in
    record {
      value = u;
      carried = record { reads = n.read_again.0; carried = record { octets = octets; is = is; within_limits = h.0.within_limits } };
      again = record { value = u; means = n.read_again; written = is; again = u; read_again = n.read_again; same = written_same s Der u octets is };
      only = λ other m. one_writing s Der u other octets (subst (λ z. Bytes Der s z other) (n.read_again.1 m.value [] m.means.0).0 m.written) is;
    }

pub unchanged : {rule : Codec} {s : Shape} {input octets : List ℕ} → AreOctets input → IsNormal rule s input octets → IsUnchanged rule s input octets
unfolding carried_as written_of
unchanged {rule} {s} {input} {octets} o n = λ lawful t c u h.
    let e : t ≡ u = (one_reading s lawful Ber 128 true input t u [] [] (included s lawful rule 128 input t [] c.reads) (included s lawful Der 128 input u [] h)).0 in
    let d : Carried Der s u = subst (Carried Der s) e (carried_as n c) in
    let k = strict_der s lawful input o u [] h d in
    one_writing s Der u octets k.0 (subst (λ z. Bytes Der s z octets) e (written_of n c)) k.1 ∙ (sym (append-nil k.0) ∙ sym k.2)

pub answered : {rule : Codec} {s : Shape} {input : List ℕ} (e : NormaliseError) → IsNoNormal rule s input e → IsAnswered rule s input e
answered {rule} {s} {input} (Decode e) (inl x) = λ lawful t c. elim (memory_or_none e.kind (Reads rule s 128 (top rule)) input x) [
  | inl m ↦ m
  | inr n ↦ absurd (n t [] c.reads)
]
answered (Decode e) (inr f) = λ lawful t c. absurd (f.extra.some (sym (f.read.1 t [] c.reads).1))
answered (Encode e) (inl m) = λ lawful t c. m
answered {rule} {s} (Encode e) (inr (v, means, undefined)) = λ lawful t c.
    absurd (undefined.none c.carried.octets (subst (λ z. Bytes Der s z c.carried.octets) (means.1 t [] c.reads).0 c.carried.is))
answered {rule} {s} {input} NotCanonical n = λ lawful t c.
    let e : t ≡ n.value = (n.means.1 t [] c.reads).0 in
    let f : c.carried.octets ≡ n.octets = one_writing s Der n.value c.carried.octets n.octets (subst (λ z. Bytes Der s z c.carried.octets) e c.carried.is) n.written in
    let r = read_again s lawful Der t c.carried in
    absurd (n.other r.0 (subst (λ l. Reads Der s 128 (top Der) l r.0 []) f r.2) (subst (λ z. Same z r.0) e r.1))

pub same_exactly_if_equal : SameExactlyIfEqual
unfolding carried_as
same_exactly_if_equal s lawful rule other input second t u c d a b n m = canonical s lawful t u (carried_as n c) (carried_as m d)

-- Where the conversion is refused for another cause than memory, there is no normal encoding.
pub no_normal : {rule : Codec} {s : Shape} {input : List ℕ} (e : NormaliseError) → IsNoNormal rule s input e → IsOutOfMemoryAlone e ⊎ ((octets : List ℕ) → IsNormal rule s input octets → ⊥)
no_normal {rule} {s} {input} (Decode e) (inl x) = elim (memory_or_none e.kind (Reads rule s 128 (top rule)) input x) [
  | inl m ↦ inl m
  | inr h ↦ inr (λ octets n. h n.value [] n.means.0)
]
no_normal (Decode e) (inr f) = inr (λ octets n. f.extra.some (sym (f.read.1 n.value [] n.means.0).1))
no_normal (Encode e) (inl m) = inl m
no_normal {rule} {s} (Encode e) (inr (v, means, undefined)) = inr (λ octets n. undefined.none octets (subst (λ z. Bytes Der s z octets) (means.1 n.value [] n.means.0).0 n.written))
no_normal {rule} {s} NotCanonical x = inr (λ octets n.
    let e : n.value ≡ x.value = (x.means.1 n.value [] n.means.0).0 in
    let f : octets ≡ x.octets = one_writing s Der x.value octets x.octets (subst (λ z. Bytes Der s z octets) e n.written) x.written in
    x.other n.again (subst (λ l. Reads Der s 128 (top Der) l n.again []) f n.read_again.0) (subst (λ z. Same z n.again) e n.same))

pub if_ok : {T E : Type 0} {P Q : T → Type 0} (r : Result T E) → ((v : T) → P v → Q v) → IfOk r P → IfOk r Q
if_ok (Ok v) f h = f v h
if_ok (Err e) f h = h

pub if_ok_both : {T E : Type 0} {O P Q : T → Type 0} (r : Result T E) → ((v : T) → O v → P v → Q v) → IfOk r O → IfOk r P → IfOk r Q
if_ok_both (Ok v) f o h = f v o h
if_ok_both (Err e) f o h = h

pub if_err : {T E : Type 0} {P Q : E → Type 0} (r : Result T E) → ((e : E) → P e → Q e) → IfErr r P → IfErr r Q
if_err (Ok v) f h = h
if_err (Err e) f h = f e h

-- An input has one normal encoding.
pub only_normal : {rule : Codec} {s : Shape} {input a b : List ℕ} → IsNormal rule s input a → IsNormal rule s input b → a ≡ b
only_normal {rule} {s} {input} {a} {b} m n =
    let f : n.value ≡ m.value = (m.means.1 n.value [] n.means.0).0 in
    one_writing s Der m.value a b m.written (subst (λ t. Bytes Der s t b) f n.written)

-- Octets that are compared with their normal encoding.
pub is_canonical : {s : Shape} {input octets shown : List ℕ} (same : Bool) → IsNormal Der s input octets → shown ≡ octets → same ≡ pointwise nat_eq shown input → IsWhether same (IsNormal Der s input input)
is_canonical {s} {input} {octets} {shown} true n e f = subst (IsNormal Der s input) (sym e ∙ (bytes_decides shown input).0 (sym f)) n
is_canonical {s} {input} {octets} {shown} false n e f = λ m. true≢false (sym ((bytes_decides shown input).1 (e ∙ only_normal n m)) ∙ sym f)

-- Octets without a normal encoding.
pub not_canonical : {s : Shape} {input : List ℕ} {memory : Bool} (e : NormaliseError) → IsNoNormal Der s input e → (IsTrue memory ↔ IsOutOfMemoryAlone e) → memory ≡ false → IsNormal Der s input input → ⊥
not_canonical {s} {input} e n tells f m = elim (no_normal e n) [
  | inl o ↦ true≢false (sym (tells.1 o) ∙ f)
  | inr none ↦ none input m
]
