-- What is read inside a SEQUENCE, by an initializer or by a closure.
use Rattle.std.proofs.Common.{◌≡◌, ℕ, ◌⊎◌, inl, inr, Bool, true, false, ◌&&◌, ◌||◌, not, List, [], ◌∷◌, Option, Some, None, Result, Ok, Err, refl, sym, ap, ap₂, ◌∙◌, subst, ◌+◌, nat_eq}
use Rattle.std.proofs.lemmas.Bool.{eqb-true}
use Rattle.std.specs.declared.alloc.AllocError.{AllocError}
use Rattle.rasn_types.specs.declared.types.codec.Codec.{Codec}
use Rattle.rasn_types.specs.declared.error.decode.DecodeError.{DecodeError}
use Rattle.rasn_types.specs.declared.error.decode.DecodeErrorKind.{DecodeErrorKind}
use Rattle.rasn_types.specs.Shapes.{Tree, items, Parts, part, presences, required, addition, optional_by, default_by}
use Rattle.rasn_types.specs.Shapes.Parts.{none}
use Rattle.rasn_types.specs.Readings.{Reading, Part, ReadsInOrder, AllMissing, presences_in, HasRequired, AreAllLeftOut, ReadsSeq}
use Rattle.rasn_types.specs.Grammar.{parts_of}
use Rattle.rasn_types.specs.Described.{has_required, count, same_bool, is_fieldless, describes}
use Rattle.rasn_types.proofs.Time.Spellings.{both_true}
use Rattle.rasn_de.proofs.Constructed.OneReading.{all_missing_one}
use Rattle.rasn_de.specs.State.{State}
use Rattle.rasn_de.specs.Outcomes.{Exact, Outcome, Got, refusal, outcome}
use Rattle.rasn_de.specs.Decodes.{ReadsParts, DecodesParts}
use Rattle.rasn_de.specs.Sequence.{is_empty, is_read_by_initializer, MakesInitial, DecodesContents, MakesAllMissing}

same_is : (a b : Bool) → same_bool a b ≡ true → a ≡ b
same_is true b e = sym e
same_is false true e = cc
same_is false false e = refl

-- Whether a part is required doesn't hang on where it is read.
pub required_part : (rule : Codec) (ps : Parts) (depth : ℕ) (closing : Bool) → has_required ps ≡ true → HasRequired (parts_of rule ps depth closing)
unfolding parts_of
required_part rule none depth closing e = cc
required_part rule (part required s ps) depth closing e = inl refl
required_part rule (part (optional_by key) s ps) depth closing e = inr (required_part rule ps depth closing e)
required_part rule (part addition s ps) depth closing e = inr (required_part rule ps depth closing e)
required_part rule (part (default_by key d) s ps) depth closing e = inr (required_part rule ps depth closing e)

pub no_required : (rule : Codec) (ps : Parts) (depth : ℕ) (closing : Bool) → has_required ps ≡ false → HasRequired (parts_of rule ps depth closing) → ⊥
unfolding parts_of
no_required rule none depth closing e h = h
no_required rule (part required s ps) depth closing e h = cc
no_required rule (part (optional_by key) s ps) depth closing e (inl f) = cc
no_required rule (part (optional_by key) s ps) depth closing e (inr h) = no_required rule ps depth closing e h
no_required rule (part addition s ps) depth closing e (inl f) = cc
no_required rule (part addition s ps) depth closing e (inr h) = no_required rule ps depth closing e h
no_required rule (part (default_by key d) s ps) depth closing e (inl f) = cc
no_required rule (part (default_by key d) s ps) depth closing e (inr h) = no_required rule ps depth closing e h

pub not_required : (rule : Codec) (ps : Parts) (depth : ℕ) (closing : Bool) → (HasRequired (parts_of rule ps depth closing) → ⊥) → has_required ps ≡ false
not_required rule ps depth closing n = go (has_required ps) refl
  where
    go : (b : Bool) → has_required ps ≡ b → has_required ps ≡ false
    go true e = absurd (n (required_part rule ps depth closing e))
    go false e = e

-- Parts none of which is present are missing wherever they are read.
are_missing : (rule : Codec) (ps : Parts) (depth : ℕ) (closing : Bool) (ts : List Tree) → AllMissing (presences ps) ts → AllMissing (presences_in (parts_of rule ps depth closing)) ts
unfolding parts_of
are_missing rule none depth closing ts e = e
are_missing rule (part p s ps) depth closing ts (t, us, e, m, h) = (t, us, e, m, are_missing rule ps depth closing us h)

-- what a description says
module _ (root more : ℕ) (extensible flag : Bool) (parts : Parts) (d : describes root more extensible flag parts ≡ true) where
  told : (same_bool (has_required parts) flag && nat_eq (count parts) (root + more) ≡ true) × (extensible || nat_eq more 0 ≡ true)
  told = both_true (same_bool (has_required parts) flag && nat_eq (count parts) (root + more)) (extensible || nat_eq more 0) d

  flag_is : has_required parts ≡ flag
  flag_is = same_is (has_required parts) flag (both_true (same_bool (has_required parts) flag) _ told.0).0

  fieldless_none : is_fieldless root extensible ≡ true → parts ≡ none
  fieldless_none e =
      let fields = both_true (nat_eq root 0) (not extensible) e in
      let counted = both_true (same_bool (has_required parts) flag) (nat_eq (count parts) (root + more)) told.0 in
      go parts (eqb-true (count parts) (root + more) counted.1 ∙ ap₂ (λ m n. m + n) (eqb-true root 0 fields.0) (eqb-true more 0 (unmarked extensible fields.1 told.1)))
    where
      unmarked : (b : Bool) → not b ≡ true → b || nat_eq more 0 ≡ true → nat_eq more 0 ≡ true
      unmarked true f g = cc
      unmarked false f g = g

      go : (ps : Parts) → count ps ≡ 0 → ps ≡ none
      go none f = refl
      go (part p s ps) f = cc

  -- why the initializer reads
  initial_why : (input : List ℕ) → is_read_by_initializer root extensible flag input ≡ true → (parts ≡ none) ⊎ ((has_required parts ≡ false) × (input ≡ []))
  initial_why input e = go (is_fieldless root extensible) refl flag refl input e
    where
      go : (b : Bool) → is_fieldless root extensible ≡ b → (c : Bool) → flag ≡ c → (i : List ℕ) → b || (not c && is_empty i) ≡ true → (parts ≡ none) ⊎ ((has_required parts ≡ false) × (i ≡ []))
      go true p c q i f = inl (fieldless_none p)
      go false p true q i f = cc
      go false p false q [] f = inr (flag_is ∙ q, refl)
      go false p false q (x ∷ i) f = cc

  initial_none : (input : List ℕ) → is_read_by_initializer root extensible flag input ≡ true → has_required parts ≡ false
  initial_none input e = go (initial_why input e)
    where
      go : (parts ≡ none) ⊎ ((has_required parts ≡ false) × (input ≡ [])) → has_required parts ≡ false
      go (inl p) = ap has_required p
      go (inr p) = p.0

  not_untagged : (rule : Codec) (depth : ℕ) (closing : Bool) (input : List ℕ) → is_read_by_initializer root extensible flag input ≡ false → AreAllLeftOut (parts_of rule parts depth closing) closing input → ⊥
  not_untagged rule depth closing input e (n, c, i) = go (is_fieldless root extensible) flag refl (sym flag_is ∙ not_required rule parts depth closing n) (subst (λ z. is_read_by_initializer root extensible flag z ≡ false) i e)
    where
      go : (b c : Bool) → flag ≡ c → flag ≡ false → b || (not c && true) ≡ false → ⊥
      go true c f q p = cc
      go false true f q p = cc
      go false false f q p = cc

-- At no parts nothing is read, whether the contents are bare or not.
untagged_or : (closing : Bool) (input : List ℕ) → ((closing ≡ false) × (input ≡ [])) ⊎ ((closing ≡ false) × (input ≡ []) → ⊥)
untagged_or true input = inr (λ e. let f = e.0 in cc)
untagged_or false [] = inl (refl, refl)
untagged_or false (b ∷ l) = inr (λ e. let f = e.1 in cc)

none_exact : (rule : Codec) (closing : Bool) (input : List ℕ) (t : Tree) → t ≡ items [] → Exact (ReadsSeq rule [] closing) input (Got t input)
none_exact rule closing input t e = (there (untagged_or closing input), only)
  where
    there : ((closing ≡ false) × (input ≡ [])) ⊎ ((closing ≡ false) × (input ≡ []) → ⊥) → ReadsSeq rule [] closing input t input
    there (inl b) = ([], e, inl (((λ h. h), b.0, b.1), refl, refl))
    there (inr n) = ([], e, inr ((λ b. n (b.1, b.2)), (refl, refl)))

    only : (u : Tree) (s : List ℕ) → ReadsSeq rule [] closing input u s → (u ≡ t) × (s ≡ input)
    only u s (ts, f, inl (b, m, r)) = (f ∙ ap items m ∙ sym e, r)
    only u s (ts, f, inr (b, (m, r))) = (f ∙ ap items m ∙ sym e, r)

pub untagged_exact : (rule : Codec) (ps : List Part) (t : Tree) (ts : List Tree) → (HasRequired ps → ⊥) → t ≡ items ts → AllMissing (presences_in ps) ts → Exact (ReadsSeq rule ps false) [] (Got t [])
untagged_exact rule ps t ts n e m = ((ts, e, inl ((n, refl, refl), m, refl)), only)
  where
    only : (u : Tree) (s : List ℕ) → ReadsSeq rule ps false [] u s → (u ≡ t) × (s ≡ [])
    only u s (us, f, inl (b, k, r)) = (f ∙ ap items (all_missing_one ps us ts k m) ∙ sym e, r)
    only u s (us, f, inr (b, k)) = absurd (b (n, refl, refl))

pub parts_exact : (rule : Codec) (ps : List Part) (closing : Bool) (input : List ℕ) (o : Outcome) → (AreAllLeftOut ps closing input → ⊥)
    → Exact (λ i t r. (ts : List Tree) × (t ≡ items ts) × ReadsInOrder rule ps closing i ts r) input o → Exact (ReadsSeq rule ps closing) input o
parts_exact rule ps closing input (Got t r) n (x, u) = ((x.0, x.1, inr (n, x.2)), only)
  where
    only : (v : Tree) (s : List ℕ) → ReadsSeq rule ps closing input v s → (v ≡ t) × (s ≡ r)
    only v s (ts, f, inl (b, m, k)) = absurd (n b)
    only v s (ts, f, inr (b, k)) = u v s (ts, f, k)
parts_exact rule ps closing input Rattle.rasn_de.specs.Outcomes.Refused n x = λ v s w. none v s w
  where
    none : (v : Tree) (s : List ℕ) → ReadsSeq rule ps closing input v s → ⊥
    none v s (ts, f, inl (b, m, k)) = n b
    none v s (ts, f, inr (b, k)) = x v s (ts, f, k)
parts_exact rule ps closing input Rattle.rasn_de.specs.Outcomes.AllocFailed n x = tt

-- The answer is exact, or an input ends with its header and is left.
abbrev pub IsExactOrCut : {D : Type 0} → (D → Tree) → (Codec → ℕ → Bool → Reading Tree) → State → Result D DecodeError → State → Type 0
IsExactOrCut tree R o r n = Exact (R o.rule o.depth o.closing) o.rest (outcome tree r n.rest) ⊎ ((o.closing ≡ true) × (o.rest ≡ []) × (n.rest ≡ []))

abbrev pub SeqReads : Parts → Codec → ℕ → Bool → Reading Tree
SeqReads parts rule depth closing = ReadsSeq rule (parts_of rule parts depth closing) closing

module _ {I D : Type 0} (root more : ℕ) (extensible flag : Bool) (parts : Parts) (d : describes root more extensible flag parts ≡ true) (tree : D → Tree) (made : I → Result D AllocError → Type 0) (init : Option I) (bare : MakesAllMissing parts tree made init)
    (called : State → Result D DecodeError → State → Type 0) (H : (o : State) (r : Result D DecodeError) (n : State) → called o r n → DecodesParts parts tree o r n) where
  made_exact : (o : State) (v : D) → is_read_by_initializer root extensible flag o.rest ≡ true → (ts : List Tree) → tree v ≡ items ts → AllMissing (presences_in (parts_of o.rule parts o.depth o.closing)) ts → IsExactOrCut tree (SeqReads parts) o (Ok v) o
  unfolding parts_of
  made_exact o v s ts e m = go (initial_why root more extensible flag parts d o.rest s)
    where
      at_none : (ps : Parts) → ps ≡ none → AllMissing (presences_in (parts_of o.rule ps o.depth o.closing)) ts → Exact (ReadsSeq o.rule (parts_of o.rule ps o.depth o.closing) o.closing) o.rest (Got (tree v) o.rest)
      at_none none p m = none_exact o.rule o.closing o.rest (tree v) (e ∙ ap items m)
      at_none (part p s ps) q m = cc

      at_empty : (c : Bool) → o.closing ≡ c → has_required parts ≡ false → o.rest ≡ [] → IsExactOrCut tree (SeqReads parts) o (Ok v) o
      at_empty true q f i = inr (q, i, i)
      at_empty false q f i =
          let P : Bool → Type 0 = λ c. AllMissing (presences_in (parts_of o.rule parts o.depth c)) ts in
          let x = untagged_exact o.rule (parts_of o.rule parts o.depth false) (tree v) ts (no_required o.rule parts o.depth false f) e (subst P q m) in
          let Q : List ℕ → Type 0 = λ l. Exact (ReadsSeq o.rule (parts_of o.rule parts o.depth false) false) l (Got (tree v) l) in
          let S : Bool → Type 0 = λ c. Exact (ReadsSeq o.rule (parts_of o.rule parts o.depth c) c) o.rest (Got (tree v) o.rest) in
          inl (subst S (sym q) (subst Q (sym i) x))

      go : (parts ≡ none) ⊎ ((has_required parts ≡ false) × (o.rest ≡ [])) → IsExactOrCut tree (SeqReads parts) o (Ok v) o
      go (inl p) = inl (at_none parts p m)
      go (inr p) = at_empty o.closing refl p.0 p.1

  made_one : (o : State) (r : Result D DecodeError) → is_read_by_initializer root extensible flag o.rest ≡ true → (i : Option I) → MakesAllMissing parts tree made i → MakesInitial made i o r → IsExactOrCut tree (SeqReads parts) o r o
  made_one o (Ok v) s None b k = absurd k
  made_one o (Err e) s None b k = let q = initial_none root more extensible flag parts d o.rest s in cc
  made_one o (Ok v) s (Some i) b k = let m = b v k in made_exact o v s m.0 m.1 (are_missing o.rule parts o.depth o.closing m.0 m.2)
  made_one o (Err e) s (Some i) b (x, k, w) =
      let P : DecodeErrorKind → Type 0 = λ z. Exact (SeqReads parts o.rule o.depth o.closing) o.rest (refusal z) in
      inl (subst P (sym (ap (λ (y : DecodeError). y.kind) w)) tt)

  pub fills_exact : (o : State) (r : Result D DecodeError) (n : State) → DecodesContents (is_read_by_initializer root extensible flag) (MakesInitial made init) called o r n → IsExactOrCut tree (SeqReads parts) o r n
  unfolding ReadsParts
  fills_exact o r n (inl (s, k, e)) = subst (IsExactOrCut tree (SeqReads parts) o r) (sym e) (made_one o r s init bare k)
  fills_exact o r n (inr (s, k)) =
      inl (parts_exact o.rule (parts_of o.rule parts o.depth o.closing) o.closing o.rest (outcome tree r n.rest) (not_untagged root more extensible flag parts d o.rule o.depth o.closing o.rest s) (H o r n k).exact)
