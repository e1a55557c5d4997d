-- An ENUMERATED is read exactly where the grammar has one.
use Rattle.std.proofs.Common.{◌≡◌, ℕ, ℤ, inl, inr, Bool, true, List, pos, negsuc, FitsSigned, w64, to_z, of_z, arith, Result, Ok, Err, sym, ap, ◌∙◌, subst}
use Rattle.std.specs.Prelude.{Contains}
use Rattle.std.proofs.lemmas.Int.{ints, to_z-of_z}
use Rattle.rasn_types.specs.declared.types.tag.Tag.{Tag}
use Rattle.rasn_types.specs.declared.types.codec.Codec.{Codec}
use Rattle.rasn_types.specs.declared.error.decode.DecodeError.{DecodeError}
use Rattle.rasn_types.specs.Numbered.{fit_isize}
use Rattle.rasn_types.specs.Shapes.{Tree, number, leaf, integer, enumerated, IsIn}
use Rattle.rasn_types.specs.Trees.{unconstrained, signed_range}
use Rattle.rasn_types.specs.Contents.{signed}
use Rattle.rasn_types.specs.Grammar.{Reads, IsBounded}
use Rattle.rasn_types.specs.Errors.{IsOutOfMemory}
use Rattle.rasn_types.proofs.Enumerated.Range.{fits-isize}
use Rattle.rasn_de.specs.declared.ber.de.parser.ParseError.TheVariants.{DiscriminantValueNotFound}
use Rattle.rasn_de.specs.Causes.{Cause, fault, out_of_bound}
use Rattle.rasn_de.specs.Leaves.{FromContents, IntegerIn, IntegerAt, definite_at, FailsAs, DecodesLeaf, DecodesInteger}
use Rattle.rasn_de.specs.Enumerated.{EnumeratedIn, EnumeratedAt}
use Rattle.rasn_de.specs.State.{State, at}
use Rattle.rasn_de.specs.Steps.{IsErrorOf}
use Rattle.rasn_de.specs.Decodes.{Decodes}
use Rattle.rasn_de.proofs.Leaves.Outcomes.{Exact-none, Exact-refusal}
use Rattle.rasn_de.proofs.Leaves.Errors.{refuses_fault}
use Rattle.rasn_de.proofs.Leaves.Memory.{IsPlainCause, leaf_plain, lacks_plain}

-- a whole number of 64 bits
abbrev pub Number : Codec → List ℕ → Result ℤ Cause → Type 0
Number rule c r = IntegerIn rule 64 (signed_range 64) unconstrained c r

abbrev pub NumberAt : Codec → Tag → List ℕ → Result (ℤ × List ℕ) (Cause × List ℕ) → Type 0
NumberAt rule tag l r = IntegerAt 64 (signed_range 64) unconstrained rule tag l r

fits_64 : (z : ℤ) → IsIn (signed_range 64) z → FitsSigned w64 z
fits_64 (pos n) (low, high) = record { sfits = omega (arith, ints) }
fits_64 (negsuc n) (low, high) = record { sfits = omega (arith, ints) }

number_kept : (rule : Codec) (d : Result (List ℕ × List ℕ) (Cause × List ℕ)) (z : ℤ) (rest : List ℕ) → FromContents (Number rule) d (Ok (z, rest)) → to_z w64 (of_z w64 z) ≡ z
number_kept rule (Ok p) z rest ((n, i, a, e), g) = to_z-of_z w64 z (fits_64 z (subst (λ y. IsIn (signed_range 64) y) (sym e) i))
number_kept rule (Err d) z rest h = cc

-- A number that was read is handed on as it is.
pub handed_on : (rule : Codec) (tag : Tag) (l : List ℕ) (z : ℤ) (rest : List ℕ) → NumberAt rule tag l (Ok (z, rest)) → to_z w64 (of_z w64 z) ≡ z
handed_on rule tag l z rest h = number_kept rule (definite_at rule tag l) z rest h

module _ (known : List ℤ) where
  -- What refuses a number refuses the named number.
  number_refused : (rule : Codec) (d : Result (List ℕ × List ℕ) (Cause × List ℕ)) (e : Cause) (rest : List ℕ) → FromContents (Number rule) d (Err (e, rest)) → FromContents (EnumeratedIn rule known) d (Err (e, rest))
  number_refused rule (Ok p) (fault f) rest (inl h, g) = (inl h, g)
  number_refused rule (Ok p) (fault f) rest (inr h, g) = (inr (inl h), g)
  number_refused rule (Ok p) (out_of_bound z bound) rest ((n, i, a, e, f), g) = absurd (a tt)
  number_refused rule (Err d) e rest h = h

  number_named : (rule : Codec) (d : Result (List ℕ × List ℕ) (Cause × List ℕ)) (z w : ℤ) (rest : List ℕ) → FromContents (Number rule) d (Ok (z, rest)) → w ≡ z → Contains known w → FromContents (EnumeratedIn rule known) d (Ok (w, rest))
  number_named rule (Ok p) z w rest ((n, i, a, e), g) f k = ((n, subst (Contains known) (f ∙ e) k, f ∙ e), g)
  number_named rule (Err d) z w rest h f k = cc

  number_unnamed : (rule : Codec) (d : Result (List ℕ × List ℕ) (Cause × List ℕ)) (z : ℤ) (rest : List ℕ) → FromContents (Number rule) d (Ok (z, rest)) → (Contains known z → ⊥)
      → FromContents (EnumeratedIn rule known) d (Err (fault (DiscriminantValueNotFound z), rest))
  number_unnamed rule (Ok p) z rest ((n, i, a, e), g) k = (inr (inr (n, i, (λ c. k (subst (Contains known) (sym e) c)), ap DiscriminantValueNotFound e)), g)
  number_unnamed rule (Err d) z rest h k = cc

  pub enumerated_refused : {X : Type 0} (see : X → ℤ) (tag : Tag) (old new : State) (e : DecodeError) → DecodesInteger {X = X} see (λ z. ⊥) tag (NumberAt old.rule tag old.rest) old (Err e) new
      → FailsAs (EnumeratedAt known old.rule tag old.rest) old e new
  enumerated_refused see tag old new e (inl (m, h, s, c, d, i, g)) = absurd g
  enumerated_refused see tag old new e (inr (cause, f, t, c, s)) = (cause, number_refused old.rule (definite_at old.rule tag old.rest) cause new.rest f, t, c, s)

  pub enumerated_named : {E : Type 0} (see : E → ℤ) (tag : Tag) (old new : State) (z : ℤ) (v : E) → NumberAt old.rule tag old.rest (Ok (z, new.rest)) → new ≡ at old new.rest → see v ≡ z → Contains known (see v)
      → DecodesLeaf see (EnumeratedAt known old.rule tag old.rest) old (Ok v) new
  enumerated_named see tag old new z v h s e k = (number_named old.rule (definite_at old.rule tag old.rest) z (see v) new.rest h e k, s)

  pub enumerated_unnamed : (tag : Tag) (old new : State) (y z : ℤ) (e : DecodeError) → y ≡ z → NumberAt old.rule tag old.rest (Ok (z, new.rest)) → new ≡ at old new.rest → (Contains known y → ⊥)
      → IsErrorOf (DiscriminantValueNotFound y) new e → FailsAs (EnumeratedAt known old.rule tag old.rest) old e new
  enumerated_unnamed tag old new y z e i h s k d =
      refuses_fault (EnumeratedAt known old.rule tag old.rest) old new (DiscriminantValueNotFound z) e
      (number_unnamed old.rule (definite_at old.rule tag old.rest) z new.rest h (subst (λ x. Contains known x → ⊥) i k)) s (subst (λ x. IsErrorOf (DiscriminantValueNotFound x) new e) i d)

  module _ (fits : fit_isize known ≡ true) (tag : Tag) where
    -- A named number is one of 64 bits.
    named_reads : (rule : Codec) (depth : ℕ) (closing : Bool) (input : List ℕ) (t : Tree) (rest : List ℕ) → Reads rule (leaf (enumerated known) tag unconstrained) depth closing input t rest
        → Reads rule (leaf (integer (signed_range 64)) tag unconstrained) depth closing input t rest
    unfolding Reads
    named_reads rule depth closing input t rest ((bit, c, f, k, strict), u) =
        ((bit, c, f, (k.0, k.1, fits-isize known (signed c) fits k.2), strict), subst (IsBounded (integer (signed_range 64)) unconstrained) (sym k.0) tt)

    -- A number that is read is a named one where the type names it.
    reads_named : (rule : Codec) (depth : ℕ) (closing : Bool) (input : List ℕ) (z : ℤ) (rest : List ℕ) → Reads rule (leaf (integer (signed_range 64)) tag unconstrained) depth closing input (number z) rest
        → Contains known z → Reads rule (leaf (enumerated known) tag unconstrained) depth closing input (number z) rest
    unfolding Reads
    reads_named rule depth closing input z rest ((bit, c, f, k, strict), u) h =
        let e = k.0 in
        let d : z ≡ signed c = cc in
        ((bit, c, f, (k.0, k.1, subst (Contains known) d h), strict), tt)

    is_named : (rule : Codec) (depth : ℕ) (closing : Bool) (input : List ℕ) (t : Tree) (rest : List ℕ) → Reads rule (leaf (enumerated known) tag unconstrained) depth closing input t rest
        → (z : ℤ) × (t ≡ number z) × Contains known z
    unfolding Reads
    is_named rule depth closing input t rest ((bit, c, f, k, strict), u) = (signed c, k.0, k.2)

    pub decodes_named : {E : Type 0} (see : E → ℤ) (old new : State) (z : ℤ) (v : E) → Decodes (leaf (integer (signed_range 64)) tag unconstrained) (λ y. number y) old (Ok z) new → see v ≡ z → Contains known (see v)
        → Decodes (leaf (enumerated known) tag unconstrained) (λ w. number (see w)) old (Ok v) new
    decodes_named see old new z v d e k = record {
      stays = d.stays;
      end = d.end;
      exact = rw e (
        reads_named old.rule old.depth old.closing old.rest z new.rest d.exact.0 (subst (Contains known) e k),
        λ u s r. d.exact.1 u s (named_reads old.rule old.depth old.closing old.rest u s r),
      );
    }

    pub decodes_unnamed : {E : Type 0} (tree : E → Tree) (old new : State) (z : ℤ) (e : DecodeError) → Decodes (leaf (integer (signed_range 64)) tag unconstrained) (λ y. number y) old (Ok z) new → (Contains known z → ⊥)
        → Decodes {T = E} (leaf (enumerated known) tag unconstrained) tree old (Err e) new
    decodes_unnamed tree old new z e d k = record {
      stays = d.stays;
      end = d.end;
      exact = Exact-none e.kind (Reads old.rule (leaf (enumerated known) tag unconstrained) old.depth old.closing) old.rest (λ t s r. none t s r (is_named old.rule old.depth old.closing old.rest t s r));
    }
      where
        none : (t : Tree) (s : List ℕ) → Reads old.rule (leaf (enumerated known) tag unconstrained) old.depth old.closing old.rest t s → (y : ℤ) × (t ≡ number y) × Contains known y → ⊥
        none t s r (y, f, c) =
            let g = (d.exact.1 t s (named_reads old.rule old.depth old.closing old.rest t s r)).0 in
            let h : y ≡ z = cc in
            k (subst (Contains known) h c)

    pub decodes_refused : {E : Type 0} (tree : E → Tree) (old new : State) (e : DecodeError) → Decodes {T = ℤ} (leaf (integer (signed_range 64)) tag unconstrained) (λ y. number y) old (Err e) new
        → Decodes {T = E} (leaf (enumerated known) tag unconstrained) tree old (Err e) new
    decodes_refused tree old new e d = record {
      stays = d.stays;
      end = d.end;
      exact = Exact-refusal e.kind (Reads old.rule (leaf (integer (signed_range 64)) tag unconstrained) old.depth old.closing) (Reads old.rule (leaf (enumerated known) tag unconstrained) old.depth old.closing) old.rest old.rest
          (λ h t s r. h t s (named_reads old.rule old.depth old.closing old.rest t s r)) d.exact;
    }

  enumerated_plain : (rule : Codec) (c : List ℕ) (e : Cause) → EnumeratedIn rule known c (Err e) → IsPlainCause e
  enumerated_plain rule c (fault f) (inl h) = lacks_plain rule c f h
  enumerated_plain rule c (fault f) (inr (inl (n, i, g))) = λ h. cc
  enumerated_plain rule c (fault f) (inr (inr (n, i, k, g))) = λ h. cc
  enumerated_plain rule c (out_of_bound z bound) b = b

  -- No memory is taken.
  enumerated_memory : (tag : Tag) (old new : State) (e : DecodeError) → FailsAs (EnumeratedAt known old.rule tag old.rest) old e new → IsOutOfMemory e.kind → ⊥
  enumerated_memory tag old new e r = leaf_plain (EnumeratedIn old.rule known) (enumerated_plain old.rule) tag old new e r

  -- What `decode_enumerated` ensures of an error.
  pub enumerated_fails : {E : Type 0} (see : E → ℤ) (tag : Tag) (old new : State) (e : DecodeError) → Decodes {T = E} (leaf (enumerated known) tag unconstrained) (λ v. number (see v)) old (Err e) new → FailsAs (EnumeratedAt known old.rule tag old.rest) old e new
      → record { reads : Decodes {T = E} (leaf (enumerated known) tag unconstrained) (λ v. number (see v)) old (Err e) new; exact : FailsAs (EnumeratedAt known old.rule tag old.rest) old e new; memory : IsOutOfMemory e.kind → ⊥; rules : e.codec ≡ old.rule }
  enumerated_fails see tag old new e d r = record { reads = d; exact = r; memory = enumerated_memory tag old new e r; rules = r.3 }
