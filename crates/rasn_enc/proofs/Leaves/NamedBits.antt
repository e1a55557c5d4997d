-- Named bits are written as bits without a constraint.
use Rattle.std.proofs.Common.{◌≡◌, ℕ, inl, inr, List, Bool, length, Result, OnOk, IfErr, sym, ap, ◌∙◌, subst}
use Rattle.std.proofs.lemmas.Result.{on_ok_weaker, IfErr-weaker}
use Rattle.rasn_types.specs.declared.types.tag.Tag.{Tag}
use Rattle.rasn_types.specs.declared.types.codec.Codec.{Codec}
use Rattle.rasn_types.specs.declared.types.constraints.Constraints.{Constraints}
use Rattle.rasn_types.specs.declared.error.encode.EncodeError.{EncodeError}
use Rattle.rasn_types.specs.declared.error.encode.EncodeErrorKind.TheVariants.{SizeConstraintNotSatisfied}
use Rattle.rasn_types.specs.Shapes.{bits, leaf, bit_string, named_bits, AdmitsPadded, constraint_of}
use Rattle.rasn_types.specs.BitString.{significant}
use Rattle.rasn_types.specs.NamedBits.{named_bits_tree}
use Rattle.rasn_types.specs.Trees.{unconstrained}
use Rattle.rasn_types.specs.Grammar.{bit_family, named_family}
use Rattle.rasn_types.specs.Bytes.{IsUntaggedOpen, WritesIn, Bytes}
use Rattle.rasn_types.proofs.BitString.Significant.{significant_once}
use Rattle.rasn_enc.specs.View.{View}
use Rattle.rasn_enc.specs.Encoding.{AppendsEncoding, EncodeFails}
use Rattle.rasn_enc.specs.Errors.{FailsAtString, FailsAtNamedBits}

module _ (tag : Tag) (c : Constraints) (bs xs : List Bool) (v : View) (x : xs ≡ significant bs) where
  pub named_bits_encoded : {R E : Type 0} (result : Result R E) (w : View) → AdmitsPadded c.size (length xs)
      → OnOk result (AppendsEncoding (leaf bit_string tag unconstrained) (bits xs) v w) → OnOk result (AppendsEncoding (leaf named_bits tag c) (named_bits_tree bs) v w)
  unfolding Bytes IsUntaggedOpen
  named_bits_encoded result w fits h = on_ok_weaker result (λ a. record {
    octets = a.octets;
    defined = (subst (λ (l : List Bool). AdmitsPadded c.size (length l)) x fits, as_named a.octets a.defined.1);
    tags = a.tags;
    heads = a.heads;
    tagged = a.tagged;
    appended = a.appended;
  }) h
    where
      as_named : (octets : List ℕ) → WritesIn bit_family v.rule bit_string tag (bits xs) octets → WritesIn named_family v.rule named_bits tag (named_bits_tree bs) octets
      as_named octets (k, e, d) =
          let f : xs ≡ k = cc in
          let g : k ≡ significant bs = sym f ∙ x in
          (k, ap bits (sym g), ap significant g ∙ (significant_once bs ∙ sym g), d)

  -- Where there is no constraint, memory alone may be wanting.
  pub named_bits_fail : {R : Type 0} (result : Result R EncodeError) (rule : Codec) → AdmitsPadded c.size (length xs)
      → IfErr result (FailsAtString unconstrained (length xs) rule) → IfErr result (FailsAtNamedBits c (significant bs) rule)
  named_bits_fail result rule fits h = IfErr-weaker result _ _ (λ e. elim [
    | inl r ↦ absurd (r.unmet tt)
    | inr m ↦ inr (record { met = subst (λ (l : List Bool). AdmitsPadded c.size (length l)) x fits; memory = m.memory })
  ]) h

  -- The bits don't fit.
  pub named_bits_misfit : (rule : Codec) → (AdmitsPadded c.size (length xs) → ⊥) → FailsAtNamedBits c (significant bs) rule (record { kind = SizeConstraintNotSatisfied (length xs) (constraint_of c.size); codec = rule })
  named_bits_misfit rule unmet = inl (record {
    unmet = subst (λ (l : List Bool). AdmitsPadded c.size (length l) → ⊥) x unmet;
    is = ap (λ (l : List Bool). record { kind = SizeConstraintNotSatisfied (length l) (constraint_of c.size); codec = rule }) x;
  })

-- Bits that don't fit have no octets.
pub named_bits_refused : {R : Type 0} (result : Result R EncodeError) (tag : Tag) (c : Constraints) (bs : List Bool) (v : View)
    → IfErr result (FailsAtNamedBits c (significant bs) v.rule) → IfErr result (EncodeFails (leaf named_bits tag c) (named_bits_tree bs) v)
unfolding Bytes
named_bits_refused result tag c bs v h = IfErr-weaker result _ _ (λ e. elim [
  | inl r ↦ record { why = inr (inl (record { none = λ octets b. r.unmet b.0 })) }
  | inr m ↦ record { why = inl (ap (λ (x : EncodeError). x.kind) m.memory) }
]) h
