-- Named bits are read exactly where the grammar has them.
use Rattle.std.proofs.Common.{◌≡◌, ◌≢◌, ◌+◌, ◌≤◌, ◌<◌, ◌⊎◌, ℕ, zero, suc, inl, inr, Bool, true, false, List, [], ◌++◌, length, Result, Ok, Err, refl, sym, ap, ◌∙◌, subst, arith}
use Rattle.std.specs.Prelude.{IfOk, IfErr}
use Rattle.rasn_types.specs.declared.types.tag.Tag.{Tag}
use Rattle.rasn_types.specs.declared.types.codec.Codec.{Codec}
use Rattle.rasn_types.specs.declared.types.codec.Codec.TheVariants.{Ber, Cer, Der}
use Rattle.rasn_types.specs.declared.types.constraints.Constraints.{Constraints}
use Rattle.rasn_types.specs.declared.types.bits.cow_bits.CowBits.{CowBits}
use Rattle.rasn_types.specs.declared.types.bits.cow_bits.CowBits.TheVariants.{Borrowed, Owned}
use Rattle.rasn_types.specs.declared.error.decode.DecodeError.{DecodeError}
use Rattle.rasn_types.specs.CowBits.{cow_bits, cow_bits_tree, significant_cow}
use Rattle.rasn_types.specs.Errors.{IsOutOfMemory}
use Rattle.rasn_types.specs.Tags.{IsCanonical}
use Rattle.rasn_types.specs.Shapes.{Tree, bits, leaf, bit_string, named_bits, AdmitsPadded, constraint_of}
use Rattle.rasn_types.specs.BitString.{significant}
use Rattle.rasn_types.specs.NamedBits.{named_bits_tree}
use Rattle.rasn_types.specs.Trees.{unconstrained}
use Rattle.rasn_types.specs.Grammar.{Reads, ReadsLeaf, IsBounded}
use Rattle.rasn_types.proofs.BitString.Significant.{significant_once, all_significant}
use Rattle.rasn_de.specs.declared.ber.de.parser.ParseError.{ParseError}
use Rattle.rasn_de.specs.declared.ber.de.parser.ParseError.TheVariants.{OutOfMemory, TrailingZeroBits, SizeConstraintNotSatisfied}
use Rattle.rasn_de.specs.BitString.{bits_tree, DecodesBitString, DecodesCowBits, AreBorrowedIfPrimitive}
use Rattle.rasn_de.specs.NamedBits.{AreNamedBits, DecodesNamedBits, DecodesSignificantBits}
use Rattle.rasn_de.specs.OctetString.{IsPrimitive, IsConstructed}
use Rattle.rasn_de.specs.Outcomes.{Exact, Got}
use Rattle.rasn_de.specs.Leaves.{is_ber}
use Rattle.rasn_de.specs.State.{State}
use Rattle.rasn_de.specs.Steps.{IsErrorOf}
use Rattle.rasn_de.specs.Decodes.{Decodes}
use Rattle.rasn_de.proofs.Leaves.Outcomes.{Exact-none, Exact-refusal}
use Rattle.rasn_de.proofs.Leaves.Rules.{bits_rules}
use Rattle.rasn_de.proofs.Headers.NextTag.{kind_memory}

-- ---- the rules, and bits that have no trailing 0 bits
pub canonical : (rule : Codec) → is_ber rule ≡ false → IsCanonical rule
canonical Ber e = cc
canonical Cer e = tt
canonical Der e = tt

pub basic : {A : Type 0} (rule : Codec) → is_ber rule ≡ true → IsCanonical rule → A
basic Ber e h = absurd h
basic Cer e h = cc
basic Der e h = cc

module _ (rule : Codec) (bounds : Constraints) (read : List Bool) (size len : ℕ) (s : size ≡ length (significant read)) (l : len ≡ length read) where
  pub trailing_zeros : size ≢ len → is_ber rule ≡ false → AreNamedBits rule bounds read (Err TrailingZeroBits)
  trailing_zeros n e = inl (canonical rule e, λ f. n (s ∙ (ap length f ∙ sym l)), refl)

  -- Where there are trailing 0 bits, the rules allow them.
  none_trailing : (size ≡ len) ⊎ (is_ber rule ≡ true) → IsCanonical rule → significant read ≡ read
  none_trailing (inl e) c = all_significant read (sym s ∙ (e ∙ l))
  none_trailing (inr e) c = basic rule e c

  pub named_all : (size ≡ len) ⊎ (is_ber rule ≡ true) → AdmitsPadded bounds.size size → AreNamedBits rule bounds read (Ok tt)
  named_all h a = (none_trailing h, subst (AdmitsPadded bounds.size) s a)

  pub named_none : (size ≡ len) ⊎ (is_ber rule ≡ true) → (AdmitsPadded bounds.size size → ⊥) → AreNamedBits rule bounds read (Err (SizeConstraintNotSatisfied size (constraint_of bounds.size)))
  named_none h a = inr (none_trailing h, subst (λ n. AdmitsPadded bounds.size n → ⊥) s a, ap (λ n. SizeConstraintNotSatisfied n (constraint_of bounds.size)) s)

-- ---- what the grammar says
module _ (rule : Codec) (tag : Tag) (bounds : Constraints) (depth : ℕ) (closing : Bool) (input : List ℕ) where
  -- Named bits are bits without a constraint.
  abbrev pub IsNamed : Tree → List ℕ → Type 0
  IsNamed t rest = (bs : List Bool) × Reads rule (leaf bit_string tag unconstrained) depth closing input (bits bs) rest
      × (t ≡ bits (significant bs)) × (IsCanonical rule → significant bs ≡ bs) × AdmitsPadded bounds.size (length (significant bs))

  is_named : (t : Tree) (rest : List ℕ) → Reads rule (leaf named_bits tag bounds) depth closing input t rest → IsNamed t rest
  unfolding Reads
  is_named t rest ((bs, e, n, s, z), b) = (bs, ((bs, refl, n, s), tt), e, z, subst (IsBounded named_bits bounds) e b)

  reads_named : (bs : List Bool) (rest : List ℕ) → Reads rule (leaf bit_string tag unconstrained) depth closing input (bits bs) rest → (IsCanonical rule → significant bs ≡ bs) → AdmitsPadded bounds.size (length (significant bs))
      → Reads rule (leaf named_bits tag bounds) depth closing input (bits (significant bs)) rest
  unfolding Reads
  reads_named bs rest ((xs, e, n, s), u) z b =
      let f : xs ≡ bs = cc in
      ((xs, ap (λ (l : List Bool). bits (significant l)) (sym f), n, s, subst (λ (l : List Bool). IsCanonical rule → significant l ≡ l) (sym f) z), b)

-- ---- what a call says
abbrev pub Says : Tag → Constraints → State → Result (List Bool) DecodeError → State → Type 0
Says tag bounds old result new = record {
  reads : Decodes (leaf named_bits tag bounds) named_bits_tree old result new;
  exact : DecodesNamedBits tag bounds old result new;
  rules : IfErr result (λ e. e.codec ≡ old.rule);
}

abbrev pub SaysSignificant : Tag → Constraints → State → Result CowBits DecodeError → State → Type 0
SaysSignificant tag bounds old result new = record {
  reads : Decodes (leaf named_bits tag bounds) cow_bits_tree old result new;
  significant : IfOk result (λ b. significant (cow_bits b) ≡ cow_bits b);
  exact : DecodesSignificantBits tag bounds old result new;
  rules : IfErr result (λ e. e.codec ≡ old.rule);
}

-- Bits that are borrowed are refused as others are.
pub significant_refused : (tag : Tag) (bounds : Constraints) (old new : State) (e : DecodeError) → Says tag bounds old (Err e) new → (IsPrimitive old.rule tag old.rest → IsOutOfMemory e.kind → ⊥) → SaysSignificant tag bounds old (Err e) new
significant_refused tag bounds old new e h m = record { reads = h.reads; significant = tt; exact = (h.exact, m); rules = h.rules }

module _ (tag : Tag) (bounds : Constraints) (old new : State) where
  -- bits that aren't read
  pub named_unread : (e : DecodeError) → Decodes (leaf bit_string tag unconstrained) bits_tree old (Err e) new → DecodesBitString tag unconstrained old (Err e) new → Says tag bounds old (Err e) new
  named_unread e d h = record {
    reads = record {
      stays = d.stays;
      end = d.end;
      exact = Exact-refusal e.kind (Reads old.rule (leaf bit_string tag unconstrained) old.depth old.closing) (Reads old.rule (leaf named_bits tag bounds) old.depth old.closing) old.rest old.rest
          (λ none u s r. let w = is_named old.rule tag bounds old.depth old.closing old.rest u s r in none (bits w.0) s w.1) d.exact;
    };
    exact = inl h;
    rules = bits_rules tag unconstrained old new (Err e) h;
  }

  module _ (read : List Bool) (d : Decodes (leaf bit_string tag unconstrained) bits_tree old (Ok read) new) (h : DecodesBitString tag unconstrained old (Ok read) new) where
    -- the only bits that are read here
    only_read : (bs : List Bool) (s : List ℕ) → Reads old.rule (leaf bit_string tag unconstrained) old.depth old.closing old.rest (bits bs) s → (bs ≡ read) × (s ≡ new.rest)
    only_read bs s r =
        let k = d.exact.1 (bits bs) s r in
        let e = k.0 in
        (cc, k.1)

    module _ (z : IsCanonical old.rule → significant read ≡ read) (b : AdmitsPadded bounds.size (length (significant read))) where
      found : (t : Tree) → t ≡ bits (significant read) → Exact (Reads old.rule (leaf named_bits tag bounds) old.depth old.closing) old.rest (Got t new.rest)
      found t e = rw e (
        reads_named old.rule tag bounds old.depth old.closing old.rest read new.rest d.exact.0 z b,
        λ u s r.
            let w = is_named old.rule tag bounds old.depth old.closing old.rest u s r in
            let k = only_read w.0 s w.1 in
            (w.2 ∙ ap (λ (l : List Bool). bits (significant l)) k.0, k.1),
      )

      pub named_found : (bs : List Bool) → bs ≡ significant read → Says tag bounds old (Ok bs) new
      named_found bs e = record {
        reads = record { stays = d.stays; end = d.end; exact = found (named_bits_tree bs) (ap named_bits_tree e ∙ ap bits (significant_once read)) };
        exact = (read, h, (z, b), e);
        rules = tt;
      }

      pub significant_found : (c : CowBits) → cow_bits c ≡ significant read → AreBorrowedIfPrimitive old.rule tag old.rest c → SaysSignificant tag bounds old (Ok c) new
      significant_found c e k = record {
        reads = record { stays = d.stays; end = d.end; exact = found (cow_bits_tree c) (ap bits e) };
        significant = ap significant e ∙ (significant_once read ∙ sym e);
        exact = ((read, h, (z, b), e), k);
        rules = tt;
      }

    pub named_refused : (f : ParseError) (e : DecodeError) → AreNamedBits old.rule bounds read (Err f) → IsErrorOf f new e → Says tag bounds old (Err e) new
    named_refused f e refused k = record {
      reads = record {
        stays = d.stays;
        end = d.end;
        exact = Exact-none e.kind (Reads old.rule (leaf named_bits tag bounds) old.depth old.closing) old.rest (λ u s r.
            let w = is_named old.rule tag bounds old.depth old.closing old.rest u s r in
            let g = (only_read w.0 s w.1).0 in
            none (subst (λ (l : List Bool). IsCanonical old.rule → significant l ≡ l) g w.3) (subst (λ (l : List Bool). AdmitsPadded bounds.size (length (significant l))) g w.4));
      };
      exact = inr (read, f, h, refused, k);
      rules = ap (λ (x : DecodeError). x.codec) k ∙ ap (λ (x : State). x.rule) d.stays;
    }
      where
        none : (IsCanonical old.rule → significant read ≡ read) → AdmitsPadded bounds.size (length (significant read)) → ⊥
        none z b = elim refused [ inl x ↦ x.1 (z x.0) | inr x ↦ x.1 b ]

-- ---- bits that are borrowed
pub significant_bits : (b : CowBits) → cow_bits (significant_cow b) ≡ significant (cow_bits b)
significant_bits (Borrowed bs) = refl
significant_bits (Owned bs) = refl

pub borrowed_as : (rule : Codec) (tag : Tag) (l : List ℕ) (b : CowBits) → AreBorrowedIfPrimitive rule tag l b → AreBorrowedIfPrimitive rule tag l (significant_cow b)
borrowed_as rule tag l (Borrowed bs) h = h
borrowed_as rule tag l (Owned bs) h = h

-- The faults of named bits aren't that memory ran out.
pub named_plain : (rule : Codec) (bounds : Constraints) (read : List Bool) (f : ParseError) → AreNamedBits rule bounds read (Err f) → f ≢ OutOfMemory
named_plain rule bounds read f (inl (c, n, e)) g = cc
named_plain rule bounds read f (inr (c, n, e)) g = cc

pub named_memory : (rule : Codec) (bounds : Constraints) (read : List Bool) (f : ParseError) (s : State) (e : DecodeError) → AreNamedBits rule bounds read (Err f) → IsErrorOf f s e → IsOutOfMemory e.kind → ⊥
named_memory rule bounds read f s e h k m = kind_memory f (named_plain rule bounds read f h) (sym (ap (λ (x : DecodeError). x.kind) k) ∙ m)
