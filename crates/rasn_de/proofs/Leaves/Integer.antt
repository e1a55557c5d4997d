-- An INTEGER is read exactly where the grammar has one.
use Rattle.std.proofs.Common.{◌≡◌, ◌≢◌, ℕ, ℤ, ◌≤ℤ◌, inl, inr, true, false, List, [], ◌∷◌, length, Result, Ok, Err, refl, sym, ap, ◌∙◌, subst, arith}
use Rattle.std.proofs.lemmas.Bool.Decides.{nat_tests}
use Rattle.rasn_types.specs.declared.types.tag.Tag.{Tag}
use Rattle.rasn_types.specs.declared.types.codec.Codec.{Codec}
use Rattle.rasn_types.specs.declared.types.constraints.Constraints.{Constraints}
use Rattle.rasn_types.specs.declared.error.decode.DecodeError.{DecodeError}
use Rattle.rasn_types.specs.Errors.{IsOutOfMemory}
use Rattle.rasn_types.specs.Framing.{AreOctets}
use Rattle.rasn_types.specs.Shapes.{Tree, number, leaf, integer, Interval, IsIn, Admits, constraint_of}
use Rattle.rasn_types.specs.Tags.{IsStrict}
use Rattle.rasn_types.specs.Contents.{Contents, signed, IsShortest, IsShortestInteger}
use Rattle.rasn_types.specs.Grammar.{Reads, IsBounded}
use Rattle.rasn_de.specs.Causes.{Cause, fault, out_of_bound, HasCause}
use Rattle.std.specs.Prelude.{◌==◌, ◌⊎◌, IfErr}
use Rattle.rasn_de.specs.declared.ber.de.parser.ParseError.{ParseError}
use Rattle.rasn_de.specs.declared.ber.de.parser.ParseError.TheVariants as fault_is
use Rattle.rasn_de.specs.Steps.{IsErrorOf}
use Rattle.rasn_de.proofs.Leaves.Errors.{rule_is}
use Rattle.rasn_de.specs.Leaves.{Readings, FromContents, IsIntegerContents, IsNotIntegerContents, IntegerIn, IntegerAt, definite_at, FailsAs, DecodesLeaf, DecodesInteger, TakesThere, IsOutOfBound}
use Rattle.rasn_de.specs.State.{State, at}
use Rattle.rasn_de.specs.Decodes.{Decodes}
use Rattle.rasn_de.proofs.Leaves.Memory.{decoded_integer_memory}
use Rattle.rasn_de.proofs.Leaves.Outcomes.{plain_agrees, decoded_answers, definite_end, alloc_failed}
use Rattle.rasn_de.proofs.Leaves.Rules.{integer_rules}

-- Octets that hold a number don't lack one.
number_lacks : (rule : Codec) (c : List ℕ) (f : ParseError) → IsNotIntegerContents rule c f → c ≢ [] → (IsStrict rule → IsShortestInteger c) → ⊥
number_lacks rule c f (inl (e, g)) n s = n e
number_lacks rule c f (inr (m, strict, h, g)) n s = h (s strict)

module _ (width : ℕ) (range : Interval) (bounds : Constraints) where
  integer_parsed : (rule : Codec) (c : List ℕ) (z : ℤ) → AreOctets c → IntegerIn rule width range bounds c (Ok z) → Contents rule (integer range) c (number z) × (IsStrict rule → IsShortest (integer range) c) × IsBounded (integer range) bounds (number z)
  integer_parsed rule c z o (n, i, a, e) = ((ap number e, n.0, i), n.1, subst (λ y. Admits ◌≤ℤ◌ bounds.value y) (sym e) a)

  integer_only : (rule : Codec) (c : List ℕ) (z : ℤ) (t : Tree) → AreOctets c → IntegerIn rule width range bounds c (Ok z) → Contents rule (integer range) c t → IsBounded (integer range) bounds t → t ≡ number z
  integer_only rule c z t o (n, i, a, e) k b = k.0 ∙ ap number (sym e)

  integer_none : (rule : Codec) (c : List ℕ) (e : Cause) (t : Tree) → AreOctets c → IntegerIn rule width range bounds c (Err e) → Contents rule (integer range) c t → (IsStrict rule → IsShortest (integer range) c) → IsBounded (integer range) bounds t → ⊥
  integer_none rule c (fault f) t o (inl h) k s b = number_lacks rule c f h k.1 s
  integer_none rule c (fault f) t o (inr (n, i, g)) k s b = i k.2
  integer_none rule c (out_of_bound z bound) t o (n, i, a, e, g) k s b = a (subst (IsBounded (integer range) bounds) k.0 b)

  integer_decoded : {X : Type 0} (see : X → ℤ) (tag : Tag) (old new : State) (result : Result X DecodeError) → AreOctets old.rest → DecodesLeaf see (IntegerAt width range bounds old.rule tag old.rest) old result new
      → Decodes (leaf (integer range) tag bounds) (λ v. number (see v)) old result new
  unfolding Reads
  integer_decoded see tag old new result o g =
      decoded_answers (λ rule. Reads rule (leaf (integer range) tag bounds)) number see _ old new result
      (plain_agrees old.rule tag old.rest o (integer range) old.depth (IsBounded (integer range) bounds) number (IntegerIn old.rule width range bounds) (integer_parsed old.rule) (integer_only old.rule) (integer_none old.rule)) g

  integer_decodes : {X : Type 0} (see : X → ℤ) (Takes : ℤ → Type 0) (tag : Tag) (old new : State) (result : Result X DecodeError) → AreOctets old.rest
      → DecodesInteger see Takes tag (IntegerAt width range bounds old.rule tag old.rest) old result new → Decodes (leaf (integer range) tag bounds) (λ v. number (see v)) old result new
  integer_decodes see Takes tag old new (Ok v) o g = integer_decoded see tag old new (Ok v) o g
  integer_decodes see Takes tag old new (Err e) o (inr g) = integer_decoded see tag old new (Err e) o g
  integer_decodes see Takes tag old new (Err e) o (inl (m, d, s, c, h, i, g)) =
      alloc_failed (λ rule. Reads rule (leaf (integer range) tag bounds)) (λ v. number (see v)) old new e m s (definite_end old.rule tag old.rest o c new.rest h)

  -- What `decode_integer` ensures follows from its exact clause.
  pub integer_ensured : {X : Type 0} (see : X → ℤ) (Takes : ℤ → Type 0) (tag : Tag) (old new : State) (result : Result X DecodeError) → AreOctets old.rest
      → DecodesInteger see Takes tag (IntegerAt width range bounds old.rule tag old.rest) old result new
      → record {
        reads : Decodes (leaf (integer range) tag bounds) (λ v. number (see v)) old result new;
        exact : DecodesInteger see Takes tag (IntegerAt width range bounds old.rule tag old.rest) old result new;
        memory : IfErr result (λ e. IsOutOfMemory e.kind → TakesThere Takes tag old new.rest ⊎ IsOutOfBound (IntegerAt width range bounds old.rule tag old.rest) new.rest);
        rules : IfErr result (λ e. e.codec ≡ old.rule);
      }
  integer_ensured see Takes tag old new result o g = record { reads = integer_decodes see Takes tag old new result o g; exact = g; memory = decoded_integer_memory see Takes width range bounds tag old new result g; rules = integer_rules see Takes tag (IntegerAt width range bounds old.rule tag old.rest) old new result g }

  -- a number out of its bound
  pub bound_refused : (tag : Tag) (old new : State) (c : List ℕ) (e : DecodeError) → definite_at old.rule tag old.rest ≡ Ok (c, new.rest) → new ≡ at old new.rest → IsIntegerContents old.rule c → IsIn range (signed c) → (Admits ◌≤ℤ◌ bounds.value (signed c) → ⊥)
      → HasCause (out_of_bound (signed c) (constraint_of bounds.value)) e.kind × (e.codec ≡ new.rule) → FailsAs (IntegerAt width range bounds old.rule tag old.rest) old e new
  bound_refused tag old new c e h s n i a (t, k) =
      (out_of_bound (signed c) (constraint_of bounds.value), subst (λ d. FromContents (IntegerIn old.rule width range bounds) d (Err (out_of_bound (signed c) (constraint_of bounds.value), new.rest))) (sym h) ((n, i, a, refl, refl), refl), t, k ∙ rule_is old new s, s)

-- a failed allocation after contents
pub number_alloc_failed : {X : Type 0} (see : X → ℤ) (Takes : ℤ → Type 0) (tag : Tag) (Is : Readings ℤ) (old new : State) (c : List ℕ) (e : DecodeError) → definite_at old.rule tag old.rest ≡ Ok (c, new.rest) → new ≡ at old new.rest → IsIntegerContents old.rule c → Takes (signed c) → IsErrorOf fault_is.OutOfMemory new e
    → DecodesInteger see Takes tag Is old (Err e) new
number_alloc_failed see Takes tag Is old new c e h s i g k = inl (ap (λ (x : DecodeError). x.kind) k, ap (λ (x : DecodeError). x.codec) k ∙ rule_is old new s, s, c, h, i, g)

pub empty_is : (l : List ℕ) → true ≡ (length l == 0) → l ≡ []
empty_is [] e = refl
empty_is (b ∷ l) e = let k : length (b ∷ l) ≡ 0 = grind (arith, nat_tests) in absurd (omega arith)

pub not_empty : (l : List ℕ) → false ≡ (length l == 0) → l ≢ []
not_empty [] e = cc
not_empty (b ∷ l) e = λ f. cc
