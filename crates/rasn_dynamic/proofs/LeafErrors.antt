-- Errors of values that hold no others.
use Rattle.std.proofs.Common.{◌≡◌, ◌≤◌, ℕ, List, length, inl, inr, Result, Ok, Err, refl, sym, ap, ap₂, ◌∙◌, subst}
use Rattle.std.specs.Prelude.{IfErr}
use Rattle.std.specs.Cow.{cow_slice_items}
use Rattle.std.specs.declared.alloc.Global.{Global}
use Rattle.std.specs.declared.borrow.CowSlice.{CowSlice}
use Rattle.rasn_types.specs.declared.types.codec.Codec.{Codec}
use Rattle.rasn_types.specs.declared.types.tag.Tag.{Tag}
use Rattle.rasn_types.specs.declared.types.constraints.Constraints.{Constraints}
use Rattle.rasn_types.specs.declared.types.constraints.Bounded.{Bounded}
use Rattle.rasn_types.specs.declared.types.constraints.Bounded.TheVariants.{Single}
use Rattle.rasn_types.specs.declared.error.decode.DecodeError.{DecodeError}
use Rattle.rasn_types.specs.Errors.{IsOutOfMemory}
use Rattle.rasn_types.specs.Shapes.{Admits, constraint_of, every}
use Rattle.rasn_types.specs.Trees.{unconstrained}
use Rattle.rasn_types.specs.Tags.{in_universal}
use Rattle.rasn_types.specs.Grammar.{quads}
use Rattle.rasn_types.specs.Inline.{IsLong}
use Rattle.rasn_de.specs.declared.ber.de.parser.ParseError.{ParseError}
use Rattle.rasn_de.specs.declared.ber.de.parser.ParseError.TheVariants.{SizeConstraintNotSatisfied, StringConversionFailed}
use Rattle.rasn_de.specs.Causes.{error_kind, fault}
use Rattle.rasn_de.specs.State.{State, at}
use Rattle.rasn_de.specs.Steps.{IsErrorOf}
use Rattle.rasn_de.specs.Leaves.{FailsAs}
use Rattle.rasn_de.specs.OctetString.{octet_string_at}
use Rattle.rasn_de.specs.CharacterString.{StringCheck, StringAt, ByLength, BySize, DecodesBorrowed, DecodesOctetString}
use Rattle.rasn_de.specs.ValueErrors.{Errors, integer_errors}
use Rattle.rasn_dynamic.specs.Calls.{IsOfWrongSize, FailsAtFixed}
use Rattle.rasn_dynamic.specs.LeafErrors.{string_errors, ByQuads}

-- A string that is borrowed is copied nowhere.
pub borrowed_fails : {X : Type 0} (see : X → List ℕ) (borrowed : Codec → Tag → List ℕ → X → Type 0) (Is : StringCheck) (tag : Tag) (old new : State) (e : DecodeError)
    → DecodesBorrowed see borrowed Is tag old (Err e) new → string_errors Is tag old e new
borrowed_fails see borrowed Is tag old new e (inl a) = inl a
borrowed_fails see borrowed Is tag old new e (inr b) = inr (inr b)

-- A number for which no memory is taken.
pub number_fails : (tag : Tag) (c : Constraints) (old new : State) (e : DecodeError) → integer_errors (λ z. ⊥) 0 every tag c old e new → integer_errors IsLong 0 every tag c old e new
number_fails tag c old new e (inl a) = absurd a.6
number_fails tag c old new e (inr b) = inr b

-- ---- octets that are checked after they are read

module _ (Told : StringCheck) (tag : Tag) (old new : State) (e : DecodeError) where
  plain_fails : FailsAs (StringAt (BySize unconstrained.size) old.rule old.depth tag old.rest) old e new → FailsAs (StringAt Told old.rule old.depth tag old.rest) old e new
  plain_fails (cause, inl unread, has, rule, stays) = (cause, inl unread, has, rule, stays)
  plain_fails (cause, inr (xs, f, read, size, is), has, rule, stays) = absurd (size.0 tt)

  -- No octets are read.
  pub octets_fail : DecodesOctetString tag unconstrained old (Err e) new → string_errors Told tag old e new
  octets_fail (inl a) = inl a
  octets_fail (inr (memory, fails)) = inr (inr (memory, plain_fails fails))

  -- These octets don't pass the check.
  pub checked_fails : (l : List ℕ) (f : ParseError) → octet_string_at old.rule old.depth tag old.rest ≡ Ok (l, new.rest) → new ≡ at old new.rest → Told l (Err f) → (IsOutOfMemory (error_kind f) → ⊥)
      → IsErrorOf f new e → string_errors Told tag old e new
  checked_fails l f read stays is memory w =
      let kind : e.kind ≡ error_kind f = ap (λ (x : DecodeError). x.kind) w in
      let rule : e.codec ≡ old.rule = ap (λ (x : DecodeError). x.codec) w ∙ ap (λ (s : State). s.rule) stays in
      inr (inr ((λ m. memory (sym kind ∙ m)), (fault f, inr (l, f, read, is, refl), kind, rule, stays)))

  -- The same of octets that a call has read.
  pub read_fails : (octets : CowSlice ℕ Global) (f : ParseError) → DecodesOctetString tag unconstrained old (Ok octets) new → Told (cow_slice_items octets) (Err f) → (IsOutOfMemory (error_kind f) → ⊥) → IsErrorOf f new e → string_errors Told tag old e new
  read_fails octets f (((xs, read, (same, admits)), stays), borrowed) is memory w =
      checked_fails (cow_slice_items octets) f (subst (λ l. octet_string_at old.rule old.depth tag old.rest ≡ Ok (l, new.rest)) (sym same) read) stays is memory w

-- ---- an OCTET STRING of so many octets

module _ (n : ℕ) (tag : Tag) (c : Constraints) (old new : State) (e : DecodeError) where
  pub fixed_fails : FailsAtFixed n tag c old e new → string_errors (ByLength n c.size) tag old e new
  fixed_fails (inl h) = octets_fail (ByLength n c.size) tag old new e h
  fixed_fails (inr (octets, read, w)) = wrong w
    where
      wrong : IsOfWrongSize n c (cow_slice_items octets) new e → string_errors (ByLength n c.size) tag old e new
      wrong (inl (other, w)) = read_fails (ByLength n c.size) tag old new e octets (SizeConstraintNotSatisfied (length (cow_slice_items octets)) (Single n)) read (inl (other, refl)) (λ m. cc) w
      wrong (inr (same, out, w)) =
          read_fails (ByLength n c.size) tag old new e octets (SizeConstraintNotSatisfied n (constraint_of c.size)) read
          (inr (same, subst (λ z. (Admits ◌≤◌ c.size z → ⊥) × (SizeConstraintNotSatisfied n (constraint_of c.size) ≡ SizeConstraintNotSatisfied z (constraint_of c.size))) (sym same) (out, refl))) (λ m. cc) w

-- ---- a UniversalString

module _ (tag : Tag) (c : Constraints) (old new : State) (e : DecodeError) (octets : CowSlice ℕ Global) (read : DecodesOctetString tag unconstrained old (Ok octets) new) where
  pub no_characters : ((ns : List ℕ) → quads (cow_slice_items octets) ns → ⊥) → IsErrorOf (StringConversionFailed (in_universal 28)) new e → string_errors (ByQuads c.size) tag old e new
  no_characters none w = read_fails (ByQuads c.size) tag old new e octets (StringConversionFailed (in_universal 28)) read (inl (none, refl)) (λ m. cc) w

  pub too_many : (ns : List ℕ) (size : ℕ) (expected : Bounded ℕ) → quads (cow_slice_items octets) ns → size ≡ length ns → expected ≡ constraint_of c.size → (Admits ◌≤◌ c.size size → ⊥)
      → IsErrorOf (SizeConstraintNotSatisfied size expected) new e → string_errors (ByQuads c.size) tag old e new
  too_many ns size expected q k x out w =
      read_fails (ByQuads c.size) tag old new e octets (SizeConstraintNotSatisfied size expected) read (inr (ns, q, ((λ a. out (subst (λ n. Admits ◌≤◌ c.size n) (sym k) a)), ap₂ SizeConstraintNotSatisfied k x))) (λ m. cc) w

-- ---- some end

-- What is said of an error and what is left then is true for some of it.
pub ends_somewhere : {T : Type 0} (errors : Errors) (old new : State) (r : Result T DecodeError) → IfErr r (λ e. errors old e new) → IfErr r (λ e. (n : State) × errors old e n)
ends_somewhere errors old new (Ok v) h = tt
ends_somewhere errors old new (Err e) h = (new, h)
