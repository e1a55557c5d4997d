-- A SEQUENCE that an initializer or a closure reads is decoded or refused in one way if the closure's input is.
use Rattle.std.proofs.Common.{◌≡◌, ℕ, inl, inr, Bool, true, false, List, Option, Some, None, Result, Ok, Err, refl, sym, ap, ◌∙◌, subst}
use Rattle.std.specs.declared.alloc.AllocError.{AllocError}
use Rattle.rasn_types.specs.declared.types.tag.Tag.{Tag}
use Rattle.rasn_types.specs.declared.error.decode.DecodeError.{DecodeError}
use Rattle.rasn_types.specs.Errors.{IsOutOfMemory}
use Rattle.rasn_types.specs.Framing.{AreOctets}
use Rattle.rasn_types.specs.Shapes.{Tree, seq, Parts}
use Rattle.rasn_types.specs.Described.{describes}
use Rattle.rasn_de.specs.declared.ber.de.parser.ParseError.TheVariants.{UnexpectedEmptyInput}
use Rattle.rasn_de.specs.Causes.{error_kind}
use Rattle.rasn_de.specs.State.{State, IsEnd, Call, EachCall}
use Rattle.rasn_de.specs.Decodes.{DecodesParts, ReadsParts}
use Rattle.rasn_de.specs.Constructed.{sequence_header, DecodesInside}
use Rattle.rasn_de.specs.Sequence.{is_read_by_initializer, MakesInitial, DecodesContents, MakesAllMissing}
use Rattle.rasn_de.specs.ValueErrors.{errors_of, DecodesOr}
use Rattle.rasn_de.proofs.Constructed.Sequence.{fills_leaves, sequence_decodes}
use Rattle.rasn.specs.OneRefusal.{Refuses, IsSameError, ReadsShape, IsRefusedOnce, AreApart, Settles, IsDetermined, CanMake}
use Rattle.rasn.proofs.OneRefusal.Calls.{equal_errors, exactly_apart, IsExactCall, exactly_determined, or_settles}
use Rattle.rasn.proofs.OneRefusal.Inside.{inside_determined}
use Rattle.rasn.proofs.OneRefusal.Settled.{inside_settles}

-- ---- the initializer

module _ {I D : Type 0} (made : I → Result D AllocError → Type 0) where
  initial_one : (init : Option I) (s : State) (v : D) (e : DecodeError) → MakesInitial made init s (Ok v) → MakesInitial made init s (Err e) → IsOutOfMemory e.kind
  initial_one None s v e a b = absurd a
  initial_one (Some i) s v e a (x, m, w) = ap (λ (z : DecodeError). z.kind) w

  initial_once : (init : Option I) (s : State) (e f : DecodeError) → (IsOutOfMemory e.kind → ⊥) → MakesInitial made init s (Err e) → MakesInitial made init s (Err f) → IsSameError e f
  initial_once None s e f m a b = equal_errors (a ∙ sym b)
  initial_once (Some i) s e f m (x, k, w) b = absurd (m (ap (λ (z : DecodeError). z.kind) w))

-- ---- the contents

module _ {I D : Type 0} (starts : List ℕ → Bool) (made : I → Result D AllocError → Type 0) (init : Option I) (called : Call D) where
  abbrev Contents : Call D
  Contents = DecodesContents starts (MakesInitial made init) called

  not_either : (b : Bool) → b ≡ true → b ≡ false → ⊥
  not_either b p q = cc

  contents_determined : IsDetermined called → IsDetermined Contents
  contents_determined one = record { unrefused = unrefused; left = left; once = once }
    where
      unrefused : (old : State) → AreOctets old.rest → (v : D) (e : DecodeError) (new other : State) → Contents old (Ok v) new → Refuses (errors_of Contents) old e other → ⊥
      unrefused old o v e new other (inl (s, a, q)) (inl (t, b, r), n) = n (initial_one made init old v e a b)
      unrefused old o v e new other (inl (s, a, q)) (inr (t, b), n) = not_either (starts old.rest) s t
      unrefused old o v e new other (inr (s, a)) (inl (t, b, r), n) = not_either (starts old.rest) t s
      unrefused old o v e new other (inr (s, a)) (inr (t, b), n) = one.unrefused old o v e new other a (b, n)

      left : (old : State) → AreOctets old.rest → (v w : D) (new other : State) → Contents old (Ok v) new → Contents old (Ok w) other → new ≡ other
      left old o v w new other (inl (s, a, q)) (inl (t, b, r)) = q ∙ sym r
      left old o v w new other (inl (s, a, q)) (inr (t, b)) = absurd (not_either (starts old.rest) s t)
      left old o v w new other (inr (s, a)) (inl (t, b, r)) = absurd (not_either (starts old.rest) t s)
      left old o v w new other (inr (s, a)) (inr (t, b)) = one.left old o v w new other a b

      once : IsRefusedOnce (errors_of Contents)
      once old o e f new other (inl (s, a, q), m) (inl (t, b, r), n) = (initial_once made init old e f m a b, q ∙ sym r)
      once old o e f new other (inl (s, a, q), m) (inr (t, b), n) = absurd (not_either (starts old.rest) s t)
      once old o e f new other (inr (s, a), m) (inl (t, b, r), n) = absurd (not_either (starts old.rest) t s)
      once old o e f new other (inr (s, a), m) (inr (t, b), n) = one.once old o e f new other (a, m) (b, n)

  contents_settle : CanMake made init → Settles called → Settles Contents
  contents_settle can all old o b passed failed = go (starts old.rest) refl init refl
    where
      go : (at : Bool) → starts old.rest ≡ at → (i : Option I) → init ≡ i → ⊥
      go false p i q = all old o b (λ v new a. passed v new (inr (p, a))) (λ e new a. failed e new (inr (p, a.0), a.1))
      go true p None q = let e : DecodeError = record { kind = error_kind UnexpectedEmptyInput; codec = old.rule } in failed e old (inl (p, subst (λ z. MakesInitial made z old (Err e)) (sym q) refl, refl), λ w. cc)
      go true p (Some i) q = subst (CanMake made) q can (λ v m. passed v old (inl (p, subst (λ z. MakesInitial made z old (Ok v)) (sym q) m, refl)))

-- ---- the whole SEQUENCE

module _ {I D : Type 0} (root more : ℕ) (extensible flag : Bool) (made : I → Result D AllocError → Type 0) (init : Option I) (called : Call D) (tag : Tag) where
  abbrev Inside : Call D
  Inside = Contents (is_read_by_initializer root extensible flag) made init called

  abbrev Whole : Call D
  Whole = DecodesInside Inside (sequence_header tag)

  pub sequence_determined : IsDetermined called → IsDetermined Whole
  sequence_determined one = inside_determined Inside (contents_determined (is_read_by_initializer root extensible flag) made init called one) (sequence_header tag)

  pub sequence_with_settles : EachCall called (λ o r n. IsEnd o.rest n.rest) → CanMake made init → Settles called → Settles Whole
  sequence_with_settles leaves can all =
      inside_settles Inside (λ old o v new a. fills_leaves (is_read_by_initializer root extensible flag) (MakesInitial made init) called leaves old (Ok v) new a)
      (contents_settle (is_read_by_initializer root extensible flag) made init called can all) (sequence_header tag)

  module _ (parts : Parts) (d : describes root more extensible flag parts ≡ true) (tree : D → Tree) (reads : EachCall called (DecodesParts parts tree)) (bare : MakesAllMissing parts tree made init) where
    whole_exact : IsExactCall Whole (ReadsShape (seq tag parts)) tree
    whole_exact old o r new a = sequence_decodes root more extensible flag parts d tree made init called tag old (λ _. o) reads bare r new a

    pub sequence_with_apart : IsRefusedOnce (errors_of called) → AreApart (errors_of Whole) (ReadsShape (seq tag parts))
    sequence_with_apart once =
        exactly_apart _ (ReadsShape (seq tag parts)) (λ old o e new a. whole_exact old o (Err e) new a)
        (sequence_determined (exactly_determined called (ReadsParts parts) tree (λ old o r new a. reads old r new a) once)).once

    pub sequence_with_grammar : CanMake made init → Settles called → Settles (DecodesOr (seq tag parts) tree (errors_of Whole))
    sequence_with_grammar can all = or_settles Whole (seq tag parts) tree whole_exact (sequence_with_settles (λ o r n a. (reads o r n a).end) can all)
