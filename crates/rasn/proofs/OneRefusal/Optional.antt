-- A value that may be left out is refused in one way if the value is.
use Rattle.std.proofs.Common.{◌≡◌, inl, inr, true, Some, None, Result, Ok, Err, refl, sym, ap, ◌∙◌, subst}
use Rattle.std.specs.declared.alloc.AllocError.{AllocError}
use Rattle.rasn_types.specs.declared.types.tag.Tag.{Tag}
use Rattle.rasn_types.specs.declared.error.decode.DecodeError.{DecodeError}
use Rattle.rasn_types.specs.Errors.{IsOutOfMemory}
use Rattle.rasn_types.specs.Framing.{AreOctets}
use Rattle.rasn_types.specs.Shapes.{Tree, Shape, prefix, option, Key, own_tag, first_tags, own, looked_for, Sought, one_tag, any_of, IsFirst, optional, default, optional_choice, default_choice}
use Rattle.rasn_types.specs.Grammar.{Reads, parts_of}
use Rattle.rasn_de.specs.State.{State, Call}
use Rattle.rasn_de.specs.Outcomes.{refusal}
use Rattle.rasn_de.specs.Decodes.{DecodesExactly, Decodes}
use Rattle.rasn_de.specs.ValueErrors.{Errors, errors_of, DecodesOr}
use Rattle.rasn_de.specs.Prefix.{DecodesPrefixBy}
use Rattle.rasn_de.specs.Optional.{OnePart, NextIs, DecodesIfSought, DecodesIfPresent, MakesValue, DecodesSoughtOrDefault, DecodesOrDefault, FailsWithDefault, no_look, no_default, no_read, not_compared, present}
use Rattle.rasn_de.proofs.Constructed.Optional.{peeks_none, ReadsSought, sought_decodes, ReadsSoughtDefault, sought_default_decodes}
use Rattle.rasn.specs.OneRefusal.{IsSameError, ReadsShape, IsRefusedOnce, AreApart}
use Rattle.rasn.proofs.OneRefusal.Inside.{or_exact, or_once, prefix_exact, prefix_once}
use Rattle.rasn.proofs.OneRefusal.Calls.{equal_errors, exactly_apart, IsExactCall, one_value, not_both, peeks_once}

-- The look at the next tag fails, or the value is present.
not_looked : (tags : Sought) (s : State) (e : DecodeError) → NextIs tags s (Err e) → NextIs tags s (Ok true) → ⊥
not_looked (one_tag (Some tag)) s e (needs, n, p) t = peeks_none s e p tag t.1
not_looked (one_tag None) s e (needs, n, p) t = needs refl
not_looked (any_of P) s e (needs, n, p) t = peeks_none s e p t.1 t.2

-- What an exact call reads where a value has a default.
pub made_exact : {D : Type 0} (read : Call D) (s : Shape) (tree : D → Tree) → IsExactCall read (ReadsShape s) tree → (tags : Sought) (made : Result D AllocError → Type 0) (old : State) → AreOctets old.rest → (r : Result D DecodeError) (new : State)
    → DecodesSoughtOrDefault read tree made tags old r new → DecodesSoughtOrDefault (Decodes s tree) tree made tags old r new
made_exact read s tree exact tags made old o (Ok v) new (inl a) = inl a
made_exact read s tree exact tags made old o (Ok v) new (inr (t, k, n)) = inr (t, exact old o (Ok v) new k, n)
made_exact read s tree exact tags made old o (Err e) new (no_look a q) = no_look a q
made_exact read s tree exact tags made old o (Err e) new (no_default a m q) = no_default a m q
made_exact read s tree exact tags made old o (Err e) new (no_read t k) = no_read t (exact old o (Err e) new k)
made_exact read s tree exact tags made old o (Err e) new (not_compared t v k h m) = not_compared t v (exact old o (Ok v) new k) h m
made_exact read s tree exact tags made old o (Err e) new (present t v k h u m same w) = present t v (exact old o (Ok v) new k) h u m same w

module _ {D : Type 0} (read : Call D) (s : Shape) (tree : D → Tree) (exact : IsExactCall read (ReadsShape s) tree) (once : IsRefusedOnce (errors_of read)) where
  module _ (tags : Sought) where
    sought_exact : (old : State) → AreOctets old.rest → (e : DecodeError) (new : State) → DecodesIfSought read tags old (Err e) new → DecodesExactly (ReadsSought tags s) old (refusal e.kind) new
    sought_exact old o e new (inl a) = sought_decodes s tree tags old (Err e) new (inl a)
    sought_exact old o e new (inr (t, a)) = sought_decodes s tree tags old (Err e) new (inr (t, exact old o (Err e) new a))

    sought_once : IsRefusedOnce (errors_of (DecodesIfSought read tags))
    sought_once old o e f new other (inl (a, p), m) (inl (b, q), n) = (peeks_once old e f a.2 b.2, p ∙ sym q)
    sought_once old o e f new other (inl (a, p), m) (inr (t, b), n) = absurd (not_looked tags old e a t)
    sought_once old o e f new other (inr (t, a), m) (inl (b, q), n) = absurd (not_looked tags old f b t)
    sought_once old o e f new other (inr (t, a), m) (inr (u, b), n) = once old o e f new other (a, m) (b, n)

    pub sought_apart : AreApart (errors_of (DecodesIfSought read tags)) (ReadsSought tags s)
    sought_apart = exactly_apart _ (ReadsSought tags s) sought_exact sought_once

    module _ (key : Key) (made : Result D AllocError → Type 0) (d : Tree) (is : (v : D) → made (Ok v) → tree v ≡ d) where
      default_exact : (old : State) → AreOctets old.rest → (e : DecodeError) (new : State) → DecodesSoughtOrDefault read tree made tags old (Err e) new → DecodesExactly (ReadsSoughtDefault key tags d s) old (refusal e.kind) new
      default_exact old o e new a = sought_default_decodes key s tree made tags old (Err e) new (made_exact read s tree exact tags made old o (Err e) new a) d is

      not_made : (old : State) (e : DecodeError) → MakesValue made old (Err e) → (IsOutOfMemory e.kind → ⊥) → ⊥
      not_made old e (x, a, w) n = n (ap (λ (y : DecodeError). y.kind) w)

      default_one : (old : State) → AreOctets old.rest → (e f : DecodeError) (new other : State) → (IsOutOfMemory e.kind → ⊥) → (IsOutOfMemory f.kind → ⊥)
          → FailsWithDefault read tree made tags old e new → FailsWithDefault read tree made tags old f other → IsSameError e f × (new ≡ other)
      default_one old o e f new other m n (no_default a k p) b = absurd (not_made old e k m)
      default_one old o e f new other m n (not_compared a v k h c) b = absurd (not_made old e c m)
      default_one old o e f new other m n (no_look a p) (no_default b k q) = absurd (not_made old f k n)
      default_one old o e f new other m n (no_look a p) (not_compared b w k h c) = absurd (not_made old f c n)
      default_one old o e f new other m n (no_read a k) (no_default b l q) = absurd (not_made old f l n)
      default_one old o e f new other m n (no_read a k) (not_compared b w l h c) = absurd (not_made old f c n)
      default_one old o e f new other m n (present a v k h u x i c) (no_default b l q) = absurd (not_made old f l n)
      default_one old o e f new other m n (present a v k h u x i c) (not_compared b w l j y) = absurd (not_made old f y n)
      default_one old o e f new other m n (no_look a p) (no_look b q) = (peeks_once old e f a.2 b.2, p ∙ sym q)
      default_one old o e f new other m n (no_look a p) (no_read b k) = absurd (not_looked tags old e a b)
      default_one old o e f new other m n (no_look a p) (present b w k h u x i c) = absurd (not_looked tags old e a b)
      default_one old o e f new other m n (no_read a k) (no_look b q) = absurd (not_looked tags old f b a)
      default_one old o e f new other m n (no_read a k) (no_read b l) = once old o e f new other (k, m) (l, n)
      default_one old o e f new other m n (no_read a k) (present b w l h u x i c) = absurd (not_both read (ReadsShape s) tree exact old o w e other new l k m)
      default_one old o e f new other m n (present a v k h u x i c) (no_look b q) = absurd (not_looked tags old f b a)
      default_one old o e f new other m n (present a v k h u x i c) (no_read b l) = absurd (not_both read (ReadsShape s) tree exact old o v f new other k l n)
      default_one old o e f new other m n (present a v k h u x i c) (present b w l j y z r d) = (equal_errors (c ∙ sym d), (one_value read (ReadsShape s) tree exact old o v w new other k l).1)

      pub default_apart : AreApart (errors_of (DecodesSoughtOrDefault read tree made tags)) (ReadsSoughtDefault key tags d s)
      default_apart = exactly_apart _ (ReadsSoughtDefault key tags d s) default_exact (λ old o e f new other a b. default_one old o e f new other a.1 b.1 a.0 b.0)

  -- By itself, and as a part that is recognized by its own tag.
  pub option_apart : (tag : Tag) → AreApart (errors_of (DecodesIfPresent read tag)) (ReadsShape (option (looked_for tag) s))
  unfolding Reads parts_of
  option_apart tag = sought_apart (one_tag (looked_for tag))

  pub own_default_apart : (made : Result D AllocError → Type 0) (d : Tree) → ((v : D) → made (Ok v) → tree v ≡ d) → (tag : Tag) → own s ≡ looked_for tag
      → AreApart (errors_of (DecodesOrDefault read tree made tag)) (OnePart (default d) s)
  own_default_apart made d is tag e = subst (λ g. AreApart (errors_of (DecodesSoughtOrDefault read tree made (one_tag g))) (OnePart (default d) s)) e (default_apart (one_tag (own s)) own_tag made d is)

-- A value of a shape, with its errors, as a part.
module _ {D : Type 0} (s : Shape) (tree : D → Tree) (errors : Errors) (once : IsRefusedOnce errors) where
  pub perhaps_apart : (tag : Tag) → AreApart (errors_of (DecodesIfPresent (DecodesOr s tree errors) tag)) (ReadsShape (option (looked_for tag) s))
  perhaps_apart tag = option_apart (DecodesOr s tree errors) s tree (or_exact s tree errors) (or_once s tree errors once) tag

  optional_sought : (tags : Sought) → AreApart (errors_of (DecodesIfSought (DecodesOr s tree errors) tags)) (ReadsSought tags s)
  optional_sought tags = sought_apart (DecodesOr s tree errors) s tree (or_exact s tree errors) (or_once s tree errors once) tags

  pub optional_apart : (tag : Tag) → own s ≡ looked_for tag → AreApart (errors_of (DecodesIfPresent (DecodesOr s tree errors) tag)) (OnePart optional s)
  optional_apart tag e = subst (λ g. AreApart (errors_of (DecodesIfSought (DecodesOr s tree errors) (one_tag g))) (OnePart optional s)) e (optional_sought (one_tag (own s)))

  pub optional_choice_apart : AreApart (errors_of (DecodesIfSought (DecodesOr s tree errors) (any_of (IsFirst s)))) (OnePart optional_choice s)
  optional_choice_apart = optional_sought (any_of (IsFirst s))

  module _ (made : Result D AllocError → Type 0) (d : Tree) (is : (v : D) → made (Ok v) → tree v ≡ d) where
    pub default_or_apart : (tag : Tag) → own s ≡ looked_for tag → AreApart (errors_of (DecodesOrDefault (DecodesOr s tree errors) tree made tag)) (OnePart (default d) s)
    default_or_apart tag e = own_default_apart (DecodesOr s tree errors) s tree (or_exact s tree errors) (or_once s tree errors once) made d is tag e

    pub default_choice_apart : AreApart (errors_of (DecodesSoughtOrDefault (DecodesOr s tree errors) tree made (any_of (IsFirst s)))) (OnePart (default_choice d) s)
    default_choice_apart = default_apart (DecodesOr s tree errors) s tree (or_exact s tree errors) (or_once s tree errors once) (any_of (IsFirst s)) first_tags made d is

    pub explicit_default_apart : (tag : Tag) → Some tag ≡ looked_for tag → AreApart (errors_of (DecodesOrDefault (DecodesPrefixBy s tree errors tag) tree made tag)) (OnePart (default d) (prefix tag s))
    explicit_default_apart tag e = own_default_apart (DecodesPrefixBy s tree errors tag) (prefix tag s) tree (prefix_exact s tree errors tag) (prefix_once s tree errors once tag) made d is tag e
