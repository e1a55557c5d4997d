-- A CHOICE is refused in one way if its alternatives are.
use Rattle.std.proofs.Common.{◌≡◌, ℕ, suc, ◌⊎◌, inl, inr, List, Bool, true, false, Some, Ok, Err, refl, sym, ◌∙◌, subst}
use Rattle.rasn_types.specs.declared.types.tag.Tag.{Tag}
use Rattle.rasn_types.specs.declared.error.decode.DecodeError.{DecodeError}
use Rattle.rasn_types.specs.Errors.{IsOutOfMemory}
use Rattle.rasn_types.specs.Tags.{form, eoc}
use Rattle.rasn_types.specs.Framing.{AreOctets, NextTag}
use Rattle.rasn_types.specs.Shapes.{Tree, Shape, own, Parts, part, Presence, required, addition, optional_by, default_by, IsFirstOf, choice_by}
use Rattle.rasn_types.specs.Shapes.Parts.{none}
use Rattle.rasn_types.proofs.Headers.Frames.{next_one}
use Rattle.rasn_de.specs.State.{State}
use Rattle.rasn_de.specs.Steps.{PeeksTag}
use Rattle.rasn_de.specs.Outcomes.{refusal}
use Rattle.rasn_de.specs.Decodes.{DecodesExactly}
use Rattle.rasn_de.specs.NamedErrors.{IsNamedError, IsNoValidChoice}
use Rattle.rasn_de.specs.AlternativeTypes.{ReadsNumberedBy, FailsAtValue, FailsAtAlternativeBy, DecodesAlternativeBy}
use Rattle.rasn_de.specs.Choice.{DecodesChosen}
use Rattle.rasn_de.specs.ValueErrors.{Errors, errors_of, DecodesOr, IsErrorOfAlternative, IsErrorByTag}
use Rattle.rasn_de.proofs.Constructed.Optional.{peeks_none}
use Rattle.rasn_de.proofs.Constructed.Choice.{choice_by_decodes}
use Rattle.rasn_de.proofs.OwnTypes.AlternativeTypes.{own_tag, other_tag, first_known, first_refused, others_read, none_read, unknown_read, choice_by_read}
use Rattle.rasn.specs.OneRefusal.{same_choice, IsSameError, ReadsShape, IsRefusedOnce, AreApart, FailsByTag, AreRefusedOnce, HaveOwnTags, ErrorsOfChoice}
use Rattle.rasn.proofs.OneRefusal.Calls.{IsExactCall, exactly_apart, peeks_once}
use Rattle.rasn.proofs.OneRefusal.Open.{open_type_once}

-- The error with the name of the CHOICE.
unnamed_once : (name : List ℕ) (old : State) (e f : DecodeError) (new other : State) → (IsOutOfMemory e.kind → ⊥) → (IsOutOfMemory f.kind → ⊥)
    → IsNamedError (IsNoValidChoice name) old.rule e × (new ≡ old) → IsNamedError (IsNoValidChoice name) old.rule f × (other ≡ old) → IsSameError e f × (new ≡ other)
unnamed_once name old e f new other m n ((a, inr k), s) b = absurd (m k)
unnamed_once name old e f new other m n ((a, inl k), s) ((b, inr l), t) = absurd (n l)
unnamed_once name old e f new other m n ((a, inl k), s) ((b, inl l), t) = ((same_choice name k l, a ∙ sym b), s ∙ sym t)

pub no_alternative_apart : (extensible : Bool) (name : List ℕ) (errors : Tag → Errors) → AreRefusedOnce extensible none name errors
no_alternative_apart false name errors = λ tag old o e f new other a b. unnamed_once name old e f new other a.1 b.1 a.0.0 b.0.0
no_alternative_apart true name errors = λ tag old o e f new other a b. open_type_once eoc old o e f new other (a.0.0, a.1) (b.0.0, b.1)

-- Why the first alternative, or one of the others, isn't read.
fails_at : (extensible : Bool) (p : Presence) (s : Shape) (ps : Parts) (name : List ℕ) (tag : Tag) (old : State) (e : DecodeError) (new : State) → FailsAtAlternativeBy extensible (part p s ps) name tag old e new
    → ((own s ≡ Some tag) × FailsAtValue p s old e new) ⊎ ((own s ≡ Some tag → ⊥) × FailsAtAlternativeBy extensible ps name tag old e new)
fails_at false p s ps name tag old e new a = a
fails_at true p s ps name tag old e new a = a

module _ (extensible : Bool) (p : Presence) (s : Shape) (ps : Parts) (name : List ℕ) (t : Tag) (first : Errors) (others : Tag → Errors) (is : own s ≡ Some t) where
  -- The error is one of the first alternative if that has the tag, and else one of the others.
  error_at : (tag : Tag) (old : State) (e : DecodeError) (new : State) → FailsByTag extensible (part p s ps) name (IsErrorOfAlternative t first others) tag old e new
      → ((tag ≡ t) × first old e new) ⊎ ((tag ≡ t → ⊥) × FailsByTag extensible ps name others tag old e new)
  error_at tag old e new (a, inl b) = inl b
  error_at tag old e new (a, inr (n, b)) = inr (n, (go (fails_at extensible p s ps name tag old e new a), b))
    where
      go : ((own s ≡ Some tag) × FailsAtValue p s old e new) ⊎ ((own s ≡ Some tag → ⊥) × FailsAtAlternativeBy extensible ps name tag old e new) → FailsAtAlternativeBy extensible ps name tag old e new
      go (inl x) = absurd (other_tag s tag t n is x.0)
      go (inr x) = x.1

  pub alternative_apart : IsRefusedOnce first → AreRefusedOnce extensible ps name others → AreRefusedOnce extensible (part p s ps) name (IsErrorOfAlternative t first others)
  alternative_apart one rest = once
    where
      once : (tag : Tag) → IsRefusedOnce (FailsByTag extensible (part p s ps) name (IsErrorOfAlternative t first others) tag)
      once tag old o e f new other (a, m) (b, n) = go (error_at tag old e new a) (error_at tag old f other b)
        where
          go : ((tag ≡ t) × first old e new) ⊎ ((tag ≡ t → ⊥) × FailsByTag extensible ps name others tag old e new)
              → ((tag ≡ t) × first old f other) ⊎ ((tag ≡ t → ⊥) × FailsByTag extensible ps name others tag old f other) → IsSameError e f × (new ≡ other)
          go (inl x) (inl y) = one old o e f new other (x.1, m) (y.1, n)
          go (inl x) (inr y) = absurd (y.0 x.0)
          go (inr x) (inl y) = absurd (x.0 y.0)
          go (inr x) (inr y) = rest tag old o e f new other (x.1, m) (y.1, n)

first_or_others : (extensible : Bool) (s : Shape) (ps : Parts) (name : List ℕ) (tag t : Tag) → own s ≡ Some t → (IsFirstOf ps t → ⊥) → (old : State) (e : DecodeError) (new : State) → NextTag (form old.rule) old.rest tag → (k : ℕ)
    → (FailsAtAlternativeBy extensible ps name tag old e new → DecodesExactly (ReadsNumberedBy extensible (suc k) ps) old (refusal e.kind) new)
    → ((own s ≡ Some tag) × FailsAtValue required s old e new) ⊎ ((own s ≡ Some tag → ⊥) × FailsAtAlternativeBy extensible ps name tag old e new) → DecodesExactly (ReadsNumberedBy extensible k (part required s ps)) old (refusal e.kind) new
first_or_others extensible s ps name tag t is apart old e new n k rest (inl (x, y)) =
    let f : Some tag ≡ Some t = sym x ∙ is in
    let g : tag ≡ t = cc in
    first_known required s ps tag t g is apart extensible old new (refusal e.kind) n k (first_refused required s ps tag t g is apart old new n e.kind y k)
first_or_others extensible s ps name tag t is apart old e new n k rest (inr (x, y)) =
    others_read required s ps tag t (λ q. x (own_tag s tag t q is)) is old new n extensible k (refusal e.kind) (rest y)

-- What can't be read as one of the alternatives isn't related to anything.
alternatives_fail : (extensible : Bool) (ps : Parts) (name : List ℕ) (tag : Tag) → HaveOwnTags ps → (old : State) (e : DecodeError) (new : State) → NextTag (form old.rule) old.rest tag → FailsAtAlternativeBy extensible ps name tag old e new
    → (k : ℕ) → DecodesExactly (ReadsNumberedBy extensible k ps) old (refusal e.kind) new
alternatives_fail false none name tag h old e new n (a, s) k = subst (λ (z : State). DecodesExactly (ReadsNumberedBy false k none) old (refusal e.kind) z) (sym s) (none_read k e.kind)
alternatives_fail true none name tag h old e new n a k = unknown_read tag old (Err e) new n a k
alternatives_fail extensible (part addition s ps) name tag h old e new n a k = let p = h.0 in cc
alternatives_fail extensible (part (optional_by key) s ps) name tag h old e new n a k = let p = h.0 in cc
alternatives_fail extensible (part (default_by key d) s ps) name tag h old e new n a k = let p = h.0 in cc
alternatives_fail extensible (part required s ps) name tag (r, (t, is, apart), h) old e new n a k =
    first_or_others extensible s ps name tag t is apart old e new n k (λ x. alternatives_fail extensible ps name tag h old e new n x (suc k)) (fails_at extensible required s ps name tag old e new a)

-- Why the next value isn't read as an alternative.
abbrev pub FailsAtNext : Bool → Parts → List ℕ → (Tag → Errors) → Errors
FailsAtNext extensible ps name errors old e new = (PeeksTag old (Err e) × (new ≡ old)) ⊎ ((tag : Tag) × NextTag (form old.rule) old.rest tag × FailsByTag extensible ps name errors tag old e new)

module _ (extensible : Bool) (ps : Parts) (name : List ℕ) (errors : Tag → Errors) where
  pub next_fails : (old : State) (e : DecodeError) (new : State) → (PeeksTag old (Err e) × (new ≡ old)) ⊎ ((tag : Tag) × NextTag (form old.rule) old.rest tag × FailsAtAlternativeBy extensible ps name tag old e new)
      → IsErrorByTag errors old e new → FailsAtNext extensible ps name errors old e new
  next_fails old e new (inl a) b = inl a
  next_fails old e new (inr (tag, n, a)) (inl (p, s)) = absurd (peeks_none old e p tag n)
  next_fails old e new (inr (tag, n, a)) (inr (t, m, b)) = inr (tag, n, (a, subst (λ z. errors z old e new) (next_one old.rest t tag m n) b))

  pub next_once : AreRefusedOnce extensible ps name errors → IsRefusedOnce (FailsAtNext extensible ps name errors)
  next_once apart old o e f new other (inl (a, s), m) (inl (b, t), n) = (peeks_once old e f a b, s ∙ sym t)
  next_once apart old o e f new other (inl (a, s), m) (inr (tag, k, b), n) = absurd (peeks_none old e a tag k)
  next_once apart old o e f new other (inr (tag, k, a), m) (inl (b, t), n) = absurd (peeks_none old f b tag k)
  next_once apart old o e f new other (inr (tag, k, a), m) (inr (t, l, b), n) =
      apart t old o e f new other (subst (λ z. FailsByTag extensible ps name errors z old e new) (next_one old.rest tag t k l) a, m) (b, n)

module _ {D : Type 0} (ps : Parts) (tree : D → Tree) (name : List ℕ) where
  choice_fails : (extensible : Bool) (old : State) (e : DecodeError) (new : State) → DecodesAlternativeBy extensible ps tree name old (Err e) new
      → (PeeksTag old (Err e) × (new ≡ old)) ⊎ ((tag : Tag) × NextTag (form old.rule) old.rest tag × FailsAtAlternativeBy extensible ps name tag old e new)
  choice_fails false old e new a = a
  choice_fails true old e new a = a

module _ {D : Type 0} (extensible : Bool) (ps : Parts) (tree : D → Tree) (name : List ℕ) (errors : Tag → Errors) where
  pub choice_exact : HaveOwnTags ps → (old : State) → AreOctets old.rest → (e : DecodeError) (new : State) → ErrorsOfChoice extensible ps tree name errors old e new → DecodesExactly (ReadsShape (choice_by extensible ps)) old (refusal e.kind) new
  choice_exact tags old o e new (a, b) = go (choice_fails ps tree name extensible old e new a)
    where
      go : (PeeksTag old (Err e) × (new ≡ old)) ⊎ ((tag : Tag) × NextTag (form old.rule) old.rest tag × FailsAtAlternativeBy extensible ps name tag old e new) → DecodesExactly (ReadsShape (choice_by extensible ps)) old (refusal e.kind) new
      go (inl (p, s)) = choice_by_decodes extensible (choice_by extensible ps) ps refl tree old (Err e) new (inl (p, s))
      go (inr (tag, n, x)) = choice_by_read extensible ps (alternatives_fail extensible ps name tag tags old e new n x 0)

  choice_once : AreRefusedOnce extensible ps name errors → IsRefusedOnce (ErrorsOfChoice extensible ps tree name errors)
  choice_once apart old o e f new other ((a, b), m) ((c, d), n) =
      next_once extensible ps name errors apart old o e f new other
      (next_fails extensible ps name errors old e new (choice_fails ps tree name extensible old e new a) b, m) (next_fails extensible ps name errors old f other (choice_fails ps tree name extensible old f other c) d, n)

  pub choice_apart : HaveOwnTags ps → AreRefusedOnce extensible ps name errors → AreApart (ErrorsOfChoice extensible ps tree name errors) (ReadsShape (choice_by extensible ps))
  choice_apart tags apart = exactly_apart _ (ReadsShape (choice_by extensible ps)) (choice_exact tags) (choice_once apart)

-- A CHOICE that is read by the function of its type for the next tag.
module _ {D : Type 0} (extensible : Bool) (s : Shape) (ps : Parts) (is : s ≡ choice_by extensible ps) (tree : D → Tree) (errors : Errors) where
  pub chosen_exact : IsExactCall (DecodesChosen (DecodesOr s tree errors)) (ReadsShape s) tree
  chosen_exact old o (Ok v) new (tag, n, a) = a.0
  chosen_exact old o (Err e) new (inl a) = choice_by_decodes extensible s ps is tree old (Err e) new (inl a)
  chosen_exact old o (Err e) new (inr (tag, n, a)) = a.0

  chosen_once : IsRefusedOnce errors → IsRefusedOnce (errors_of (DecodesChosen (DecodesOr s tree errors)))
  chosen_once once old o e f new other (inl (a, p), m) (inl (b, q), n) = (peeks_once old e f a b, p ∙ sym q)
  chosen_once once old o e f new other (inl (a, p), m) (inr (tag, k, b), n) = absurd (peeks_none old e a tag k)
  chosen_once once old o e f new other (inr (tag, k, a), m) (inl (b, q), n) = absurd (peeks_none old f b tag k)
  chosen_once once old o e f new other (inr (tag, k, a), m) (inr (t, l, b), n) = once old o e f new other (a.1, m) (b.1, n)

  pub chosen_apart : IsRefusedOnce errors → AreApart (errors_of (DecodesChosen (DecodesOr s tree errors))) (ReadsShape s)
  chosen_apart once = exactly_apart _ (ReadsShape s) (λ old o e new a. chosen_exact old o (Err e) new a) (chosen_once once)
