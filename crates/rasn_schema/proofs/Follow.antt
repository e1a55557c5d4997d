-- Which components may follow one that is absent.
use Rattle.std.proofs.Common.{◌≡◌, ◌≢◌, ◌⊎◌, inl, inr, ℕ, zero, suc, ◌<◌, List, Some, None, refl, sym, subst, ◌∙◌, arith}
use Rattle.std.specs.Prelude.{slice_get, length, ◌+◌, Bool, true, false, Option, MatchOption}
use Rattle.rasn_schema.specs.declared.error.SchemaError.{SchemaError}
use Rattle.rasn_types.specs.declared.types.tag.Tag.{Tag}
use Rattle.rasn_types.specs.Tags.{eoc}
use Rattle.rasn_types.specs.Shapes.{Shape, IsFirst, looked_for}
use Rattle.rasn_types.specs.Lawful.{HasTag}
use Rattle.rasn_types.specs.Truth.{IsWhether}
use Rattle.rasn_schema.specs.declared.types.Component.{Component}
use Rattle.rasn_schema.specs.declared.types.«Type».{«Type»}
use Rattle.rasn_schema.specs.Shapes.{presence_of, tag_at}
use Rattle.rasn_schema.specs.FirstTags.{IsAlwaysThere}
use Rattle.rasn_schema.specs.Schemas.{AreDistinct, MayFollow, IsRecognizable, IsToldFrom, own_at}
use Rattle.rasn_schema.proofs.Lists.{SoFar, some_is}
use Rattle.rasn_schema.proofs.TypeShapes.{looked}

compare : (a b : ℕ) → (a < b) ⊎ ((a ≡ b) ⊎ (b < a))
compare zero zero = inr (inl refl)
compare zero (suc b) = inl (omega arith)
compare (suc a) zero = inr (inr (omega arith))
compare (suc a) (suc b) = up (compare a b)
  where
    up : (a < b) ⊎ ((a ≡ b) ⊎ (b < a)) → (suc a < suc b) ⊎ ((suc a ≡ suc b) ⊎ (suc b < suc a))
    up (inl h) = inl (omega (arith, h))
    up (inr (inl h)) = inr (inl (omega (arith, h)))
    up (inr (inr h)) = inr (inr (omega (arith, h)))

module _ (f : ℕ → Shape) (Q : Shape → Type 0) (ps : List Component) (index : ℕ) where
  abbrev Passed : ℕ → Component → Type 0
  Passed j q = index < j → Q (f q.type_id.0) × (IsAlwaysThere (presence_of q.presence) → ⊥)

  pub may_follow : (other : ℕ) → index < other → SoFar Passed ps other → MayFollow ps index other
  may_follow other l s = (l, λ m p i u e a. (s m p u e i).1 a)

  -- Nothing may follow a component that can't be absent.
  pub stopped : (other : ℕ) (x : Component) → Some x ≡ slice_get ps other → index < other → SoFar Passed ps other → Q (f x.type_id.0) → IsAlwaysThere (presence_of x.presence)
      → (j : ℕ) (q : Component) → MayFollow ps index j → Some q ≡ slice_get ps j → Q (f q.type_id.0)
  stopped other x e l s n a j q m g = go (compare j other)
    where
      go : (j < other) ⊎ ((j ≡ other) ⊎ (other < j)) → Q (f q.type_id.0)
      go (inl u) = (s j q u g m.0).0
      go (inr (inl u)) = let k : Some q ≡ slice_get ps other = subst (λ i. Some q ≡ slice_get ps i) u g in
          subst (λ (y : Component). Q (f y.type_id.0)) (sym (some_is q x (k ∙ sym e))) n
      go (inr (inr u)) = absurd (m.1 other x l u e a)

-- what a component without a tag of its own is distinguished from
module _ (types : List «Type») where
  pub own_none : (k : ℕ) (tag : Tag) → tag ≡ tag_at types k → tag ≡ eoc → own_at types k ≡ None
  own_none k tag e n = let h : tag_at types k ≡ eoc = sym e ∙ n in rw h refl

  pub own_some : (k : ℕ) (tag : Tag) → tag ≡ tag_at types k → tag ≢ eoc → Some tag ≡ own_at types k
  own_some k tag e n = looked tag n ∙ subst (λ t. looked_for tag ≡ looked_for t) e refl

  -- nothing follows the last component
  pub none_after : {A : Type 0} (ps : List Component) (i j : ℕ) (q : Component) → length ps < i + 2 → Some q ≡ slice_get ps j → MayFollow ps i j → A
  none_after ps i j q l e m = let n : j < length ps = Rattle.std.proofs.lemmas.Option.slice_get_within ps j q (sym e) in let h = m.0 in absurd (omega (arith, l, n, h))

  pub told : (k : ℕ) (tag : Tag) (p s : Shape) → Some tag ≡ own_at types k → (IsFirst s tag → ⊥) → IsToldFrom (own_at types k) p s
  told k tag p s e n = subst (λ o. IsToldFrom o p s) e n

  pub untold : (k : ℕ) (tag : Tag) (p s : Shape) → Some tag ≡ own_at types k → IsFirst s tag → IsToldFrom (own_at types k) p s → ⊥
  untold k tag p s e h t = subst (λ o. IsToldFrom o p s) (sym e) t h

  -- the same of a component that is recognized by its first tags
  pub untagged_fault_is : (A : Type 0) (i k : ℕ) (f : ℕ → Shape) (ps : List Component) (r : Option SchemaError) (P : SchemaError → Type 0) → own_at types k ≡ None
      → MatchOption r ((j : ℕ) (q : Component) → Some q ≡ slice_get ps j → MayFollow ps i j → IsToldFrom None (f k) (f q.type_id.0)) P
      → MatchOption r ((j : ℕ) (q : Component) → Some q ≡ slice_get ps j → A → MayFollow ps i j → IsToldFrom (own_at types k) (f k) (f q.type_id.0)) P
  untagged_fault_is A i k f ps None P e h = λ j q g a m. subst (λ o. IsToldFrom o (f k) (f q.type_id.0)) (sym e) (h j q g m)
  untagged_fault_is A i k f ps (Some x) P e h = h

  pub untold_by_firsts : (k : ℕ) (p s : Shape) → own_at types k ≡ None → (AreDistinct p s → ⊥) → IsToldFrom (own_at types k) p s → ⊥
  untold_by_firsts k p s e n t = n (subst (λ o. IsToldFrom o p s) e t).1

pub recognizable : (s : Shape) (b : Bool) → HasTag s → IsWhether b ((n : Tag) × IsFirst s n) → IsWhether b (IsRecognizable s)
recognizable s true h (n, f) = (h, λ none. none n f)
recognizable s false h none = λ r. r.1 (λ n f. none (n, f))

-- What is asked only where A holds, which it does.
pub placed_told : (A X : Type 0) (b : Bool) → A → IsWhether b X → IsWhether b (A → X)
placed_told A X true a w = λ h. w
placed_told A X false a w = λ g. w (g a)
