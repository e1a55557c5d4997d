-- A CHOICE whose last alternative is an open type without a tag.
use Rattle.std.proofs.Common.{◌≡◌, ℕ, zero, suc, ◌-◌, ◌<◌, Bool, true, false, not, List, [], ◌∷◌, length, Option, Some, None, inl, inr, refl, sym, ap, ◌∙◌, true≢false, arith}
use Rattle.std.specs.Prelude.{if◌then◌else◌, slice_get}
use Rattle.std.proofs.lemmas.Option.{slice_get_within}
use Rattle.rasn_types.specs.declared.types.tag.Tag.{Tag}
use Rattle.rasn_types.specs.Shapes.Parts.{none}
use Rattle.rasn_types.specs.Shapes.{required, Shape, leaf, any, prefix, choice, open_choice, option, seq, set, sorted_set, list, set_of, unknown, Parts, part, count, own, looked_for, IsFirst, IsFirstOf}
use Rattle.rasn_types.specs.Lawful.{HasTag}
use Rattle.rasn_types.specs.Truth.{IsWhether}
use Rattle.rasn_schema.specs.declared.types.Alternative.{Alternative}
use Rattle.rasn_schema.specs.Shapes.{key_of, IsByFirstTags, nothing, found_by, tag_at, shape_of_type, alternatives_by, is_open, ends_open, before_last, choice_among, is_unknown}
use Rattle.rasn_schema.proofs.Lists.{some_is, but_last}
use Rattle.rasn_schema.proofs.Firsts.{whether_by}
use Rattle.rasn_schema.specs.declared.types.«Type».{«Type»}
use Rattle.rasn_schema.specs.declared.types.«Type».TheVariants.{Leaf, Enumerated, Any, Tagged, Choice, Sequence, Set, SequenceOf, SetOf, Unknown}

module _ (P : Shape → Type 0) (ps : Parts) where
  -- what holds if there is such an alternative, and if there is none
  pub among : (ends_open ps ≡ true → P (open_choice (before_last ps))) → (ends_open ps ≡ false → P (choice ps)) → P (choice_among ps)
  among o c = go (ends_open ps) refl
    where
      go : (b : Bool) → ends_open ps ≡ b → P (if b then open_choice (before_last ps) else choice ps)
      go true e = o e
      go false e = c e

  pub among_open : ends_open ps ≡ true → P (choice_among ps) → P (open_choice (before_last ps))
  among_open e p = rw e at p

  pub among_named : ends_open ps ≡ false → P (choice_among ps) → P (choice ps)
  among_named e p = rw e at p

pub cut_not_open : (tag : Option Tag) → is_open (nothing tag) ≡ false
cut_not_open None = refl
cut_not_open (Some tag) = refl

pub own_among : (ps : Parts) → own (choice_among ps) ≡ None
own_among ps = among (λ s. own s ≡ None) ps (λ e. refl) (λ e. refl)

pub among_not_open : (ps : Parts) → is_open (choice_among ps) ≡ false
among_not_open ps = among (λ s. is_open s ≡ false) ps (λ e. refl) (λ e. refl)

pub among_known : (ps : Parts) → choice_among ps ≡ unknown → ⊥
among_known ps = among (λ s. s ≡ unknown → ⊥) ps (λ e f. cc) (λ e f. cc)

pub among_not_unknown : (ps : Parts) → is_unknown (choice_among ps) ≡ false
among_not_unknown ps = among (λ s. is_unknown s ≡ false) ps (λ e. refl) (λ e. refl)

pub among_tag : (ps : Parts) → IsWhether (not (ends_open ps)) (HasTag (choice_among ps))
among_tag ps = go (ends_open ps) refl
  where
    go : (b : Bool) → ends_open ps ≡ b → IsWhether (not b) (HasTag (if b then open_choice (before_last ps) else choice ps))
    go true e = λ h. h
    go false e = tt

pub among_key : (ps : Parts) → IsWhether (not (ends_open ps)) (IsByFirstTags (choice_among ps))
among_key ps = go (ends_open ps) refl
  where
    go : (b : Bool) → ends_open ps ≡ b → IsWhether (not b) (IsByFirstTags (if b then open_choice (before_last ps) else choice ps))
    go true e = λ h. cc
    go false e = refl

pub key_as : (ps qs : Parts) → ends_open ps ≡ ends_open qs → key_of (choice_among ps) ≡ key_of (choice_among qs)
key_as ps qs e = rw e (go (ends_open qs))
  where
    go : (b : Bool) → key_of (if b then open_choice (before_last ps) else choice ps) ≡ key_of (if b then open_choice (before_last qs) else choice qs)
    go true = refl
    go false = refl

-- ---- its first tags are those of all alternatives

open_first : (s : Shape) (n : Tag) → is_open s ≡ true → IsFirst s n
open_first (any None) n e = tt
open_first (any (Some tag)) n e = cc
open_first (leaf kind tag c) n e = cc
open_first (prefix tag s) n e = cc
open_first (choice ps) n e = cc
open_first (open_choice ps) n e = cc
open_first (option tag s) n e = cc
open_first (seq tag ps) n e = cc
open_first (set tag ps) n e = cc
open_first (sorted_set extensible tag ps) n e = cc
open_first (list tag s c) n e = cc
open_first (set_of tag s c) n e = cc
open_first unknown n e = cc

end_first : (ps : Parts) (n : Tag) → ends_open ps ≡ true → IsFirstOf ps n
end_first none n e = cc
end_first (part presence s none) n e = inl (open_first s n e)
end_first (part presence s (part next u ps)) n e = inr (end_first (part next u ps) n e)

pub first_of_among : (ps : Parts) (n : Tag) → IsFirst (choice_among ps) n → IsFirstOf ps n
first_of_among ps n = among (λ s. IsFirst s n → IsFirstOf ps n) ps (λ e h. end_first ps n e) (λ e h. h)

pub first_among : (ps : Parts) (n : Tag) → IsFirstOf ps n → IsFirst (choice_among ps) n
first_among ps n = among (λ s. IsFirstOf ps n → IsFirst s n) ps (λ e h. tt) (λ e h. h)

pub first_told : (b : Bool) (ps : Parts) (n : Tag) → IsWhether b (IsFirstOf ps n) → IsWhether b (IsFirst (choice_among ps) n)
first_told b ps n w = whether_by b _ _ (first_among ps n) (first_of_among ps n) w

-- ---- the last alternative, and those before it

module _ (f : ℕ → Shape) where
  pub end_at : (ks : List Alternative) (i : ℕ) (a : Alternative) → Some a ≡ slice_get ks i → suc i ≡ length ks → is_open (f a.type_id.0) ≡ ends_open (alternatives_by f ks)
  end_at [] i a e l = absurd (omega (arith, l))
  end_at (k ∷ []) zero a e l = ap (λ (x : Alternative). is_open (f x.type_id.0)) (some_is a k e)
  end_at (k ∷ []) (suc i) a e l = absurd (omega (arith, l))
  end_at (k ∷ (m ∷ ks)) zero a e l = absurd (omega (arith, l))
  end_at (k ∷ (m ∷ ks)) (suc i) a e l = end_at (m ∷ ks) i a e (omega (arith, l))

  pub end_is : (ks : List Alternative) (a : Alternative) → Some a ≡ slice_get ks (length ks - 1) → is_open (f a.type_id.0) ≡ ends_open (alternatives_by f ks)
  end_is ks a e = end_at ks (length ks - 1) a e (let l : length ks - 1 < length ks = slice_get_within ks (length ks - 1) a (sym e) in omega (arith, l))

  pub count_is : (ks : List Alternative) → count (alternatives_by f ks) ≡ length ks
  count_is [] = refl
  count_is (k ∷ ks) = ap suc (count_is ks)

  -- the alternatives before the last
  pub before_is : (ks : List Alternative) → before_last (alternatives_by f ks) ≡ alternatives_by f (but_last ks)
  before_is [] = refl
  before_is (k ∷ []) = refl
  before_is (k ∷ (m ∷ ks)) = ap (part required (f k.type_id.0)) (before_is (m ∷ ks))

  module _ (g : ℕ → Shape) (h : (k : ℕ) → is_open (f k) ≡ true → is_open (g k) ≡ true) where
    pub ends_alike : (ks : List Alternative) → ends_open (alternatives_by f ks) ≡ true → ends_open (alternatives_by g ks) ≡ true
    ends_alike [] e = e
    ends_alike (k ∷ []) e = h k.type_id.0 e
    ends_alike (k ∷ (m ∷ ks)) e = ends_alike (m ∷ ks) e

-- ---- open types, however deep types are followed

found_alike : (f g : ℕ → Shape) (o : Option «Type») → is_open (found_by f o) ≡ is_open (found_by g o)
found_alike f g None = refl
found_alike f g (Some (Leaf kind tag c names)) = refl
found_alike f g (Some (Enumerated tag ns)) = refl
found_alike f g (Some (Any tag)) = refl
found_alike f g (Some (Tagged tag k)) = refl
found_alike f g (Some (Choice name ks)) = among_not_open (alternatives_by f ks.items) ∙ sym (among_not_open (alternatives_by g ks.items))
found_alike f g (Some (Sequence tag ps)) = refl
found_alike f g (Some (Set name tag ps)) = refl
found_alike f g (Some (SequenceOf tag k c)) = refl
found_alike f g (Some (SetOf tag k c)) = refl
found_alike f g (Some Unknown) = refl

pub open_alike : (types : List «Type») (i j k : ℕ) → is_open (shape_of_type types (suc i) k) ≡ is_open (shape_of_type types (suc j) k)
unfolding shape_of_type
open_alike types i j k = found_alike (shape_of_type types i) (shape_of_type types j) (slice_get types k)

-- There is such a type, so that there are levels.
pub open_settled : (types : List «Type») (i k : ℕ) → is_open (shape_of_type types i k) ≡ true → is_open (shape_of_type types (length types) k) ≡ true
unfolding shape_of_type
open_settled types zero k e = absurd (true≢false (sym e ∙ cut_not_open (looked_for (tag_at types k))))
open_settled [] (suc i) k e = cc
open_settled (t ∷ ts) (suc i) k e = sym (found_alike (shape_of_type (t ∷ ts) i) (shape_of_type (t ∷ ts) (length ts)) (slice_get (t ∷ ts) k)) ∙ e
