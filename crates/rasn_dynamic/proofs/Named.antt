-- The components that a SET of a schema names are the parts of its shape.
use Rattle.std.proofs.Common.{◌≡◌, ◌≢◌, ◌-◌, ℕ, zero, suc, Bool, true, false, if◌then◌else◌, List, [], ◌∷◌, ◌++◌, length, take, get_or, Option, Some, None, refl, sym, ap, ◌∙◌, subst, inl, inr, arith}
use Rattle.std.specs.Prelude.{slice_get}
use Rattle.rasn_types.specs.declared.types.tag.Tag.{Tag}
use Rattle.rasn_types.specs.Lawful.{IsLawful}
use Rattle.rasn_types.specs.Shapes.{Shape, leaf, any, prefix, choice, open_choice, option, seq, set, sorted_set, list, set_of, unknown, Parts, looked_for}
use Rattle.rasn_types.specs.Truth.{IsWhether}
use Rattle.rasn_schema.specs.declared.types.Component.{Component}
use Rattle.rasn_schema.specs.declared.types.«Type».{«Type»}
use Rattle.rasn_schema.specs.Schemas.{IsUnknown}
use Rattle.rasn_schema.specs.Shapes.{nothing, tag_at, shape_of_type, components_by, is_unknown, ends_unknown, known_parts, set_among, IsReadable}
use Rattle.rasn_schema.proofs.Lists.{but_last, read_at}
use Rattle.rasn_schema.proofs.UnknownEnds.{known_of, known_is}
use Rattle.rasn_dynamic.specs.Sets.{is_extensible, named_components, last_type, AreLawfulMembers}

less_one : (n : ℕ) → suc n - 1 ≡ n
less_one n = omega (arith)

cut_last : {X : Type 0} (x : X) (l : List X) → take (length l) (x ∷ l) ≡ but_last (x ∷ l)
cut_last x [] = refl
cut_last {X} x (y ∷ l) = ap (λ (m : List X). x ∷ m) (cut_last y l)

pub take_but_last : {X : Type 0} (l : List X) → take (length l - 1) l ≡ but_last l
take_but_last [] = refl
take_but_last {X} (x ∷ l) = ap (λ n. take n (x ∷ l)) (less_one (length l)) ∙ cut_last x l

cut_by : (b : Bool) (ps : List Component) → (if b then take (length ps - 1) ps else ps) ≡ known_of b ps
cut_by true ps = take_but_last ps
cut_by false ps = refl

pub named_by : (f : ℕ → Shape) (ps : List Component) → named_components f ps ≡ known_of (is_extensible f ps) ps
named_by f ps = cut_by (is_extensible f ps) ps

pub named_is : (f : ℕ → Shape) (ps : List Component) → components_by f (named_components f ps) ≡ known_parts (components_by f ps)
named_is f ps = ap (components_by f) (cut_by (ends_unknown (components_by f ps)) ps) ∙ sym (known_is f ps (ends_unknown (components_by f ps)) refl)

pub members_lawful : (tag : Tag) (ps : Parts) → IsReadable (set_among tag ps) → AreLawfulMembers (known_parts ps)
unfolding IsLawful
members_lawful tag ps (inl h) = (h.1.1, h.1.2)
members_lawful tag ps (inr e) = cc

pub named_lawful : (f : ℕ → Shape) (tag : Tag) (ps qs : List Component) → qs ≡ named_components f ps → IsReadable (set_among tag (components_by f ps)) → AreLawfulMembers (components_by f qs)
named_lawful f tag ps qs e h = subst AreLawfulMembers (sym (ap (components_by f) e ∙ named_is f ps)) (members_lawful tag (components_by f ps) h)

-- ---- the type of the last one

pub last_type_is : (front : List Component) (p : Component) → last_type (front ++ p ∷ []) ≡ p.type_id.0
last_type_is [] p = refl
last_type_is (q ∷ []) p = refl
last_type_is (q ∷ (r ∷ front)) p = last_type_is (r ∷ front) p

-- ---- whether there may be unknown ones

-- The last component is unknown values, or isn't.
ends_by : (f : ℕ → Shape) (front : List Component) (p : Component) → ends_unknown (components_by f (front ++ p ∷ [])) ≡ is_unknown (f p.type_id.0)
ends_by f [] p = refl
ends_by f (q ∷ []) p = refl
ends_by f (q ∷ (r ∷ front)) p = ends_by f (r ∷ front) p

split_end : {X : Type 0} (l : List X) (i : ℕ) (x : X) → suc i ≡ length l → Some x ≡ slice_get l i → l ≡ take i l ++ x ∷ []
split_end [] i x e g = absurd (omega (arith, e))
split_end (y ∷ []) zero x e g = let same : y ≡ x = cc in ap (λ z. z ∷ []) same
split_end (y ∷ (z ∷ l)) zero x e g = absurd (omega (arith, e))
split_end (y ∷ l) (suc i) x e g = ap (λ m. y ∷ m) (split_end l i x (omega (arith, e)) g)

shape_is_unknown : (s : Shape) → is_unknown s ≡ true → s ≡ unknown
shape_is_unknown (leaf kind tag bounds) e = absurd cc
shape_is_unknown (any tag) e = absurd cc
shape_is_unknown (prefix tag s) e = absurd cc
shape_is_unknown (choice ps) e = absurd cc
shape_is_unknown (open_choice ps) e = absurd cc
shape_is_unknown (option tag s) e = absurd cc
shape_is_unknown (seq tag ps) e = absurd cc
shape_is_unknown (set tag ps) e = absurd cc
shape_is_unknown (sorted_set extensible tag ps) e = absurd cc
shape_is_unknown (list tag s size) e = absurd cc
shape_is_unknown (set_of tag s size) e = absurd cc
shape_is_unknown unknown e = refl

-- That of an extensible SET is unknown values.
pub last_unknown : (f : ℕ → Shape) (ps : List Component) → is_extensible f ps ≡ true → f (last_type ps) ≡ unknown
last_unknown f [] e = absurd cc
last_unknown f (p ∷ []) e = shape_is_unknown (f p.type_id.0) e
last_unknown f (p ∷ (q ∷ ps)) e = last_unknown f (q ∷ ps) e

pub last_is : (ps : List Component) (i : ℕ) (p : Component) → suc i ≡ length ps → p ≡ get_or ps i p → last_type ps ≡ p.type_id.0
last_is ps i p e at = ap last_type (split_end ps i p e (read_at ps i p (omega (arith, e)) at)) ∙ last_type_is (take i ps) p

module _ (types : List «Type») (levels : ℕ) (ps : List Component) where
  nothing_known : (tag : Option Tag) → is_unknown (nothing tag) ≡ false
  nothing_known None = refl
  nothing_known (Some tag) = refl

  -- Where types are followed no deeper, nothing is.
  pub none_below : levels ≡ 0 → is_extensible (shape_of_type types levels) ps ≡ false
  unfolding shape_of_type
  none_below e = subst (λ n. is_extensible (shape_of_type types n) ps ≡ false) (sym e) (go ps)
    where
      go : (qs : List Component) → is_extensible (shape_of_type types 0) qs ≡ false
      go [] = refl
      go (q ∷ []) = nothing_known (looked_for (tag_at types q.type_id.0))
      go (q ∷ (r ∷ qs)) = go (r ∷ qs)

  pub not_among : is_extensible (shape_of_type types levels) ps ≡ false → ps ≡ named_components (shape_of_type types levels) ps
  not_among e = rw e refl

  module _ (i : ℕ) (p : Component) (e : suc i ≡ length ps) (at : p ≡ get_or ps i p) (levels_left : levels ≢ 0) where
    told_by : is_extensible (shape_of_type types levels) ps ≡ is_unknown (shape_of_type types levels p.type_id.0)
    told_by = ap (λ l. is_extensible (shape_of_type types levels) l) (split_end ps i p e (read_at ps i p (omega (arith, e)) at)) ∙ ends_by (shape_of_type types levels) (take i ps) p

    pub ends_there : (b : Bool) → ((n : ℕ) → n ≢ 0 → IsWhether b (IsUnknown (shape_of_type types n (get_or ps i p).type_id.0))) → is_extensible (shape_of_type types levels) ps ≡ b
    ends_there b h = told_by ∙ whether b (is_unknown (shape_of_type types levels p.type_id.0)) (subst (λ (x : Component). IsWhether b (IsUnknown (shape_of_type types levels x.type_id.0))) (sym at) (h levels levels_left))
      where
        whether : (b d : Bool) → IsWhether b (d ≡ true) → d ≡ b
        whether true d h = h
        whether false true n = absurd (n refl)
        whether false false n = refl

    pub all_but_last : is_extensible (shape_of_type types levels) ps ≡ true → take i ps ≡ named_components (shape_of_type types levels) ps
    all_but_last h = rw h (ap (λ n. take n ps) (let k : i ≡ length ps - 1 = omega (arith, e) in k))
