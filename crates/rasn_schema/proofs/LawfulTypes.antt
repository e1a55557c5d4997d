-- Lawful types.
use Rattle.std.proofs.Common.{◌≡◌, ◌≢◌, inl, inr, ℕ, zero, suc, Bool, true, false, List, [], ◌∷◌, length, Option, Some, None, refl, ap, ◌∙◌, subst}
use Rattle.rasn_types.specs.declared.types.tag.Tag.{Tag}
use Rattle.rasn_types.specs.Tags.{eoc, is_eoc}
use Rattle.rasn_types.specs.Shapes.{Shape, any, choice, unknown, looked_for, IsFirstOf, IsAlwaysPresent, Key, required, addition}
use Rattle.rasn_types.specs.Shapes.Parts.{none}
use Rattle.rasn_types.specs.Lawful.{IsLawful, HasTag, MayBeLeftOut, AreLawfulInOrder, AreComponents}
use Rattle.rasn_schema.specs.declared.types.«Type».{«Type»}
use Rattle.rasn_schema.specs.declared.types.Component.{Component}
use Rattle.rasn_schema.specs.declared.types.Alternative.{Alternative}
use Rattle.rasn_schema.specs.Shapes.{nothing, alternatives_by, components_by, key_of, presence_by, is_unknown, tag_at, shape_of_type, IsReadable}
use Rattle.rasn_schema.specs.declared.types.Presence.{Presence}
use Rattle.rasn_schema.specs.declared.types.Presence.TheVariants.{Required, Optional, Addition, Default}
use Rattle.rasn_schema.specs.FirstTags.{EachFirst}
use Rattle.rasn_schema.specs.Schemas.{IsUnknown, IsRequired, begin_at}
use Rattle.rasn_schema.proofs.UnknownEnds.{unknown_alike}

-- ---- values are always present

pub nothing_present : (tag : Option Tag) → IsAlwaysPresent (nothing tag)
nothing_present None = tt
nothing_present (Some tag) = tt

-- A type that isn't unknown values.
pub known : (s : Shape) → IsReadable s → (s ≡ unknown → ⊥) → IsAlwaysPresent s × IsLawful s
known s (inl h) n = h
known s (inr e) n = absurd (n e)

nothing_known : (tag : Option Tag) → nothing tag ≡ unknown → ⊥
nothing_known None e = cc
nothing_known (Some tag) e = cc

-- At any depth a type is unknown values only if the check sees that.
pub unknown_at : (types : List «Type») (i k : ℕ) → shape_of_type types i k ≡ unknown → IsUnknown (begin_at types k)
unfolding shape_of_type
unknown_at types zero k e = absurd (nothing_known (looked_for (tag_at types k)) e)
unknown_at types (suc i) k e = unknown_alike types (length types) i k ∙ ap is_unknown e

-- ---- types that are too deep, or not there

isnt_eoc : (tag : Tag) → (b : Bool) → is_eoc tag ≡ b → b ≡ false → tag ≢ eoc
isnt_eoc tag b e f h = let g : is_eoc eoc ≡ false = subst (λ z. is_eoc z ≡ false) h (rw f at e) in cc

nothing_lawful_at : (tag : Tag) (b : Bool) → is_eoc tag ≡ b → IsLawful (nothing (looked_for tag))
unfolding IsLawful
nothing_lawful_at tag true e = rw e (tt, tt)
nothing_lawful_at tag false e = rw e ((isnt_eoc tag false e refl), tt, (tt, tt))

open_lawful_at : (tag : Tag) (b : Bool) → is_eoc tag ≡ b → IsLawful (any (looked_for tag))
unfolding IsLawful
open_lawful_at tag true e = rw e tt
open_lawful_at tag false e = rw e (isnt_eoc tag false e refl)

pub open_lawful : (tag : Tag) → IsLawful (any (looked_for tag))
open_lawful tag = open_lawful_at tag (is_eoc tag) refl

pub cut_lawful : (types : List «Type») (k : ℕ) → IsLawful (nothing (looked_for (tag_at types k)))
cut_lawful types k = nothing_lawful_at (tag_at types k) (is_eoc (tag_at types k)) refl

pub none_lawful : IsLawful (choice none)
unfolding IsLawful
none_lawful = (tt, tt)

nothing_has_tag : (tag : Option Tag) → HasTag (nothing tag)
nothing_has_tag None = tt
nothing_has_tag (Some tag) = tt

pub cut_has_tag : (types : List «Type») (k : ℕ) → HasTag (nothing (looked_for (tag_at types k)))
cut_has_tag types k = nothing_has_tag (looked_for (tag_at types k))

-- ---- lists of alternatives and components

module _ (f : ℕ → Shape) where
  -- of a CHOICE
  abbrev pub Alternatives : List Alternative → Type 0
  Alternatives ks = IsLawful (choice (alternatives_by f ks))

  abbrev pub OneAlternative : ℕ → List Alternative → Type 0
  OneAlternative k ks = HasTag (f k) × IsAlwaysPresent (f k) × IsLawful (f k) × EachFirst (f k) (λ n. IsFirstOf (alternatives_by f ks) n → ⊥)

  pub cut_alternative : (a : Alternative) (ks : List Alternative) → Alternatives (a ∷ ks) → OneAlternative a.type_id.0 ks × Alternatives ks
  unfolding IsLawful
  cut_alternative k ks (a, d) = ((a.1, a.2, a.3, d.0), (a.4, d.1))

  pub put_alternative : (a : Alternative) (ks : List Alternative) → OneAlternative a.type_id.0 ks → Alternatives ks → Alternatives (a ∷ ks)
  unfolding IsLawful
  put_alternative k ks (t, p, l, d) (a, e) = ((refl, t, p, l, a), (d, e))

  -- of a SEQUENCE
  abbrev pub InOrder : List Component → Type 0
  InOrder ps = AreLawfulInOrder (components_by f ps)

  abbrev pub OneInOrder : Component → List Component → Type 0
  OneInOrder p ps = IsAlwaysPresent (f p.type_id.0) × IsLawful (f p.type_id.0) × MayBeLeftOut (presence_by (key_of (f p.type_id.0)) p.presence) (f p.type_id.0) (components_by f ps)

  pub put_in_order : (p : Component) (ps : List Component) → OneInOrder p ps → InOrder ps → InOrder (p ∷ ps)
  unfolding IsLawful
  put_in_order p ps o h = inr (o.0, o.1, o.2, h)

  required_by : (key : Key) (r : Presence) → IsRequired r → presence_by key r ≡ required
  required_by key Required h = refl
  required_by key Optional h = absurd h
  required_by key Addition h = absurd h
  required_by key (Default v) h = absurd h

  pub put_unknown : (p : Component) (ps : List Component) → f p.type_id.0 ≡ unknown → IsRequired p.presence → ps ≡ [] → InOrder (p ∷ ps)
  unfolding IsLawful
  put_unknown p ps e r n = inl (required_by (key_of (f p.type_id.0)) p.presence r, e, ap (components_by f) n)

  pub none_in_order : InOrder []
  unfolding IsLawful
  none_in_order = tt

  -- of a SET
  abbrev pub OneComponent : Component → Type 0
  OneComponent p = (presence_by (key_of (f p.type_id.0)) p.presence ≢ addition) × HasTag (f p.type_id.0) × IsAlwaysPresent (f p.type_id.0) × IsLawful (f p.type_id.0)

  pub put_component : (p : Component) (ps : List Component) → OneComponent p → AreComponents (components_by f ps) → AreComponents (components_by f (p ∷ ps))
  unfolding IsLawful
  put_component p ps o h = (o.0, o.1, o.2, o.3, h)

  pub no_components : AreComponents (components_by f [])
  unfolding IsLawful
  no_components = tt
