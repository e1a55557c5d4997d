-- A SET whose last component is unknown values.
use Rattle.std.proofs.Common.{◌≡◌, ℕ, zero, suc, Bool, true, false, List, [], ◌∷◌, length, Option, Some, None, refl, sym, ap, ◌∙◌, arith}
use Rattle.std.specs.Prelude.{slice_get}
use Rattle.rasn_types.specs.Shapes.{Shape, part}
use Rattle.rasn_schema.specs.declared.types.Component.{Component}
use Rattle.rasn_schema.specs.declared.types.«Type».{«Type»}
use Rattle.rasn_schema.specs.declared.types.«Type».TheVariants.{Leaf, Enumerated, Any, Tagged, Choice, Sequence, Set, SequenceOf, SetOf, Unknown}
use Rattle.rasn_schema.specs.Shapes.{found_by, shape_of_type, alternatives_by, components_by, presence_in, before_last, is_unknown, ends_unknown, known_parts}
use Rattle.rasn_schema.proofs.Lists.{some_is, but_last, in_but_last}
use Rattle.rasn_schema.proofs.OpenEnds.{among_not_unknown}

-- ---- unknown values, however deep types are followed

found_unknown : (f g : ℕ → Shape) (o : Option «Type») → is_unknown (found_by f o) ≡ is_unknown (found_by g o)
found_unknown f g None = refl
found_unknown f g (Some (Leaf kind tag c names)) = refl
found_unknown f g (Some (Enumerated tag ns)) = refl
found_unknown f g (Some (Any tag)) = refl
found_unknown f g (Some (Tagged tag k)) = refl
found_unknown f g (Some (Choice name ks)) = among_not_unknown (alternatives_by f ks.items) ∙ sym (among_not_unknown (alternatives_by g ks.items))
found_unknown f g (Some (Sequence tag ps)) = refl
found_unknown f g (Some (Set name tag ps)) = refl
found_unknown f g (Some (SequenceOf tag k c)) = refl
found_unknown f g (Some (SetOf tag k c)) = refl
found_unknown f g (Some Unknown) = refl

pub unknown_alike : (types : List «Type») (i j k : ℕ) → is_unknown (shape_of_type types (suc i) k) ≡ is_unknown (shape_of_type types (suc j) k)
unfolding shape_of_type
unknown_alike types i j k = found_unknown (shape_of_type types i) (shape_of_type types j) (slice_get types k)

-- ---- the components that are no unknown values at the end

abbrev pub known_of : Bool → List Component → List Component
known_of true ps = but_last ps
known_of false ps = ps

module _ (f : ℕ → Shape) where
  before_is : (ps : List Component) → before_last (components_by f ps) ≡ components_by f (but_last ps)
  before_is [] = refl
  before_is (p ∷ []) = refl
  before_is (p ∷ (q ∷ ps)) = ap (part (presence_in f p) (f p.type_id.0)) (before_is (q ∷ ps))

  pub known_is : (ps : List Component) (b : Bool) → ends_unknown (components_by f ps) ≡ b → known_parts (components_by f ps) ≡ components_by f (known_of b ps)
  known_is ps true e = rw e (before_is ps)
  known_is ps false e = rw e refl

  pub end_at : (ps : List Component) (i : ℕ) (p : Component) → Some p ≡ slice_get ps i → suc i ≡ length ps → is_unknown (f p.type_id.0) ≡ ends_unknown (components_by f ps)
  end_at [] i p e l = absurd (omega (arith, l))
  end_at (q ∷ []) zero p e l = ap (λ (x : Component). is_unknown (f x.type_id.0)) (some_is p q e)
  end_at (q ∷ []) (suc i) p e l = absurd (omega (arith, l))
  end_at (q ∷ (r ∷ ps)) zero p e l = absurd (omega (arith, l))
  end_at (q ∷ (r ∷ ps)) (suc i) p e l = end_at (r ∷ ps) i p e (omega (arith, l))

  -- Such a component is one of all, and no unknown values if it is the last.
  pub in_known : (ps : List Component) (b : Bool) → ends_unknown (components_by f ps) ≡ b → (i : ℕ) (p : Component) → Some p ≡ slice_get (known_of b ps) i
      → (Some p ≡ slice_get ps i) × (suc i ≡ length ps → is_unknown (f p.type_id.0) ≡ false)
  in_known ps true e i p g = let h = in_but_last ps i p g in (h.0, λ l. absurd (omega (arith, l, h.1)))
  in_known ps false e i p g = (g, λ l. end_at ps i p g l ∙ e)
