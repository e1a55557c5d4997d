-- Paths that lead to a component.
use Rattle.std.proofs.Common.{◌≡◌, ◌≢◌, ℕ, List, [], ◌∷◌, Some, None, inl, inr, refl, sym, ◌∙◌, subst, length, nat_eq, true, arith}
use Rattle.std.proofs.lemmas.Bool.{eqb-true}
use Rattle.std.specs.Prelude.{slice_get, option_copied, MatchOption, Option}
use Rattle.std.specs.Borrow.{Bor}
use Rattle.rasn_schema.specs.declared.type_id.TypeId.{TypeId}
use Rattle.rasn_schema.specs.declared.types.Component.{Component}
use Rattle.rasn_schema.specs.declared.types.«Type».{«Type»}
use Rattle.rasn_schema.specs.Schemas.{components_in}
use Rattle.rasn_schema.specs.Held.{part_type}
use Rattle.rasn_schema.proofs.Lists.{some_is}
use Rattle.rasn_schema.proofs.Parts.{not_none}
use Rattle.rasn_dynamic.specs.LeadsTo.{LeadsTo}

pub weaker : {X : Type 0} (r : Option X) (N M : Type 0) (S T : X → Type 0) → (N → M) → ((x : X) → S x → T x) → MatchOption r N S → MatchOption r M T
weaker None N M S T f g h = f h
weaker (Some x) N M S T f g h = g x h

pub is_empty : {X : Type 0} (l : List X) → true ≡ nat_eq (length l) 0 → l ≡ []
is_empty [] e = refl
is_empty (x ∷ l) e = let n = eqb-true (length (x ∷ l)) 0 (sym e) in absurd (omega (arith, n))

-- One path leads where the other does.
abbrev pub LeadAlike : List «Type» → ℕ → List ℕ → ℕ → List ℕ → Type 0
LeadAlike types a path b rest = (p : Component) → (LeadsTo types b rest p → LeadsTo types a path p) × (LeadsTo types a path p → LeadsTo types b rest p)

-- What a call returns that looks an element up.
pub looked_up : {X : Type 0} (r : Option (Bor X)) (o : Option X) → option_copied r ≡ o → MatchOption r ((x : X) → Some x ≡ o → ⊥) (λ x. Some x.now ≡ o)
looked_up None o e = λ x h. not_none x o e h
looked_up (Some x) o e = e

module _ (types : List «Type») where
  pub starts_alike : (id : ℕ) (path : List ℕ) → LeadAlike types id path id path
  starts_alike id path = λ p. ((λ h. h), (λ h. h))

  -- No path leads on from no type, or to no part.
  pub nowhere : (p : Component) (id k : ℕ) (path : List ℕ) → None ≡ slice_get types id → LeadsTo types id (k ∷ path) p → ⊥
  unfolding LeadsTo
  nowhere p id k path n (ty, g, h) = no (n ∙ sym g)
    where
      no : {X : Type 0} {x : X} → None ≡ Some x → ⊥
      no e = cc

  pub ends_at : (p : Component) (id k : ℕ) (ty : «Type») → Some ty ≡ slice_get types id → Some p ≡ slice_get (components_in ty) k → LeadsTo types id (k ∷ []) p
  unfolding LeadsTo
  ends_at p id k ty g h = (ty, g, inl (refl, h))

  pub ends_only_at : (p : Component) (id k : ℕ) (ty : «Type») → Some ty ≡ slice_get types id → LeadsTo types id (k ∷ []) p → Some p ≡ slice_get (components_in ty) k
  unfolding LeadsTo
  ends_only_at p id k ty g (uy, i, inl (e, h)) = subst (λ z. Some p ≡ slice_get (components_in z) k) (some_is uy ty (i ∙ sym g)) h
  ends_only_at p id k ty g (uy, i, inr (next, h, l)) = absurd l

  pub goes_on : (p : Component) (id k : ℕ) (path : List ℕ) (ty : «Type») (next : TypeId) → Some ty ≡ slice_get types id → Some next ≡ part_type ty k → LeadsTo types next.0 path p → LeadsTo types id (k ∷ path) p
  unfolding LeadsTo
  goes_on p id k path ty next g h l = (ty, g, inr (next, h, l))

  pub goes_on_only : (p : Component) (id k : ℕ) (path : List ℕ) (ty : «Type») (next : TypeId) → Some ty ≡ slice_get types id → path ≢ [] → Some next ≡ part_type ty k → LeadsTo types id (k ∷ path) p → LeadsTo types next.0 path p
  unfolding LeadsTo
  goes_on_only p id k path ty next g n h (uy, i, inl (e, c)) = absurd (n e)
  goes_on_only p id k path ty next g n h (uy, i, inr (other, o, l)) =
      subst (λ (z : TypeId). LeadsTo types z.0 path p) (some_is other next (subst (λ z. Some other ≡ part_type z k) (some_is uy ty (i ∙ sym g)) o ∙ sym h)) l

  -- ---- a step of the loop: it is at the type with number id, before the index k and those after it
  module _ (start : ℕ) (path : List ℕ) (id : ℕ) (rest : List ℕ) (k : ℕ) (after : List ℕ) (e : rest ≡ k ∷ after) (alike : LeadAlike types start path id rest) where
    pub no_way : (p : Component) → ((p : Component) → LeadsTo types id (k ∷ after) p → ⊥) → LeadsTo types start path p → ⊥
    no_way p n h = n p (subst (λ z. LeadsTo types id z p) e ((alike p).1 h))

    module _ (ty : «Type») (g : Some ty ≡ slice_get types id) where
      pub found : (p : Component) → after ≡ [] → Some p ≡ slice_get (components_in ty) k → LeadsTo types start path p
      found p n h = (alike p).0 (subst (λ z. LeadsTo types id z p) (sym e) (subst (λ z. LeadsTo types id (k ∷ z) p) (sym n) (ends_at p id k ty g h)))

      pub not_found : (p : Component) → after ≡ [] → (Some p ≡ slice_get (components_in ty) k → ⊥) → LeadsTo types start path p → ⊥
      not_found p n h l = h (ends_only_at p id k ty g (subst (λ z. LeadsTo types id (k ∷ z) p) n (subst (λ z. LeadsTo types id z p) e ((alike p).1 l))))

      pub no_part : (p : Component) → after ≢ [] → None ≡ part_type ty k → LeadsTo types start path p → ⊥
      unfolding LeadsTo
      no_part p n h l = leads_no_part p (subst (λ z. LeadsTo types id z p) e ((alike p).1 l))
        where
          leads_no_part : (p : Component) → LeadsTo types id (k ∷ after) p → ⊥
          leads_no_part p (uy, i, inl (m, c)) = n m
          leads_no_part p (uy, i, inr (other, o, l)) = not_none other (part_type ty k) h (subst (λ z. Some other ≡ part_type z k) (some_is uy ty (i ∙ sym g)) o)

      pub next_alike : (next : TypeId) → after ≢ [] → Some next ≡ part_type ty k → LeadAlike types start path next.0 after
      next_alike next n h = λ p. (
        (λ l. (alike p).0 (subst (λ z. LeadsTo types id z p) (sym e) (goes_on p id k after ty next g h l))),
        (λ l. goes_on_only p id k after ty next g n h (subst (λ z. LeadsTo types id z p) e ((alike p).1 l))),
      )

  pub no_path : (start : ℕ) (path : List ℕ) (id : ℕ) (rest : List ℕ) → rest ≡ [] → LeadAlike types start path id rest → (p : Component) → LeadsTo types start path p → ⊥
  unfolding LeadsTo
  no_path start path id rest e alike p l = ended (subst (λ z. LeadsTo types id z p) e ((alike p).1 l))
    where
      ended : LeadsTo types id [] p → ⊥
      ended h = h
