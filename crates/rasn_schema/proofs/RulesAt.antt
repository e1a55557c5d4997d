-- The rules that the type with one number breaks.
use Rattle.std.proofs.Common.{◌≡◌, ℕ, suc, List, length, Option, Some, None, subst, sym, ◌∙◌}
use Rattle.std.specs.Prelude.{slice_get, MatchOption}
use Rattle.rasn_schema.specs.declared.types.«Type».{«Type»}
use Rattle.rasn_schema.specs.declared.error.SchemaError.{SchemaError}
use Rattle.rasn_schema.specs.Shapes.{shape_of_type}
use Rattle.rasn_schema.specs.Schemas.{IsWellFormed, IsWellFormedAt, HasUnfitDefault, HasFitDefaultsAt, own_at, begin_at}
use Rattle.rasn_schema.specs.Fitting.{Fits}
use Rattle.rasn_schema.proofs.Lists.{some_is}
use Rattle.rasn_schema.specs.Faults.{IsFaultOf, SomeFault}

same_type : (types : List «Type») (k : ℕ) (t u : «Type») → Some t ≡ slice_get types k → Some u ≡ slice_get types k → t ≡ u
same_type types k t u g h = some_is t u (g ∙ sym h)

module _ (types : List «Type») (k levels : ℕ) (n : levels ≡ suc (length types)) where
  pub rule_at : (ty : «Type») → Some ty ≡ slice_get types k → (r : Option SchemaError)
      → MatchOption r (IsWellFormed (own_at types) (shape_of_type types levels) k ty) (λ e. IsFaultOf (own_at types) (shape_of_type types levels) k ty e)
      → MatchOption r (IsWellFormedAt types k) (λ e. SomeFault (own_at types) (begin_at types) types e)
  rule_at ty g None w = λ other h. subst (IsWellFormed (own_at types) (begin_at types) k) (same_type types k ty other g h)
      (subst (λ m. IsWellFormed (own_at types) (shape_of_type types m) k ty) n w)
  rule_at ty g (Some e) h = (k, ty, g, subst (λ m. IsFaultOf (own_at types) (shape_of_type types m) k ty e) n h)

pub fit_at : (types : List «Type») (k : ℕ) (ty : «Type») → Some ty ≡ slice_get types k → ((i : ℕ) → HasUnfitDefault (Fits types 18446744073709551615) ty i → ⊥) → HasFitDefaultsAt types k
fit_at types k ty g w = λ other h i u. w i (subst (λ t. HasUnfitDefault (Fits types 18446744073709551615) t i) (sym (same_type types k ty other g h)) u)
