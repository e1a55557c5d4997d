-- From a CHOICE to the alternative that was chosen.
use Rattle.std.proofs.Common.{◌≡◌, ◌≤◌, ℕ, zero, suc, List, Bool, true, false, String, Vec, Box, Global, length, Some, None, inl, inr, refl, sym, ap, subst, ◌∙◌, arith}
use Rattle.std.specs.Prelude.{slice_get}
use Rattle.rasn_types.specs.Truth.{IsWhether}
use Rattle.rasn_schema.specs.declared.types.«Type».{«Type»}
use Rattle.rasn_schema.specs.declared.types.«Type».TheVariants.{Choice}
use Rattle.rasn_schema.specs.declared.types.Alternative.{Alternative}
use Rattle.rasn_schema.specs.declared.value.Value.{Value, Chosen, Chosen'}
use Rattle.rasn_schema.specs.Fitting.{AlternativeFits, IsChosen, FitsBy, Fits}
use Rattle.rasn_schema.specs.Reach.{Reaches}
use Rattle.rasn_schema.specs.Schemas.{IsChoice}
use Rattle.rasn_schema.specs.Trees.{tree_of}
use Rattle.rasn_schema.specs.Kinds.{kind}
use Rattle.rasn_schema.proofs.OtherKinds.{is_other, not_chosen}
use Rattle.rasn_schema.proofs.Fitted.{fits_is, fits_none, fits_zero, alternative_there, no_alternative}

-- ---- one level

pub reach_here : (types : List «Type») (levels left k : ℕ) (v : Value) (ty : «Type») → levels ≡ suc left → Some ty ≡ slice_get types k → Reaches types levels k v left ty v
unfolding Reaches
reach_here types levels left k v ty e f = subst (λ m. Reaches types m k v left ty v) (sym e) (inl (f, refl, refl))

module _ (types : List «Type») (levels left k i : ℕ) (v : Value) (t : «Type») (name : String Global) (ks : Vec Alternative Global) (b : Box Value Global) (a : Alternative)
    (e : levels ≡ suc left) (f : Some t ≡ slice_get types k) (g : t ≡ Choice name ks) (h : v ≡ Chosen i b) (at : Some a ≡ slice_get ks.items i) where
  pub reach_more : (n : ℕ) (ty : «Type») (w : Value) → Reaches types left a.type_id.0 b.value n ty w → Reaches types levels k v n ty w
  unfolding Reaches
  reach_more n ty w m = subst (λ l. Reaches types l k v n ty w) (sym e)
      (inr (name, ks, ap Some (sym g) ∙ f, subst (IsChosen (AlternativeFits (λ j u. Reaches types left j u n ty w) ks.items)) (sym h) (a, at, m)))

  pub fits_more : Fits types levels k v → Fits types left a.type_id.0 b.value
  fits_more m =
      let by : FitsBy (Fits types left) t v = subst (λ X. X) (sym (fits_is types levels left k t v e f)) m in
      let chosen : IsChosen (AlternativeFits (Fits types left) ks.items) (Chosen i b) = subst (IsChosen (AlternativeFits (Fits types left) ks.items)) h (subst (λ x. FitsBy (Fits types left) x v) g by) in
      alternative_there (Fits types left) ks.items i b.value a at chosen

-- What holds of the place that is reached holds of the first one.
pub record OnTheWay (types : List «Type») (levels k : ℕ) (v : Value) (left j : ℕ) (u : Value) : Type 0 where
  pub reaches : (n : ℕ) (ty : «Type») (w : Value) → Reaches types left j u n ty w → Reaches types levels k v n ty w
  pub fits : Fits types levels k v → Fits types left j u
  pub below : left ≤ levels

pub way_start : (types : List «Type») (levels k : ℕ) (v : Value) → OnTheWay types levels k v levels k v
way_start types levels k v = record { reaches = λ n ty w m. m; fits = λ m. m; below = omega arith }

-- ---- all levels

-- What holds of the alternative that was chosen.
chosen_on : (P Q : ℕ → Value → Type 0) (v : Value) → ((i : ℕ) (u : Value) → P i u → Q i u) → IsChosen P v → IsChosen Q v
chosen_on P Q (Chosen' i _ u) on h = on i u h
chosen_on P Q _ on h = absurd h

-- A value is one of its type exactly if the value that is reached is one of the type that is reached.
pub fits_up : (types : List «Type») (levels k n : ℕ) (v w : Value) (ty : «Type») → Reaches types levels k v n ty w → FitsBy (Fits types n) ty w → Fits types levels k v
unfolding Reaches
fits_up types zero k n v w ty l h = absurd l
fits_up types (suc m) k n v w ty (inl (e, f, g)) h =
    subst (λ X. X) (fits_is types (suc m) m k ty v refl e) (subst (λ u. FitsBy (Fits types m) ty u) g (subst (λ q. FitsBy (Fits types q) ty w) f h))
fits_up types (suc m) k n v w ty (inr (name, ks, e, c)) h =
    subst (λ X. X) (fits_is types (suc m) m k (Choice name ks) v refl e)
    (chosen_on _ (AlternativeFits (Fits types m) ks.items) v (λ i u q. (q.0, q.1, fits_up types m q.0.type_id.0 n u w ty q.2 h)) c)

pub fits_down : (types : List «Type») (levels k n : ℕ) (v w : Value) (ty : «Type») → Reaches types levels k v n ty w → Fits types levels k v → FitsBy (Fits types n) ty w
unfolding Reaches
fits_down types zero k n v w ty l h = absurd l
fits_down types (suc m) k n v w ty (inl (e, f, g)) h =
    subst (λ q. FitsBy (Fits types q) ty w) (sym f) (subst (λ u. FitsBy (Fits types m) ty u) (sym g) (subst (λ X. X) (sym (fits_is types (suc m) m k ty v refl e)) h))
fits_down types (suc m) k n v w ty (inr (name, ks, e, c)) h =
    both v c (subst (λ X. X) (sym (fits_is types (suc m) m k (Choice name ks) v refl e)) h) (λ j u l f. fits_down types m j n u w ty l f)
  where
    both : (x : Value) → IsChosen (AlternativeFits (λ j u. Reaches types m j u n ty w) ks.items) x → IsChosen (AlternativeFits (Fits types m) ks.items) x
        → ((j : ℕ) (u : Value) → Reaches types m j u n ty w → Fits types m j u → FitsBy (Fits types n) ty w) → FitsBy (Fits types n) ty w
    both (Chosen' i _ u) (a, at, l) f more = more a.type_id.0 u l (alternative_there (Fits types m) ks.items i u a at f)
    both _ l f more = absurd l

pub whether_reached : (b : Bool) (types : List «Type») (levels k n : ℕ) (v w : Value) (ty : «Type») → Reaches types levels k v n ty w → IsWhether b (FitsBy (Fits types n) ty w) → IsWhether b (Fits types levels k v)
whether_reached true types levels k n v w ty r h = fits_up types levels k n v w ty r h
whether_reached false types levels k n v w ty r h = λ f. h (fits_down types levels k n v w ty r f)

-- ---- the loop

pub not_choice : (ty : «Type») → ((name : String Global) (ks : Vec Alternative Global) → ty ≡ Choice name ks → ⊥) → IsChoice ty → ⊥
not_choice (Choice name ks) n h = n name ks refl
not_choice _ n h = h

chosen_kind : (P : ℕ → Value → Type 0) (v : Value) → IsChosen P v → kind (tree_of v) ≡ 7
chosen_kind P (Chosen' i _ w) h = refl
chosen_kind P _ h = absurd h

module _ (types : List «Type») (levels k left rest : ℕ) (v u : Value) (j : ℕ) (on : OnTheWay types levels k v left j u) where
  pub no_levels : left ≡ 0 → Fits types levels k v → ⊥
  no_levels e f = fits_zero types left j u e (on.fits f)

  pub no_type : None ≡ slice_get types j → Fits types levels k v → ⊥
  no_type e f = fits_none types left j u e (on.fits f)

  module _ (t : «Type») (e : left ≡ suc rest) (f : Some t ≡ slice_get types j) where
    pub way_ends : Reaches types levels k v rest t u
    way_ends = on.reaches rest t u (reach_here types left rest j u t e f)

    module _ (name : String Global) (ks : Vec Alternative Global) (g : t ≡ Choice name ks) where
      by : Fits types levels k v → IsChosen (AlternativeFits (Fits types rest) ks.items) u
      by m = subst (λ x. FitsBy (Fits types rest) x u) g (subst (λ X. X) (sym (fits_is types left rest j t u e f)) (on.fits m))

      pub no_choice : ((i : ℕ) (b : Box Value Global) → u ≡ Chosen i b → ⊥) → Fits types levels k v → ⊥
      no_choice n m = is_other 7 u (not_chosen u n) (chosen_kind (AlternativeFits (Fits types rest) ks.items) u (by m))

      module _ (i : ℕ) (b : Box Value Global) (h : u ≡ Chosen i b) where
        pub nothing_chosen : length ks.items ≤ i → Fits types levels k v → ⊥
        nothing_chosen l m = no_alternative (Fits types rest) ks.items i b.value l (subst (IsChosen (AlternativeFits (Fits types rest) ks.items)) h (by m))

        pub way_more : (a : Alternative) → Some a ≡ slice_get ks.items i → OnTheWay types levels k v rest a.type_id.0 b.value
        way_more a at = record {
          reaches = λ n ty w m. on.reaches n ty w (reach_more types left rest j i u t name ks b a e f g h at n ty w m);
          fits = λ m. fits_more types left rest j i u t name ks b a e f g h at (on.fits m);
          below = let m = on.below in omega (arith, m, e);
        }
