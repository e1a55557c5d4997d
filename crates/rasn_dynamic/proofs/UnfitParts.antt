-- Values that aren't of their type, and where.
use Rattle.std.proofs.Common.{◌≡◌, ◌+◌, ℕ, zero, suc, List, [], ◌∷◌, ◌++◌, drop, Option, Some, None, refl, sym, ap, subst, ◌∙◌, append_assoc, add-one}
use Rattle.std.specs.Prelude.{slice_get, MatchOption}
use Rattle.rasn_schema.specs.declared.types.Alternative.{Alternative}
use Rattle.rasn_schema.specs.declared.types.Component.{Component}
use Rattle.rasn_schema.specs.declared.types.«Type».{«Type»}
use Rattle.rasn_schema.specs.declared.types.«Type».TheVariants.{Leaf, Enumerated, Any, Tagged, Choice, Sequence, Set, SequenceOf, SetOf, Unknown}
use Rattle.rasn_schema.specs.declared.value.Value.{Value, Boolean, Null, Integer, Bits, Octets, Text, Units, Arcs, Instant, Day, Absent, Items', Elements', Chosen'}
use Rattle.rasn_schema.proofs.Lists.{some_is}
use Rattle.rasn_types.specs.declared.types.tag.Tag.{Tag}
use Rattle.rasn_schema.specs.declared.type_id.TypeId.{TypeId}
use Rattle.rasn_dynamic.specs.declared.unfit.UnfitPart.{UnfitPart}
use Rattle.rasn_schema.proofs.Fitted.{fits_is}
use Rattle.rasn_schema.proofs.ListsOf.{list_to, list_from}
use Rattle.rasn_schema.specs.Fitting.{Fits, FitsBy, AreItems, IsListOf, AlternativeFits, ComponentFits, ComponentsFit, EachFits, IsChosen}
use Rattle.rasn_dynamic.specs.Unfit.{IsOfAlternative, IsPart, IsOtherForm, IsUnfitIn, IsUnfitBy, IsUnfitFound, IsUnfitAt}

-- ---- components and elements by index

module _ (g : ℕ → Value → Type 0) where
  fits_next : (ps : List Component) (vs : List Value) (i : ℕ) (p : Component) (v : Value) → Some p ≡ slice_get ps i → Some v ≡ slice_get vs i → ComponentFits g p v
      → ComponentsFit g (drop (suc i) ps) (drop (suc i) vs) → ComponentsFit g (drop i ps) (drop i vs)
  fits_next [] vs i p v e f a h = cc
  fits_next (q ∷ ps) [] i p v e f a h = cc
  fits_next (q ∷ ps) (w ∷ vs) zero p v e f a h = (subst (λ x. ComponentFits g x w) (some_is p q e) (subst (λ x. ComponentFits g p x) (some_is v w f) a), h)
  fits_next (q ∷ ps) (w ∷ vs) (suc i) p v e f a h = fits_next ps vs i p v e f a h

  pub next_fits : (ps : List Component) (vs : List Value) (i : ℕ) (p : Component) (v : Value) → Some p ≡ slice_get ps i → Some v ≡ slice_get vs i → ComponentFits g p v
      → ComponentsFit g (drop (i + 1) ps) (drop (i + 1) vs) → ComponentsFit g (drop i ps) (drop i vs)
  next_fits ps vs i p v e f a h = fits_next ps vs i p v e f a (subst (λ n. ComponentsFit g (drop n ps) (drop n vs)) (add-one i) h)

  module _ (h : ℕ → Value → Type 0) where
    pub too_few : (ps : List Component) (vs : List Value) (i : ℕ) (p : Component) → Some p ≡ slice_get ps i → None ≡ slice_get vs i → ComponentsFit h ps vs → ⊥
    too_few [] vs i p e f a = cc
    too_few (q ∷ ps) [] i p e f a = a
    too_few (q ∷ ps) (w ∷ vs) zero p e f a = cc
    too_few (q ∷ ps) (w ∷ vs) (suc i) p e f a = too_few ps vs i p e f a.1

    pub none_after : (ps : List Component) (vs : List Value) (i : ℕ) → None ≡ slice_get ps i → ComponentsFit h ps vs → ComponentsFit g (drop i ps) (drop i vs)
    none_after [] [] zero e a = tt
    none_after [] [] (suc i) e a = tt
    none_after [] (w ∷ vs) i e a = absurd a
    none_after (q ∷ ps) [] i e a = absurd a
    none_after (q ∷ ps) (w ∷ vs) zero e a = cc
    none_after (q ∷ ps) (w ∷ vs) (suc i) e a = none_after ps vs i e a.1

  pub alternative_unfit : (ks : List Alternative) (i j : ℕ) (w v : Value) → IsChosen (IsOfAlternative ks i j w) v → (IsChosen (AlternativeFits g ks) v → ⊥) → g j w → ⊥
  alternative_unfit ks i j w (Chosen' n _ u) (e, f, (a, s, q)) m h = m (a, subst (λ x. Some a ≡ slice_get ks x) (sym e) s, subst (λ x. g x u) (sym q) (subst (g j) (sym f) h))
  alternative_unfit ks i j w (Boolean b) p m h = p
  alternative_unfit ks i j w Null p m h = p
  alternative_unfit ks i j w (Integer n) p m h = p
  alternative_unfit ks i j w (Bits b) p m h = p
  alternative_unfit ks i j w (Octets o) p m h = p
  alternative_unfit ks i j w (Text s) p m h = p
  alternative_unfit ks i j w (Units u) p m h = p
  alternative_unfit ks i j w (Arcs a) p m h = p
  alternative_unfit ks i j w (Instant t) p m h = p
  alternative_unfit ks i j w (Day d) p m h = p
  alternative_unfit ks i j w (Items' _ row) p m h = p
  alternative_unfit ks i j w (Elements' _ row) p m h = p
  alternative_unfit ks i j w Absent p m h = p

module _ (P : Value → Type 0) where
  each_next : (vs : List Value) (i : ℕ) (v : Value) → Some v ≡ slice_get vs i → P v → EachFits P (drop (suc i) vs) → EachFits P (drop i vs)
  each_next [] i v f a h = cc
  each_next (w ∷ vs) zero v f a h = (subst P (some_is v w f) a, h)
  each_next (w ∷ vs) (suc i) v f a h = each_next vs i v f a h

  pub next_each : (vs : List Value) (i : ℕ) (v : Value) → Some v ≡ slice_get vs i → P v → EachFits P (drop (i + 1) vs) → EachFits P (drop i vs)
  next_each vs i v f a h = each_next vs i v f a (subst (λ n. EachFits P (drop n vs)) (add-one i) h)

  pub each_ended : (vs : List Value) (i : ℕ) → None ≡ slice_get vs i → EachFits P (drop i vs)
  each_ended [] zero e = tt
  each_ended [] (suc i) e = tt
  each_ended (w ∷ vs) zero e = cc
  each_ended (w ∷ vs) (suc i) e = each_ended vs i e

-- ---- one level deeper

pub unfit_is : (types : List «Type») (levels below k : ℕ) (ty : «Type») (v : Value) (p : List ℕ) → levels ≡ suc below → Some ty ≡ slice_get types k → IsUnfitBy (IsUnfitAt types below) ty v p ≡ IsUnfitAt types levels k v p
unfolding IsUnfitAt
unfit_is types levels below k ty v p n e = subst (λ m. IsUnfitBy (IsUnfitAt types below) ty v p ≡ IsUnfitAt types m k v p) (sym n) (ap (λ o. IsUnfitFound (IsUnfitAt types below) o v p) e)

pub unfit_zero : (types : List «Type») (levels k : ℕ) (v : Value) → levels ≡ 0 → IsUnfitAt types levels k v []
unfolding IsUnfitAt
unfit_zero types zero k v e = refl
unfit_zero types (suc m) k v e = cc

pub unfit_none : (types : List «Type») (levels k : ℕ) (v : Value) → None ≡ slice_get types k → IsUnfitAt types levels k v []
unfolding IsUnfitAt
unfit_none types zero k v e = refl
unfit_none types (suc m) k v e = subst (λ o. IsUnfitFound (IsUnfitAt types m) o v []) e refl

abbrev pub IsPlain : «Type» → Type 0
IsPlain (Tagged tag k) = ⊥
IsPlain _ = Unit {0}

pub unfit_in : (h : ℕ → Value → List ℕ → Type 0) (ty : «Type») (v : Value) (p : List ℕ) → IsPlain ty → IsUnfitIn h ty v p → IsUnfitBy h ty v p
unfit_in h (Tagged tag k) v p n a = absurd n
unfit_in h (Leaf kind tag c names) v p n a = a
unfit_in h (Enumerated tag ns) v p n a = a
unfit_in h (Any tag) v p n a = a
unfit_in h Unknown v p n a = a
unfit_in h (Choice name ks) v p n a = a
unfit_in h (Sequence tag ps) v p n a = a
unfit_in h (Set name tag ps) v p n a = a
unfit_in h (SequenceOf tag k c) v p n a = a
unfit_in h (SetOf tag k c) v p n a = a

-- ---- for the calls that look for a part

module _ (A : List Value → Type 0) (B : UnfitPart → List Value → Type 0) (C : UnfitPart → Type 0) (vs : List Value) (v : Value) where
  pub list_part : (r : Option UnfitPart) → IsListOf vs v → MatchOption r (A vs → ⊥) (λ p. B p vs × C p) → MatchOption r (AreItems A v → ⊥) (λ p. AreItems (B p) v × C p)
  list_part None l h = λ a. h (list_from A vs v l a)
  list_part (Some p) l h = (list_to (B p) vs v l h.0, h.1)

module _ (g : ℕ → Value → Type 0) (ks : List Alternative) (v : Value) where
  pub choice_part : (r : Option UnfitPart) → (IsChosen (AlternativeFits g ks) v → ⊥)
      → MatchOption r (IsChosen (AlternativeFits (λ j w. Unit {0}) ks) v → ⊥) (λ p. IsChosen (IsOfAlternative ks p.index p.type_id.0 p.value.now) v)
      → MatchOption r (IsChosen (AlternativeFits (λ j w. Unit {0}) ks) v → ⊥) (λ p. IsChosen (IsOfAlternative ks p.index p.type_id.0 p.value.now) v × (g p.type_id.0 p.value.now → ⊥))
  choice_part None n h = h
  choice_part (Some p) n h = (h, alternative_unfit g ks p.index p.type_id.0 p.value.now v h n)

pub type_unfit : (types : List «Type») (levels below k : ℕ) (ty : «Type») (v : Value) → levels ≡ suc below → Some ty ≡ slice_get types k → (Fits types levels k v → ⊥) → FitsBy (Fits types below) ty v → ⊥
type_unfit types levels below k ty v n e m h = m (subst (λ X. X) (fits_is types levels below k ty v n e) h)

pub path_of_type : (types : List «Type») (levels below k : ℕ) (ty : «Type») (v : Value) (p : List ℕ) → levels ≡ suc below → Some ty ≡ slice_get types k → IsUnfitBy (IsUnfitAt types below) ty v p
    → IsUnfitAt types levels k v p
path_of_type types levels below k ty v p n e h = subst (λ X. X) (unfit_is types levels below k ty v p n e) h

module _ (h : ℕ → Value → List ℕ → Type 0) (ty : «Type») (v : Value) (m : (tag : Tag) (inner : TypeId) → ty ≡ Tagged tag inner → ⊥) where
  plain : IsPlain ty
  plain = go ty m
    where
      go : (z : «Type») → ((tag : Tag) (inner : TypeId) → z ≡ Tagged tag inner → ⊥) → IsPlain z
      go (Tagged tag inner) m = absurd (m tag inner refl)
      go _ m = tt

  pub path_ends : IsOtherForm ty v → IsUnfitBy h ty v []
  path_ends a = unfit_in h ty v [] plain a

  pub path_goes_on : (i j : ℕ) (w : Value) (p : List ℕ) → IsPart ty v i j w → h j w p → IsUnfitBy h ty v (i ∷ p)
  path_goes_on i j w p a b = unfit_in h ty v (i ∷ p) plain (j, w, a, b)

pub longer : (old mid new : List ℕ) (i : ℕ) (p : List ℕ) → mid ≡ old ++ i ∷ [] → new ≡ mid ++ p → new ≡ old ++ i ∷ p
longer old mid new i p e f = f ∙ (ap (λ l. l ++ p) e ∙ append_assoc old (i ∷ []) p)
