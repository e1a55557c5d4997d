-- Values that fit, one after the other.
use Rattle.std.proofs.Common.{◌≡◌, ◌≤◌, ℕ, zero, suc, Bool, true, false, ℤ, List, [], ◌∷◌, length, Contains, Some, None, refl, sym, ap, subst, ◌∙◌, arith}
use Rattle.std.specs.Prelude.{slice_get}
use Rattle.std.proofs.lemmas.Option.{slice_get_within}
use Rattle.rasn_types.specs.Truth.{IsWhether}
use Rattle.rasn_schema.specs.declared.types.Component.{Component}
use Rattle.rasn_schema.specs.declared.types.«Type».{«Type»}
use Rattle.rasn_schema.specs.declared.types.Alternative.{Alternative}
use Rattle.rasn_schema.specs.declared.types.NamedNumber.{NamedNumber}
use Rattle.rasn_schema.specs.declared.value.Value.{Value}
use Rattle.rasn_schema.specs.Shapes.{numbers_of}
use Rattle.rasn_schema.proofs.Lists.{some_is}
use Rattle.rasn_schema.specs.Fitting.{AlternativeFits, ComponentFits, ComponentsFit, EachFits, FitsFound, FitsBy, Fits}

-- Those so far fit if the rest does.
pub record FitSoFar (g : ℕ → Value → Type 0) (all rest : List Component) (values left : List Value) : Type 0 where
  pub up : ComponentsFit g rest left → ComponentsFit g all values
  pub down : ComponentsFit g all values → ComponentsFit g rest left

module _ (g : ℕ → Value → Type 0) where
  pub fit_start : (all : List Component) (values : List Value) → FitSoFar g all all values values
  fit_start all values = record { up = λ h. h; down = λ h. h }

  module _ (all rest after : List Component) (values left others : List Value) (p : Component) (v : Value) (k : FitSoFar g all rest values left) (e : rest ≡ p ∷ after) (f : left ≡ v ∷ others) where
    here : ComponentsFit g rest left → ComponentFits g p v × ComponentsFit g after others
    here h = subst (λ l. ComponentsFit g (p ∷ after) l) f (subst (λ l. ComponentsFit g l left) e h)

    back : ComponentFits g p v → ComponentsFit g after others → ComponentsFit g rest left
    back a b = subst (λ l. ComponentsFit g l left) (sym e) (subst (λ l. ComponentsFit g (p ∷ after) l) (sym f) (a, b))

    pub fit_more : ComponentFits g p v → FitSoFar g all after values others
    fit_more a = record { up = λ h. k.up (back a h); down = λ h. (here (k.down h)).1 }

    pub fit_not : (ComponentFits g p v → ⊥) → ComponentsFit g all values → ⊥
    fit_not n h = n (here (k.down h)).0

  pub fit_short : (all rest after : List Component) (values left : List Value) (p : Component) → FitSoFar g all rest values left → rest ≡ p ∷ after → left ≡ [] → ComponentsFit g all values → ⊥
  fit_short all rest after values left p k e f h = subst (λ l. ComponentsFit g (p ∷ after) l) f (subst (λ l. ComponentsFit g l left) e (k.down h))

  end_at : (b : Bool) (left : List Value) → IsWhether b (left ≡ []) → IsWhether b (ComponentsFit g [] left)
  end_at true left w = subst (ComponentsFit g []) (sym w) tt
  end_at false [] w = absurd (w refl)
  end_at false (v ∷ left) w = λ h. h

  pub fit_end : (all rest : List Component) (values left : List Value) (b : Bool) → FitSoFar g all rest values left → rest ≡ [] → IsWhether b (left ≡ []) → IsWhether b (ComponentsFit g all values)
  fit_end all rest values left b k e w = over b (subst (λ l. IsWhether b (ComponentsFit g l left)) (sym e) (end_at b left w))
    where
      over : (c : Bool) → IsWhether c (ComponentsFit g rest left) → IsWhether c (ComponentsFit g all values)
      over true h = k.up h
      over false h = λ m. h (k.down m)

pub record EachSoFar (P : Value → Type 0) (all rest : List Value) : Type 0 where
  pub up : EachFits P rest → EachFits P all
  pub down : EachFits P all → EachFits P rest

module _ (P : Value → Type 0) where
  pub each_start : (all : List Value) → EachSoFar P all all
  each_start all = record { up = λ h. h; down = λ h. h }

  module _ (all rest after : List Value) (v : Value) (k : EachSoFar P all rest) (e : rest ≡ v ∷ after) where
    pub each_more : P v → EachSoFar P all after
    each_more a = record { up = λ h. k.up (subst (EachFits P) (sym e) (a, h)); down = λ h. (subst (EachFits P) e (k.down h)).1 }

    pub each_not : (P v → ⊥) → EachFits P all → ⊥
    each_not n h = n (subst (EachFits P) e (k.down h)).0

  pub each_end : (all rest : List Value) → EachSoFar P all rest → rest ≡ [] → EachFits P all
  each_end all rest k e = k.up (subst (EachFits P) (sym e) tt)

-- ---- alternatives and numbers

module _ (g : ℕ → Value → Type 0) (ks : List Alternative) (i : ℕ) (w : Value) where
  pub alternative_told : (a : Alternative) (b : Bool) → Some a ≡ slice_get ks i → IsWhether b (g a.type_id.0 w) → IsWhether b (AlternativeFits g ks i w)
  alternative_told a true e h = (a, e, h)
  alternative_told a false e h = λ (x, f, k). h (subst (λ (z : Alternative). g z.type_id.0 w) (some_is x a (f ∙ sym e)) k)

  pub alternative_there : (a : Alternative) → Some a ≡ slice_get ks i → AlternativeFits g ks i w → g a.type_id.0 w
  alternative_there a e (x, f, k) = subst (λ (z : Alternative). g z.type_id.0 w) (some_is x a (f ∙ sym e)) k

  pub no_alternative : length ks ≤ i → AlternativeFits g ks i w → ⊥
  no_alternative l (x, f, k) = omega (arith, l, slice_get_within ks i x (sym f))

-- A name that is in the list has a listed number.
pub named_listed : (ns : List NamedNumber) (i : ℕ) (m : NamedNumber) (z : ℤ) → Some m ≡ slice_get ns i → m.number ≡ z → Contains (numbers_of ns) z
named_listed [] i m z e f = cc
named_listed (n ∷ ns) zero m z e f = (0, omega arith, ap (λ (x : NamedNumber). x.number) (some_is n m (sym e)) ∙ f)
named_listed (n ∷ ns) (suc i) m z e f = let h = named_listed ns i m z e f in (suc h.0, omega (arith, h.1), h.2)

pub not_listed : (ns : List NamedNumber) (z : ℤ) → ((j : ℕ) (m : NamedNumber) → Some m ≡ slice_get ns j → m.number ≡ z → ⊥) → Contains (numbers_of ns) z → ⊥
not_listed [] z h (k, l, e) = omega (arith, l)
not_listed (n ∷ ns) z h (zero, l, e) = h 0 n refl e
not_listed (n ∷ ns) z h (suc k, l, e) = not_listed ns z (λ j m g. h (suc j) m g) (k, omega (arith, l), e)

-- ---- one level deeper

pub fits_is : (types : List «Type») (levels below k : ℕ) (ty : «Type») (v : Value) → levels ≡ suc below → Some ty ≡ slice_get types k → FitsBy (Fits types below) ty v ≡ Fits types levels k v
unfolding Fits
fits_is types levels below k ty v n e = subst (λ m. FitsBy (Fits types below) ty v ≡ Fits types m k v) (sym n) (ap (λ o. FitsFound (Fits types below) o v) e)

pub fits_none : (types : List «Type») (levels k : ℕ) (v : Value) → None ≡ slice_get types k → Fits types levels k v → ⊥
unfolding Fits
fits_none types zero k v e h = h
fits_none types (suc m) k v e h = subst (λ o. FitsFound (Fits types m) o v) (sym e) h

pub fits_zero : (types : List «Type») (levels k : ℕ) (v : Value) → levels ≡ 0 → Fits types levels k v → ⊥
unfolding Fits
fits_zero types zero k v e h = h
fits_zero types (suc m) k v e h = absurd (omega (arith, e))
