-- The names of parts at the ends of paths.
use Rattle.std.proofs.Common.{ℕ, ◌≡◌, ◌++◌, ◌∷◌, [], inl, inr, List, Option, Some, None, MatchOption, refl, sym, ap, subst, ◌∙◌}
use Rattle.std.specs.Prelude.{slice_get, option_copied, unwrap_or}
use Rattle.std.specs.Borrow.{Bor}
use Rattle.rasn_schema.specs.declared.type_id.TypeId.{TypeId}
use Rattle.rasn_schema.specs.declared.types.«Type».{«Type»}
use Rattle.rasn_schema.specs.Held.{part_name, part_type}
use Rattle.rasn_c.specs.Listing.{HasNameOn, IsNameOn, Leads, LeadsToType}

-- The rest of a path leads from here where the whole path leads from the first type.
abbrev pub LeadsOn : List «Type» → ℕ → List ℕ → «Type» → List ℕ → Type 0
LeadsOn types id path here rest = (ty : «Type») → (Leads types here rest ty → LeadsToType types id path ty) × (LeadsToType types id path ty → Leads types here rest ty)

pub begins : (types : List «Type») (id : ℕ) (path : List ℕ) (here : «Type») → slice_get types id ≡ Some here → LeadsOn types id path here path
begins types id path here e ty = (λ l. (here, e, l), λ l. let same : l.0 ≡ here = cc in subst (λ f. Leads types f path ty) same l.2)

pub begins_nowhere : (types : List «Type») (id : ℕ) (path : List ℕ) → slice_get types id ≡ None → (ty : «Type») → LeadsToType types id path ty → ⊥
begins_nowhere types id path e ty l = let f = l.1 in cc

-- One step further.
pub goes_on : (types : List «Type») (id k : ℕ) (path rest : List ℕ) (here inner : «Type») (next : TypeId) → part_type here k ≡ Some next → slice_get types next.0 ≡ Some inner → LeadsOn types id path here (k ∷ rest) → LeadsOn types id path inner rest
goes_on types id k path rest here inner next e f o ty = (
  λ l. (o ty).0 (next, e, inner, f, l),
  λ l. let (n, g, i, h, m) = (o ty).1 l in
      let same : n ≡ next = cc in
      let found : slice_get types next.0 ≡ Some i = subst (λ (x : TypeId). slice_get types x.0 ≡ Some i) same h in
      let there : i ≡ inner = cc in
      subst (λ x. Leads types x rest ty) there m,
)

pub goes_nowhere : (types : List «Type») (id k : ℕ) (path rest : List ℕ) (here : «Type») → part_type here k ≡ None → LeadsOn types id path here (k ∷ rest) → (ty : «Type») → LeadsToType types id path ty → ⊥
goes_nowhere types id k path rest here e o ty l = let (n, g, i, h, m) = (o ty).1 l in cc

pub goes_to_none : (types : List «Type») (id k : ℕ) (path rest : List ℕ) (here : «Type») (next : TypeId) → part_type here k ≡ Some next → slice_get types next.0 ≡ None → LeadsOn types id path here (k ∷ rest) → (ty : «Type») → LeadsToType types id path ty → ⊥
goes_to_none types id k path rest here next e f o ty l =
    let (n, g, i, h, m) = (o ty).1 l in
    let same : n ≡ next = cc in
    let found : slice_get types next.0 ≡ Some i = subst (λ (x : TypeId). slice_get types x.0 ≡ Some i) same h in
    cc

last_is : (front : List ℕ) (k : ℕ) (other : List ℕ) (j : ℕ) → front ++ k ∷ [] ≡ other ++ j ∷ [] → (front ≡ other) × (k ≡ j)
last_is [] k [] j e = (refl, cc)
last_is [] k (x ∷ []) j e = cc
last_is [] k (x ∷ (y ∷ other)) j e = cc
last_is (x ∷ []) k [] j e = cc
last_is (x ∷ (y ∷ front)) k [] j e = cc
last_is (x ∷ front) k (y ∷ other) j e =
    let rest : front ++ k ∷ [] ≡ other ++ j ∷ [] = cc in
    let same : x ≡ y = cc in
    let h = last_is front k other j rest in
    (subst (λ z. x ∷ front ≡ z ∷ other) same (ap (λ l. x ∷ l) h.0), h.1)

pub unnamed : (types : List «Type») (id : ℕ) (path name : List ℕ) → path ≡ [] → HasNameOn types id path name → ⊥
unnamed types id path name e h = none h.front (sym e ∙ h.path_is)
  where
    none : (front : List ℕ) → [] ≡ front ++ h.last ∷ [] → ⊥
    none [] e = cc
    none (k ∷ front) e = cc

pub nowhere : (types : List «Type») (id k : ℕ) (path front name : List ℕ) → path ≡ front ++ k ∷ [] → ((ty : «Type») → LeadsToType types id front ty → ⊥) → HasNameOn types id path name → ⊥
nowhere types id k path front name e n h = let s = last_is front k h.front h.last (sym e ∙ h.path_is) in n h.outer (subst (λ l. LeadsToType types id l h.outer) (sym s.0) h.leads)

only_one : (types : List «Type») (from : «Type») (path : List ℕ) (ty other : «Type») → Leads types from path ty → Leads types from path other → ty ≡ other
only_one types from [] ty other l m = sym l ∙ m
only_one types from (k ∷ path) ty other (a, e, i, f, l) (b, g, j, h, m) =
    let same : b ≡ a = cc in
    let found : slice_get types a.0 ≡ Some j = subst (λ (x : TypeId). slice_get types x.0 ≡ Some j) same h in
    let there : j ≡ i = cc in
    only_one types i path ty other l (subst (λ x. Leads types x path other) there m)

pub one_type : (types : List «Type») (id : ℕ) (path : List ℕ) (ty other : «Type») → LeadsToType types id path ty → LeadsToType types id path other → ty ≡ other
one_type types id path ty other (a, e, l) (b, f, m) =
    let same : b ≡ a = cc in
    only_one types a path ty other l (subst (λ x. Leads types x path other) same m)

pub named : (types : List «Type») (id k : ℕ) (path front : List ℕ) (ty : «Type») (r : Option (Bor (List ℕ))) → path ≡ front ++ k ∷ [] → LeadsToType types id front ty → option_copied r ≡ part_name ty k
    → MatchOption r ((name : List ℕ) → HasNameOn types id path name → ⊥) (λ name. HasNameOn types id path name.now)
named types id k path front ty None e l n = λ name h.
    let s = last_is front k h.front h.last (sym e ∙ h.path_is) in
    let same : h.outer ≡ ty = one_type types id front h.outer ty (subst (λ p. LeadsToType types id p h.outer) (sym s.0) h.leads) l in
    let at : part_name ty k ≡ Some name = subst (λ j. part_name ty j ≡ Some name) (sym s.1) (subst (λ t. part_name t h.last ≡ Some name) same h.named) in
    cc
named types id k path front ty (Some name) e l n = record { front = front; last = k; path_is = e; outer = ty; leads = l; named = sym n }

-- The name of a part, or an empty text.
pub name_or_empty : (types : List «Type») (id : ℕ) (path : List ℕ) (r : Option (Bor (List ℕ))) (d n : Bor (List ℕ)) → d.now ≡ [] → n ≡ unwrap_or r d
    → MatchOption r ((name : List ℕ) → HasNameOn types id path name → ⊥) (λ name. HasNameOn types id path name.now) → IsNameOn types id path n.now
name_or_empty types id path None d n e is h = inr (ap (λ (b : Bor (List ℕ)). b.now) is ∙ e, h)
name_or_empty types id path (Some name) d n e is h = inl (subst (λ (b : Bor (List ℕ)). HasNameOn types id path b.now) (sym is) h)
