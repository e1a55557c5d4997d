-- The tree of a SET determines those of its parts and of its unknown values.
use Rattle.std.proofs.Common.{◌≡◌, List, [], ◌∷◌, ◌++◌, Bool, true, false, refl, sym, ap, ap₂, ◌∙◌, subst}
use Rattle.rasn_types.specs.Order.{Each}
use Rattle.rasn_types.specs.Shapes.{Tree, items, IsSetTree, Same}
use Rattle.rasn_types.proofs.SetOf.Same.{items_one, same_each, each_same}

-- Lists that are related, one after another.
pub each_append : {X Y : Type 0} (R : X → Y → Type 0) (xs zs : List X) (ys ws : List Y) → Each R xs ys → Each R zs ws → Each R (xs ++ zs) (ys ++ ws)
each_append R [] zs ys ws h k = subst (λ l. Each R zs (l ++ ws)) (sym h) k
each_append R (x ∷ xs) zs ys ws (y, more, e, r, h) k = (y, more ++ ws, ap (λ l. l ++ ws) e, r, each_append R xs zs more ws h k)

-- Lists that are related, and end in one element each.
each_ends : {X Y : Type 0} (R : X → Y → Type 0) (xs : List X) (x : X) (ys : List Y) (y : Y) → Each R (xs ++ (x ∷ [])) (ys ++ (y ∷ [])) → Each R xs ys × R x y
each_ends R [] x [] y (z, more, e, r, h) = let f : z ≡ y = cc in (refl, subst (R x) f r)
each_ends {Y = Y} R [] x (w ∷ ys) y (z, more, e, r, h) = let f : ys ++ (y ∷ []) ≡ [] = cc in absurd (some ys f)
  where
    some : (ys : List Y) → ys ++ (y ∷ []) ≡ [] → ⊥
    some [] f = cc
    some (w ∷ ys) f = cc
each_ends {X} R (v ∷ xs) x [] y (z, more, e, r, h) = let f : more ≡ [] = cc in absurd (none xs (subst (Each R (xs ++ (x ∷ []))) f h))
  where
    none : (xs : List X) → Each R (xs ++ (x ∷ [])) [] → ⊥
    none [] (w, ws, f, s, k) = cc
    none (v ∷ xs) (w, ws, f, s, k) = cc
each_ends R (v ∷ xs) x (w ∷ ys) y (z, more, e, r, h) =
    let f : z ≡ w = cc in
    let g : more ≡ ys ++ (y ∷ []) = cc in
    let o = each_ends R xs x ys y (subst (Each R (xs ++ (x ∷ []))) g h) in
    ((w, ys, refl, subst (R v) f r, o.0), o.1)

same_lists : (t u : Tree) (ts us : List Tree) → t ≡ items ts → u ≡ items us → Same t u → Each Same ts us
same_lists t u ts us e f h = same_each ts us (subst (λ z. Same z (items us)) e (subst (Same t) f h))

pub same_set_tree : (extensible : Bool) (ts us ts' us' : List Tree) (t u : Tree) → IsSetTree extensible ts us t → IsSetTree extensible ts' us' u → Same t u → Each Same ts ts' × Each Same us us'
same_set_tree true ts us ts' us' t u e f same =
    let k = each_ends Same ts (items us) ts' (items us') (same_lists t u (ts ++ (items us ∷ [])) (ts' ++ (items us' ∷ [])) e f same) in
    (k.0, same_each us us' k.1)
same_set_tree false ts us ts' us' t u e f same = (same_lists t u ts ts' e.1 f.1 same, subst (λ l. Each Same l us') (sym e.0) f.0)

pub set_tree_same : (extensible : Bool) (ts us ts' us' : List Tree) (t : Tree) → IsSetTree extensible ts us t → Each Same ts ts' → Each Same us us' → (u : Tree) × IsSetTree extensible ts' us' u × Same t u
set_tree_same true ts us ts' us' t e h k = (
  items (ts' ++ (items us' ∷ [])),
  refl,
  subst (λ x. Same x (items (ts' ++ (items us' ∷ [])))) (sym e)
      (each_same (ts ++ (items us ∷ [])) (ts' ++ (items us' ∷ [])) (each_append Same ts (items us ∷ []) ts' (items us' ∷ []) h (items us', [], refl, each_same us us' k, refl))),
)
set_tree_same false ts us ts' us' t e h k = (items ts', (subst (λ l. Each Same l us') e.0 k, refl), subst (λ x. Same x (items ts')) (sym e.1) (each_same ts ts' h))

ends_one : {X : Type 0} (xs ys : List X) (x y : X) → xs ++ (x ∷ []) ≡ ys ++ (y ∷ []) → (xs ≡ ys) × (x ≡ y)
ends_one [] [] x y e = (refl, cc)
ends_one {X} [] (b ∷ ys) x y e = let f : ys ++ (y ∷ []) ≡ [] = cc in absurd (some ys f)
  where
    some : (ys : List X) → ys ++ (y ∷ []) ≡ [] → ⊥
    some [] f = cc
    some (w ∷ ys) f = cc
ends_one {X} (a ∷ xs) [] x y e = let f : xs ++ (x ∷ []) ≡ [] = cc in absurd (some xs f)
  where
    some : (xs : List X) → xs ++ (x ∷ []) ≡ [] → ⊥
    some [] f = cc
    some (w ∷ xs) f = cc
ends_one (a ∷ xs) (b ∷ ys) x y e =
    let p : a ≡ b = cc in
    let q : xs ++ (x ∷ []) ≡ ys ++ (y ∷ []) = cc in
    let r = ends_one xs ys x y q in
    (ap₂ ◌∷◌ p r.0, r.1)

pub set_tree_one : (extensible : Bool) (ts us ts' us' : List Tree) (t : Tree) → IsSetTree extensible ts us t → IsSetTree extensible ts' us' t → (ts ≡ ts') × (us ≡ us')
set_tree_one true ts us ts' us' t e f =
    let k = ends_one ts ts' (items us) (items us') (items_one (ts ++ (items us ∷ [])) (ts' ++ (items us' ∷ [])) (sym e ∙ f)) in
    (k.0, items_one us us' k.1)
set_tree_one false ts us ts' us' t e f = (items_one ts ts' (sym e.1 ∙ f.1), e.0 ∙ sym f.0)
