-- `Same` is an equivalence, and lists that are related element by element stay so in another order.
use Rattle.std.proofs.Common.{◌≡◌, ℕ, suc, ◌<◌, List, [], ◌∷◌, length, map, swap, set, get_or, refl, sym, ap, ◌∙◌, subst, IsPermutation}
use Rattle.std.proofs.lemmas.List.Sorted.{IsPermutation-refl, IsPermutation-sym, IsPermutation-trans, IsPermutation-keeps, IsPermutation-swap}
use Rattle.std.proofs.lemmas.List.{map-set}
use Rattle.std.proofs.Math.ListN.{get_or-map}
use Rattle.rasn_types.specs.Shapes.{Tree, number, bits, numbers, instant, on_day, items, joined, done, set_elements, chosen, absent}
use Rattle.rasn_types.specs.Bytes.{Same, Each}

pub items_one : (ts us : List Tree) → items ts ≡ items us → ts ≡ us
items_one [] [] e = refl
items_one [] (u ∷ us) e = cc
items_one (t ∷ ts) [] e = cc
items_one (t ∷ ts) (u ∷ us) e = let f = items_one ts us cc in let g : t ≡ u = cc in cc

pub each_same : (ts us : List Tree) → Each Same ts us → Same (items ts) (items us)
each_same [] us h = ap items h
each_same (t ∷ ts) us (v, vs, e, s, h) = (v, items vs, ap items e, s, each_same ts vs h)

pub each_length : {X Y : Type 0} (R : X → Y → Type 0) (xs : List X) (ys : List Y) → Each R xs ys → length ys ≡ length xs
each_length R [] ys h = ap length h
each_length R (x ∷ xs) ys (y, vs, e, r, h) = ap length e ∙ ap suc (each_length R xs vs h)

map-swap : {X Y : Type 0} (f : X → Y) (xs : List X) (i j : ℕ) → map f (swap xs i j) ≡ swap (map f xs) i j
map-swap f [] i j = refl
map-swap f (d ∷ ys) i j = map-set f (set (d ∷ ys) i (get_or (d ∷ ys) j d)) j (get_or (d ∷ ys) i d)
    ∙ (λ k. set ((map-set f (d ∷ ys) i (get_or (d ∷ ys) j d) ∙ ap (set (map f (d ∷ ys)) i) (sym (get_or-map f (d ∷ ys) j d))) k) j (sym (get_or-map f (d ∷ ys) i d) k))

pub record Pair (X Y : Type 0) (R : X → Y → Type 0) : Type 0 where
  pub one : X
  pub other : Y
  pub alike : R one other

paired : {X Y : Type 0} (R : X → Y → Type 0) (xs : List X) (ys : List Y) → Each R xs ys → (ps : List (Pair X Y R)) × (map (λ p. p.one) ps ≡ xs) × (map (λ p. p.other) ps ≡ ys)
paired R [] ys h = ([], refl, sym h)
paired R (x ∷ xs) ys (y, vs, e, r, h) =
    let p = paired R xs vs h in
    (record { one = x; other = y; alike = r } ∷ p.0, ap (λ l. x ∷ l) p.1, ap (λ l. y ∷ l) p.2 ∙ sym e)

unpaired : {X Y : Type 0} (R : X → Y → Type 0) (ps : List (Pair X Y R)) → Each R (map (λ p. p.one) ps) (map (λ p. p.other) ps)
unpaired R [] = refl
unpaired R (p ∷ ps) = (p.other, map (λ p. p.other) ps, refl, p.alike, unpaired R ps)

-- If one list is reordered, the other can be reordered accordingly.
pub each_moved : {X Y : Type 0} (R : X → Y → Type 0) (xs : List X) (ys : List Y) (zs : List X) → Each R xs ys → IsPermutation xs zs
    → (ws : List Y) × Each R zs ws × IsPermutation ys ws
each_moved {X} {Y} R xs ys zs h p = IsPermutation-keeps xs (λ l. (ws : List Y) × Each R l ws × IsPermutation ys ws) (ys, h, IsPermutation-refl ys) step zs p
  where
    step : (l : List X) (i j : ℕ) → i < length l → j < length l → (ws : List Y) × Each R l ws × IsPermutation ys ws
        → (ws : List Y) × Each R (swap l i j) ws × IsPermutation ys ws
    step l i j hi hj (ws, a, q) =
        let ps = paired R l ws a in
        let n : length ws ≡ length l = each_length R l ws a in
        let u = unpaired R (swap ps.0 i j) in
        let e : map (λ p. p.one) (swap ps.0 i j) ≡ swap l i j = map-swap (λ p. p.one) ps.0 i j ∙ ap (λ l. swap l i j) ps.1 in
        let f : map (λ p. p.other) (swap ps.0 i j) ≡ swap ws i j = map-swap (λ p. p.other) ps.0 i j ∙ ap (λ l. swap l i j) ps.2 in (
          swap ws i j,
          subst (λ z. Each R z (swap ws i j)) e (subst (λ z. Each R (map (λ p. p.one) (swap ps.0 i j)) z) f u),
          IsPermutation-trans ys ws (swap ws i j) q (IsPermutation-swap ws (swap ws i j) i j (subst (λ z. i < z) (sym n) hi) (subst (λ z. j < z) (sym n) hj) refl),
        )

-- A tree that is the same as a list of trees is itself such a list.
pub same_items : (ts : Tree) (vs : List Tree) → Same ts (items vs) → (us : List Tree) × (ts ≡ items us) × Each Same us vs
same_items (number z) [] h = cc
same_items (number z) (v ∷ vs) h = cc
same_items (bits b) [] h = cc
same_items (bits b) (v ∷ vs) h = cc
same_items (numbers n) [] h = cc
same_items (numbers n) (v ∷ vs) h = cc
same_items (instant m) [] h = cc
same_items (instant m) (v ∷ vs) h = cc
same_items (on_day d) [] h = cc
same_items (on_day d) (v ∷ vs) h = cc
same_items done [] h = ([], refl, refl)
same_items done (v ∷ vs) h = cc
same_items (joined t ts) [] h = let e = h.2 in cc
same_items (joined t ts) (v ∷ vs) (w, ws, e, s, h) =
    let p : w ≡ v = cc in
    let q : ws ≡ items vs = cc in
    let r = same_items ts vs (subst (Same ts) q h) in
    (t ∷ r.0, ap (joined t) r.1, (v, vs, refl, subst (Same t) p s, r.2))
same_items (set_elements ts) [] h = let e = h.2 in cc
same_items (set_elements ts) (v ∷ vs) h = let e = h.2 in cc
same_items (chosen k t) [] h = let e = h.1 in cc
same_items (chosen k t) (v ∷ vs) h = let e = h.1 in cc
same_items absent [] h = cc
same_items absent (v ∷ vs) h = cc

pub same_each : (us vs : List Tree) → Same (items us) (items vs) → Each Same us vs
same_each us vs h = let r = same_items (items us) vs h in subst (λ l. Each Same l vs) (sym (items_one us r.0 r.1)) r.2

pub same_sym : (t u : Tree) → Same t u → Same u t
same_sym (number z) u h = subst (λ x. Same x (number z)) (sym h) refl
same_sym (bits b) u h = subst (λ x. Same x (bits b)) (sym h) refl
same_sym (numbers n) u h = subst (λ x. Same x (numbers n)) (sym h) refl
same_sym (instant m) u h = subst (λ x. Same x (instant m)) (sym h) refl
same_sym (on_day d) u h = subst (λ x. Same x (on_day d)) (sym h) refl
same_sym done u h = subst (λ x. Same x done) (sym h) refl
same_sym absent u h = subst (λ x. Same x absent) (sym h) refl
same_sym (joined t ts) u (v, vs, e, s, h) = subst (λ x. Same x (joined t ts)) (sym e) (t, ts, refl, same_sym t v s, same_sym ts vs h)
same_sym (chosen k t) u (v, e, s) = subst (λ x. Same x (chosen k t)) (sym e) (t, refl, same_sym t v s)
same_sym (set_elements ts) u (vs, ws, e, p, h) =
    let r = same_items ts vs h in
    let back : Same (items vs) (items r.0) = subst (Same (items vs)) r.1 (same_sym ts (items vs) h) in
    let m = each_moved Same vs r.0 ws (same_each vs r.0 back) p in
    subst (λ x. Same x (set_elements ts)) (sym e)
    (m.0, r.0, ap set_elements r.1, IsPermutation-sym r.0 m.0 m.2, each_same ws m.0 m.1)

pub same_trans : (t u v : Tree) → Same t u → Same u v → Same t v
same_trans (number z) u v h k = subst (λ x. Same x v) h k
same_trans (bits b) u v h k = subst (λ x. Same x v) h k
same_trans (numbers n) u v h k = subst (λ x. Same x v) h k
same_trans (instant m) u v h k = subst (λ x. Same x v) h k
same_trans (on_day d) u v h k = subst (λ x. Same x v) h k
same_trans done u v h k = subst (λ x. Same x v) h k
same_trans absent u v h k = subst (λ x. Same x v) h k
same_trans (joined t ts) u v (w, ws, e, s, h) k = go (λ x. same_trans t w x s) (λ x. same_trans ts ws x h) (subst (λ x. Same x v) e k)
  where
    go : ((x : Tree) → Same w x → Same t x) → ((x : Tree) → Same ws x → Same ts x) → Same (joined w ws) v → Same (joined t ts) v
    go f g (x, xs, e, r, l) = (x, xs, e, f x r, g xs l)
same_trans (chosen k t) u v (w, e, s) l = go (λ x. same_trans t w x s) (subst (λ x. Same x v) e l)
  where
    go : ((x : Tree) → Same w x → Same t x) → Same (chosen k w) v → Same (chosen k t) v
    go g (x, f, r) = (x, f, g x r)
same_trans (set_elements ts) u v (vs, ws, e, p, h) k = go (λ x. same_trans ts (items vs) x h) (subst (λ x. Same x v) e k)
  where
    go : ((x : Tree) → Same (items vs) x → Same ts x) → Same (set_elements (items ws)) v → Same (set_elements ts) v
    go g (vs2, ws2, f, q, l) =
        let m = each_moved Same ws vs2 vs (same_each ws vs2 l) (IsPermutation-sym vs ws p) in
        (m.0, ws2, f, IsPermutation-trans m.0 vs2 ws2 (IsPermutation-sym vs2 m.0 m.2) q, g (items m.0) (each_same vs m.0 m.1))
