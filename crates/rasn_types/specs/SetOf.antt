-- `==` of SET OF, which counts elements, decides whether the set elements are the same.
use Rattle.std.proofs.Common.{◌≡◌, ℕ, zero, suc, ◌+◌, ◌<◌, List, [], ◌∷◌, Bool, true, false, ◌&&◌, cond, map, refl, sym, ap, ◌∙◌, subst, arith, true≢false, IsPermutation, nat_eq}
use Rattle.std.specs.List.{count_by, list_all}
use Rattle.std.specs.Cmp.{IsEquivalence, equiv, first_so, second_so, unsigned_Decides}
use Rattle.std.specs.Cmp.Derive.{both_true, one_truth}
use Rattle.std.specs.Cmp.Lexicographic.{pointwise}
use Rattle.std.proofs.lemmas.List.Sorted.{IsPermutation-refl, IsPermutation-sym, IsPermutation-trans, IsPermutation-cons, IsPermutation-map, IsPermutation-middle, sum_by-IsPermutation, sum_by_pushed}
use Rattle.rasn_types.specs.Same.{items_one, each_moved}
use Rattle.rasn_types.specs.Shapes.{Tree, items, set_elements}
use Rattle.rasn_types.specs.Bytes.{Same, Each}
use Rattle.rasn_types.specs.Trees.{list_tree}
use Rattle.rasn_types.specs.Equality.{DecidesSame, EqDecidesSame, list_decided}

-- Each element of either list occurs equally often in both.
abbrev pub set_of_eq : {T : Type 0} → (T → T → Bool) → List T → List T → Bool
set_of_eq eq xs ys = list_all (λ z. nat_eq (count_by (eq z) xs) (count_by (eq z) ys)) xs && list_all (λ z. nat_eq (count_by (eq z) xs) (count_by (eq z) ys)) ys

module _ {T : Type 0} {eq : T → T → Bool} (o : IsEquivalence eq) where
  abbrev AsOften : List T → List T → Type 0
  AsOften xs ys = (z : T) → count_by (eq z) xs ≡ count_by (eq z) ys

  one_more : (z x : T) (xs : List T) → count_by (eq z) (x ∷ xs) ≡ cond (eq z x) 1 0 + count_by (eq z) xs
  one_more z x xs = sum_by_pushed (λ y. cond (eq z y) 1 0) x xs (x ∷ xs) (IsPermutation-refl (x ∷ xs))

  in_any_order : (z : T) (xs ys : List T) → IsPermutation xs ys → count_by (eq z) xs ≡ count_by (eq z) ys
  in_any_order z xs ys p = sym (sum_by-IsPermutation (λ y. cond (eq z y) 1 0) xs ys p)

  swapped : (x y z : T) → eq x y ≡ true → eq z x ≡ eq z y
  swapped x y z e = o.symm z x ∙ (o.congr x y z e ∙ o.symm y z)

  counts_one : (x y : T) → eq x y ≡ true → (l : List T) → count_by (eq x) l ≡ count_by (eq y) l
  counts_one x y e [] = refl
  counts_one x y e (z ∷ l) = one_more x z l ∙ (ap (λ b. cond b 1 0 + count_by (eq x) l) (o.congr x y z e) ∙ (ap (λ n. cond (eq y z) 1 0 + n) (counts_one x y e l) ∙ sym (one_more y z l)))

  -- Equal lists have equal counts.
  counts_alike : (xs ys : List T) → pointwise eq xs ys ≡ true → AsOften xs ys
  counts_alike [] [] e z = refl
  counts_alike [] (y ∷ ys) e z = absurd (true≢false (sym e))
  counts_alike (x ∷ xs) [] e z = absurd (true≢false (sym e))
  counts_alike (x ∷ xs) (y ∷ ys) e z =
      one_more z x xs ∙ (ap (λ b. cond b 1 0 + count_by (eq z) xs) (swapped x y z (first_so (eq x y) (pointwise eq xs ys) e))
      ∙ (ap (λ n. cond (eq z y) 1 0 + n) (counts_alike xs ys (second_so (eq x y) (pointwise eq xs ys) e) z) ∙ sym (one_more z y ys)))

  -- A counted element is removed from the list.
  record Taken (z : T) (l : List T) : Type 0 where
    y : T
    rest : List T
    equal : eq z y ≡ true
    order : IsPermutation (y ∷ rest) l

  taken : (z : T) (l : List T) → 0 < count_by (eq z) l → Taken z l
  taken z [] h = absurd (omega (arith, h))
  taken z (x ∷ l) h = at (eq z x) refl (subst (λ n. 0 < n) (one_more z x l) h) (λ k. taken z l k)
    where
      at : (b : Bool) → eq z x ≡ b → 0 < cond (eq z x) 1 0 + count_by (eq z) l → (0 < count_by (eq z) l → Taken z l) → Taken z (x ∷ l)
      at true e k more = record { y = x; rest = l; equal = e; order = IsPermutation-refl (x ∷ l) }
      at false e k more =
          let k2 : 0 < cond false 1 0 + count_by (eq z) l = subst (λ b. 0 < cond b 1 0 + count_by (eq z) l) e k in
          let t = more (omega (arith, k2)) in
          record {
            y = t.y;
            rest = x ∷ t.rest;
            equal = t.equal;
            order = IsPermutation-trans _ _ _ (turned t.y x t.rest) (IsPermutation-cons x _ _ t.order);
          }
        where
          turned : (a b : T) (m : List T) → IsPermutation (a ∷ b ∷ m) (b ∷ a ∷ m)
          turned a b m = IsPermutation-middle (a ∷ []) b m

  matched : (xs ys : List T) → AsOften xs ys → (ws : List T) × (pointwise eq xs ws ≡ true) × IsPermutation ws ys
  matched [] [] h = ([], refl, IsPermutation-refl [])
  matched [] (y ∷ ys) h =
      let k : 0 ≡ cond (eq y y) 1 0 + count_by (eq y) ys = h y ∙ one_more y y ys in
      let l : 0 ≡ cond true 1 0 + count_by (eq y) ys = k ∙ ap (λ b. cond b 1 0 + count_by (eq y) ys) (o.refl y) in
      absurd (omega (arith, l))
  matched (x ∷ xs) ys h = go (λ zs k. matched xs zs k)
    where
      first : count_by (eq x) ys ≡ cond true 1 0 + count_by (eq x) xs
      first = sym (h x) ∙ (one_more x x xs ∙ ap (λ b. cond b 1 0 + count_by (eq x) xs) (o.refl x))

      t : Taken x ys
      t = taken x ys (omega (arith, first))

      fewer : AsOften xs t.rest
      fewer z =
          let a : cond (eq z x) 1 0 + count_by (eq z) xs ≡ cond (eq z t.y) 1 0 + count_by (eq z) t.rest
          = sym (one_more z x xs) ∙ (h z ∙ (sym (in_any_order z (t.y ∷ t.rest) ys t.order) ∙ one_more z t.y t.rest)) in
          let b : cond (eq z x) 1 0 + count_by (eq z) t.rest ≡ cond (eq z t.y) 1 0 + count_by (eq z) t.rest = ap (λ b. cond b 1 0 + count_by (eq z) t.rest) (swapped x t.y z t.equal) in
          omega (arith, a, b)

      go : ((zs : List T) → AsOften xs zs → (ws : List T) × (pointwise eq xs ws ≡ true) × IsPermutation ws zs)
          → (ws : List T) × (pointwise eq (x ∷ xs) ws ≡ true) × IsPermutation ws ys
      go f =
          let r = f t.rest fewer in
          (t.y ∷ r.0, both_true t.equal r.1, IsPermutation-trans (t.y ∷ r.0) (t.y ∷ t.rest) ys (IsPermutation-cons t.y r.0 t.rest r.2) t.order)

  -- The flag of lists with equal counts is true.
  all_true : (p : T → Bool) → ((z : T) → p z ≡ true) → (l : List T) → list_all p l ≡ true
  all_true p h [] = refl
  all_true p h (x ∷ l) = both_true (h x) (all_true p h l)

  often_flag : (xs ys : List T) → AsOften xs ys → set_of_eq eq xs ys ≡ true
  often_flag xs ys h =
      let p : T → Bool = λ z. nat_eq (count_by (eq z) xs) (count_by (eq z) ys) in
      let q : (z : T) → p z ≡ true = λ z. (unsigned_Decides (count_by (eq z) xs) (count_by (eq z) ys)).1 (h z) in
      both_true (all_true p q xs) (all_true p q ys)

  -- An element that is counted in a list equals one for which `p` is true, if `p` is true for all of the list.
  found : (p : T → Bool) (z : T) (l : List T) → list_all p l ≡ true → 0 < count_by (eq z) l → (y : T) × (eq z y ≡ true) × (p y ≡ true)
  found p z [] a h = absurd (omega (arith, h))
  found p z (x ∷ l) a h = at (eq z x) refl (subst (λ n. 0 < n) (one_more z x l) h) (λ k. found p z l (second_so (p x) (list_all p l) a) k)
    where
      at : (b : Bool) → eq z x ≡ b → 0 < cond (eq z x) 1 0 + count_by (eq z) l → (0 < count_by (eq z) l → (y : T) × (eq z y ≡ true) × (p y ≡ true)) → (y : T) × (eq z y ≡ true) × (p y ≡ true)
      at true e k more = (x, e, first_so (p x) (list_all p l) a)
      at false e k more = let k2 : 0 < cond false 1 0 + count_by (eq z) l = subst (λ b. 0 < cond b 1 0 + count_by (eq z) l) e k in more (omega (arith, k2))

  either_way : (m n : ℕ) → (0 < m → m ≡ n) → (0 < n → m ≡ n) → m ≡ n
  either_way zero zero f g = refl
  either_way zero (suc n) f g = g (omega arith)
  either_way (suc m) n f g = f (omega arith)

  flag_often : (xs ys : List T) → set_of_eq eq xs ys ≡ true → AsOften xs ys
  flag_often xs ys e z = either_way (count_by (eq z) xs) (count_by (eq z) ys)
      (λ k. via (found p z xs (first_so (list_all p xs) (list_all p ys) e) k))
      (λ k. via (found p z ys (second_so (list_all p xs) (list_all p ys) e) k))
    where
      p : T → Bool
      p y = nat_eq (count_by (eq y) xs) (count_by (eq y) ys)

      via : (y : T) × (eq z y ≡ true) × (nat_eq (count_by (eq y) xs) (count_by (eq y) ys) ≡ true) → count_by (eq z) xs ≡ count_by (eq z) ys
      via (y, f, g) = counts_one z y f xs ∙ ((unsigned_Decides (count_by (eq y) xs) (count_by (eq y) ys)).0 g ∙ sym (counts_one z y f ys))

  pub set_of_equiv : IsEquivalence (set_of_eq eq)
  set_of_equiv = equiv (record {
    symm = λ xs ys. one_truth (set_of_eq eq xs ys) (set_of_eq eq ys xs) (λ e. often_flag ys xs (λ z. sym (flag_often xs ys e z))) (λ e. often_flag xs ys (λ z. sym (flag_often ys xs e z)));
    trans = λ xs ys zs d e. often_flag xs zs (λ z. flag_often xs ys d z ∙ flag_often ys zs e z);
  }) (λ xs. often_flag xs xs (λ z. refl))

  module _ {tree : T → Tree} (decided : EqDecidesSame eq tree) where
    as_list : (l : List T) → Each (λ t y. t ≡ tree y) (map tree l) l
    as_list [] = refl
    as_list (y ∷ l) = (y, l, refl, refl, as_list l)

    trees_of : (ts : List Tree) (l : List T) → Each (λ t y. t ≡ tree y) ts l → ts ≡ map tree l
    trees_of [] l h = sym (ap (map tree) h)
    trees_of (t ∷ ts) l (y, m, e, f, h) = (λ i. f i ∷ trees_of ts m h i) ∙ sym (ap (map tree) e)

    pub set_of_told : (xs ys : List T) → DecidesSame (set_of_eq eq xs ys) (set_elements (list_tree tree xs)) (set_elements (list_tree tree ys))
    set_of_told xs ys = record { same = to; equal = from }
      where
        to : set_of_eq eq xs ys ≡ true → Same (set_elements (list_tree tree xs)) (set_elements (list_tree tree ys))
        to e =
            let m = matched xs ys (flag_often xs ys e) in
            (map tree m.0, map tree ys, refl, IsPermutation-map tree m.0 ys m.2, (list_decided decided xs m.0).same m.1)

        from : Same (set_elements (list_tree tree xs)) (set_elements (list_tree tree ys)) → set_of_eq eq xs ys ≡ true
        from (vs, ws, e, p, h) =
            let f : items (map tree ys) ≡ items ws = cc in
            let g : map tree ys ≡ ws = items_one (map tree ys) ws f in
            let q : IsPermutation (map tree ys) vs = subst (λ l. IsPermutation l vs) (sym g) (IsPermutation-sym vs ws p) in
            let m = each_moved (λ t y. t ≡ tree y) (map tree ys) ys vs (as_list ys) q in
            let k : Same (list_tree tree xs) (list_tree tree m.0) = subst (λ l. Same (list_tree tree xs) (items l)) (trees_of vs m.0 m.1) h in
            often_flag xs ys (λ z. counts_alike xs m.0 ((list_decided decided xs m.0).equal k) z ∙ sym (in_any_order z ys m.0 m.2))
