-- A stable sort makes the list that insertion, one element after the other from the last, makes.
use Rattle.std.proofs.Common.{◌≡◌, ◌+◌, ◌<◌, ◌≤◌, ℕ, zero, suc, Bool, true, false, not, ◌&&◌, if◌then◌else◌, true≢false, List, [], ◌∷◌, ◌++◌, length, take, get_or, refl, sym, ap, ◌∙◌, subst, arith}
use Rattle.std.specs.List.{filter}
use Rattle.rasn_types.specs.Bytes.{Each}
use Rattle.std.specs.List.Sorted.{IsSortedBy, IsStableBy, ties}
use Rattle.std.specs.Cmp.{IsStrictWeakOrder}
use Rattle.std.proofs.lemmas.List.Sorted.{sorted_far}

and_false : (b : Bool) → (b && false) ≡ false
and_false true = refl
and_false false = refl

module _ {X : Type 0} (lt : X → X → Bool) where
  -- The element is put before the first that isn't below it.
  abbrev pub inserted : X → List X → List X
  inserted x [] = x ∷ []
  inserted x (y ∷ ys) = if lt y x then y ∷ inserted x ys else x ∷ y ∷ ys

  abbrev pub by_insertion : List X → List X
  by_insertion [] = []
  by_insertion (x ∷ xs) = inserted x (by_insertion xs)

module _ {X : Type 0} (lt : X → X → Bool) (o : IsStrictWeakOrder lt) where
  -- ---- elements that tie

  itself : (x : X) → lt x x ≡ false
  itself x = go (lt x x) refl
    where
      go : (b : Bool) → lt x x ≡ b → lt x x ≡ false
      go true e = o.one_way x x e
      go false e = e

  ties_both : (x y : X) → lt x y ≡ false → lt y x ≡ false → ties lt x y ≡ true
  ties_both x y e f = ap (λ b. not b && not (lt y x)) e ∙ ap (λ b. not false && not b) f

  ties_before : (x y : X) → ties lt x y ≡ true → lt x y ≡ false
  ties_before x y e = go (lt x y) refl
    where
      go : (b : Bool) → lt x y ≡ b → lt x y ≡ false
      go true q = absurd (true≢false (sym e ∙ ap (λ b. not b && not (lt y x)) q))
      go false q = q

  ties_after : (x y : X) → ties lt x y ≡ true → lt y x ≡ false
  ties_after x y e = go (lt y x) refl
    where
      go : (b : Bool) → lt y x ≡ b → lt y x ≡ false
      go true q = absurd (true≢false (sym e ∙ (ap (λ b. not (lt x y) && not b) q ∙ and_false (not (lt x y)))))
      go false q = q

  -- ---- lists that ascend

  -- None of the elements is below x.
  abbrev AllFrom : X → List X → Type 0
  AllFrom x [] = Unit {0}
  AllFrom x (y ∷ ys) = (lt y x ≡ false) × AllFrom x ys

  abbrev Ascends : List X → Type 0
  Ascends [] = Unit {0}
  Ascends (x ∷ xs) = AllFrom x xs × Ascends xs

  all_from : (x : X) (ys : List X) → ((j : ℕ) → j < length ys → lt (get_or ys j x) x ≡ false) → AllFrom x ys
  all_from x [] h = tt
  all_from x (y ∷ ys) h = (h 0 (omega arith), all_from x ys (λ j l. h (suc j) (omega (arith, l))))

  ascends : (xs : List X) → ((i j : ℕ) (d : X) → i ≤ j → j < length xs → lt (get_or xs j d) (get_or xs i d) ≡ false) → Ascends xs
  ascends [] h = tt
  ascends (x ∷ xs) h = (all_from x xs (λ j l. h 0 (suc j) x (omega arith) (omega (arith, l))), ascends xs (λ i j d a l. h (suc i) (suc j) d (omega (arith, a)) (omega (arith, l))))

  -- ---- two lists that ascend, in which the elements that tie are the same in the same order

  head_from : (p : X → Bool) (x : X) (l : List X) (y : X) (r : List X) → AllFrom x l → filter p l ≡ y ∷ r → lt y x ≡ false
  head_from p x [] y r a e = cc
  head_from p x (z ∷ l) y r a e = go (head_from p x l y r a.1) (p z) refl
    where
      go : (filter p l ≡ y ∷ r → lt y x ≡ false) → (b : Bool) → p z ≡ b → lt y x ≡ false
      go further true q =
          let h : z ∷ filter p l ≡ y ∷ r = sym (ap (λ b. if b then z ∷ filter p l else filter p l) q) ∙ e in
          let w : z ≡ y = cc in
          subst (λ w. lt w x ≡ false) w a.0
      go further false q = further (sym (ap (λ b. if b then z ∷ filter p l else filter p l) q) ∙ e)

  filter_in : (p : X → Bool) (x : X) (l : List X) → p x ≡ true → filter p (x ∷ l) ≡ x ∷ filter p l
  filter_in p x l e = ap (λ b. if b then x ∷ filter p l else filter p l) e

  filter_out : (p : X → Bool) (x : X) (l : List X) → p x ≡ false → filter p (x ∷ l) ≡ filter p l
  filter_out p x l e = ap (λ b. if b then x ∷ filter p l else filter p l) e

  tails : (p : X → Bool) (x : X) (xs ys : List X) → filter p (x ∷ xs) ≡ filter p (x ∷ ys) → filter p xs ≡ filter p ys
  tails p x xs ys e = go (p x) refl
    where
      go : (b : Bool) → p x ≡ b → filter p xs ≡ filter p ys
      go true q =
          let h : x ∷ filter p xs ≡ x ∷ filter p ys = sym (filter_in p x xs q) ∙ (e ∙ filter_in p x ys q) in
          cc
      go false q = sym (filter_out p x xs q) ∙ (e ∙ filter_out p x ys q)

  ties_itself : (x : X) → ties lt x x ≡ true
  ties_itself x = ties_both x x (itself x) (itself x)

  same_ascending : (xs ys : List X) → Ascends xs → Ascends ys → ((x : X) → filter (ties lt x) xs ≡ filter (ties lt x) ys) → xs ≡ ys
  same_ascending [] [] a b s = refl
  same_ascending [] (y ∷ ys) a b s = let e = s y ∙ filter_in (ties lt y) y ys (ties_itself y) in cc
  same_ascending (x ∷ xs) [] a b s = let e = sym (s x) ∙ filter_in (ties lt x) x xs (ties_itself x) in cc
  same_ascending (x ∷ xs) (y ∷ ys) a b s =
      let below : lt y x ≡ false = head_from (ties lt y) x (x ∷ xs) y (filter (ties lt y) ys) (itself x, a.0) (s y ∙ filter_in (ties lt y) y ys (ties_itself y)) in
      let above : lt x y ≡ false = head_from (ties lt x) y (y ∷ ys) x (filter (ties lt x) xs) (itself y, b.0) (sym (s x) ∙ filter_in (ties lt x) x xs (ties_itself x)) in
      let h : x ∷ filter (ties lt x) xs ≡ y ∷ filter (ties lt x) ys = sym (filter_in (ties lt x) x xs (ties_itself x)) ∙ (s x ∙ filter_in (ties lt x) y ys (ties_both x y above below)) in
      let e : y ≡ x = cc in
      let t : xs ≡ ys = same_ascending xs ys a.1 b.1 (λ z. tails (ties lt z) x xs ys (subst (λ w. filter (ties lt z) (x ∷ xs) ≡ filter (ties lt z) (w ∷ ys)) e (s z))) in
      ap (λ w. w ∷ xs) (sym e) ∙ ap (λ l. y ∷ l) t

  -- ---- insertion

  inserted_after : (x y : X) (ys : List X) → lt y x ≡ true → inserted lt x (y ∷ ys) ≡ y ∷ inserted lt x ys
  inserted_after x y ys e = ap (λ b. if b then y ∷ inserted lt x ys else x ∷ y ∷ ys) e

  inserted_before : (x y : X) (ys : List X) → lt y x ≡ false → inserted lt x (y ∷ ys) ≡ x ∷ y ∷ ys
  inserted_before x y ys e = ap (λ b. if b then y ∷ inserted lt x ys else x ∷ y ∷ ys) e

  all_inserted : (z x : X) (ys : List X) → lt x z ≡ false → AllFrom z ys → AllFrom z (inserted lt x ys)
  all_inserted z x [] e a = (e, tt)
  all_inserted z x (y ∷ ys) e a = go (all_inserted z x ys e a.1) (lt y x) refl
    where
      go : AllFrom z (inserted lt x ys) → (b : Bool) → lt y x ≡ b → AllFrom z (inserted lt x (y ∷ ys))
      go more true q = subst (AllFrom z) (sym (inserted_after x y ys q)) (a.0, more)
      go more false q = subst (AllFrom z) (sym (inserted_before x y ys q)) (e, a)

  further : (x y : X) (ys : List X) → lt y x ≡ false → AllFrom y ys → AllFrom x ys
  further x y [] e a = tt
  further x y (z ∷ ys) e a = (o.chain z y x a.0 e, further x y ys e a.1)

  inserted_ascends : (x : X) (ys : List X) → Ascends ys → Ascends (inserted lt x ys)
  inserted_ascends x [] a = (tt, tt)
  inserted_ascends x (y ∷ ys) a = go (inserted_ascends x ys a.1) (lt y x) refl
    where
      go : Ascends (inserted lt x ys) → (b : Bool) → lt y x ≡ b → Ascends (inserted lt x (y ∷ ys))
      go more true q = subst Ascends (sym (inserted_after x y ys q)) (all_inserted y x ys (o.one_way y x q) a.0, more)
      go more false q = subst Ascends (sym (inserted_before x y ys q)) ((q, further x y ys q a.0), a)

  insertion_ascends : (xs : List X) → Ascends (by_insertion lt xs)
  insertion_ascends [] = tt
  insertion_ascends (x ∷ xs) = inserted_ascends x (by_insertion lt xs) (insertion_ascends xs)

  -- Two elements that don't tie are kept in whichever order.
  apart : (p : X → Bool) (x y : X) (l : List X) → (p x ≡ true → p y ≡ true → ⊥) → filter p (y ∷ x ∷ l) ≡ filter p (x ∷ y ∷ l)
  apart p x y l n = go (p x) refl
    where
      go : (b : Bool) → p x ≡ b → filter p (y ∷ x ∷ l) ≡ filter p (x ∷ y ∷ l)
      go false q =
          ap (λ z. if p y then y ∷ z else z) (filter_out p x l q) ∙ sym (filter_out p x (y ∷ l) q)
      go true q = on (p y) refl
        where
          on : (c : Bool) → p y ≡ c → filter p (y ∷ x ∷ l) ≡ filter p (x ∷ y ∷ l)
          on true r = absurd (n q r)
          on false r = filter_out p y (x ∷ l) r ∙ (filter_in p x l q ∙ (ap (λ z. x ∷ z) (sym (filter_out p y l r)) ∙ sym (filter_in p x (y ∷ l) q)))

  keeps : (p : X → Bool) (y : X) (l m : List X) → filter p l ≡ filter p m → filter p (y ∷ l) ≡ filter p (y ∷ m)
  keeps p y l m e = ap (λ z. if p y then y ∷ z else z) e

  inserted_stable : (z x : X) (ys : List X) → filter (ties lt z) (inserted lt x ys) ≡ filter (ties lt z) (x ∷ ys)
  inserted_stable z x [] = refl
  inserted_stable z x (y ∷ ys) = go (inserted_stable z x ys) (lt y x) refl
    where
      go : filter (ties lt z) (inserted lt x ys) ≡ filter (ties lt z) (x ∷ ys) → (b : Bool) → lt y x ≡ b → filter (ties lt z) (inserted lt x (y ∷ ys)) ≡ filter (ties lt z) (x ∷ y ∷ ys)
      go more true q =
          ap (filter (ties lt z)) (inserted_after x y ys q) ∙ (keeps (ties lt z) y (inserted lt x ys) (x ∷ ys) more
          ∙ apart (ties lt z) x y ys (λ e f. true≢false (sym q ∙ o.chain y z x (ties_after z y f) (ties_before z x e))))
      go more false q = ap (filter (ties lt z)) (inserted_before x y ys q)

  insertion_stable : (z : X) (xs : List X) → filter (ties lt z) (by_insertion lt xs) ≡ filter (ties lt z) xs
  insertion_stable z [] = refl
  insertion_stable z (x ∷ xs) = inserted_stable z x (by_insertion lt xs) ∙ keeps (ties lt z) x (by_insertion lt xs) xs (insertion_stable z xs)

  -- There is one list that a stable sort makes.
  pub sorted_is : (xs ys : List X) → IsSortedBy lt ys → IsStableBy lt xs ys → ys ≡ by_insertion lt xs
  sorted_is xs ys a s = same_ascending ys (by_insertion lt xs) (ascends ys (sorted_far lt o ys a)) (insertion_ascends xs) (λ z. s z ∙ sym (insertion_stable z xs))

-- ---- lists that are related one by one

module _ {X Y : Type 0} (R : X → Y → Type 0) where
  each_next : (ls : List X) (ys : List Y) (k : ℕ) (v : X) (y : Y) → k < length ls → v ≡ get_or ls k v → Each R (take k ls) ys → R v y → Each R (take (suc k) ls) (ys ++ y ∷ [])
  each_next [] ys k v y h e a r = absurd (omega (arith, h))
  each_next (l ∷ ls) ys zero v y h e a r = (y, [], ap (λ z. z ++ y ∷ []) a, subst (λ w. R w y) e r, refl)
  each_next (l ∷ ls) ys (suc k) v y h e a r = (a.0, a.1 ++ y ∷ [], ap (λ z. z ++ y ∷ []) a.2, a.3, each_next ls a.1 k v y (omega (arith, h)) e a.4 r)

  pub each_more : (ls : List X) (ys : List Y) (k : ℕ) (v : X) (y : Y) → k < length ls → v ≡ get_or ls k v → Each R (take k ls) ys → R v y → (more : List Y) → more ≡ ys ++ y ∷ [] → Each R (take (k + 1) ls) more
  each_more ls ys k v y h e a r more q = let i : suc k ≡ k + 1 = omega arith in subst (Each R (take (k + 1) ls)) (sym q) (subst (λ n. Each R (take n ls) (ys ++ y ∷ [])) i (each_next ls ys k v y h e a r))

  pub each_all : (ls : List X) (ys : List Y) (k : ℕ) → length ls ≤ k → Each R (take k ls) ys → Each R ls ys
  each_all [] ys zero h a = a
  each_all [] ys (suc k) h a = a
  each_all (l ∷ ls) ys zero h a = absurd (omega (arith, h))
  each_all (l ∷ ls) ys (suc k) h a = (a.0, a.1, a.2, a.3, each_all ls a.1 k (omega (arith, h)) a.4)

-- ---- the same test

filter_alike : {X : Type 0} (p q : X → Bool) → ((x : X) → p x ≡ q x) → (l : List X) → filter p l ≡ filter q l
filter_alike p q h [] = refl
filter_alike p q h (x ∷ l) = ap (λ b. if b then x ∷ filter p l else filter p l) (h x) ∙ ap (λ z. if q x then x ∷ z else z) (filter_alike p q h l)

module _ {X : Type 0} (lt below : X → X → Bool) (same : (x y : X) → lt x y ≡ below x y) where
  pub sorted_alike : (ys : List X) → IsSortedBy lt ys → IsSortedBy below ys
  sorted_alike ys h = λ k d a b. sym (same _ _) ∙ h k d a b

  pub stable_alike : (xs ys : List X) → IsStableBy lt xs ys → IsStableBy below xs ys
  stable_alike xs ys h = λ x.
      let t : (y : X) → ties lt x y ≡ ties below x y = λ y. ap (λ b. not b && not (lt y x)) (same x y) ∙ ap (λ b. not (below x y) && not b) (same y x) in
      sym (filter_alike (ties lt x) (ties below x) t ys) ∙ (h x ∙ filter_alike (ties lt x) (ties below x) t xs)
