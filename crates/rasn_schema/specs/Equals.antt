-- The function decides whether trees are the same, and is an equivalence of values.
use Rattle.std.proofs.Common.{◌≡◌, ℕ, zero, suc, ◌+◌, ◌<◌, List, [], ◌∷◌, Bool, true, false, ◌&&◌, cond, Option, Some, None, map, length, refl, sym, ap, ◌∙◌, subst, arith, true≢false, IsPermutation, nat_eq}
use Rattle.std.specs.List.{count_by}
use Rattle.std.specs.Prelude.{slice_get}
use Rattle.std.proofs.lemmas.List.{length-map}
use Rattle.rasn_types.specs.Trees.{list_tree}
use Rattle.std.specs.Cmp.{IsEquivalence, equiv, first_so, second_so, unsigned_Decides}
use Rattle.std.specs.Cmp.Derive.{both_true, one_truth}
use Rattle.std.proofs.lemmas.List.Sorted.{IsPermutation-refl, IsPermutation-trans, IsPermutation-cons, IsPermutation-middle, sum_by-IsPermutation, sum_by_pushed, length_permutation}
use Rattle.rasn_types.specs.Shapes.{Tree, number, bits, numbers, instant, on_day, done, joined, set_elements, chosen, absent, items}
use Rattle.rasn_types.specs.Bytes.{Same, Each}
use Rattle.rasn_types.specs.Same.{same_items, same_sym, same_trans, each_length, same_each, items_one}
use Rattle.rasn_types.specs.Equality.{DecidesSame, EqDecidesSame, signed_decided, bits_decided, octets_decided, instant_decided, day_decided, no_parts, part}
use Rattle.rasn_schema.specs.declared.value.Value.{Value, Boolean, Null, Integer, Bits, Octets, Text, Units, Arcs, Instant, Day, Absent, Items', Elements', Chosen', Row_of-Value, end_of-Value, more_of-Value}
use Rattle.rasn_schema.specs.Trees.{tree_of, trees_in}
use Rattle.rasn_schema.specs.Kinds.{kind}
use Rattle.rasn_schema.specs.Equal.{without, taken_by, passes, is_done, tree_eq, elements_eq, value_eq}

-- ---- counting

one_more : (q : Tree → Bool) (x : Tree) (xs : List Tree) → count_by q (x ∷ xs) ≡ cond (q x) 1 0 + count_by q xs
one_more q x xs = sum_by_pushed (λ y. cond (q y) 1 0) x xs (x ∷ xs) (IsPermutation-refl (x ∷ xs))

in_any_order : (q : Tree → Bool) (xs ys : List Tree) → IsPermutation xs ys → count_by q xs ≡ count_by q ys
in_any_order q xs ys p = sym (sum_by-IsPermutation (λ y. cond (q y) 1 0) xs ys p)

-- A test that trees pass together if they are the same.
abbrev Respects : (Tree → Bool) → Type 0
Respects q = (x y : Tree) → Same x y → q x ≡ q y

abbrev CountedAlike : List Tree → List Tree → Type 0
CountedAlike l m = (q : Tree → Bool) → Respects q → count_by q l ≡ count_by q m

counted : (l vs : List Tree) → Each Same l vs → CountedAlike l vs
counted [] vs e q r = ap (count_by q) (sym e)
counted (x ∷ l) vs (v, ws, e, s, h) q r =
    one_more q x l ∙ (ap (λ b. cond b 1 0 + count_by q l) (r x v s) ∙ (ap (λ n. cond (q v) 1 0 + n) (counted l ws h q r) ∙ (sym (one_more q v ws) ∙ ap (count_by q) (sym e))))

-- ---- taking an element out

-- What is left, with the element, is the list in another order.
record Taken (p : Tree → Bool) (us rest : Tree) : Type 0 where
  u : Tree
  passed : p u ≡ true
  order : (m : List Tree) → rest ≡ items m → (l : List Tree) × (us ≡ items l) × IsPermutation (u ∷ m) l

nothing_taken : (p : Tree → Bool) (us r : Tree) → None ≡ Some r → Taken p us r
nothing_taken p us r e = absurd cc

taken_is : (p : Tree → Bool) (us r : Tree) → taken_by p us ≡ Some r → Taken p us r
taken_is p (joined u us) r e = go (p u) refl (taken_by p us) refl e (λ s f. taken_is p us s f)
  where
    go : (b : Bool) → p u ≡ b → (o : Option Tree) → taken_by p us ≡ o → without b u us o ≡ Some r → ((s : Tree) → taken_by p us ≡ Some s → Taken p us s) → Taken p (joined u us) r
    go true h o k f more = record { u = u; passed = h; order = λ m g. (u ∷ m, (let i : us ≡ r = cc in ap (joined u) (i ∙ g)), IsPermutation-refl (u ∷ m)) }
    go false h None k f more = nothing_taken p (joined u us) r f
    go false h (Some s) k f more = let t = more s k in record { u = t.u; passed = t.passed; order = after t (let i : joined u s ≡ r = cc in i) }
      where
        after : (t : Taken p us s) → joined u s ≡ r → (m : List Tree) → r ≡ items m → (l : List Tree) × (joined u us ≡ items l) × IsPermutation (t.u ∷ m) l
        after t i [] g = absurd cc
        after t i (x ∷ m) g =
            let j : u ≡ x = cc in
            let n = t.order m cc in
            (x ∷ n.0, (λ a. joined (j a) (n.1 a)), IsPermutation-trans _ _ _ (IsPermutation-middle (t.u ∷ []) x m) (IsPermutation-cons x _ _ n.2))
taken_is test (number z) r e = nothing_taken test (number z) r e
taken_is test (bits p) r e = nothing_taken test (bits p) r e
taken_is test (numbers x) r e = nothing_taken test (numbers x) r e
taken_is test (instant i) r e = nothing_taken test (instant i) r e
taken_is test (on_day g) r e = nothing_taken test (on_day g) r e
taken_is test done r e = nothing_taken test done r e
taken_is test (set_elements ts) r e = nothing_taken test (set_elements ts) r e
taken_is test (chosen k t) r e = nothing_taken test (chosen k t) r e
taken_is test absent r e = nothing_taken test absent r e

-- An element is found where some pass.
record Found (p : Tree → Bool) (l : List Tree) : Type 0 where
  u : Tree
  m : List Tree
  is : taken_by p (items l) ≡ Some (items m)
  passed : p u ≡ true
  order : IsPermutation (u ∷ m) l

taken_found : (p : Tree → Bool) (l : List Tree) → 0 < count_by p l → Found p l
taken_found p [] h = absurd (omega (arith, h))
taken_found p (x ∷ l) h = go (p x) refl (subst (λ n. 0 < n) (one_more p x l) h) (λ k. taken_found p l k)
  where
    go : (b : Bool) → p x ≡ b → 0 < cond (p x) 1 0 + count_by p l → (0 < count_by p l → Found p l) → Found p (x ∷ l)
    go true e k more = record { u = x; m = l; is = ap (λ b. without b x (items l) (taken_by p (items l))) e; passed = e; order = IsPermutation-refl (x ∷ l) }
    go false e k more =
        let k2 : 0 < cond false 1 0 + count_by p l = subst (λ b. 0 < cond b 1 0 + count_by p l) e k in
        let t = more (omega (arith, k2)) in
        record {
          u = t.u;
          m = x ∷ t.m;
          is = ap (λ b. without b x (items l) (taken_by p (items l))) e ∙ ap (without false x (items l)) t.is;
          passed = t.passed;
          order = IsPermutation-trans _ _ _ (IsPermutation-middle (t.u ∷ []) x t.m) (IsPermutation-cons x _ _ t.order);
        }

-- ---- set elements

abbrev Told : Tree → Type 0
Told t = (u : Tree) → DecidesSame (tree_eq t u) t u

-- each element of a list
abbrev AllTold : Tree → Type 0
AllTold (joined t ts) = Told t × AllTold ts
AllTold _ = Unit {0}

abbrev SelfSame : List Tree → Type 0
SelfSame [] = Unit {0}
SelfSame (t ∷ l) = Same t t × SelfSame l

self_same : (l vs : List Tree) → Each Same l vs → SelfSame l
self_same [] vs h = tt
self_same (t ∷ l) vs (v, ws, e, s, h) = (same_trans t v t s (same_sym t v s), self_same l ws h)

respects : (t : Tree) → Told t → Respects (tree_eq t)
respects t k x y s = one_truth (tree_eq t x) (tree_eq t y)
    (λ e. (k y).equal (same_trans t x y ((k x).same e) s))
    (λ e. (k x).equal (same_trans t y x ((k y).same e) (same_sym x y s)))

none_left : (m : List Tree) → 0 ≡ length m → m ≡ []
none_left [] h = refl
none_left (x ∷ m) h = absurd (omega (arith, h))

-- Each of these is in both lists as often.
abbrev pub AreAsOften : List Tree → List Tree → List Tree → Type 0
AreAsOften [] l m = Unit {0}
AreAsOften (z ∷ zs) l m = (count_by (tree_eq z) l ≡ count_by (tree_eq z) m) × AreAsOften zs l m

as_often : (zs l m : List Tree) → AllTold (items zs) → CountedAlike l m → AreAsOften zs l m
as_often [] l m a c = tt
as_often (z ∷ zs) l m a c = (c (tree_eq z) (respects z a.0), as_often zs l m a.1 c)

-- the same without an element of each
fewer : (t u : Tree) → Same t u → (l m n : List Tree) → IsPermutation (u ∷ m) n → (zs : List Tree) → AllTold (items zs) → AreAsOften zs (t ∷ l) n → AreAsOften zs l m
fewer t u s l m n p [] a c = tt
fewer t u s l m n p (z ∷ zs) a c =
    let q = tree_eq z in
    let h : cond (q t) 1 0 + count_by q l ≡ cond (q u) 1 0 + count_by q m
    = sym (one_more q t l) ∙ (c.0 ∙ (sym (in_any_order q (u ∷ m) n p) ∙ one_more q u m)) in
    let k : cond (q t) 1 0 + count_by q l ≡ cond (q t) 1 0 + count_by q m = h ∙ ap (λ b. cond b 1 0 + count_by q m) (sym (respects z a.0 t u s)) in
    (omega (arith, k), fewer t u s l m n p zs a.1 c.1)

elements_full : (l m : List Tree) → AllTold (items l) → SelfSame l → length l ≡ length m → AreAsOften l l m → elements_eq (items l) (items m) ≡ true
elements_full [] m a s n c = subst (λ k. is_done (items k) ≡ true) (sym (none_left m n)) refl
elements_full (t ∷ l) m a s n c =
    let first : count_by (tree_eq t) m ≡ cond true 1 0 + count_by (tree_eq t) l
    = sym c.0 ∙ (one_more (tree_eq t) t l ∙ ap (λ b. cond b 1 0 + count_by (tree_eq t) l) ((a.0 t).equal s.0)) in
    go (taken_found (tree_eq t) m (omega (arith, first))) (λ k h e. elements_full l k a.1 s.1 h e)
  where
    go : Found (tree_eq t) m → ((k : List Tree) → length l ≡ length k → AreAsOften l l k → elements_eq (items l) (items k) ≡ true) → elements_eq (items (t ∷ l)) (items m) ≡ true
    go f more =
        let h = length_permutation (f.u ∷ f.m) m f.order in
        ap (passes (elements_eq (items l))) f.is ∙ more f.m (omega (arith, h, n)) (fewer t f.u ((a.0 f.u).same f.passed) l f.m m f.order l a.1 c.1)

abbrev Alike : Tree → Tree → Type 0
Alike ts us = (vs : List Tree) × (ws : List Tree) × (us ≡ items ws) × IsPermutation vs ws × Same ts (items vs)

done_is : (us : Tree) → is_done us ≡ true → us ≡ done
done_is (number z) e = absurd (true≢false (sym e))
done_is (bits p) e = absurd (true≢false (sym e))
done_is (numbers x) e = absurd (true≢false (sym e))
done_is (instant i) e = absurd (true≢false (sym e))
done_is (on_day g) e = absurd (true≢false (sym e))
done_is done e = refl
done_is (joined t ts) e = absurd (true≢false (sym e))
done_is (set_elements ts) e = absurd (true≢false (sym e))
done_is (chosen k t) e = absurd (true≢false (sym e))
done_is absent e = absurd (true≢false (sym e))

elements_alike : (ts us : Tree) → AllTold ts → elements_eq ts us ≡ true → Alike ts us
elements_alike done us a e = ([], [], done_is us e, IsPermutation-refl [], refl)
elements_alike (joined t ts) us a e = go (taken_by (tree_eq t) us) refl e (λ rest f. elements_alike ts rest a.1 f)
  where
    go : (o : Option Tree) → taken_by (tree_eq t) us ≡ o → passes (elements_eq ts) o ≡ true → ((rest : Tree) → elements_eq ts rest ≡ true → Alike ts rest) → Alike (joined t ts) us
    go None k f more = absurd (true≢false (sym f))
    go (Some rest) k f more =
        let x = taken_is (tree_eq t) us rest k in
        let y = more rest f in
        let n = x.order y.1 y.2 in
        (x.u ∷ y.0, n.0, n.1, IsPermutation-trans _ _ _ (IsPermutation-cons x.u _ _ y.3) n.2, (x.u, items y.0, refl, (a.0 x.u).same x.passed, y.4))
elements_alike (number z) us a e = absurd (true≢false (sym e))
elements_alike (bits p) us a e = absurd (true≢false (sym e))
elements_alike (numbers x) us a e = absurd (true≢false (sym e))
elements_alike (instant i) us a e = absurd (true≢false (sym e))
elements_alike (on_day g) us a e = absurd (true≢false (sym e))
elements_alike (set_elements ts) us a e = absurd (true≢false (sym e))
elements_alike (chosen k t) us a e = absurd (true≢false (sym e))
elements_alike absent us a e = absurd (true≢false (sym e))

as_long : (l vs ws : List Tree) → Each Same l vs → IsPermutation vs ws → length l ≡ length ws
as_long l vs ws e p = sym (each_length Same l vs e) ∙ sym (length_permutation vs ws p)

set_told : (ts us : Tree) → AllTold ts → DecidesSame (elements_eq ts us) (set_elements ts) (set_elements us)
set_told ts us a = record { same = to; equal = from }
  where
    to : elements_eq ts us ≡ true → Same (set_elements ts) (set_elements us)
    to e = let x = elements_alike ts us a e in (x.0, x.1, ap set_elements x.2, x.3, x.4)

    from : Same (set_elements ts) (set_elements us) → elements_eq ts us ≡ true
    from (vs, ws, e, p, s) =
        let l = same_items ts vs s in
        let f : us ≡ items ws = cc in
        subst (λ x. elements_eq x us ≡ true) (sym l.1) (subst (λ x. elements_eq (items l.0) x ≡ true) (sym f)
        (let b = subst AllTold l.1 a in elements_full l.0 ws b (self_same l.0 vs l.2) (as_long l.0 vs ws l.2 p) (as_often l.0 l.0 ws b (λ q r. counted l.0 vs l.2 q r ∙ in_any_order q vs ws p))))

-- ---- trees

same_kind : (t u : Tree) → Same t u → kind t ≡ kind u
same_kind (number z) u h = sym (ap kind h)
same_kind (bits p) u h = sym (ap kind h)
same_kind (numbers x) u h = sym (ap kind h)
same_kind (instant i) u h = sym (ap kind h)
same_kind (on_day g) u h = sym (ap kind h)
same_kind done u h = sym (ap kind h)
same_kind (joined t ts) u (v, vs, e, s, h) = sym (ap kind e)
same_kind (set_elements ts) u (vs, ws, e, p, h) = sym (ap kind e)
same_kind (chosen k t) u (v, e, s) = sym (ap kind e)
same_kind absent u h = sym (ap kind h)

-- Trees of other kinds aren't the same.
pub apart : (t u : Tree) → nat_eq (kind t) (kind u) ≡ false → DecidesSame false t u
apart t u n = record { same = λ e. absurd (true≢false (sym e)); equal = λ s. absurd (true≢false (sym ((unsigned_Decides (kind t) (kind u)).1 (same_kind t u s)) ∙ n)) }

pub chosen_told : (k m : ℕ) {b : Bool} {t u : Tree} → DecidesSame b t u → DecidesSame (nat_eq k m && b) (chosen k t) (chosen m u)
chosen_told k m {b} {t} {u} d = record {
  same = λ e. (u, ap (λ n. chosen n u) (sym ((unsigned_Decides k m).0 (first_so (nat_eq k m) b e))), d.same (second_so (nat_eq k m) b e));
  equal = λ (v, e, s). both_true ((unsigned_Decides k m).1 (let f : m ≡ k = cc in sym f)) (d.equal (let f : v ≡ u = cc in subst (Same t) f s));
}

number_by : (z : _) → Told (number z)
number_by z (number w) = signed_decided z w
number_by z (bits q) = apart (number z) (bits q) refl
number_by z (numbers y) = apart (number z) (numbers y) refl
number_by z (instant j) = apart (number z) (instant j) refl
number_by z (on_day h) = apart (number z) (on_day h) refl
number_by z done = apart (number z) done refl
number_by z (joined u us) = apart (number z) (joined u us) refl
number_by z (set_elements us) = apart (number z) (set_elements us) refl
number_by z (chosen m u) = apart (number z) (chosen m u) refl
number_by z absent = apart (number z) absent refl

bits_by : (p : _) → Told (bits p)
bits_by p (number w) = apart (bits p) (number w) refl
bits_by p (bits q) = bits_decided p q
bits_by p (numbers y) = apart (bits p) (numbers y) refl
bits_by p (instant j) = apart (bits p) (instant j) refl
bits_by p (on_day h) = apart (bits p) (on_day h) refl
bits_by p done = apart (bits p) done refl
bits_by p (joined u us) = apart (bits p) (joined u us) refl
bits_by p (set_elements us) = apart (bits p) (set_elements us) refl
bits_by p (chosen m u) = apart (bits p) (chosen m u) refl
bits_by p absent = apart (bits p) absent refl

numbers_by : (x : _) → Told (numbers x)
numbers_by x (number w) = apart (numbers x) (number w) refl
numbers_by x (bits q) = apart (numbers x) (bits q) refl
numbers_by x (numbers y) = octets_decided x y
numbers_by x (instant j) = apart (numbers x) (instant j) refl
numbers_by x (on_day h) = apart (numbers x) (on_day h) refl
numbers_by x done = apart (numbers x) done refl
numbers_by x (joined u us) = apart (numbers x) (joined u us) refl
numbers_by x (set_elements us) = apart (numbers x) (set_elements us) refl
numbers_by x (chosen m u) = apart (numbers x) (chosen m u) refl
numbers_by x absent = apart (numbers x) absent refl

instant_by : (i : _) → Told (instant i)
instant_by i (number w) = apart (instant i) (number w) refl
instant_by i (bits q) = apart (instant i) (bits q) refl
instant_by i (numbers y) = apart (instant i) (numbers y) refl
instant_by i (instant j) = instant_decided i j
instant_by i (on_day h) = apart (instant i) (on_day h) refl
instant_by i done = apart (instant i) done refl
instant_by i (joined u us) = apart (instant i) (joined u us) refl
instant_by i (set_elements us) = apart (instant i) (set_elements us) refl
instant_by i (chosen m u) = apart (instant i) (chosen m u) refl
instant_by i absent = apart (instant i) absent refl

on_day_by : (g : _) → Told (on_day g)
on_day_by g (number w) = apart (on_day g) (number w) refl
on_day_by g (bits q) = apart (on_day g) (bits q) refl
on_day_by g (numbers y) = apart (on_day g) (numbers y) refl
on_day_by g (instant j) = apart (on_day g) (instant j) refl
on_day_by g (on_day h) = day_decided g h
on_day_by g done = apart (on_day g) done refl
on_day_by g (joined u us) = apart (on_day g) (joined u us) refl
on_day_by g (set_elements us) = apart (on_day g) (set_elements us) refl
on_day_by g (chosen m u) = apart (on_day g) (chosen m u) refl
on_day_by g absent = apart (on_day g) absent refl

done_by : Told done
done_by (number w) = apart done (number w) refl
done_by (bits q) = apart done (bits q) refl
done_by (numbers y) = apart done (numbers y) refl
done_by (instant j) = apart done (instant j) refl
done_by (on_day h) = apart done (on_day h) refl
done_by done = no_parts
done_by (joined u us) = record { same = λ e. absurd (true≢false (sym e)); equal = λ s. absurd cc }
done_by (set_elements us) = apart done (set_elements us) refl
done_by (chosen m u) = apart done (chosen m u) refl
done_by absent = apart done absent refl

joined_by : (t ts : Tree) → Told t → Told ts → Told (joined t ts)
joined_by t ts one more (number w) = apart (joined t ts) (number w) refl
joined_by t ts one more (bits q) = apart (joined t ts) (bits q) refl
joined_by t ts one more (numbers y) = apart (joined t ts) (numbers y) refl
joined_by t ts one more (instant j) = apart (joined t ts) (instant j) refl
joined_by t ts one more (on_day h) = apart (joined t ts) (on_day h) refl
joined_by t ts one more done = record { same = λ e. absurd (true≢false (sym e)); equal = λ (v, vs, e, s, h). absurd cc }
joined_by t ts one more (joined u us) = part (one u) (more us)
joined_by t ts one more (set_elements us) = apart (joined t ts) (set_elements us) refl
joined_by t ts one more (chosen m u) = apart (joined t ts) (chosen m u) refl
joined_by t ts one more absent = apart (joined t ts) absent refl

set_elements_by : (ts : Tree) → AllTold ts → Told (set_elements ts)
set_elements_by ts all (number w) = apart (set_elements ts) (number w) refl
set_elements_by ts all (bits q) = apart (set_elements ts) (bits q) refl
set_elements_by ts all (numbers y) = apart (set_elements ts) (numbers y) refl
set_elements_by ts all (instant j) = apart (set_elements ts) (instant j) refl
set_elements_by ts all (on_day h) = apart (set_elements ts) (on_day h) refl
set_elements_by ts all done = apart (set_elements ts) done refl
set_elements_by ts all (joined u us) = apart (set_elements ts) (joined u us) refl
set_elements_by ts all (set_elements us) = set_told ts us all
set_elements_by ts all (chosen m u) = apart (set_elements ts) (chosen m u) refl
set_elements_by ts all absent = apart (set_elements ts) absent refl

chosen_by : (k : ℕ) (t : Tree) → Told t → Told (chosen k t)
chosen_by k t one (number w) = apart (chosen k t) (number w) refl
chosen_by k t one (bits q) = apart (chosen k t) (bits q) refl
chosen_by k t one (numbers y) = apart (chosen k t) (numbers y) refl
chosen_by k t one (instant j) = apart (chosen k t) (instant j) refl
chosen_by k t one (on_day h) = apart (chosen k t) (on_day h) refl
chosen_by k t one done = apart (chosen k t) done refl
chosen_by k t one (joined u us) = apart (chosen k t) (joined u us) refl
chosen_by k t one (set_elements us) = apart (chosen k t) (set_elements us) refl
chosen_by k t one (chosen m u) = chosen_told k m (one u)
chosen_by k t one absent = apart (chosen k t) absent refl

absent_by : Told absent
absent_by (number w) = apart absent (number w) refl
absent_by (bits q) = apart absent (bits q) refl
absent_by (numbers y) = apart absent (numbers y) refl
absent_by (instant j) = apart absent (instant j) refl
absent_by (on_day h) = apart absent (on_day h) refl
absent_by done = apart absent done refl
absent_by (joined u us) = apart absent (joined u us) refl
absent_by (set_elements us) = apart absent (set_elements us) refl
absent_by (chosen m u) = apart absent (chosen m u) refl
absent_by absent = record { same = λ e. refl; equal = λ s. refl }

told : (t : Tree) → Told t × AllTold t
told (number z) = (number_by z, tt)
told (bits p) = (bits_by p, tt)
told (numbers x) = (numbers_by x, tt)
told (instant i) = (instant_by i, tt)
told (on_day g) = (on_day_by g, tt)
told done = (done_by, tt)
told (joined t ts) = (joined_by t ts (told t).0 (told ts).0, ((told t).0, (told ts).1))
told (set_elements ts) = (set_elements_by ts (told ts).1, tt)
told (chosen k t) = (chosen_by k t (told t).0, tt)
told absent = (absent_by, tt)

pub tree_told : (t u : Tree) → DecidesSame (tree_eq t u) t u
tree_told t u = (told t).0 u

-- ---- values

mutual
  pub same_itself : (v : Value) → Same (tree_of v) (tree_of v)
  same_itself (Boolean b) = refl
  same_itself Null = refl
  same_itself (Integer n) = refl
  same_itself (Bits b) = refl
  same_itself (Octets o) = refl
  same_itself (Text s) = refl
  same_itself (Units u) = refl
  same_itself (Arcs a) = refl
  same_itself (Instant t) = refl
  same_itself (Day d) = refl
  same_itself (Items' _ row) = (row_itself row).2
  same_itself (Elements' _ row) = let r = row_itself row in (r.0, r.0, ap set_elements r.1, IsPermutation-refl r.0, subst (Same (trees_in row)) r.1 r.2)
  same_itself (Chosen' k _ v) = (tree_of v, refl, same_itself v)
  same_itself Absent = refl

  row_itself : {n : _} (row : Row_of-Value n) → (l : List Tree) × (trees_in row ≡ items l) × Same (trees_in row) (trees_in row)
  row_itself end_of-Value = ([], refl, refl)
  row_itself (more_of-Value v rest) = let r = row_itself rest in (tree_of v ∷ r.0, ap (joined (tree_of v)) r.1, (tree_of v, trees_in rest, refl, same_itself v, r.2))

pub values_told : EqDecidesSame value_eq tree_of
values_told v w = tree_told (tree_of v) (tree_of w)

pub values_equiv : IsEquivalence value_eq
values_equiv = equiv (record {
  symm = λ v w. one_truth (value_eq v w) (value_eq w v) (λ e. (values_told w v).equal (same_sym (tree_of v) (tree_of w) ((values_told v w).same e))) (λ e. (values_told v w).equal (same_sym (tree_of w) (tree_of v) ((values_told w v).same e)));
  trans = λ u v w d e. (values_told u w).equal (same_trans (tree_of u) (tree_of v) (tree_of w) ((values_told u v).same d) ((values_told v w).same e));
}) (λ v. (values_told v v).equal (same_itself v))

all_told : (xs : List Value) → AllTold (items (map tree_of xs))
all_told xs = (told (items (map tree_of xs))).1

all_self_same : (xs : List Value) → SelfSame (map tree_of xs)
all_self_same [] = tt
all_self_same (v ∷ xs) = (same_itself v, all_self_same xs)

counts_of_trees : (z : Value) (xs : List Value) → count_by (value_eq z) xs ≡ count_by (tree_eq (tree_of z)) (map tree_of xs)
counts_of_trees z [] = refl
counts_of_trees z (x ∷ xs) = sum_by_pushed (λ y. cond (value_eq z y) 1 0) x xs (x ∷ xs) (IsPermutation-refl (x ∷ xs))
    ∙ (ap (λ n. cond (value_eq z x) 1 0 + n) (counts_of_trees z xs) ∙ sym (one_more (tree_eq (tree_of z)) (tree_of x) (map tree_of xs)))

-- Each of the values is in both lists as often.
abbrev pub ValuesAsOften : List Value → List Value → List Value → Type 0
ValuesAsOften zs xs ys = (j : ℕ) (z : Value) → Some z ≡ slice_get zs j → count_by (value_eq z) xs ≡ count_by (value_eq z) ys

to_trees : (zs xs ys : List Value) → ValuesAsOften zs xs ys → AreAsOften (map tree_of zs) (map tree_of xs) (map tree_of ys)
to_trees [] xs ys c = tt
to_trees (z ∷ zs) xs ys c = (sym (counts_of_trees z xs) ∙ (c 0 z refl ∙ counts_of_trees z ys), to_trees zs xs ys (λ j w e. c (suc j) w e))

from_trees : (zs xs ys : List Value) → AreAsOften (map tree_of zs) (map tree_of xs) (map tree_of ys) → ValuesAsOften zs xs ys
from_trees [] xs ys c j z e = absurd cc
from_trees (v ∷ zs) xs ys c zero z e = let f : z ≡ v = cc in subst (λ w. count_by (value_eq w) xs ≡ count_by (value_eq w) ys) (sym f) (counts_of_trees v xs ∙ (c.0 ∙ sym (counts_of_trees v ys)))
from_trees (v ∷ zs) xs ys c (suc j) z e = from_trees zs xs ys c.1 j z e

abbrev Sets : List Value → List Value → Type 0
Sets xs ys = Same (set_elements (list_tree tree_of xs)) (set_elements (list_tree tree_of ys))

pub sets_same : (xs ys : List Value) → length xs ≡ length ys → ValuesAsOften xs xs ys → Sets xs ys
sets_same xs ys n c = (set_told (list_tree tree_of xs) (list_tree tree_of ys) (all_told xs)).same
    (elements_full (map tree_of xs) (map tree_of ys) (all_told xs) (all_self_same xs) (length-map xs tree_of ∙ (n ∙ sym (length-map ys tree_of))) (to_trees xs xs ys c))

pub sets_as_often : (xs ys : List Value) → Sets xs ys → (length xs ≡ length ys) × ValuesAsOften xs xs ys
sets_as_often xs ys (vs, ws, e, p, s) =
    let f : items (map tree_of ys) ≡ items ws = cc in
    let g : map tree_of ys ≡ ws = items_one (map tree_of ys) ws f in
    let h : Each Same (map tree_of xs) vs = same_each (map tree_of xs) vs s in
    let q : IsPermutation vs (map tree_of ys) = subst (IsPermutation vs) (sym g) p in (
      sym (length-map xs tree_of) ∙ (as_long (map tree_of xs) vs (map tree_of ys) h q ∙ length-map ys tree_of),
      from_trees xs xs ys (as_often (map tree_of xs) (map tree_of xs) (map tree_of ys) (all_told xs) (λ r k. counted (map tree_of xs) vs h r k ∙ in_any_order r vs (map tree_of ys) q)),
    )

-- Only one answer tells.
pub one_answer : (b : Bool) (v w : Value) → DecidesSame b (tree_of v) (tree_of w) → b ≡ value_eq v w
one_answer b v w d = one_truth b (value_eq v w) (λ e. (values_told v w).equal (d.same e)) (λ e. d.equal ((values_told v w).same e))
