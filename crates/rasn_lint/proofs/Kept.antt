-- The open types of a value are well formed, wherever they are written.
use Rattle.std.proofs.Common.{◌≡◌, ◌⊎◌, inl, inr, ◌+◌, ℕ, zero, suc, Bool, true, false, List, [], ◌∷◌, ◌++◌, map, Some, refl, sym, ap, ◌∙◌, subst, arith, IsPermutation}
use Rattle.std.specs.Prelude.{slice_get}
use Rattle.std.specs.List.{AllByRecursion}
use Rattle.rasn_types.specs.declared.types.codec.Codec.{Codec}
use Rattle.rasn_types.specs.declared.types.codec.Codec.TheVariants.{Der}
use Rattle.rasn_types.specs.declared.types.tag.Tag.{Tag}
use Rattle.rasn_types.specs.Shapes.{Shape, Tree, IsSetTree, Same, numbers, chosen, items, set_elements, joined, presences, count}
use Rattle.rasn_types.specs.Order.{Each}
use Rattle.rasn_types.specs.Readings.{AllOf, NoneOf, OneOf, ByPart, IsMissing}
use Rattle.rasn_types.proofs.SetOf.Same.{items_one, each_moved, same_sym}
use Rattle.rasn_schema.specs.declared.types.Component.{Component}
use Rattle.rasn_schema.specs.declared.types.Alternative.{Alternative}
use Rattle.rasn_schema.specs.declared.types.Presence.{Presence}
use Rattle.rasn_schema.specs.declared.types.Presence.TheVariants.{Required, Optional, Addition, Default}
use Rattle.rasn_schema.specs.declared.types.«Type».{«Type»}
use Rattle.rasn_schema.specs.declared.types.«Type».TheVariants.{Leaf, Enumerated, Any, Tagged, Choice, Sequence, Set, SequenceOf, SetOf, Unknown}
use Rattle.rasn_schema.specs.Shapes.{shape_of_type, components_by, key_of, presence_of, presence_in}
use Rattle.rasn_schema.specs.Trees.{tree_of}
use Rattle.rasn_schema.proofs.Lists.{some_is}
use Rattle.rasn_dynamic.specs.declared.span.Span.{Span}
use Rattle.rasn_dynamic.specs.Sets.{is_extensible, named_components, last_type}
use Rattle.rasn_lint.specs.Lint.{HasFormed}
use Rattle.rasn_lint.specs.Untyped.{HasOpen}
use Rattle.rasn_lint.specs.WellFormed.{IsWellFormed, AreEncodings}
use Rattle.rasn_lint.proofs.Wholes.{wholes_formed, all_well_formed}
use Rattle.rasn_lint.proofs.Holding.{chosen_one, count_apart, Along, IsLeft, HoldsWritten, HoldsComponent, HoldsComponents, HoldsMember, HoldsInside, Holds, own_missing}

-- ---- lists

all_split : {X : Type 0} (P : X → Type 0) (a b : List X)
    → AllByRecursion P (a ++ b) → AllByRecursion P a × AllByRecursion P b
all_split P [] b h = (tt, h)
all_split P (x ∷ a) b (p, h) = let r = all_split P a b h in ((p, r.0), r.1)

all_both : {X : Type 0} (P : X → Type 0) (a b : List X)
    → AllByRecursion P a → AllByRecursion P b → AllByRecursion P (a ++ b)
all_both P [] b h k = k
all_both P (x ∷ a) b (p, h) k = (p, all_both P a b h k)

alone : (P : Tree → Type 0) (ts : List Tree) → AllByRecursion P ts → Each (λ t u. P t) ts ts
alone P [] h = refl
alone P (t ∷ ts) (p, h) = (t, ts, refl, p, alone P ts h)

of_first : (P : Tree → Type 0) (ts us : List Tree) → Each (λ t u. P t) ts us → AllByRecursion P ts
of_first P [] us h = tt
of_first P (t ∷ ts) us (u, more, e, p, h) = (p, of_first P ts more h)

moved : (P : Tree → Type 0) (ts us : List Tree) → IsPermutation ts us → AllByRecursion P ts → AllByRecursion P us
moved P ts us same h = let r = each_moved (λ (t u : Tree). P t) ts ts us (alone P ts h) same in of_first P us r.0 r.1

elements_one : (t u : Tree) → set_elements t ≡ set_elements u → t ≡ u
elements_one t u e = cc

items_alike : (ts : List Tree) (u : Tree) → Same (items ts) u → (us : List Tree) × (u ≡ items us) × Each Same ts us
items_alike [] u h = ([], h, refl)
items_alike (t ∷ ts) u (v, vs, e, s, h) =
    let r = items_alike ts vs h in
    (v ∷ r.0, subst (λ z. u ≡ joined v z) r.1 e, (v, r.0, refl, s, r.2))

-- The element beside one.
beside : (R : Tree → Tree → Type 0) (ts us : List Tree) (k : ℕ) (t u : Tree) → Each R ts us → Some t ≡ slice_get ts k → Some u ≡ slice_get us k → R t u
beside R [] us k t u h p q = absurd cc
beside R (x ∷ ts) us zero t u (y, more, e, r, h) p q =
    let found : Some u ≡ slice_get (y ∷ more) 0 = subst (λ z. Some u ≡ slice_get z 0) e q in
    subst (λ z. R z u) (some_is x t (sym p)) (subst (R x) (some_is y u (sym found)) r)
beside R (x ∷ ts) us (suc k) t u (y, more, e, r, h) p q = beside R ts more k t u h p (subst (λ z. Some u ≡ slice_get z (suc k)) e q)

-- ---- the readings of a SET

abbrev In : Tree → List Tree → Type 0
In r [] = ⊥
In r (x ∷ xs) = (r ≡ x) ⊎ In r xs

in_either : (r : Tree) (a b : List Tree) → In r (a ++ b) → In r a ⊎ In r b
in_either r [] b h = inr h
in_either r (x ∷ a) b (inl e) = inl (inl e)
in_either r (x ∷ a) b (inr h) = later (in_either r a b h)
  where
    later : In r a ⊎ In r b → In r (x ∷ a) ⊎ In r b
    later (inl h) = inl (inr h)
    later (inr h) = inr h

in_middle : (r : Tree) (a b : List Tree) → In r (a ++ r ∷ b)
in_middle r [] b = inl refl
in_middle r (x ∷ a) b = inr (in_middle r a b)

none_in : (k : ℕ) (u : Tree) (rs : List Tree) → NoneOf k rs → In (chosen k u) rs → ⊥
none_in k u [] n h = h
none_in k u (r ∷ rs) n (inl e) = n.0 u (sym e)
none_in k u (r ∷ rs) n (inr h) = none_in k u rs n.1 h

one_in : (k : ℕ) (t u : Tree) (rs : List Tree) → OneOf k t rs → In (chosen k u) rs → u ≡ t
one_in k t u rs o h = go (in_either (chosen k u) o.before (chosen k t ∷ o.after) (subst (In (chosen k u)) o.is h))
  where
    go : In (chosen k u) o.before ⊎ In (chosen k u) (chosen k t ∷ o.after) → u ≡ t
    go (inl h) = absurd (none_in k u o.before o.none_before h)
    go (inr (inl e)) = (chosen_one k k u t e).1
    go (inr (inr h)) = absurd (none_in k u o.after o.none_after h)

all_in : (P : Tree → Type 0) (k : ℕ) (u : Tree) (rs us : List Tree)
    → AllOf k rs us → In (chosen k u) rs → AllByRecursion P us → P u
all_in P k u [] us a i all = absurd i
all_in P k u (r ∷ rs) us (inl (v, more, e, is, a)) (inl q) all =
    let same : v ≡ u = (chosen_one k k v u (sym e ∙ sym q)).1 in
    subst P same (subst (AllByRecursion P) is all).0
all_in P k u (r ∷ rs) us (inl (v, more, e, is, a)) (inr i) all =
    all_in P k u rs more a i (subst (AllByRecursion P) is all).1
all_in P k u (r ∷ rs) us (inr (n, a)) (inl q) all = absurd (n u (sym q))
all_in P k u (r ∷ rs) us (inr (n, a)) (inr i) all = all_in P k u rs us a i all

-- Each element of a list is at its place in another, which may be longer.
abbrev IsFront : List Tree → List Tree → Type 0
IsFront ts full = (k : ℕ) (t : Tree) → Some t ≡ slice_get ts k → Some t ≡ slice_get full k

in_longer : (ts us : List Tree) → IsFront ts (ts ++ us)
in_longer [] us k t e = absurd cc
in_longer (x ∷ ts) us zero t e = e
in_longer (x ∷ ts) us (suc k) t e = in_longer ts us k t e

-- What a SET is made of: the trees of its components, and perhaps one more, of the unknown ones.
set_list : (extensible : Bool) (ts us : List Tree) (t : Tree) → IsSetTree extensible ts us t → (full : List Tree) × (t ≡ items full) × IsFront ts full
set_list true ts us t e = (ts ++ (items us ∷ []), e, in_longer ts (items us ∷ []))
set_list false ts us t (n, e) = (ts, e, λ k x h. h)

-- What is read of a component, or that it is missing.
by_part_at : (f : ℕ → Shape) (ps : List Component) (first k : ℕ) (rs ts : List Tree) (p : Component) → Some p ≡ slice_get ps k → ByPart first (presences (components_by f ps)) rs ts
    → (t : Tree) × (Some t ≡ slice_get ts k) × (OneOf (first + k) t rs ⊎ (NoneOf (first + k) rs × IsMissing (presence_in f p) t))
by_part_at f [] first k rs ts p at b = absurd cc
by_part_at f (q ∷ ps) first zero rs ts p at (t, us, e, here, b) =
    let n : first ≡ first + 0 = omega arith in (
      t,
      ap (λ z. slice_get z 0) (sym e),
      subst (λ j. OneOf j t rs ⊎ (NoneOf j rs × IsMissing (presence_in f p) t)) n (subst (λ (z : Component). OneOf first t rs ⊎ (NoneOf first rs × IsMissing (presence_in f z) t)) (some_is q p (sym at)) here),
    )
by_part_at f (q ∷ ps) first (suc k) rs ts p at (t, us, e, here, b) =
    let (u, found, r) = by_part_at f ps (suc first) k rs us p at b in
    let n : suc first + k ≡ first + suc k = omega arith in
    (u, found ∙ ap (λ z. slice_get z (suc k)) (sym e), subst (λ j. OneOf j u rs ⊎ (NoneOf j rs × IsMissing (presence_in f p) u)) n r)

-- ---- unknown values

numbers_one : (xs ys : List (List ℕ)) → map numbers xs ≡ map numbers ys → xs ≡ ys
numbers_one [] [] e = refl
numbers_one [] (y ∷ ys) e = cc
numbers_one (x ∷ xs) [] e = cc
numbers_one (x ∷ xs) (y ∷ ys) e =
    let first : x ≡ y = cc in
    let rest : map numbers xs ≡ map numbers ys = cc in
    let more : xs ≡ ys = numbers_one xs ys rest in
    cc

-- Lists of numbers are the same only as themselves.
same_numbers : (xs : List (List ℕ)) (us : List Tree) → Each Same (map numbers xs) us → us ≡ map numbers xs
same_numbers [] us h = h
same_numbers (x ∷ xs) us (u, more, e, s, h) = e ∙ (ap (λ z. z ∷ more) s ∙ ap (λ z. numbers x ∷ z) (same_numbers xs more h))

last_some : {X : Type 0} (R : Tree → Tree → Type 0) (a : List Tree) (x : Tree) → Each R (a ++ x ∷ []) [] → X
last_some R [] x (v, more, e, r, h) = absurd cc
last_some R (d ∷ a) x (v, more, e, r, h) = absurd cc

ends_some : {X : Type 0} (b : List Tree) (y : Tree) → b ++ y ∷ [] ≡ [] → X
ends_some [] y e = absurd cc
ends_some (c ∷ b) y e = absurd cc

-- The last of a list is beside the last of the other.
each_last : (R : Tree → Tree → Type 0) (a b : List Tree) (x y : Tree) → Each R (a ++ x ∷ []) (b ++ y ∷ []) → R x y
each_last R [] [] x y (v, more, e, r, h) = let same : v ≡ y = cc in subst (R x) same r
each_last R [] (c ∷ b) x y (v, more, e, r, h) = let rest : b ++ y ∷ [] ≡ more = cc in ends_some b y (rest ∙ h)
each_last R (d ∷ a) [] x y (v, more, e, r, h) = let rest : more ≡ [] = cc in last_some R a x (subst (Each R (a ++ x ∷ [])) rest h)
each_last R (d ∷ a) (c ∷ b) x y (v, more, e, r, h) = let rest : more ≡ b ++ y ∷ [] = cc in each_last R a b x y (subst (Each R (a ++ x ∷ [])) rest h)

-- ---- open types in a tree

module _ (F : ℕ → Tree → Type 0) where
  abbrev pub FormedComponents : List Component → List Tree → Type 0
  FormedComponents ps ts = (k : ℕ) (p : Component) (t : Tree) → Some p ≡ slice_get ps k → Some t ≡ slice_get ts k → IsLeft (presence_of p.presence) t ⊎ F p.type_id.0 t

  -- Each is unknown values of the type other: one.
  abbrev pub AreFormedAlone : ℕ → List Tree → Type 0
  AreFormedAlone other us = AllByRecursion (λ u. F other (items (u ∷ []))) us

  -- The unknown components of a SET, if there may be some, are in its last tree.
  abbrev pub FormedUnknown : Bool → ℕ → Tree → Type 0
  FormedUnknown extensible other t = (ts us : List Tree) → extensible ≡ true
      → t ≡ items (ts ++ (items us ∷ [])) → AreFormedAlone other us

  -- f gives the shape of the type with a number.
  abbrev pub FormedIn : (ℕ → Shape) → «Type» → Tree → Type 0
  FormedIn f (Leaf kind tag c names) t = Unit {0}
  FormedIn f (Enumerated tag ns) t = Unit {0}
  FormedIn f (Any tag) t = (x : List ℕ) → t ≡ numbers x → IsWellFormed x
  FormedIn f Unknown t = (xs : List (List ℕ)) → t ≡ items (map numbers xs) → AllByRecursion IsWellFormed xs
  FormedIn f (Tagged tag id) t = F id.0 t
  FormedIn f (Choice name ks) t = (k : ℕ) (a : Alternative) (u : Tree) → Some a ≡ slice_get ks.items k → t ≡ chosen k u → F a.type_id.0 u
  FormedIn f (Sequence tag ps) t = (ts : List Tree) → t ≡ items ts → FormedComponents ps.items ts
  FormedIn f (Set name tag ps) t = ((ts : List Tree) → t ≡ items ts → FormedComponents (named_components f ps.items) ts)
      × FormedUnknown (is_extensible f ps.items) (last_type ps.items) t
  FormedIn f (SequenceOf tag id c) t = (ts : List Tree) → t ≡ items ts → AllByRecursion (F id.0) ts
  FormedIn f (SetOf tag id c) t = (ts : List Tree) → t ≡ set_elements (items ts) → AllByRecursion (F id.0) ts

-- Each open type in the tree of a value of the type with the number is well formed, except in components that are left
-- out, and so is each unknown component of a SET.
unfoldable pub FormedTree : List «Type» → ℕ → ℕ → Tree → Type 0
FormedTree types zero id t = Unit {0}
FormedTree types (suc n) id t = (ty : «Type») → slice_get types id ≡ Some ty → FormedIn (λ k u. FormedTree types n k u) (shape_of_type types n) ty t

-- ---- a value that is the same as that of parts whose open types are well formed

left_same : (p : Presence) (t u : Tree) → IsMissing (presence_of p) t → Same t u → IsLeft (presence_of p) u
left_same Required t u m s = absurd m
left_same Optional t u m s = subst (λ z. Same z u) m s
left_same Addition t u m s = subst (λ z. Same z u) m s
left_same (Default v) t u m s = same_sym (tree_of v) u (subst (λ z. Same z u) m s)

module _ (rule : Codec) (f : ℕ → Shape) (H : ℕ → Tree → List Span → Type 0) (F : ℕ → Tree → Type 0) (Q : Span → Type 0)
    (below : (id : ℕ) (t : Tree) (es : List Span) → H id t es → AllByRecursion Q es → (u : Tree) → Same t u → F id u) where
  each_kept : (id : ℕ) (ts us : List Tree) (es : List Span) → Along (H id) ts es → AllByRecursion Q es → Each Same ts us → AllByRecursion (F id) us
  each_kept id [] us es h q s = subst (AllByRecursion (F id)) (sym s) tt
  each_kept id (t ∷ ts) us es (mine, others, is, h, more) q (u, rest, e, s, each) =
      let k = all_split Q mine others (subst (AllByRecursion Q) is q) in
      subst (AllByRecursion (F id)) (sym e) (below id t mine h k.0 u s, each_kept id ts rest others more k.1 each)

  none_there : {A : Type 0} (u : Tree) (k : ℕ) (p : Component) → Some p ≡ slice_get [] k → A
  none_there u k p at = absurd cc

  one_component : (p : Component) (ps : List Component) (u : Tree) (us : List Tree) → IsLeft (presence_of p.presence) u ⊎ F p.type_id.0 u → FormedComponents F ps us → FormedComponents F (p ∷ ps) (u ∷ us)
  one_component p ps u us first others zero c v at found =
      subst (λ (z : Component). IsLeft (presence_of z.presence) v ⊎ F z.type_id.0 v) (some_is p c (sym at))
      (subst (λ z. IsLeft (presence_of p.presence) z ⊎ F p.type_id.0 z) (some_is u v (sym found)) first)
  one_component p ps u us first others (suc k) c v at found = others k c v at found

  component_kept : (p : Component) (t u : Tree) (es : List Span) → Same t u → HoldsComponent rule f H p t es → AllByRecursion Q es → IsLeft (presence_of p.presence) u ⊎ F p.type_id.0 u
  component_kept p t u es s (inl (m, n)) q = inl (left_same p.presence t u m s)
  component_kept p t u es s (inr h) q = inr (below p.type_id.0 t es h.0 q u s)

  components_kept : (ps : List Component) (ts us : List Tree) (es : List Span) → HoldsComponents rule f H ps ts es → AllByRecursion Q es → Each Same ts us → FormedComponents F ps us
  components_kept [] ts us es h q s = λ k p u at found. none_there u k p at
  components_kept (p ∷ ps) ts us es (t, more, mine, others, i, is, h, hs) q s =
      let both = all_split Q mine others (subst (AllByRecursion Q) is q) in
      let (u, rest, e, same, each) = subst (λ z. Each Same z us) i s in
      subst (FormedComponents F (p ∷ ps)) (sym e) (one_component p ps u rest (component_kept p t u mine same h both.0) (components_kept ps more rest others hs both.1 each))

  -- The parts of one of the readings.
  along_at : (R : Tree → List Span → Type 0) (a b : List Tree) (r : Tree) (es : List Span) → Along R (a ++ r ∷ b) es → AllByRecursion Q es → (mine : List Span) × R r mine × AllByRecursion Q mine
  along_at R [] b r es (mine, others, is, h, more) q = (mine, h, (all_split Q mine others (subst (AllByRecursion Q) is q)).0)
  along_at R (x ∷ a) b r es (mine, others, is, h, more) q = along_at R a b r others more (all_split Q mine others (subst (AllByRecursion Q) is q)).1

  members_kept : (ps : List Component) (other : ℕ) (rs ts full us : List Tree) (es : List Span) → IsFront ts full → ByPart 0 (presences (components_by f ps)) rs ts → Along (HoldsMember rule f H ps other) rs es → AllByRecursion Q es → Each Same full us
      → FormedComponents F ps us
  members_kept ps other rs ts full us es front by along q each k p u at found = go (by_part_at f ps 0 k rs ts p at by)
    where
      read : (t : Tree) → Same t u → OneOf (0 + k) t rs → F p.type_id.0 u
      read t s o = member (along_at (HoldsMember rule f H ps other) o.before o.after (chosen (0 + k) t) es (subst (λ z. Along (HoldsMember rule f H ps other) z es) o.is along) q)
        where
          member : (mine : List Span) × HoldsMember rule f H ps other (chosen (0 + k) t) mine × AllByRecursion Q mine → F p.type_id.0 u
          member (mine, inr (v, e, n), all) = absurd (count_apart f ps k p at (let o = chosen_one (0 + k) (count (components_by f ps)) t v e in omega (arith, o.0)))
          member (mine, inl (j, c, v, found, e, h), all) =
              let o = chosen_one (0 + k) j t v e in
              let i : j ≡ k = omega (arith, o.0) in
              let same : c ≡ p = some_is c p (found ∙ (ap (slice_get ps) i ∙ sym at)) in
              subst (λ (z : Component). F z.type_id.0 u) same (below c.type_id.0 v mine h.0 all u (subst (λ z. Same z u) o.1 s))

      go : (t : Tree) × (Some t ≡ slice_get ts k) × (OneOf (0 + k) t rs ⊎ (NoneOf (0 + k) rs × IsMissing (presence_in f p) t)) → IsLeft (presence_of p.presence) u ⊎ F p.type_id.0 u
      go (t, here, inl o) = inr (read t (beside Same full us k t u each (front k t here) found) o)
      go (t, here, inr (n, m)) = inl (left_same p.presence t u (own_missing (key_of (f p.type_id.0)) p.presence t m) (beside Same full us k t u each (front k t here) found))

  -- Those that are unknown.
  unknown_kept : (ps : List Component) (other : ℕ) (rs us vs : List Tree) (es : List Span)
      → AllOf (count (components_by f ps)) rs us → Along (HoldsMember rule f H ps other) rs es → AllByRecursion Q es
      → Each Same us vs → AreFormedAlone F other vs
  unknown_kept ps other [] us vs es e along q each =
      let none : vs ≡ [] = subst (λ z. Each Same z vs) e each in subst (AreFormedAlone F other) (sym none) tt
  unknown_kept ps other (r ∷ rs) us vs es (inr (n, a)) (mine, others, is, h, more) q each =
      unknown_kept ps other rs us vs others a more (all_split Q mine others (subst (AllByRecursion Q) is q)).1 each
  unknown_kept ps other (r ∷ rs) us vs es (inl (u, rest, e, k, a)) (mine, others, is, h, more) q each =
      let (v, ws, i, s, m) = subst (λ z. Each Same z vs) k each in
      let both = all_split Q mine others (subst (AllByRecursion Q) is q) in
      subst (AreFormedAlone F other) (sym i) (one v s h both.0, unknown_kept ps other rs rest ws others a more both.1 m)
    where
      number : ℕ
      number = count (components_by f ps)

      one : (v : Tree) → Same u v → HoldsMember rule f H ps other r mine → AllByRecursion Q mine
          → F other (items (v ∷ []))
      one v s (inl (j, p, w, at, g, h)) q = absurd (count_apart f ps j p at (chosen_one j number w u (sym g ∙ e)).0)
      one v s (inr (w, g, h)) q =
          let same : u ≡ w = sym (chosen_one number number w u (sym g ∙ e)).1 in
          below other (items (w ∷ [])) mine h q (items (v ∷ [])) (v, items [], refl, subst (λ z. Same z v) same s, refl)

  inside_kept : (ty : «Type») (e : Span) (t : Tree) (es : List Span) → HoldsInside rule f H ty e t es → ((tag : Tag) (x : List ℕ) → ty ≡ Any tag → HasOpen tag e.octets.now x → IsWellFormed x)
      → (ty ≡ Unknown → AreEncodings e.octets.now) → AllByRecursion Q es → (u : Tree) → Same t u → FormedIn F f ty u
  inside_kept (Leaf kind tag c names) e t es h w v q u s = tt
  inside_kept (Enumerated tag ns) e t es h w v q u s = tt
  inside_kept (Any tag) e t es h w v q u s = λ x i. let back = same_sym t u s in w tag x refl ((h.1 x).0 (subst (λ z. Same z t) i back))
  inside_kept Unknown e t es (n, (xs, i, p, all)) w v q u s = λ ys g.
      let (us, j, each) = items_alike (map numbers xs) u (subst (λ z. Same z u) i s) in
      let same : map numbers xs ≡ map numbers ys = sym (same_numbers xs us each) ∙ items_one us (map numbers ys) (sym j ∙ g) in
      let (ps, at, formed) = v refl in
      subst (AllByRecursion IsWellFormed) (numbers_one xs ys same) (wholes_formed xs ps all formed (sym p ∙ at))
  inside_kept (Tagged tag id) e t es h w v q u s = below id.0 t es h q u s
  inside_kept (Choice name ks) e t es (k, a, v, at, i, h) w m q u s = go (subst (λ z. Same z u) i s)
    where
      go : Same (chosen k v) u → FormedIn F f (Choice name ks) u
      go (x, g, s) = λ j c y found e.
          let o = chosen_one k j x y (sym g ∙ e) in
          let same : a ≡ c = some_is a c (at ∙ (ap (slice_get ks.items) o.0 ∙ sym found)) in
          subst (λ (b : Alternative). F b.type_id.0 y) same (subst (F a.type_id.0) o.1 (below a.type_id.0 v es h q x s))
  inside_kept (Sequence tag ps) e t es (ts, i, h) w v q u s = λ vs g.
      let (us, j, each) = items_alike ts u (subst (λ z. Same z u) i s) in
      subst (FormedComponents F ps.items) (items_one us vs (sym j ∙ g)) (components_kept ps.items ts us es h q each)
  inside_kept (Set name tag ps) e t es (rs, ts, others, i, by, unknown, along) w v q u s = (
    λ vs g.
        let (full, k, front) = set_list (is_extensible f ps.items) ts others t i in
        let (us, j, each) = items_alike full u (subst (λ x. Same x u) k s) in
        let named = named_components f ps.items in
        let kept = members_kept named (last_type ps.items) rs ts full us es front by along q each in
        subst (FormedComponents F named) (items_one us vs (sym j ∙ g)) kept,
    λ before vs extensible g.
        let full = ts ++ (items others ∷ []) in
        let all : t ≡ items full = subst (λ b. IsSetTree b ts others t) extensible i in
        let (us, j, each) = items_alike full u (subst (λ x. Same x u) all s) in
        let ends = subst (Each Same full) (items_one us (before ++ (items vs ∷ [])) (sym j ∙ g)) each in
        let (ws, k, alike) = items_alike others (items vs) (each_last Same ts before (items others) (items vs) ends) in
        let same = subst (Each Same others) (sym (items_one vs ws k)) alike in
        unknown_kept (named_components f ps.items) (last_type ps.items) rs others vs es unknown along q same,
  )
  inside_kept (SequenceOf tag id c) e t es (ts, i, along) w v q u s = λ vs g.
      let (us, j, each) = items_alike ts u (subst (λ z. Same z u) i s) in
      subst (AllByRecursion (F id.0)) (items_one us vs (sym j ∙ g)) (each_kept id.0 ts us es along q each)
  inside_kept (SetOf tag id c) e t es (ts, i, along) w v q u s = λ vs g. go vs g (subst (λ z. Same z u) i s)
    where
      go : (vs : List Tree) → u ≡ set_elements (items vs) → Same (set_elements (items ts)) u → AllByRecursion (F id.0) vs
      go vs g (xs, ys, j, order, s) =
          let (us, k, each) = items_alike ts (items xs) s in
          let all = subst (AllByRecursion (F id.0)) (items_one us xs (sym k)) (each_kept id.0 ts us es along q each) in
          let same : items ys ≡ items vs = elements_one (items ys) (items vs) (sym j ∙ g) in
          subst (AllByRecursion (F id.0)) (items_one ys vs same) (moved (F id.0) xs ys order all)

-- The open type of the part is well formed.
formed_part : (types : List «Type») (id : ℕ) (e : Span) (ty : «Type») → e.id.0 ≡ id → slice_get types id ≡ Some ty → HasFormed types e → (tag : Tag) (x : List ℕ) → ty ≡ Any tag → HasOpen tag e.octets.now x → IsWellFormed x
formed_part types id e ty i at w tag x g has = w.0 tag x (ap (slice_get types) i ∙ (at ∙ ap Some g)) has

formed_unknown : (types : List «Type») (id : ℕ) (e : Span) (ty : «Type») → e.id.0 ≡ id → slice_get types id ≡ Some ty → HasFormed types e → ty ≡ Unknown → AreEncodings e.octets.now
formed_unknown types id e ty i at w g = w.1 (ap (slice_get types) i ∙ (at ∙ ap Some g))

pub kept : (rule : Codec) (types : List «Type») (n id : ℕ) (t : Tree) (es : List Span) → Holds rule types n id t es → AllByRecursion (HasFormed types) es → (u : Tree) → Same t u → FormedTree types n id u
unfolding Holds FormedTree
kept rule types zero id t es h q u s = tt
kept rule types (suc n) id t es (e, inside, is, i, deep, ty, at, h) q u s = λ tz found.
    let all = subst (AllByRecursion (HasFormed types)) is q in
    let same : ty ≡ tz = some_is ty tz (sym at ∙ found) in
    subst (λ z. FormedIn (λ k u. FormedTree types n k u) (shape_of_type types n) z u) same
    (inside_kept rule (shape_of_type types n) (λ k u more. Holds rule types n k u more) (λ k u. FormedTree types n k u) (HasFormed types) (λ k t es h q u s. kept rule types n k t es h q u s)
    ty e t inside h (formed_part types id e ty i at all.0) (formed_unknown types id e ty i at all.0) all.1 u s)

-- ---- parts of a value whose open types are well formed, as DER writes them

module _ (f : ℕ → Shape) (H : ℕ → Tree → List Span → Type 0) (F : ℕ → Tree → Type 0) (Q : Span → Type 0)
    (below : (id : ℕ) (t : Tree) (es : List Span) → H id t es → F id t → AllByRecursion Q es) where
  none_formed : (es : List Span) → es ≡ [] → AllByRecursion Q es
  none_formed es e = subst (AllByRecursion Q) (sym e) tt

  each_formed : (id : ℕ) (ts : List Tree) (es : List Span) → Along (H id) ts es → AllByRecursion (F id) ts → AllByRecursion Q es
  each_formed id [] es h a = none_formed es h
  each_formed id (t ∷ ts) es (mine, others, is, h, more) a = subst (AllByRecursion Q) (sym is) (all_both Q mine others (below id t mine h a.0) (each_formed id ts others more a.1))

  components_formed : (ps : List Component) (ts : List Tree) (es : List Span) → HoldsComponents Der f H ps ts es → FormedComponents F ps ts → AllByRecursion Q es
  components_formed [] ts es h a = none_formed es h.1
  components_formed (p ∷ ps) ts es (t, us, mine, others, i, is, h, hs) a =
      let b = subst (FormedComponents F (p ∷ ps)) i a in
      subst (AllByRecursion Q) (sym is) (all_both Q mine others (one h (b 0 p t refl refl)) (components_formed ps us others hs (λ k c u at found. b (suc k) c u at found)))
    where
      one : HoldsComponent Der f H p t mine → IsLeft (presence_of p.presence) t ⊎ F p.type_id.0 t → AllByRecursion Q mine
      one (inl (m, n)) a = none_formed mine n
      one (inr (h, n)) (inl l) = absurd (n tt l)
      one (inr (h, n)) (inr g) = below p.type_id.0 t mine h g

  members_formed : (ps : List Component) (other : ℕ) (rs ts us full : List Tree) → IsFront ts full
      → ByPart 0 (presences (components_by f ps)) rs ts → FormedComponents F ps full
      → AllOf (count (components_by f ps)) rs us → AreFormedAlone F other us → (qs : List Tree)
      → ((r : Tree) → In r qs → In r rs) → (es : List Span) → Along (HoldsMember Der f H ps other) qs es → AllByRecursion Q es
  members_formed ps other rs ts us full front by a all unknown [] within es h = none_formed es h
  members_formed ps other rs ts us full front by a all unknown (r ∷ qs) within es (mine, others, is, h, more) =
      let later = members_formed ps other rs ts us full front by a all unknown qs (λ x i. within x (inr i)) others more in
      subst (AllByRecursion Q) (sym is) (all_both Q mine others (member h) later)
    where
      one : (k : ℕ) (p : Component) (u : Tree) → Some p ≡ slice_get ps k → r ≡ chosen k u → HoldsWritten Der f H p u mine
          → (t : Tree) × (Some t ≡ slice_get ts k) × (OneOf (0 + k) t rs ⊎ (NoneOf (0 + k) rs × IsMissing (presence_in f p) t)) → AllByRecursion Q mine
      one k p u at e h (t, here, x) = go x
        where
          read : In (chosen (0 + k) u) rs
          read = subst (λ z. In z rs) (e ∙ ap (λ j. chosen j u) (omega arith)) (within r (inl refl))

          formed : IsLeft (presence_of p.presence) u ⊎ F p.type_id.0 u → AllByRecursion Q mine
          formed (inl l) = absurd (h.1 tt l)
          formed (inr g) = below p.type_id.0 u mine h.0 g

          go : OneOf (0 + k) t rs ⊎ (NoneOf (0 + k) rs × IsMissing (presence_in f p) t) → AllByRecursion Q mine
          go (inr (n, m)) = absurd (none_in (0 + k) u rs n read)
          go (inl o) = formed (a k p u at (front k u (ap Some (one_in (0 + k) t u rs o read) ∙ here)))

      member : HoldsMember Der f H ps other r mine → AllByRecursion Q mine
      member (inr (u, e, h)) =
          let read : In (chosen (count (components_by f ps)) u) rs = subst (λ z. In z rs) e (within r (inl refl)) in
          let own = all_in (λ v. F other (items (v ∷ []))) (count (components_by f ps)) u rs us all read unknown in
          below other (items (u ∷ [])) mine h own
      member (inl (k, p, u, at, e, h)) = one k p u at e h (by_part_at f ps 0 k rs ts p at by)

  set_unknown : (extensible : Bool) (other : ℕ) (ts us : List Tree) (t : Tree) → IsSetTree extensible ts us t
      → FormedUnknown F extensible other t → AreFormedAlone F other us
  set_unknown true other ts us t i a = a ts us refl i
  set_unknown false other ts us t (n, i) a = subst (AreFormedAlone F other) (sym n) tt

  inside_formed : (ty : «Type») (e : Span) (t : Tree) (es : List Span) → HoldsInside Der f H ty e t es → FormedIn F f ty t → AllByRecursion Q es
  inside_formed (Leaf kind tag c names) e t es h a = none_formed es h
  inside_formed (Enumerated tag ns) e t es h a = none_formed es h
  inside_formed (Any tag) e t es h a = none_formed es h.0
  inside_formed Unknown e t es h a = none_formed es h.0
  inside_formed (Tagged tag id) e t es h a = below id.0 t es h a
  inside_formed (Choice name ks) e t es (k, c, u, at, i, h) a = below c.type_id.0 u es h (a k c u at i)
  inside_formed (Sequence tag ps) e t es (ts, i, h) a = components_formed ps.items ts es h (a ts i)
  inside_formed (Set name tag ps) e t es (rs, ts, us, i, by, all, along) a =
      let (full, j, front) = set_list (is_extensible f ps.items) ts us t i in
      let unknown = set_unknown (is_extensible f ps.items) (last_type ps.items) ts us t i a.1 in
      let named = named_components f ps.items in
      members_formed named (last_type ps.items) rs ts us full front by (a.0 full j) all unknown rs (λ r h. h) es along
  inside_formed (SequenceOf tag id c) e t es (ts, i, along) a = each_formed id.0 ts es along (a ts i)
  inside_formed (SetOf tag id c) e t es (ts, i, along) a = each_formed id.0 ts es along (a ts i)

open_formed : (f : ℕ → Shape) (H : ℕ → Tree → List Span → Type 0) (F : ℕ → Tree → Type 0) (ty : «Type») (e : Span) (t : Tree) (es : List Span) → HoldsInside Der f H ty e t es → FormedIn F f ty t
    → (tag : Tag) (x : List ℕ) → ty ≡ Any tag → HasOpen tag e.octets.now x → IsWellFormed x
open_formed f H F (Any own) e t es h a tag x i has =
    let same : tag ≡ own = cc in
    a x ((h.1 x).1 (subst (λ z. HasOpen z e.octets.now x) same has))
open_formed f H F Unknown e t es h a tag x i has = absurd cc
open_formed f H F (Leaf kind t0 c names) e t es h a tag x i has = absurd cc
open_formed f H F (Enumerated t0 ns) e t es h a tag x i has = absurd cc
open_formed f H F (Tagged t0 id) e t es h a tag x i has = absurd cc
open_formed f H F (Choice name ks) e t es h a tag x i has = absurd cc
open_formed f H F (Sequence t0 ps) e t es h a tag x i has = absurd cc
open_formed f H F (Set name t0 ps) e t es h a tag x i has = absurd cc
open_formed f H F (SequenceOf t0 id c) e t es h a tag x i has = absurd cc
open_formed f H F (SetOf t0 id c) e t es h a tag x i has = absurd cc

unknown_formed : (f : ℕ → Shape) (H : ℕ → Tree → List Span → Type 0) (F : ℕ → Tree → Type 0) (ty : «Type») (e : Span) (t : Tree) (es : List Span) → HoldsInside Der f H ty e t es → FormedIn F f ty t → ty ≡ Unknown → AreEncodings e.octets.now
unknown_formed f H F Unknown e t es (n, (xs, i, p, all)) a g = (xs, p, all_well_formed xs (a xs i))
unknown_formed f H F (Any own) e t es h a g = absurd cc
unknown_formed f H F (Leaf kind t0 c names) e t es h a g = absurd cc
unknown_formed f H F (Enumerated t0 ns) e t es h a g = absurd cc
unknown_formed f H F (Tagged t0 id) e t es h a g = absurd cc
unknown_formed f H F (Choice name ks) e t es h a g = absurd cc
unknown_formed f H F (Sequence t0 ps) e t es h a g = absurd cc
unknown_formed f H F (Set name t0 ps) e t es h a g = absurd cc
unknown_formed f H F (SequenceOf t0 id c) e t es h a g = absurd cc
unknown_formed f H F (SetOf t0 id c) e t es h a g = absurd cc

pub formed : (types : List «Type») (n id : ℕ) (t : Tree) (es : List Span) → Holds Der types n id t es → FormedTree types n id t → AllByRecursion (HasFormed types) es
unfolding Holds FormedTree
formed types zero id t es h a = absurd h
formed types (suc n) id t es (e, inside, is, i, deep, ty, at, h) a =
    let own : FormedIn (λ k u. FormedTree types n k u) (shape_of_type types n) ty t = a ty at in
    let mine : HasFormed types e = (
      λ tag x found has. open_formed (shape_of_type types n) (λ k u more. Holds Der types n k u more) (λ k u. FormedTree types n k u) ty e t inside h own tag x
          (some_is ty (Any tag) (sym at ∙ (ap (slice_get types) (sym i) ∙ found))) has,
      λ found. unknown_formed (shape_of_type types n) (λ k u more. Holds Der types n k u more) (λ k u. FormedTree types n k u) ty e t inside h own (some_is ty Unknown (sym at ∙ (ap (slice_get types) (sym i) ∙ found))),
    ) in
    subst (AllByRecursion (HasFormed types)) (sym is)
    (mine, inside_formed (shape_of_type types n) (λ k u more. Holds Der types n k u more) (λ k u. FormedTree types n k u) (HasFormed types) (λ k t es h a. formed types n k t es h a) ty e t inside h own)
