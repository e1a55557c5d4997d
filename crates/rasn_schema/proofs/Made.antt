-- A walk to the types that types are made of.
use Rattle.std.proofs.Common.{◌≡◌, ◌≢◌, ◌⊎◌, ◌<◌, ◌+◌, ℕ, zero, suc, List, [], ◌∷◌, ◌++◌, Bool, true, false, not, Some, None, length, set, replicate, refl, sym, ap, subst, ◌∙◌, inl, inr, arith}
use Rattle.std.specs.Prelude.{slice_get}
use Rattle.std.proofs.lemmas.Option.{slice_get_within}
use Rattle.std.proofs.lemmas.List.{length-set, length-replicate, length_push}
use Rattle.rasn_types.specs.Truth.{IsWhether}
use Rattle.rasn_schema.specs.declared.type_id.TypeId.{TypeId}
use Rattle.rasn_schema.specs.declared.types.«Type».{«Type»}
use Rattle.rasn_schema.specs.Held.{part_type}
use Rattle.rasn_schema.specs.Made.{IsIn, HasPart, IsMadeOf, IsReachedFrom, AreReachedFrom, IsMarked, AreMarked, ArePartsMarked, IsWalk, IsNone, IsAdded, unmarked, steps_left}
use Rattle.rasn_schema.proofs.Lists.{some_is, same_or_not}

-- ---- lists of numbers

last_in : (ids : List TypeId) (id : TypeId) → IsIn (ids ++ id ∷ []) id.0
last_in [] id = (0, id, refl, refl)
last_in (x ∷ ids) id = let (j, y, e, h) = last_in ids id in (suc j, y, e, h)

more_in : (ids : List TypeId) (id : TypeId) (k : ℕ) → IsIn ids k → IsIn (ids ++ id ∷ []) k
more_in [] id k (j, y, e, h) = cc
more_in (x ∷ ids) id k (zero, y, e, h) = (0, y, e, h)
more_in (x ∷ ids) id k (suc j, y, e, h) = let (i, z, f, g) = more_in ids id k (j, y, e, h) in (suc i, z, f, g)

in_cases : (ids : List TypeId) (id : TypeId) (k : ℕ) → IsIn (ids ++ id ∷ []) k → IsIn ids k ⊎ (k ≡ id.0)
in_cases [] id k (zero, y, e, h) = inr (sym h ∙ ap (λ (x : TypeId). x.0) (some_is y id e))
in_cases [] id k (suc j, y, e, h) = cc
in_cases (x ∷ ids) id k (zero, y, e, h) = inl (0, y, e, h)
in_cases (x ∷ ids) id k (suc j, y, e, h) = up (in_cases ids id k (j, y, e, h))
  where
    up : IsIn ids k ⊎ (k ≡ id.0) → IsIn (x ∷ ids) k ⊎ (k ≡ id.0)
    up (inl (i, z, f, g)) = inl (suc i, z, f, g)
    up (inr f) = inr f

pub none_in : (k : ℕ) → IsIn [] k → ⊥
none_in k (j, y, e, h) = cc

-- ---- marks

marks_here : (marks : List Bool) (k : ℕ) (b : Bool) → Some b ≡ slice_get marks k → IsMarked (set marks k true) k
marks_here [] k b e = cc
marks_here (x ∷ marks) zero b e = refl
marks_here (x ∷ marks) (suc k) b e = marks_here marks k b e

marks_other : (marks : List Bool) (k m : ℕ) → (m ≡ k → ⊥) → slice_get (set marks k true) m ≡ slice_get marks m
marks_other [] k m n = refl
marks_other (x ∷ marks) zero zero n = absurd (n refl)
marks_other (x ∷ marks) zero (suc m) n = refl
marks_other (x ∷ marks) (suc k) zero n = refl
marks_other (x ∷ marks) (suc k) (suc m) n = marks_other marks k m (λ e. n (ap suc e))

fewer_unmarked : (marks : List Bool) (k : ℕ) → Some false ≡ slice_get marks k → suc (unmarked (set marks k true)) ≡ unmarked marks
fewer_unmarked [] k e = cc
fewer_unmarked (true ∷ marks) zero e = cc
fewer_unmarked (false ∷ marks) zero e = refl
fewer_unmarked (true ∷ marks) (suc k) e = fewer_unmarked marks k e
fewer_unmarked (false ∷ marks) (suc k) e = ap suc (fewer_unmarked marks k e)

none_marked : (n k : ℕ) → IsMarked (replicate n false) k → ⊥
none_marked zero k e = cc
none_marked (suc n) zero e = cc
none_marked (suc n) (suc k) e = none_marked n k e

marked_within : (marks : List Bool) (k : ℕ) → IsMarked marks k → k < length marks
marked_within marks k e = slice_get_within marks k true (sym e)

-- A type that is there is marked or not.
marked_or_not : (marks : List Bool) (k : ℕ) → k < length marks → IsMarked marks k ⊎ (Some false ≡ slice_get marks k)
marked_or_not [] k h = absurd (omega (arith, h))
marked_or_not (true ∷ marks) zero h = inl refl
marked_or_not (false ∷ marks) zero h = inr refl
marked_or_not (x ∷ marks) (suc k) h = marked_or_not marks k (omega (arith, h))

-- ---- a type is added

module _ (marks : List Bool) (left : List TypeId) (id : TypeId) (more : List Bool) (list : List TypeId) where
  pub added_long : IsAdded marks left id more list → length more ≡ length marks
  added_long (inl (f, e, g)) = ap length e ∙ length-set marks id.0 true
  added_long (inr (f, e, g)) = ap length e

  pub added_steps : IsAdded marks left id more list → steps_left more list ≡ steps_left marks left
  added_steps (inl (f, e, g)) =
      let a = fewer_unmarked marks id.0 f in
      let b = ap unmarked e in
      let c = ap length g ∙ length_push left id in
      omega (arith, a, b, c)
  added_steps (inr (f, e, g)) =
      let b = ap unmarked e in
      let c = ap length g in
      omega (arith, b, c)

  pub added_kept : (k : ℕ) → IsAdded marks left id more list → IsMarked marks k → IsMarked more k
  added_kept k (inl (f, e, g)) h = go (same_or_not k id.0)
    where
      go : (k ≡ id.0) ⊎ (k ≢ id.0) → IsMarked more k
      go (inl s) = subst (λ n. IsMarked more n) (sym s) (subst (λ l. IsMarked l id.0) (sym e) (marks_here marks id.0 false f))
      go (inr n) = subst (λ l. IsMarked l k) (sym e) (h ∙ sym (marks_other marks id.0 k n))
  added_kept k (inr (f, e, g)) h = subst (λ l. IsMarked l k) (sym e) h

  pub added_there : IsAdded marks left id more list → id.0 < length marks → IsMarked more id.0
  added_there (inl (f, e, g)) l = subst (λ m. IsMarked m id.0) (sym e) (marks_here marks id.0 false f)
  added_there (inr (f, e, g)) l = go (marked_or_not marks id.0 l)
    where
      go : IsMarked marks id.0 ⊎ (Some false ≡ slice_get marks id.0) → IsMarked more id.0
      go (inl h) = subst (λ m. IsMarked m id.0) (sym e) h
      go (inr h) = absurd (f h)

  -- What is marked was marked, or is the type, which is left then.
  added_cases : (k : ℕ) → IsAdded marks left id more list → IsMarked more k → IsMarked marks k ⊎ ((k ≡ id.0) × IsIn list k)
  added_cases k (inl (f, e, g)) h = go (same_or_not k id.0)
    where
      go : (k ≡ id.0) ⊎ (k ≢ id.0) → IsMarked marks k ⊎ ((k ≡ id.0) × IsIn list k)
      go (inl s) = inr (s, subst (λ l. IsIn l k) (sym g) (subst (λ n. IsIn (left ++ id ∷ []) n) (sym s) (last_in left id)))
      go (inr n) = inl (subst (λ l. IsMarked l k) e h ∙ marks_other marks id.0 k n)
  added_cases k (inr (f, e, g)) h = inl (subst (λ l. IsMarked l k) e h)

  added_left : (k : ℕ) → IsAdded marks left id more list → IsIn left k → IsIn list k
  added_left k (inl (f, e, g)) h = subst (λ l. IsIn l k) (sym g) (more_in left id k h)
  added_left k (inr (f, e, g)) h = subst (λ l. IsIn l k) (sym g) h

  left_cases : (k : ℕ) → IsAdded marks left id more list → IsIn list k → IsIn left k ⊎ IsMarked more k
  left_cases k (inl (f, e, g)) h = go (in_cases left id k (subst (λ l. IsIn l k) g h))
    where
      go : IsIn left k ⊎ (k ≡ id.0) → IsIn left k ⊎ IsMarked more k
      go (inl i) = inl i
      go (inr s) = inr (subst (λ n. IsMarked more n) (sym s) (subst (λ l. IsMarked l id.0) (sym e) (marks_here marks id.0 false f)))
  left_cases k (inr (f, e, g)) h = inl (subst (λ l. IsIn l k) g h)

  module _ (types : List «Type») (roots first : List TypeId) (V : ℕ → Type 0) (a : IsAdded marks left id more list) (w : IsWalk types roots first V marks left) where
    pub walk_added : (id.0 < length types → IsReachedFrom types roots id.0) → IsWalk types roots first V more list
    walk_added r = record {
      long = added_long a ∙ w.long;
      begun = λ k i l. added_kept k a (w.begun k i l);
      sound = λ k h. sound k h (added_cases k a h);
      marked = λ k h. marked k (left_cases k a h);
      closed = λ k h. closed k (added_cases k a h);
    }
      where
        sound : (k : ℕ) → IsMarked more k → IsMarked marks k ⊎ ((k ≡ id.0) × IsIn list k) → IsReachedFrom types roots k
        sound k h (inl m) = w.sound k m
        sound k h (inr (s, i)) = subst (IsReachedFrom types roots) (sym s) (r (let l = marked_within more k h in let g = added_long a ∙ w.long in omega (arith, l, g, s)))

        marked : (k : ℕ) → IsIn left k ⊎ IsMarked more k → IsMarked more k
        marked k (inl i) = added_kept k a (w.marked k i)
        marked k (inr m) = m

        kept : (k : ℕ) → IsIn left k ⊎ (V k ⊎ ArePartsMarked types marks k) → IsIn list k ⊎ (V k ⊎ ArePartsMarked types more k)
        kept k (inl i) = inl (added_left k a i)
        kept k (inr (inl v)) = inr (inl v)
        kept k (inr (inr p)) = inr (inr (λ m h l. added_kept m a (p m h l)))

        closed : (k : ℕ) → IsMarked marks k ⊎ ((k ≡ id.0) × IsIn list k) → IsIn list k ⊎ (V k ⊎ ArePartsMarked types more k)
        closed k (inl m) = kept k (w.closed k m)
        closed k (inr (s, i)) = inl i

    pub parts_added : (ty : «Type») (n : ℕ) → AreMarked types marks ty n → AreMarked types more ty n
    parts_added ty n h i part l e m = added_kept part.0 a (h i part l e m)

    pub part_added : (ty : «Type») (n : ℕ) → Some id ≡ part_type ty n → AreMarked types marks ty n → AreMarked types more ty (n + 1)
    part_added ty n f h i part l e m = go (same_or_not i n)
      where
        go : (i ≡ n) ⊎ (i ≢ n) → IsMarked more part.0
        go (inl s) =
            let p : part ≡ id = some_is part id (e ∙ ap (part_type ty) s ∙ sym f) in
            subst (λ (q : TypeId). IsMarked more q.0) (sym p) (added_there a (let q = ap (λ (x : TypeId). x.0) p in let g = w.long in omega (arith, m, q, g)))
        go (inr d) = added_kept part.0 a (h i part (omega (arith, l, d)) e m)

    pub root_added : (all : List TypeId) → all ≡ first ++ id ∷ [] → (id.0 < length types → IsReachedFrom types roots id.0) → IsWalk types roots all V more list
    root_added all e r =
        let u = walk_added r in
        record {
          long = u.long;
          begun = λ k i l. begun k l (in_cases first id k (subst (λ x. IsIn x k) e i));
          sound = u.sound;
          marked = u.marked;
          closed = u.closed;
        }
      where
        begun : (k : ℕ) → k < length types → IsIn first k ⊎ (k ≡ id.0) → IsMarked more k
        begun k l (inl i) = added_kept k a (w.begun k i l)
        begun k l (inr s) = subst (λ n. IsMarked more n) (sym s) (added_there a (let g = w.long in omega (arith, l, s, g)))

-- ---- the parts of a type

pub no_part : (types : List «Type») (marks : List Bool) (ty : «Type») (n : ℕ) → None ≡ part_type ty n → AreMarked types marks ty n → AreMarked types marks ty (n + 1)
no_part types marks ty n f h i part l e m = go (same_or_not i n)
  where
    go : (i ≡ n) ⊎ (i ≢ n) → IsMarked marks part.0
    go (inl s) = let g : Some part ≡ None = e ∙ ap (part_type ty) s ∙ sym f in cc
    go (inr d) = h i part (omega (arith, l, d)) e m

pub part_reached : (types : List «Type») (roots : List TypeId) (k i : ℕ) (ty : «Type») (id : TypeId) → Some ty ≡ slice_get types k → Some id ≡ part_type ty i → IsReachedFrom types roots k → id.0 < length types → IsReachedFrom types roots id.0
unfolding IsMadeOf
part_reached types roots k i ty id e f (l, r, i', n, h) m = (m, r, i', suc n, way n r h)
  where
    way : (n r : ℕ) → IsMadeOf types n r k → IsMadeOf types (suc n) r id.0
    way zero r h = (id.0, subst (λ x. HasPart types x id.0) (sym h) (ty, e, i, id, f, refl), refl)
    way (suc n) r (j, p, h) = (j, p, way n j h)

module _ (types : List «Type») (roots : List TypeId) (c : ℕ) (marks : List Bool) (left : List TypeId) (w : IsWalk types roots roots (λ k. k ≡ c) marks left) where
  visited : ArePartsMarked types marks c → IsWalk types roots roots IsNone marks left
  visited p = record {
    long = w.long;
    begun = w.begun;
    sound = w.sound;
    marked = w.marked;
    closed = λ k h. closed k (w.closed k h);
  }
    where
      closed : (k : ℕ) → IsIn left k ⊎ ((k ≡ c) ⊎ ArePartsMarked types marks k) → IsIn left k ⊎ (⊥ ⊎ ArePartsMarked types marks k)
      closed k (inl i) = inl i
      closed k (inr (inl e)) = inr (inr (subst (ArePartsMarked types marks) (sym e) p))
      closed k (inr (inr q)) = inr (inr q)

  pub all_visited : (ty : «Type») (n : ℕ) → Some ty ≡ slice_get types c → AreMarked types marks ty n → ((i : ℕ) (id : TypeId) → Some id ≡ part_type ty i → (j : ℕ) × (j < n) × (Some id ≡ part_type ty j)) → IsWalk types roots roots IsNone marks left
  all_visited ty n e h count = visited (λ m (u, f, i, id, g, s) l.
      let same : u ≡ ty = some_is u ty (f ∙ sym e) in
      let (j, below, at) = count i id (g ∙ ap (λ t. part_type t i) same) in
      subst (λ x. IsMarked marks x) s (h j id below at (subst (λ x. x < length types) (sym s) l)))

  pub nothing_visited : None ≡ slice_get types c → IsWalk types roots roots IsNone marks left
  nothing_visited e = visited (λ m (u, f, i, id, g, h) l. cc)

-- ---- the roots

pub walk_begins : (types : List «Type») (roots : List TypeId) → IsWalk types roots [] IsNone (replicate (length types) false) []
walk_begins types roots = record {
  long = length-replicate (length types) false;
  begun = λ k i l. absurd (none_in k i);
  sound = λ k h. absurd (none_marked (length types) k h);
  marked = λ k i. absurd (none_in k i);
  closed = λ k h. absurd (none_marked (length types) k h);
}

pub root_reached : (types : List «Type») (roots : List TypeId) (j : ℕ) (id : TypeId) → Some id ≡ slice_get roots j → id.0 < length types → IsReachedFrom types roots id.0
unfolding IsMadeOf
root_reached types roots j id e l = (l, id.0, (j, id, e, refl), 0, refl)

-- ---- a type is taken from those that are left

module _ (types : List «Type») (roots : List TypeId) (marks : List Bool) (left rest : List TypeId) (id : TypeId) (e : left ≡ rest ++ id ∷ []) (w : IsWalk types roots roots IsNone marks left) where
  pub taken_reached : IsReachedFrom types roots id.0
  taken_reached = w.sound id.0 (w.marked id.0 (subst (λ l. IsIn l id.0) (sym e) (last_in rest id)))

  pub taken : IsWalk types roots roots (λ k. k ≡ id.0) marks rest
  taken = record {
    long = w.long;
    begun = w.begun;
    sound = w.sound;
    marked = λ k i. w.marked k (subst (λ l. IsIn l k) (sym e) (more_in rest id k i));
    closed = λ k h. closed k (w.closed k h);
  }
    where
      closed : (k : ℕ) → IsIn left k ⊎ (⊥ ⊎ ArePartsMarked types marks k) → IsIn rest k ⊎ ((k ≡ id.0) ⊎ ArePartsMarked types marks k)
      closed k (inl i) = go (in_cases rest id k (subst (λ l. IsIn l k) e i))
        where
          go : IsIn rest k ⊎ (k ≡ id.0) → IsIn rest k ⊎ ((k ≡ id.0) ⊎ ArePartsMarked types marks k)
          go (inl j) = inl j
          go (inr s) = inr (inl s)
      closed k (inr (inl h)) = absurd h
      closed k (inr (inr p)) = inr (inr p)

-- ---- nothing is left

leads_within : (types : List «Type») (n k m : ℕ) → IsMadeOf types n k m → m < length types → k < length types
unfolding IsMadeOf
leads_within types zero k m h l = subst (λ x. x < length types) (sym h) l
leads_within types (suc n) k m (j, (ty, e, i, id, f, p), h) l = slice_get_within types k ty (sym e)

module _ (types : List «Type») (roots : List TypeId) (marks : List Bool) (w : IsWalk types roots roots IsNone marks []) where
  parts_marked : (k : ℕ) → IsMarked marks k → ArePartsMarked types marks k
  parts_marked k h = go (w.closed k h)
    where
      go : IsIn [] k ⊎ (⊥ ⊎ ArePartsMarked types marks k) → ArePartsMarked types marks k
      go (inl i) = absurd (none_in k i)
      go (inr (inl e)) = absurd e
      go (inr (inr p)) = p

  led_marked : (n k m : ℕ) → IsMadeOf types n k m → m < length types → IsMarked marks k → IsMarked marks m
  unfolding IsMadeOf
  led_marked zero k m h l s = subst (λ x. IsMarked marks x) h s
  led_marked (suc n) k m (j, p, h) l s = led_marked n j m h l (parts_marked k s j p (leads_within types n j m h l))

  pub walk_ends : AreReachedFrom types roots marks
  walk_ends = (w.long, each)
    where
      each : (k : ℕ) (b : Bool) → Some b ≡ slice_get marks k → IsWhether b (IsReachedFrom types roots k)
      each k true e = w.sound k e
      each k false e = λ (l, r, i, n, h). let s : IsMarked marks k = led_marked n r k h l (w.begun r i (leads_within types n r k h l)) in cc
