-- Paths by names.
use Rattle.std.proofs.Common.{◌≡◌, ◌≢◌, ◌⊎◌, ℕ, suc, ◌-◌, ◌≤◌, ◌<◌, List, [], ◌∷◌, ◌++◌, length, take, drop, get_or, append_assoc, append-nil, Vec, Global, String, Option, Some, None, Bool, true, false, inl, inr, refl, sym, ap, ◌∙◌, subst, arith}
use Rattle.std.specs.Prelude.{slice_get, option_map, MatchBool, MatchOption}
use Rattle.std.specs.String.{string_bytes}
use Rattle.std.proofs.lemmas.Bool.{cases_order}
use Rattle.rasn_types.specs.declared.types.tag.Tag.{Tag}
use Rattle.rasn_types.specs.declared.types.constraints.Constraints.{Constraints}
use Rattle.rasn_schema.specs.declared.type_id.TypeId.{TypeId}
use Rattle.rasn_schema.specs.declared.types.«Type».{«Type»}
use Rattle.rasn_schema.specs.declared.types.«Type».TheVariants.{Leaf, Enumerated, Any, Tagged, Choice, Sequence, Set, SequenceOf, SetOf, Unknown}
use Rattle.rasn_schema.specs.declared.types.Component.{Component}
use Rattle.rasn_schema.specs.declared.types.Alternative.{Alternative}
use Rattle.rasn_schema.specs.Schemas.{components_in}
use Rattle.rasn_schema.specs.Held.{IsTagged, part_type, part_name}
use Rattle.rasn_schema.proofs.Lists.{split}
use Rattle.rasn_schema.proofs.Parts.{not_none}
use Rattle.rasn_dynamic.specs.declared.steps.Step.{Step}
use Rattle.rasn_dynamic.specs.Steps.{IsFirstName, IsNamedStep, IsIndexedStep, IsStepOf, IsWay, IsNoWay, IsPartWay, IsNoPartWay}

-- ---- the first part with a name

no_name : {X : Type 0} (f : X → List ℕ) (name : List ℕ) (o : Option X) → ((n : X) → Some n ≡ o → f n ≢ name) → Some name ≡ option_map f o → ⊥
no_name f name None h e = cc
no_name f name (Some n) h e = h n refl (let g : name ≡ f n = cc in sym g)

-- What a call returns that looks for the first element with a name.
pub first_named : {X : Type 0} (f : X → List ℕ) (l : List X) (name : List ℕ) (r : Option ℕ)
    → MatchOption r ((j : ℕ) (n : X) → Some n ≡ slice_get l j → f n ≢ name) (λ k. ((n : X) × (Some n ≡ slice_get l k) × (f n ≡ name)) × ((j : ℕ) (n : X) → j < k → Some n ≡ slice_get l j → f n ≢ name))
    → MatchOption r ((k : ℕ) → Some name ≡ option_map f (slice_get l k) → ⊥) (λ k. (Some name ≡ option_map f (slice_get l k)) × ((j : ℕ) → j < k → Some name ≡ option_map f (slice_get l j) → ⊥))
first_named f l name None h = λ k e. no_name f name (slice_get l k) (λ n g. h k n g) e
first_named f l name (Some k) ((n, g, e), first) = (ap Some (sym e) ∙ ap (option_map f) g, λ j m q. no_name f name (slice_get l j) (λ x d. first j x m d) q)

-- What a call returns that finds the first part with a name.
abbrev pub FindsName : «Type» → List ℕ → Option ℕ → Type 0
FindsName ty name r = MatchOption r ((k : ℕ) → Some name ≡ part_name ty k → ⊥) (λ k. IsFirstName ty name k)

abbrev FindsComponent : «Type» → List ℕ → Option ℕ → Type 0
FindsComponent ty name r = MatchOption r ((k : ℕ) → Some name ≡ option_map (λ (c : Component). string_bytes c.name) (slice_get (components_in ty) k) → ⊥)
    (λ k. (Some name ≡ option_map (λ (c : Component). string_bytes c.name) (slice_get (components_in ty) k)) × ((j : ℕ) → j < k → Some name ≡ option_map (λ (c : Component). string_bytes c.name) (slice_get (components_in ty) j) → ⊥))

pub component_named : (ty : «Type») (name : List ℕ) (r : Option ℕ) → ((n : String Global) (ks : Vec Alternative Global) → ty ≡ Choice n ks → ⊥) → FindsComponent ty name r → FindsName ty name r
component_named (Choice n ks) name r a h = absurd (a n ks refl)
component_named ty name r a h = h

pub one_name : (ty : «Type») (name : List ℕ) (i k : ℕ) → IsFirstName ty name i → IsFirstName ty name k → i ≡ k
one_name ty name i k a b = go (cases_order i k)
  where
    go : (i ≡ k) ⊎ ((i < k) ⊎ (k < i)) → i ≡ k
    go (inl h) = h
    go (inr (inl h)) = absurd (b.1 i h a.0)
    go (inr (inr h)) = absurd (a.1 k h b.0)

-- A part without a type isn't one.
pub no_named : (ty : «Type») (name : List ℕ) (i : ℕ) → IsFirstName ty name i → None ≡ part_type ty i → (k : ℕ) (id : TypeId) → IsNamedStep ty name k id → ⊥
no_named ty name i a n k id h = not_none id (part_type ty i) n (subst (λ j. Some id ≡ part_type ty j) (sym (one_name ty name i k a h.0)) h.1)

-- ---- elements

pub no_indexed : (ty : «Type») (index : ℕ) → ((tag : Tag) (element : TypeId) (c : Constraints) → ty ≡ SequenceOf tag element c → ⊥) → ((tag : Tag) (element : TypeId) (c : Constraints) → ty ≡ SetOf tag element c → ⊥)
    → (k : ℕ) (id : TypeId) → IsIndexedStep ty index k id → ⊥
no_indexed (Leaf kind tag c names) index a b k id h = h
no_indexed (Enumerated tag ns) index a b k id h = h
no_indexed (Any tag) index a b k id h = h
no_indexed Unknown index a b k id h = h
no_indexed (Tagged tag inner) index a b k id h = h
no_indexed (Choice n ks) index a b k id h = h
no_indexed (Sequence tag ps) index a b k id h = h
no_indexed (Set n tag ps) index a b k id h = h
no_indexed (SequenceOf tag element c) index a b k id h = a tag element c refl
no_indexed (SetOf tag element c) index a b k id h = b tag element c refl

pub not_tagged : (ty : «Type») → ((tag : Tag) (inner : TypeId) → ty ≡ Tagged tag inner → ⊥) → IsTagged ty → ⊥
not_tagged (Leaf kind tag c names) n h = h
not_tagged (Enumerated tag ns) n h = h
not_tagged (Any tag) n h = h
not_tagged Unknown n h = h
not_tagged (Tagged tag inner) n h = n tag inner refl
not_tagged (Choice name ks) n h = h
not_tagged (Sequence tag ps) n h = h
not_tagged (Set name tag ps) n h = h
not_tagged (SequenceOf tag element c) n h = h
not_tagged (SetOf tag element c) n h = h

pub bool_weaker : (b : Bool) (P Q R S : Type 0) → (P → R) → (Q → S) → MatchBool b P Q → MatchBool b R S
bool_weaker true P Q R S h g w = h w
bool_weaker false P Q R S h g w = g w

pub first_item : {X : Type 0} (l : List X) (d : X) → 1 ≤ length l → l ≡ get_or l 0 d ∷ take (length l - 1) (drop 1 l)
first_item l d h = split l (get_or l 0 d) h (again l d)
  where
    again : {X : Type 0} (l : List X) (d : X) → get_or l 0 d ≡ get_or l 0 (get_or l 0 d)
    again [] d = refl
    again (x ∷ l) d = refl

pub some_left : {X : Type 0} (l : List X) → 1 ≤ length l → l ≢ []
some_left l h e = let n = ap length e in omega (arith, n, h)

module _ (types : List «Type») where
  way_ends : (levels id : ℕ) (steps : List Step) → steps ≡ [] → IsWay types levels id steps []
  unfolding IsWay
  way_ends levels id steps e = e

  pub too_deep : (levels id : ℕ) (steps : List Step) → levels ≡ 0 → steps ≢ [] → IsNoWay types levels id steps
  unfolding IsNoWay
  too_deep levels id steps e n = subst (λ z. IsNoWay types z id steps) (sym e) n

  module _ (levels n id : ℕ) (l : levels ≡ suc n) (steps : List Step) (step : Step) (after : List Step) (e : steps ≡ step ∷ after) where
    pub no_type : None ≡ slice_get types id → IsNoWay types levels id steps
    unfolding IsNoWay
    no_type g = subst (λ z. IsNoWay types z id steps) (sym l) (step, after, e, inl g)

    -- So many more indices after these.
    abbrev Appended : List ℕ → List ℕ → (List ℕ → Type 0) → Type 0
    Appended old new P = (more : List ℕ) × (new ≡ old ++ more) × P more

    module _ (tag : Tag) (inner : TypeId) (g : Some (Tagged tag inner) ≡ slice_get types id) (old mid new : List ℕ) (m : mid ≡ old ++ 0 ∷ []) where
      tag_way : Appended mid new (IsWay types n inner.0 steps) → Appended old new (IsWay types levels id steps)
      unfolding IsWay
      tag_way (more, q, w) = (0 ∷ more, q ∙ ap (λ z. z ++ more) m ∙ append_assoc old (0 ∷ []) more, (n, l, step, after, e, inl (tag, inner, g, refl, w)))

      no_tag_way : IsNoWay types n inner.0 steps → IsNoWay types levels id steps
      unfolding IsNoWay
      no_tag_way w = subst (λ z. IsNoWay types z id steps) (sym l) (step, after, e, inr (inl (tag, inner, g, w)))

      tagged_way : (b : Bool) → MatchBool b (Appended mid new (IsWay types n inner.0 steps)) (IsNoWay types n inner.0 steps) → MatchBool b (Appended old new (IsWay types levels id steps)) (IsNoWay types levels id steps)
      tagged_way b w = bool_weaker b _ _ _ _ tag_way no_tag_way w

    module _ (ty : «Type») (g : Some ty ≡ slice_get types id) (t : IsTagged ty → ⊥) (old new : List ℕ) where
      one_way : Appended old new (IsPartWay types n ty step after) → Appended old new (IsWay types levels id steps)
      unfolding IsWay
      one_way (more, q, (k, next, rest, i, s, w)) = (k ∷ rest, q ∙ ap (λ z. old ++ z) i, (n, l, step, after, e, inr (ty, next, g, t, s, w)))

      no_one_way : IsNoPartWay types n ty step after → IsNoWay types levels id steps
      unfolding IsNoWay
      no_one_way w = subst (λ z. IsNoWay types z id steps) (sym l) (step, after, e, inr (inr (ty, g, t, w)))

      part_way : (b : Bool) → MatchBool b (Appended old new (IsPartWay types n ty step after)) (IsNoPartWay types n ty step after) → MatchBool b (Appended old new (IsWay types levels id steps)) (IsNoWay types levels id steps)
      part_way b w = bool_weaker b _ _ _ _ one_way no_one_way w

  stepped_way : (n : ℕ) (ty : «Type») (step : Step) (after : List Step) (k : ℕ) (next : TypeId) → IsStepOf ty step k next → (old mid new : List ℕ) → mid ≡ old ++ k ∷ [] → (b : Bool)
      → MatchBool b ((more : List ℕ) × (new ≡ mid ++ more) × IsWay types n next.0 after more) (IsNoWay types n next.0 after) → MatchBool b ((more : List ℕ) × (new ≡ old ++ more) × IsPartWay types n ty step after more) (IsNoPartWay types n ty step after)
  stepped_way n ty step after k next s old mid new m b w =
      bool_weaker b _ _ _ _ (λ (more, q, v). (k ∷ more, q ∙ ap (λ z. z ++ more) m ∙ append_assoc old (k ∷ []) more, (k, next, more, refl, s, v))) (λ v. inr (k, next, s, v)) w

-- ---- the loop

-- A way from here, or none, after the path so far is one from the first type.
abbrev pub OnWay : List «Type» → ℕ → ℕ → List Step → List ℕ → ℕ → ℕ → List Step → List ℕ → Type 0
OnWay types levels id steps old left next rest now = (new : List ℕ) (b : Bool)
    → MatchBool b ((more : List ℕ) × (new ≡ now ++ more) × IsWay types left next rest more) (IsNoWay types left next rest)
    → MatchBool b ((more : List ℕ) × (new ≡ old ++ more) × IsWay types levels id steps more) (IsNoWay types levels id steps)

module _ (types : List «Type») (levels id : ℕ) (steps : List Step) (old : List ℕ) (left next : ℕ) (rest : List Step) (now : List ℕ) (on : OnWay types levels id steps old left next rest now) where
  pub way_found : rest ≡ [] → (more : List ℕ) × (now ≡ old ++ more) × IsWay types levels id steps more
  way_found e = on now true ([], sym (append-nil now), way_ends types left next rest e)

  pub no_way_found : (new : List ℕ) → IsNoWay types left next rest → IsNoWay types levels id steps
  no_way_found new n = on new false n

  module _ (n : ℕ) (l : left ≡ suc n) (step : Step) (after : List Step) (e : rest ≡ step ∷ after) where
    pub way_in_tag : (tag : Tag) (inner : TypeId) → Some (Tagged tag inner) ≡ slice_get types next → (mid : List ℕ) → mid ≡ now ++ 0 ∷ [] → OnWay types levels id steps old n inner.0 rest mid
    way_in_tag tag inner g mid m = λ new b w. on new b (tagged_way types left n next l rest step after e tag inner g now mid new m b w)

    module _ (ty : «Type») (g : Some ty ≡ slice_get types next) (t : IsTagged ty → ⊥) where
      pub no_step : ((k : ℕ) (part : TypeId) → IsStepOf ty step k part → ⊥) → IsNoWay types left next rest
      no_step h = part_way types left n next l rest step after e ty g t now now false (inl h)

      pub way_in_part : (k : ℕ) (part : TypeId) → IsStepOf ty step k part → (mid : List ℕ) → mid ≡ now ++ k ∷ [] → OnWay types levels id steps old n part.0 after mid
      way_in_part k part s mid m = λ new b w. on new b (part_way types left n next l rest step after e ty g t now new b (stepped_way types n ty step after k part s now mid new m b w))
