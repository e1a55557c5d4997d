-- A value that is refused has no JSON, and JSON that is written isn't nested deeper than allowed.
use Rattle.std.proofs.Common.{ℤ, ◌≡◌, ◌⊎◌, ◌≤◌, ◌<◌, ◌+◌, ◌-◌, ◌++◌, ◌∙◌, ℕ, zero, suc, List, [], ◌∷◌, Bool, false, Option, Some, None, Result, Ok, Err, length, length-append, inl, inr, refl, sym, ap, subst, arith}
use Rattle.std.specs.Prelude.{◌≢◌, slice_get, IfErr, IfOk, IsErrAnd, MatchOption, OnErr, OnOk}
use Rattle.std.specs.Cow.{cow_slice_items}
use Rattle.std.specs.String.{string_bytes}
use Rattle.std.proofs.lemmas.List.{length-replicate}
use Rattle.json.specs.Token.{Token}
use Rattle.json.specs.Json.{Json, Items, Members}
use Rattle.json.specs.Tree.{depth, items_depth, members_depth}
use Rattle.rasn_types.specs.BitString.{zeros}
use Rattle.rasn_types.specs.CowBits.{cow_bits}
use Rattle.rasn_types.specs.declared.types.constraints.Constraints.{Constraints}
use Rattle.rasn_schema.specs.declared.type_id.TypeId.{TypeId}
use Rattle.rasn_schema.specs.declared.types.LeafKind.{LeafKind}
use Rattle.rasn_schema.specs.declared.types.LeafKind.TheVariants.{NamedBits, OctetString, FixedOctetString, Real}
use Rattle.rasn_schema.specs.declared.types.NamedNumber.{NamedNumber}
use Rattle.rasn_schema.specs.declared.types.Alternative.{Alternative}
use Rattle.rasn_schema.specs.declared.types.Component.{Component}
use Rattle.rasn_schema.specs.declared.types.«Type».{«Type»}
use Rattle.rasn_schema.specs.declared.types.«Type».TheVariants.{Leaf, Enumerated, Any, Tagged, Choice, Sequence, Set, SequenceOf, SetOf, Unknown}
use Rattle.rasn_schema.specs.declared.value.Value.{Value, Boolean, Null, Integer, Bits, Octets, Text, Units, Arcs, Instant, Day, Items', Elements', Chosen', items-the_row-Value}
use Rattle.rasn_schema.specs.Fitting.{AreItems, AreElements, IsChosen, IsListOf, IsSetOf, FitsLeaf}
use Rattle.rasn_schema.proofs.Lists.{some_is}
use Rattle.rasn_json.specs.Decimal.{IsLong}
use Rattle.rasn_json.specs.declared.error.JsonError.{JsonError}
use Rattle.rasn_json.specs.declared.error.JsonErrorKind.TheVariants.{LongNumber, NoJson, NoType, Unfit}
use Rattle.rasn_json.specs.declared.error.JsonStep.{JsonStep}
use Rattle.rasn_json.specs.declared.error.JsonStep.TheVariants.{Element}
use Rattle.rasn_json.specs.Json.{BitsJson, IntegerJson, IsExtensible, IsFilled, IsUnnamed, NumberJson, IsSize, LeafJson, OctetsJson, OpenJson, MembersJson, ItemsJson, ObjectJson, ArrayJson, ChosenJson, EnumeratedJson, Appends, IsCounted, JsonBy, JsonFound, JsonAt, JsonWithin, AppendsComponent, one_size, unknown_in}
use Rattle.rasn_json.proofs.RealTexts.{real_deep, real_flat}
use Rattle.rasn_json.specs.Refusals.{IsMemory, OrMemory, HasNone, IsOfItself, IsOfElement, IsOfMember, IsOfPart, IsAlternative, IsRefusedAlternative, AreRefusedBits, IsRefusedForm, IsRefusedLeaf, IsRefusedOpen, IsRefusedReal, HasOpen, IsRefusedChoice, IsRefusedList, IsRefusedSet, IsRefusedComponent, AreRefusedComponents, AreRefusedElements, IsRefusedNested, IsRefusedInside, IsRefusedBy, IsRefusedFound, HasJsonWithin, IsRefusedAt}

-- ---- errors of parts

-- The error of a part, from which that of the value is made.
pub part_fails : (S : JsonStep → Type 0) (P : JsonError → Type 0) (d e : JsonError) → OrMemory P d
    → OrMemory (IsOfPart S (λ x. x ≡ d)) e → OrMemory (IsOfPart S P) e
part_fails S P d e h (inl m) = inl m
part_fails S P d e (inl m) (inr (x, step, s, is, k, t)) = inl (k ∙ (ap (λ (z : JsonError). z.kind) is ∙ m))
part_fails S P d e (inr h) (inr (x, step, s, is, k, t)) = inr (x, step, s, subst P (sym is) h, k, t)

-- The step is one of which less is said.
pub part_is : (S T : JsonStep → Type 0) (P : JsonError → Type 0) (e : JsonError) → ((step : JsonStep) → S step → T step)
    → OrMemory (IsOfPart S P) e → OrMemory (IsOfPart T P) e
part_is S T P e f (inl m) = inl m
part_is S T P e f (inr (d, step, s, h, k, t)) = inr (d, step, f step s, h, k, t)

-- What holds of the error that `?` hands on.
pub handed_on : {T : Type 0} (P : JsonError → Type 0) (e : JsonError) (r : Result T JsonError) → IsErrAnd r (λ y. y ≡ e)
    → P e → IfErr r P
handed_on P e (Ok v) h x = tt
handed_on P e (Err y) h x = subst P (sym h) x

-- What holds of a result's error unless memory ran out.
pub fails_as : {A : Type 0} (P Q : JsonError → Type 0) (r : Result A JsonError) → ((e : JsonError) → P e → Q e)
    → IfErr r (OrMemory P) → IfErr r (OrMemory Q)
fails_as P Q (Ok v) f h = tt
fails_as P Q (Err e) f (inl m) = inl m
fails_as P Q (Err e) f (inr x) = inr (f e x)

-- What holds of an error that is kept.
pub on_err : {A E : Type 0} (P : Type 0) (r : Result A E) → P → OnErr r P
on_err P (Ok v) h = tt
on_err P (Err x) h = h

pub kept_as : {A E : Type 0} (P Q : JsonError → Type 0) (r : Result A E) (e : JsonError) → (P e → Q e)
    → OnErr r (OrMemory P e) → OnErr r (OrMemory Q e)
kept_as P Q (Ok v) e f h = tt
kept_as P Q (Err x) e f (inl m) = inl m
kept_as P Q (Err x) e f (inr h) = inr (f h)

pub fails_by_memory : {A : Type 0} (P : JsonError → Type 0) (r : Result A JsonError) → IfErr r IsMemory
    → IfErr r (OrMemory P)
fails_by_memory P (Ok v) h = tt
fails_by_memory P (Err e) m = inl m

-- A value has no text.
pub no_text_fails : {S E : Type 0} (Q : List ℕ → Type 0) (P : S → Type 0) (text : Result (Option S) E) (J : Json → Type 0) (e : JsonError) → ((j : Json) → J j → (s : List ℕ) × Q s)
    → IfOk text (λ o. MatchOption o ((s : List ℕ) → Q s → ⊥) P)
    → OrMemory (λ x. (text ≡ Ok None) × IsOfItself NoJson x) e → OrMemory (HasNone NoJson J) e
no_text_fails Q P text J e f h (inl m) = inl m
no_text_fails Q P text J e f h (inr (is, x)) =
    let none = subst (λ r. IfOk r (λ o. MatchOption o ((s : List ℕ) → Q s → ⊥) P)) is h in
    inr (λ j k. let t = f j k in none t.0 t.1, x)

-- A number has too many octets.
pub long_fails : {S E : Type 0} (P : S → Type 0) (text : Result (Option S) E) (z : ℤ) (e : JsonError) → IfOk text (λ o. MatchOption o (IsLong z) P) → OrMemory (λ x. (text ≡ Ok None) × IsOfItself LongNumber x) e
    → OrMemory (HasNone LongNumber (NumberJson z)) e
long_fails P text z e h (inl m) = inl m
long_fails P text z e h (inr (is, x)) =
    let long = subst (λ r. IfOk r (λ o. MatchOption o (IsLong z) P)) is h in
    inr (λ j k. k.0 long, x)

-- A number without a name of its own has no other JSON.
pub no_number : (kind : LeafKind) (names : List NamedNumber) (z : ℤ) (e : JsonError) → (IsExtensible kind names → IsUnnamed names z) → HasNone LongNumber (NumberJson z) e → HasNone LongNumber (IntegerJson kind names z) e
no_number kind names z e none (n, x) = (λ j k. go j k, x)
  where
    go : (j : Json) → IntegerJson kind names z j → ⊥
    go j (inl (is, (i, m, at, named, s))) = none is i m at named
    go j (inr (u, k)) = n j k

-- ---- how deep JSON is nested

module _ (d : ℕ) (j : Json) where
  bits_depth : (kind : LeafKind) (size : Option ℕ) (bs : List Bool) → BitsJson kind size bs j → (size ≡ None → 0 < d)
      → depth j ≤ d
  bits_depth kind (Some n) bs (all, f, (o, p, (a, is))) h = let k = ap depth is in omega (arith, k)
  bits_depth kind None bs (w, (x, (o, p, (a, is)), e)) h =
      let k = ap depth e in
      let l = ap depth is in
      let some = h refl in
      omega (arith, k, l, some)

  integer_depth : (kind : LeafKind) (names : List NamedNumber) (n : _) → IntegerJson kind names n j → depth j ≤ d
  integer_depth kind names n (inl (x, (i, m, at, named, is))) = let k = ap depth is in omega (arith, k)
  integer_depth kind names n (inr (x, (few, (s, is, h, w)))) = let k = ap depth is in omega (arith, k)

  octets_depth : (kind : LeafKind) (c : Constraints) (o : _) → OctetsJson kind (cow_slice_items o) j → (IsCounted kind c (Octets o) → 0 < d) → depth j ≤ d
  octets_depth OctetString c o (a, is) h = let k = ap depth is in omega (arith, k)
  octets_depth (FixedOctetString n) c o (a, is) h = let k = ap depth is in omega (arith, k)
  octets_depth Real c o x h = real_flat (cow_slice_items o) j d x h
  octets_depth kind c o is h = let k = ap depth is in omega (arith, k)

  pub leaf_depth : (kind : LeafKind) (c : Constraints) (names : List NamedNumber) (v : Value)
      → LeafJson kind c names v j → (IsCounted kind c v → 0 < d) → depth j ≤ d
  leaf_depth kind c names (Boolean b) is h = let k = ap depth is in omega (arith, k)
  leaf_depth kind c names Null is h = let k = ap depth is in omega (arith, k)
  leaf_depth kind c names (Integer n) x h = integer_depth kind names n x
  leaf_depth kind c names (Bits b) x h = bits_depth kind (one_size c) (cow_bits b) x h
  leaf_depth kind c names (Octets o) x h = octets_depth kind c o x h
  leaf_depth kind c names (Text s) is h = let k = ap depth is in omega (arith, k)
  leaf_depth kind c names (Units u) (s, is, x) h = let k = ap depth is in omega (arith, k)
  leaf_depth kind c names (Arcs a) (s, is, x) h = let k = ap depth is in omega (arith, k)
  leaf_depth kind c names (Instant t) (s, is, x) h = let k = ap depth is in omega (arith, k)
  leaf_depth kind c names (Day t) (s, is, x) h = let k = ap depth is in omega (arith, k)
  leaf_depth kind c names v x h = absurd x

  pub open_depth : (v : Value) → OpenJson v j → depth j ≤ d
  open_depth (Octets o) (a, is) = let k = ap depth is in omega (arith, k)
  open_depth v x = absurd x

  pub enumerated_depth : (names : List NamedNumber) (v : Value) → EnumeratedJson names v j → depth j ≤ d
  enumerated_depth names (Integer n) (i, m, at, named, is) = let k = ap depth is in omega (arith, k)
  enumerated_depth names v x = absurd x

-- What is written of a value that holds no others.
pub leaf_put : {A E : Type 0} (d : ℕ) (kind : LeafKind) (c : Constraints) (names : List NamedNumber) (v : Value) (old new : List Token) (r : Result A E) → OnOk r (FitsLeaf kind v) → OnOk r (Appends (LeafJson kind c names v) old new)
    → OnOk r (IsCounted kind c v → 0 < d)
    → OnOk r (Appends (λ j. (FitsLeaf kind v × LeafJson kind c names v j) × (depth j ≤ d)) old new)
leaf_put d kind c names v old new (Ok x) f (j, s, h) n = (j, s, ((f, h), leaf_depth d j kind c names v h n))
leaf_put d kind c names v old new (Err x) f h n = tt

module _ (u : ℕ → Bool) (g : ℕ → Value → Json → Type 0) (limit : ℕ) where
  members_within : (ps : List Component) (vs : List Value) (ms : Members)
      → MembersJson u (λ k v j. g k v j × (depth j ≤ limit)) ps vs ms
      → MembersJson u g ps vs ms × (members_depth ms ≤ limit)
  members_within [] [] ms e = let k = ap members_depth e in (e, omega (arith, k))
  members_within [] (v ∷ vs) ms h = absurd h
  members_within (p ∷ ps) [] ms h = absurd h
  members_within (p ∷ ps) (v ∷ vs) ms (inl (o, h)) = let r = members_within ps vs ms h in (inl (o, r.0), r.1)
  members_within (p ∷ ps) (v ∷ vs) ms (inr (n, (x, rest, e, (b, le), h))) =
      let r = members_within ps vs rest h in
      let k = ap members_depth e in
      let m = r.1 in
      (inr (n, (x, rest, e, b, r.0)), omega (arith, k, le, m))

  pub object_within : (ps : List Component) (vs : List Value) (j : Json)
      → ObjectJson u (λ k v j. g k v j × (depth j ≤ limit)) ps j vs → ObjectJson u g ps j vs × (depth j ≤ limit + 1)
  object_within ps vs j (ms, e, h) =
      let r = members_within ps vs ms h in let k = ap depth e in let m = r.1 in ((ms, e, r.0), omega (arith, k, m))

  pub chosen_within : (ks : List Alternative) (j : Json) (v : Value)
      → IsChosen (ChosenJson (λ k v j. g k v j × (depth j ≤ limit)) ks j) v
      → IsChosen (ChosenJson g ks j) v × (depth j ≤ limit + 1)
  chosen_within ks j (Chosen' i _ w) (a, x, at, e, (b, le)) =
      let k = ap depth e in ((a, x, at, e, b), omega (arith, k, le))
  chosen_within ks j v h = absurd h

module _ (P : Value → Json → Type 0) (limit : ℕ) where
  items_within : (vs : List Value) (js : Items) → ItemsJson (λ v j. P v j × (depth j ≤ limit)) vs js
      → ItemsJson P vs js × (items_depth js ≤ limit)
  items_within [] js e = let k = ap items_depth e in (e, omega (arith, k))
  items_within (v ∷ vs) js (x, rest, e, (b, le), h) =
      let r = items_within vs rest h in
      let k = ap items_depth e in
      let m = r.1 in
      ((x, rest, e, b, r.0), omega (arith, k, le, m))

  pub array_within : (vs : List Value) (j : Json) → ArrayJson (λ v j. P v j × (depth j ≤ limit)) j vs
      → ArrayJson P j vs × (depth j ≤ limit + 1)
  array_within vs j (js, e, h) =
      let r = items_within vs js h in let k = ap depth e in let m = r.1 in ((js, e, r.0), omega (arith, k, m))

open_items : (limit : ℕ) (vs : List Value) (js : Items) → ItemsJson OpenJson vs js → items_depth js ≤ limit
open_items limit [] js e = let k = ap items_depth e in omega (arith, k)
open_items limit (v ∷ vs) js (x, rest, e, b, h) =
    let r = open_items limit vs rest h in
    let o = open_depth limit x v b in
    let k = ap items_depth e in
    omega (arith, k, r, o)

pub unknown_depth : (limit : ℕ) (vs : List Value) (j : Json) → ArrayJson OpenJson j vs → depth j ≤ limit + 1
unknown_depth limit vs j (js, e, h) = let r = open_items limit vs js h in let k = ap depth e in omega (arith, k, r)

-- ---- lists

pub are_items : (P : List Value → Type 0) (v : Value) (vs : List Value) → IsListOf vs v → P vs → AreItems P v
are_items P (Items' _ row) vs e h = subst P (sym e) h
are_items P v vs e h = absurd e

pub are_elements : (P : List Value → Type 0) (v : Value) (vs : List Value) → IsSetOf vs v → P vs → AreElements P v
are_elements P (Elements' _ row) vs e h = subst P (sym e) h
are_elements P v vs e h = absurd e

both_items : (P Q : List Value → Type 0) (v : Value) → AreItems P v → AreItems Q v → (vs : List Value) × P vs × Q vs
both_items P Q (Items' _ row) a b = (items-the_row-Value _ row, a, b)
both_items P Q v a b = absurd a

both_elements : (P Q : List Value → Type 0) (v : Value) → AreElements P v → AreElements Q v
    → (vs : List Value) × P vs × Q vs
both_elements P Q (Elements' _ row) a b = (items-the_row-Value _ row, a, b)
both_elements P Q v a b = absurd a

any_items : (P : List Value → Type 0) (v : Value) → AreItems P v → AreItems (λ us. Unit {0}) v
any_items P (Items' _ row) a = tt
any_items P v a = absurd a

any_elements : (P : List Value → Type 0) (v : Value) → AreElements P v → AreElements (λ us. Unit {0}) v
any_elements P (Elements' _ row) a = tt
any_elements P v a = absurd a

-- ---- a value that is refused has no JSON

named_size : (n k : ℕ) (bs all : List Bool) → all ≡ bs ++ zeros k → length all ≡ n → IsSize NamedBits n (length bs)
named_size n zero bs all e l = inl (omega (arith, ap length e, length-append bs (zeros 0), length-replicate 0 false, l))
named_size n (suc k) bs all e l =
    inr (refl, omega (arith, ap length e, length-append bs (zeros (suc k)), length-replicate (suc k) false, l))

size_filled : (kind : LeafKind) (n : ℕ) (bs all : List Bool) → IsFilled kind n bs all → IsSize kind n (length bs)
size_filled NamedBits n bs all (k, e, l) = named_size n k bs all e l
size_filled kind n bs all f = inl (sym (ap length f.0) ∙ f.1)

module _ (d : ℕ) (kind : LeafKind) (c : Constraints) (names : List NamedNumber) (e : JsonError) (j : Json) where
  none_bits : (size : Option ℕ) (bs : List Bool) → AreRefusedBits d kind c size bs e → BitsJson kind size bs j
      → depth j ≤ d → ⊥
  none_bits (Some n) bs (wrong, i) (all, f, x) le = wrong (size_filled kind n bs all f)
  none_bits None bs (z, i) (w, (x, y, is)) le = let k = ap depth is in omega (arith, k, le, z)

  none_octets : (kind : LeafKind) (o : List ℕ) → IsRefusedReal kind d o e → OctetsJson kind o j → depth j ≤ d → ⊥
  none_octets Real o (t, z, i) x le = let k = real_deep o j x t in omega (arith, k, le, z)
  none_octets kind o x y le = x

  none_form : (v : Value) → IsRefusedForm d kind c names v e → LeafJson kind c names v j → depth j ≤ d → ⊥
  none_form (Integer n) x h le = x.0 j h
  none_form (Bits b) x h le = none_bits (one_size c) (cow_bits b) x h le
  none_form (Units u) x h le = x.0 j h
  none_form (Octets o) x h le = none_octets kind (cow_slice_items o) x h le
  none_form (Arcs a) x h le = x.0 j h
  none_form (Instant t) x h le = x.0 j h
  none_form (Day t) x h le = x.0 j h
  none_form v x h le = absurd x

  none_leaf : (v : Value) → IsRefusedLeaf d kind c names v e → FitsLeaf kind v → LeafJson kind c names v j → depth j ≤ d → ⊥
  none_leaf v (inl (n, i)) f h le = n f
  none_leaf v (inr (f, x)) g h le = none_form v x h le

module _ (P : Value → Json → Type 0) (h : Value → Type 0) (g : Value → JsonError → Type 0) (limit : ℕ) (none : (v : Value) (e : JsonError) (j : Json) → g v e → P v j → depth j ≤ limit → ⊥) where
  none_items : (i : ℕ) (vs : List Value) (e : JsonError) (js : Items) → AreRefusedElements h g i vs e
      → ItemsJson P vs js → items_depth js ≤ limit → ⊥
  none_items i [] e js x b le = x
  none_items i (v ∷ vs) e js (inl (d, step, s, x, k, t)) (y, rest, is, b, r) le =
      let m = ap items_depth is in none v d y x b (omega (arith, m, le))
  none_items i (v ∷ vs) e js (inr (w, x)) (y, rest, is, b, r) le =
      let m = ap items_depth is in none_items (i + 1) vs e rest x r (omega (arith, m, le))

  none_array : (vs : List Value) (e : JsonError) (j : Json) → AreRefusedElements h g 0 vs e → ArrayJson P j vs
      → depth j ≤ limit + 1 → ⊥
  none_array vs e j x (js, is, b) le = let m = ap depth is in none_items 0 vs e js x b (omega (arith, m, le))

array_deep : (P : Value → Json → Type 0) (vs : List Value) (j : Json) → ArrayJson P j vs → 0 < depth j
array_deep P vs j (js, is, b) = let m = ap depth is in omega (arith, m)

object_deep : (u : ℕ → Bool) (g : ℕ → Value → Json → Type 0) (ps : List Component) (vs : List Value) (j : Json)
    → ObjectJson u g ps j vs → 0 < depth j
object_deep u g ps vs j (ms, is, b) = let m = ap depth is in omega (arith, m)

module _ (u : ℕ → Bool) (g : ℕ → Value → Json → Type 0) (h : ℕ → Value → Type 0) (r : ℕ → Value → JsonError → Type 0) (limit : ℕ) (none : (k : ℕ) (v : Value) (e : JsonError) (j : Json) → r k v e → g k v j → depth j ≤ limit → ⊥) where
  none_members : (ps : List Component) (vs : List Value) (e : JsonError) (ms : Members)
      → AreRefusedComponents u h r ps vs e → MembersJson u g ps vs ms → members_depth ms ≤ limit → ⊥
  none_members [] [] e ms x b le = x
  none_members [] (v ∷ vs) e ms x b le = b
  none_members (p ∷ ps) [] e ms x b le = b
  none_members (p ∷ ps) (v ∷ vs) e ms (inl (n, x)) (inl (o, b)) le = n o
  none_members (p ∷ ps) (v ∷ vs) e ms (inl (n, (d, step, s, x, k, t))) (inr (m, (y, rest, is, b, c))) le =
      let q = ap members_depth is in none p.type_id.0 v d y x b (omega (arith, q, le))
  none_members (p ∷ ps) (v ∷ vs) e ms (inr (w, x)) (inl (o, b)) le = none_members ps vs e ms x b le
  none_members (p ∷ ps) (v ∷ vs) e ms (inr (w, x)) (inr (m, (y, rest, is, b, c))) le =
      let q = ap members_depth is in none_members ps vs e rest x c (omega (arith, q, le))

  none_object : (ps : List Component) (vs : List Value) (e : JsonError) (j : Json) → AreRefusedComponents u h r ps vs e
      → ObjectJson u g ps j vs → depth j ≤ limit + 1 → ⊥
  none_object ps vs e j x (ms, is, b) le = let q = ap depth is in none_members ps vs e ms x b (omega (arith, q, le))

  none_objects : (ps : List Component) (v : Value) (e : JsonError) (j : Json)
      → IsRefusedList (AreRefusedComponents u h r ps) v e → AreItems (ObjectJson u g ps j) v → depth j ≤ limit + 1 → ⊥
  none_objects ps v e j (inl (n, i)) b le = n (any_items (ObjectJson u g ps j) v b)
  none_objects ps v e j (inr x) b le =
      let p =
      both_items (λ vs. AreRefusedComponents u h r ps vs e) (ObjectJson u g ps j) v x b in none_object ps p.0 e j p.1 p.2 le

  none_chosen : (ks : List Alternative) (v : Value) (e : JsonError) (j : Json) → IsRefusedChoice r ks v e
      → IsChosen (ChosenJson g ks j) v → depth j ≤ limit + 1 → ⊥
  none_chosen ks (Chosen' i _ w) e j (inl (n, x)) (a, y, at, is, b) le = n (a, at)
  none_chosen ks (Chosen' i _ w) e j (inr (c, here, (d, step, s, x, k, t))) (a, y, at, is, b) le =
      let same : c ≡ a = some_is c a (here ∙ sym at) in
      let q = ap depth is in
      none a.type_id.0 w d y (subst (λ (z : Alternative). r z.type_id.0 w d) same x) b (omega (arith, q, le))
  none_chosen ks v e j x b le = absurd b

  chosen_deep : (ks : List Alternative) (v : Value) (j : Json) → IsChosen (ChosenJson g ks j) v → 0 < depth j
  chosen_deep ks (Chosen' i _ w) j (a, y, at, is, b) = let q = ap depth is in omega (arith, q)
  chosen_deep ks v j b = absurd b

none_lists : (P : Value → Json → Type 0) (h : Value → Type 0) (g : Value → JsonError → Type 0) (limit : ℕ)
    → ((v : Value) (e : JsonError) (j : Json) → g v e → P v j → depth j ≤ limit → ⊥)
    → (v : Value) (e : JsonError) (j : Json) → IsRefusedList (AreRefusedElements h g 0) v e → AreItems (ArrayJson P j) v
    → depth j ≤ limit + 1 → ⊥
none_lists P h g limit none v e j (inl (n, i)) b le = n (any_items (ArrayJson P j) v b)
none_lists P h g limit none v e j (inr x) b le =
    let p =
    both_items (λ vs. AreRefusedElements h g 0 vs e) (ArrayJson P j) v x b in none_array P h g limit none p.0 e j p.1 p.2 le

none_sets : (P : Value → Json → Type 0) (h : Value → Type 0) (g : Value → JsonError → Type 0) (limit : ℕ)
    → ((v : Value) (e : JsonError) (j : Json) → g v e → P v j → depth j ≤ limit → ⊥)
    → (v : Value) (e : JsonError) (j : Json) → IsRefusedSet (AreRefusedElements h g 0) v e
    → AreElements (ArrayJson P j) v → depth j ≤ limit + 1 → ⊥
none_sets P h g limit none v e j (inl (n, i)) b le = n (any_elements (ArrayJson P j) v b)
none_sets P h g limit none v e j (inr x) b le =
    let p =
    both_elements (λ vs. AreRefusedElements h g 0 vs e) (ArrayJson P j) v x b in none_array P h g limit none p.0 e j p.1 p.2 le

items_deep : (P : List Value → Type 0) (j : Json) (v : Value) → ((vs : List Value) → P vs → 0 < depth j) → AreItems P v
    → 0 < depth j
items_deep P j (Items' _ row) f h = f (items-the_row-Value _ row) h
items_deep P j v f h = absurd h

elements_deep : (P : List Value → Type 0) (j : Json) (v : Value) → ((vs : List Value) → P vs → 0 < depth j)
    → AreElements P v → 0 < depth j
elements_deep P j (Elements' _ row) f h = f (items-the_row-Value _ row) h
elements_deep P j v f h = absurd h

module _ (u : ℕ → Bool) (g : ℕ → Value → Json → Type 0) (h : ℕ → ℕ → Value → Type 0) (r : ℕ → ℕ → Value → JsonError → Type 0)
    (none : (limit k : ℕ) (v : Value) (e : JsonError) (j : Json) → r limit k v e → g k v j → depth j ≤ limit → ⊥) (limit : ℕ) (v : Value) (e : JsonError) (j : Json) where
  none_nested : (ty : «Type») → IsRefusedNested u h r limit ty v e → 0 < depth j
      → (IsRefusedInside u (h (limit - 1)) (r (limit - 1)) ty v e → depth j ≤ limit - 1 + 1 → ⊥) → depth j ≤ limit → ⊥
  none_nested ty (inl (z, i)) deep inside le = omega (arith, z, deep, le)
  none_nested ty (inr (some, x)) deep inside le = inside x (omega (arith, some, le))

  none_by : (ty : «Type») → IsRefusedBy u h r limit ty v e → JsonBy u g ty v j → depth j ≤ limit → ⊥
  none_by (Leaf kind tag c names) x b le = none_leaf limit kind c names.items e j v x b.0 b.1 le
  none_by (Enumerated tag ns) x b le = x.0 j b
  none_by (Any tag) x b le = x.0 j b
  none_by (Tagged tag k) x b le = none limit k.0 v e j x b le
  none_by (Choice name ks) x b le =
      none_nested (Choice name ks) x (chosen_deep u g (h 0) (r limit) limit (none limit) ks.items v j b) (λ y. none_chosen u g (h (limit - 1)) (r (limit - 1)) (limit - 1) (none (limit - 1)) ks.items v e j y b) le
  none_by (Sequence tag ps) x b le =
      none_nested (Sequence tag ps) x (items_deep _ j v (λ vs. object_deep u g ps.items vs j) b) (λ y. none_objects u g (h (limit - 1)) (r (limit - 1)) (limit - 1) (none (limit - 1)) ps.items v e j y b) le
  none_by (Set name tag ps) x b le =
      none_nested (Set name tag ps) x (items_deep _ j v (λ vs. object_deep u g ps.items vs j) b) (λ y. none_objects u g (h (limit - 1)) (r (limit - 1)) (limit - 1) (none (limit - 1)) ps.items v e j y b) le
  none_by (SequenceOf tag k c) x b le =
      none_nested (SequenceOf tag k c) x (items_deep _ j v (λ vs. array_deep (g k.0) vs j) b) (λ y. none_lists (g k.0) (h (limit - 1) k.0) (r (limit - 1) k.0) (limit - 1) (none (limit - 1) k.0) v e j y b) le
  none_by (SetOf tag k c) x b le =
      none_nested (SetOf tag k c) x (elements_deep _ j v (λ vs. array_deep (g k.0) vs j) b) (λ y. none_sets (g k.0) (h (limit - 1) k.0) (r (limit - 1) k.0) (limit - 1) (none (limit - 1) k.0) v e j y b) le
  none_by Unknown x b le =
      none_nested Unknown x (items_deep _ j v (λ vs. array_deep OpenJson vs j) b) (λ y. none_lists OpenJson HasOpen IsRefusedOpen (limit - 1) (λ w d i p q s. p.0 i q) v e j y b) le

  none_found : (k : ℕ) (o : Option «Type») → IsRefusedFound u h r limit k o v e → JsonFound u g o v j → depth j ≤ limit
      → ⊥
  none_found k None x b le = b
  none_found k (Some ty) x b le = none_by ty x b le

pub none_at : (types : List «Type») (levels limit k : ℕ) (v : Value) (e : JsonError) (j : Json)
    → IsRefusedAt types levels limit k v e → JsonAt types levels k v j → depth j ≤ limit → ⊥
unfolding IsRefusedAt JsonAt
none_at types zero limit k v e j x b le = b
none_at types (suc levels) limit k v e j x b le =
    none_found (unknown_in types) (λ i w y. JsonAt types levels i w y) (λ d i w. HasJsonWithin types levels d i w) (λ d i w z. IsRefusedAt types levels d i w z)
    (λ d i w z y p q s. none_at types levels d i w z y p q s) limit v e j k (slice_get types k) x b le

-- ---- what is refused, one level deeper

pub refused_below : (types : List «Type») (levels below limit k : ℕ) (ty : «Type») (v : Value) (e : JsonError)
    → levels ≡ suc below → Some ty ≡ slice_get types k
    → IsRefusedBy (unknown_in types) (HasJsonWithin types below) (IsRefusedAt types below) limit ty v e
    → IsRefusedAt types levels limit k v e
unfolding IsRefusedAt
refused_below types zero below limit k ty v e n at x = absurd (omega (arith, n))
refused_below types (suc m) below limit k ty v e n at x =
    let s : m ≡ below = omega (arith, n) in
    subst (λ o. IsRefusedFound (unknown_in types) (λ d i w. HasJsonWithin types m d i w) (λ d i w z. IsRefusedAt types m d i w z) limit k o v e) at
    (subst (λ b. IsRefusedBy (unknown_in types) (λ d i w. HasJsonWithin types b d i w) (λ d i w z. IsRefusedAt types b d i w z) limit ty v e) (sym s) x)

pub no_level : (types : List «Type») (levels limit k : ℕ) (v : Value) (e : JsonError) → levels ≡ 0 → IsOfItself Unfit e
    → IsRefusedAt types levels limit k v e
unfolding IsRefusedAt
no_level types zero limit k v e z x = x
no_level types (suc m) limit k v e z x = absurd (omega (arith, z))

pub no_type : (types : List «Type») (levels limit k : ℕ) (id : TypeId) (v : Value) (e : JsonError) → 0 < levels
    → None ≡ slice_get types k → id.0 ≡ k → IsOfItself (NoType id) e → IsRefusedAt types levels limit k v e
unfolding IsRefusedAt
no_type types zero limit k id v e z at is x = absurd (omega (arith, z))
no_type types (suc m) limit k id v e z at is x =
    subst (λ o. IsRefusedFound (unknown_in types) (λ d i w. HasJsonWithin types m d i w) (λ d i w y. IsRefusedAt types m d i w y) limit k o v e) at (id, is, x)

-- An array or an object that is refused.
pub refused_nested : (u : ℕ → Bool) (h : ℕ → ℕ → Value → Type 0) (r : ℕ → ℕ → Value → JsonError → Type 0) (limit : ℕ) (ty : «Type») (v : Value) (e : JsonError)
    → ((kind : _) (tag : _) (c : _) (names : _) → ty ≢ Leaf kind tag c names)
    → ((tag : _) (ns : _) → ty ≢ Enumerated tag ns) → ((tag : _) → ty ≢ Any tag)
    → ((tag : _) (k : _) → ty ≢ Tagged tag k)
    → IsRefusedNested u h r limit ty v e → IsRefusedBy u h r limit ty v e
refused_nested u h r limit (Leaf kind tag c names) v e a b c' d x = absurd (a kind tag c names refl)
refused_nested u h r limit (Enumerated tag ns) v e a b c d x = absurd (b tag ns refl)
refused_nested u h r limit (Any tag) v e a b c d x = absurd (c tag refl)
refused_nested u h r limit (Tagged tag k) v e a b c d x = absurd (d tag k refl)
refused_nested u h r limit ty v e a b c d x = x

-- The member of the alternative that is chosen is refused.
pub chosen_refused : (g : ℕ → Value → JsonError → Type 0) (ks : List Alternative) (i : ℕ) (w x : Value) (a : Alternative) (name : List ℕ) (e : JsonError) → Some a ≡ slice_get ks i → name ≡ string_bytes a.name → x ≡ w
    → OrMemory (IsOfMember name (g a.type_id.0 x)) e
    → OrMemory (λ d. ((IsAlternative ks i w → ⊥) × IsOfItself Unfit d) ⊎ IsRefusedAlternative g ks d i w) e
chosen_refused g ks i w x a name e at n same (inl m) = inl m
chosen_refused g ks i w x a name e at n same (inr h) =
    inr (inr (a, at, subst (λ s. IsOfMember s (g a.type_id.0 w) e) n (subst (λ y. IsOfMember name (g a.type_id.0 y) e) same h)))

-- ---- components and elements, one after the other

-- What is wrong with those that are left is what is wrong with all.
abbrev pub ComponentsSoFar : (ℕ → Bool) → (ℕ → Value → Type 0) → (ℕ → Value → JsonError → Type 0) → List Component
    → List Component → List Value → List Value → Type 0
ComponentsSoFar u h r all rest vs left =
    (e : JsonError) → AreRefusedComponents u h r rest left e → AreRefusedComponents u h r all vs e

module _ (u : ℕ → Bool) (g : ℕ → Value → Json → Type 0) (h : ℕ → Value → Type 0) (r : ℕ → Value → JsonError → Type 0) (all rest : List Component) (vs left : List Value) (k : ComponentsSoFar u h r all rest vs left) where
  refused_rest : (ps : List Component) (ws : List Value) → rest ≡ ps → left ≡ ws → ComponentsSoFar u h r all ps vs ws
  refused_rest ps ws a b e x =
      k e (subst (λ l. AreRefusedComponents u h r l left e) (sym a) (subst (λ l. AreRefusedComponents u h r ps l e) (sym b) x))

  pub component_written : (after : List Component) (others : List Value) (p : Component) (v : Value) (old new : _)
      → rest ≡ p ∷ after → left ≡ v ∷ others
      → ((k : ℕ) (w : Value) → ((j : Json) × g k w j) → h k w) → AppendsComponent u g p v old new
      → ComponentsSoFar u h r all after vs others
  component_written after others p v old new a b f (inl (o, s)) e x =
      refused_rest (p ∷ after) (v ∷ others) a b e (inr (inl o, x))
  component_written after others p v old new a b f (inr (n, (j, s, i))) e x =
      refused_rest (p ∷ after) (v ∷ others) a b e (inr (inr (f p.type_id.0 v (j, i)), x))

  pub component_refused : (after : List Component) (others : List Value) (p : Component) (v : Value) (e : JsonError)
      → rest ≡ p ∷ after → left ≡ v ∷ others → OrMemory (IsRefusedComponent u r p v) e
      → OrMemory (AreRefusedComponents u h r all vs) e
  component_refused after others p v e a b (inl m) = inl m
  component_refused after others p v e a b (inr x) = inr (refused_rest (p ∷ after) (v ∷ others) a b e (inl x))

  pub value_missing : (after : List Component) (p : Component) (e : JsonError) → rest ≡ p ∷ after → left ≡ []
      → IsOfItself Unfit e → OrMemory (AreRefusedComponents u h r all vs) e
  value_missing after p e a b x = inr (refused_rest (p ∷ after) [] a b e x)

  pub value_left : (e : JsonError) → rest ≡ [] → 0 < length left → IsOfItself Unfit e
      → OrMemory (AreRefusedComponents u h r all vs) e
  value_left e a some x = go left refl some
    where
      go : (l : List Value) → left ≡ l → 0 < length l → OrMemory (AreRefusedComponents u h r all vs) e
      go [] b n = absurd (omega (arith, n))
      go (v ∷ l) b n = inr (refused_rest [] (v ∷ l) a b e x)

abbrev pub ElementsSoFar : (Value → Type 0) → (Value → JsonError → Type 0) → ℕ → List Value → List Value → Type 0
ElementsSoFar h r i all left = (e : JsonError) → AreRefusedElements h r i left e → AreRefusedElements h r 0 all e

module _ (h : Value → Type 0) (r : Value → JsonError → Type 0) (i : ℕ) (all left others : List Value) (v : Value) (k : ElementsSoFar h r i all left) (at : left ≡ v ∷ others) where
  pub element_written : h v → ElementsSoFar h r (i + 1) all others
  element_written w e x = k e (subst (λ l. AreRefusedElements h r i l e) (sym at) (inr (w, x)))

  pub element_refused : (d e : JsonError) → OrMemory (r v) d → OrMemory (IsOfElement i (λ x. x ≡ d)) e
      → OrMemory (AreRefusedElements h r 0 all) e
  element_refused d e w x = go (part_fails (λ step. step ≡ Element i) (r v) d e w x)
    where
      go : OrMemory (IsOfElement i (r v)) e → OrMemory (AreRefusedElements h r 0 all) e
      go (inl m) = inl m
      go (inr y) = inr (k e (subst (λ l. AreRefusedElements h r i l e) (sym at) (inl y)))

-- What is refused has no JSON.
pub refused_json : (types : List «Type») (levels limit k : ℕ) (v : Value) (e : JsonError)
    → OrMemory (IsRefusedAt types levels limit k v) e
    → OrMemory (λ x. ((j : Json) → JsonWithin types levels limit k v j → ⊥) × IsRefusedAt types levels limit k v x) e
refused_json types levels limit k v e (inl m) = inl m
refused_json types levels limit k v e (inr x) = inr (λ j h. none_at types levels limit k v e j x h.0 h.1, x)

-- JSON was written.
pub has_json : (P : Json → Type 0) (old new : List Token) → Appends P old new → (j : Json) × P j
has_json P old new (j, s, h) = (j, h)
