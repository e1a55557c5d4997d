-- What is read of members and items, one after the other.
use Rattle.std.proofs.Common.{◌≡◌, ◌≢◌, ◌<◌, ◌≤◌, ℕ, Bool, true, false, zero, suc, length, get_or, List, [], ◌∷◌, ◌++◌, Some, None, Option, Result, Ok, Err, Vec, Global, refl, sym, ap, ◌∙◌, subst, append_assoc, arith}
use Rattle.std.specs.Prelude.{slice_get, IfOk}
use Rattle.std.specs.String.{string_bytes}
use Rattle.std.proofs.lemmas.List.{append-nil}
use Rattle.json.specs.Json.{Json, Items, object, member, no_members}
use Rattle.json.specs.Find.{get}
use Rattle.json.specs.Value.{value_view, items_view, members_view}
use Rattle.json.specs.declared.value.Value.{Value as JsonValue}
use Rattle.std.specs.Borrow.{Bor}
use Rattle.std.proofs.lemmas.Option.{slice_get_within}
use Rattle.rasn_schema.specs.declared.types.Alternative.{Alternative}
use Rattle.rasn_schema.specs.declared.types.Component.{Component}
use Rattle.rasn_schema.specs.declared.types.«Type».{«Type»}
use Rattle.rasn_schema.specs.declared.types.«Type».TheVariants.{Leaf, Enumerated, Any, Tagged, Choice, Sequence, Set, SequenceOf, SetOf, Unknown}
use Rattle.rasn_schema.specs.Fitting.{Fits, FitsBy, FitsFound}
use Rattle.rasn_schema.specs.Held.{is_unknown_found}
use Rattle.rasn_schema.specs.declared.value.Value.{Value}
use Rattle.rasn_schema.proofs.Lists.{read_at, some_is}
use Rattle.rasn_json.specs.Json.{unknown_in}
use Rattle.rasn_json.specs.Reading.{ChosenRead, ReadAt, ReadBy, ReadFound, ComponentRead, ComponentsRead, ItemsRead}

pub fits_below : (types : List «Type») (levels below k : ℕ) (ty : «Type») (v : Value) → levels ≡ suc below → Some ty ≡ slice_get types k → FitsBy (λ j w. Fits types below j w) ty v → Fits types levels k v
unfolding Fits
fits_below types zero below k ty v n e h = absurd (omega (arith, n))
fits_below types (suc m) below k ty v n e h =
    let s : m ≡ below = omega (arith, n) in subst (λ o. FitsFound (λ j w. Fits types m j w) o v) e (subst (λ b. FitsBy (λ j w. Fits types b j w) ty v) (sym s) h)

pub read_below : (types : List «Type») (levels below k : ℕ) (ty : «Type») (j : Json) (v : Value) → levels ≡ suc below → Some ty ≡ slice_get types k → ReadBy (unknown_in types) (ReadAt types below) ty j v → ReadAt types levels k j v
unfolding ReadAt
read_below types zero below k ty j v n e h = absurd (omega (arith, n))
read_below types (suc m) below k ty j v n e h =
    let s : m ≡ below = omega (arith, n) in
    subst (λ o. ReadFound (unknown_in types) (λ i x w. ReadAt types m i x w) o j v) e (subst (λ b. ReadBy (unknown_in types) (λ i x w. ReadAt types b i x w) ty j v) (sym s) h)

-- ---- unknown values

pub unknown_found : (o : Option «Type») (b : Bool) → b ≡ true → b ≡ is_unknown_found o → Some Unknown ≡ o
unknown_found None b t e = let x : false ≡ true = sym e ∙ t in cc
unknown_found (Some Unknown) b t e = refl
unknown_found (Some (Leaf kind tag c names)) b t e = let x : false ≡ true = sym e ∙ t in cc
unknown_found (Some (Enumerated tag ns)) b t e = let x : false ≡ true = sym e ∙ t in cc
unknown_found (Some (Any tag)) b t e = let x : false ≡ true = sym e ∙ t in cc
unknown_found (Some (Tagged tag k)) b t e = let x : false ≡ true = sym e ∙ t in cc
unknown_found (Some (Choice name ks)) b t e = let x : false ≡ true = sym e ∙ t in cc
unknown_found (Some (Sequence tag ps)) b t e = let x : false ≡ true = sym e ∙ t in cc
unknown_found (Some (Set name tag ps)) b t e = let x : false ≡ true = sym e ∙ t in cc
unknown_found (Some (SequenceOf tag k c)) b t e = let x : false ≡ true = sym e ∙ t in cc
unknown_found (Some (SetOf tag k c)) b t e = let x : false ≡ true = sym e ∙ t in cc

-- ---- components

-- Some components are read, and the rest is left.
abbrev pub ReadSoFar : (ℕ → Bool) → (ℕ → Json → Value → Type 0) → List Component → List Component → Json → List Value → Type 0
ReadSoFar u g all rest j vs = (us : List Value) → ComponentsRead u g rest j us → ComponentsRead u g all j (vs ++ us)

pub read_more : (u : ℕ → Bool) (g : ℕ → Json → Value → Type 0) (all rest after : List Component) (j : Json) (p : Component) (vs ws : List Value) (v : Value) → ReadSoFar u g all rest j vs → rest ≡ p ∷ after → ws ≡ vs ++ v ∷ []
    → ComponentRead u g p (get (string_bytes p.name) j) v → ReadSoFar u g all after j ws
read_more u g all rest after j p vs ws v k e f m us h =
    subst (ComponentsRead u g all j) (sym (ap (λ l. l ++ us) f ∙ append_assoc vs (v ∷ []) us)) (k (v ∷ us) (subst (λ l. ComponentsRead u g l j (v ∷ us)) (sym e) (m, h)))

pub read_end : (u : ℕ → Bool) (g : ℕ → Json → Value → Type 0) (all rest : List Component) (j : Json) (vs : List Value) → ReadSoFar u g all rest j vs → rest ≡ [] → ComponentsRead u g all j vs
read_end u g all rest j vs k e = subst (ComponentsRead u g all j) (append-nil vs) (k [] (subst (λ l. ComponentsRead u g l j []) (sym e) tt))

-- ---- items

abbrev pub EachRead : {A : Type 0} → (Json → Value → Type 0) → List (JsonValue A) → List Value → Type 0
EachRead P [] [] = Unit {0}
EachRead P [] (v ∷ vs) = ⊥
EachRead P (x ∷ xs) [] = ⊥
EachRead P (x ∷ xs) (v ∷ vs) = P (value_view x) v × EachRead P xs vs

pub each_read_more : {A : Type 0} (P : Json → Value → Type 0) (xs ys : List (JsonValue A)) (x : JsonValue A) (vs us : List Value) (v : Value) → EachRead P xs vs → P (value_view x) v → ys ≡ xs ++ x ∷ [] → us ≡ vs ++ v ∷ [] → EachRead P ys us
each_read_more P xs ys x vs us v h m e f = subst (λ l. EachRead P l us) (sym e) (subst (EachRead P (xs ++ x ∷ [])) (sym f) (go xs vs h))
  where
    go : (xs : List (JsonValue _)) (vs : List Value) → EachRead P xs vs → EachRead P (xs ++ x ∷ []) (vs ++ v ∷ [])
    go [] [] h = (m, tt)
    go [] (w ∷ vs) h = absurd h
    go (y ∷ xs) [] h = absurd h
    go (y ∷ xs) (w ∷ vs) h = (h.0, go xs vs h.1)

pub items_read : {A : Type 0} (P : Json → Value → Type 0) (xs : List (JsonValue A)) (vs : List Value) → EachRead P xs vs → ItemsRead P (items_view xs) vs
items_read P [] [] h = tt
items_read P [] (v ∷ vs) h = absurd h
items_read P (x ∷ xs) [] h = absurd h
items_read P (x ∷ xs) (v ∷ vs) h = (h.0, items_read P xs vs h.1)

-- ---- the one member of an object

only : {X : Type 0} (l : List X) (m : X) → 1 ≤ length l → length l < 2 → m ≡ get_or l 0 m → l ≡ m ∷ []
only [] m a b e = absurd (omega (arith, a))
only (x ∷ []) m a b e = ap (λ y. y ∷ []) (sym e)
only (x ∷ y ∷ l) m a b e = absurd (omega (arith, b))

same_first : {X : Type 0} (l : List X) (m q : X) → 1 ≤ length l → m ≡ get_or l 0 m → q ≡ get_or l 0 q → q ≡ m
same_first [] m q a e f = absurd (omega (arith, a))
same_first (x ∷ l) m q a e f = f ∙ sym e

pub chosen_read : {A : Type 0} (g : ℕ → Json → Value → Type 0) (ks : List Alternative) (i : ℕ) (w v : Value) (j : Json) (l : List (Bor (List ℕ) × JsonValue A)) (m q : Bor (List ℕ) × JsonValue A) (b : Alternative)
    → j ≡ object (members_view l) → 1 ≤ length l → length l < 2 → m ≡ get_or l 0 m → q ≡ get_or l 0 q
    → (n : Alternative) × (Some n ≡ slice_get ks i) × (string_bytes n.name ≡ m.0.now)
    → ((k : ℕ) (n : Alternative) → k < i → Some n ≡ slice_get ks k → string_bytes n.name ≢ m.0.now)
    → b ≡ get_or ks i b → g b.type_id.0 (value_view q.1) v → w ≡ v → ChosenRead g ks j i w
chosen_read g ks i w v j l m q b o some few e f (n, at, name) before is h same =
    let found : b ≡ n = some_is b n (read_at ks i b (slice_get_within ks i n (sym at)) is ∙ sym at) in
    let one : j ≡ object (member m.0.now (value_view m.1) no_members) = o ∙ ap (λ x. object (members_view x)) (only l m some few e) in
    let here : g n.type_id.0 (value_view m.1) v = subst (λ (x : Alternative). g x.type_id.0 (value_view m.1) v) found (subst (λ (x : Bor (List ℕ) × JsonValue _). g b.type_id.0 (value_view x.1) v) (same_first l m q some e f) h) in
    (n, value_view m.1, at, one ∙ ap (λ x. object (member x (value_view m.1) no_members)) (sym name), λ k x lt a t. before k x lt a (t ∙ name), subst (g n.type_id.0 (value_view m.1)) (sym same) here)
