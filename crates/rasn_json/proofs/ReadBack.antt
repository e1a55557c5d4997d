-- JSON of a value is read as a value that means the same.
use Rattle.std.proofs.Common.{◌≡◌, ◌≢◌, ◌⊎◌, ℕ, zero, suc, List, [], ◌∷◌, Bool, true, false, cond, length, map, Option, Some, None, inl, inr, refl, sym, ap, ◌∙◌, subst, arith}
use Rattle.std.specs.Prelude.{slice_get}
use Rattle.std.specs.String.{string_bytes}
use Rattle.std.specs.Str.{bytes_eq}
use Rattle.std.proofs.lemmas.List.{append-nil}
use Rattle.std.proofs.lemmas.List.Sorted.{IsPermutation-refl}
use Rattle.std.proofs.lemmas.Slice.Eq.{bytes_eq-Decides}
use Rattle.json.specs.Json.{Json, object, array, Items, Members, no_members, member}
use Rattle.json.specs.Json.{value}
use Rattle.json.specs.Lex.{tokens}
use Rattle.json.specs.Token.{Token}
use Rattle.json.specs.Tree.{json_tokens, depth}
use Rattle.json.proofs.Found.{one_reading, Some_inj}
use Rattle.json.proofs.Printed.Trees.{value-json_tokens}
use Rattle.json.specs.Find.{get, get_member, later_or}
use Rattle.rasn_types.specs.Shapes.{Same, Presence, required, addition, optional_by, default_by, set_elements, chosen, numbers, number}
use Rattle.rasn_types.specs.Trees.{list_tree}
use Rattle.rasn_types.specs.Same.{same_sym}
use Rattle.rasn_types.specs.Bytes.{Bytes}
use Rattle.rasn_types.specs.declared.types.codec.Codec.TheVariants.{Der}
use Rattle.rasn.proofs.LawsHold.Written.{written_once}
use Rattle.rasn.proofs.StrictDer.Carried.{strict_der}
use Rattle.rasn_schema.specs.declared.types.Alternative.{Alternative}
use Rattle.rasn_schema.specs.declared.types.Component.{Component}
use Rattle.rasn_schema.specs.declared.types.NamedNumber.{NamedNumber}
use Rattle.rasn_schema.specs.declared.types.«Type».{«Type»}
use Rattle.rasn_schema.specs.declared.types.«Type».TheVariants.{Leaf, Enumerated, Any, Tagged, Choice, Sequence, Set, SequenceOf, SetOf, Unknown}
use Rattle.rasn_schema.specs.declared.value.Value.{Value, Integer, Octets, Items', Elements', Chosen', items-the_row-Value}
use Rattle.rasn_schema.specs.Trees.{tree_of}
use Rattle.rasn_schema.specs.Shapes.{presence_of, is_unknown, found_by, shape_of_type}
use Rattle.rasn_schema.specs.Equals.{same_itself}
use Rattle.rasn_schema.specs.Fitting.{AreItems, AreElements, IsChosen, IsListOf, IsLeftOutAs}
use Rattle.rasn_schema.specs.declared.types.Presence.{Presence as DeclaredPresence}
use Rattle.rasn_schema.specs.declared.types.Presence.TheVariants.{Required}
use Rattle.rasn_schema.specs.Held.{is_unknown_found}
use Rattle.rasn_schema.specs.Schemas.{IsSchema, IsRequired, components_in, begin_at}
use Rattle.rasn_schema.proofs.ListsOf.{list_means}
use Rattle.rasn_schema.proofs.Values.{trees_listed}
use Rattle.rasn_json.specs.Json.{EnumeratedJson, OpenJson, ItemsJson, ArrayJson, ObjectJson, MembersJson, ChosenJson, IsLeftOut, IsNothing, JsonBy, JsonFound, JsonAt, unknown_in}
use Rattle.rasn_json.specs.Laws.{MeansTheSame, GivesTheOctets}
use Rattle.rasn_json.specs.Names.{HaveOwnNames, HasDistinctNames, HaveDistinctNames, name_of_number, name_of_alternative, name_of_component}
use Rattle.rasn_json.specs.Reading.{EnumeratedRead, OpenRead, ItemsRead, ArrayRead, ObjectRead, ComponentsRead, ComponentRead, ChosenRead, IsAbsentAs, ReadBy, ReadFound, ReadAt}
use Rattle.rasn_json.proofs.Leaves.{leaf_once, name_once, one_named}
use Rattle.rasn_json.proofs.ReadParts.{unknown_found}
use Rattle.rasn_json.proofs.Strings.{octets_once}
use Rattle.rasn_dynamic.specs.Entry.{shape_of}

-- ---- values that mean the same

abbrev pub Alike : Value → Value → Type 0
Alike v w = Same (tree_of v) (tree_of w)

abbrev pub AllAlike : List Value → List Value → Type 0
AllAlike vs ws = Same (list_tree tree_of vs) (list_tree tree_of ws)

same_trees : (v w : Value) → tree_of v ≡ tree_of w → Alike v w
same_trees v w e = subst (Same (tree_of v)) e (same_itself v)

alike_cons : (v w : Value) (vs ws : List Value) → Alike v w → AllAlike vs ws → AllAlike (v ∷ vs) (w ∷ ws)
alike_cons v w vs ws s h = (tree_of w, list_tree tree_of ws, refl, s, h)

lists_alike : (v w : Value) (vs ws : List Value) → tree_of v ≡ list_tree tree_of vs → tree_of w ≡ list_tree tree_of ws → AllAlike vs ws → Alike v w
lists_alike v w vs ws e f h = subst (λ t. Same t (tree_of w)) (sym e) (subst (Same (list_tree tree_of vs)) (sym f) h)

sets_alike : (v w : Value) (vs ws : List Value) → tree_of v ≡ set_elements (list_tree tree_of vs) → tree_of w ≡ set_elements (list_tree tree_of ws) → AllAlike vs ws → Alike v w
sets_alike v w vs ws e f h =
    subst (λ t. Same t (tree_of w)) (sym e) (subst (Same (set_elements (list_tree tree_of vs))) (sym f) (map tree_of ws, map tree_of ws, refl, IsPermutation-refl (map tree_of ws), h))

-- The values that a value holds.
in_list : (P : List Value → Type 0) (v : Value) → AreItems P v → (vs : List Value) × P vs × (tree_of v ≡ list_tree tree_of vs)
in_list P (Items' _ row) h = (items-the_row-Value _ row, h, trees_listed _ row)
in_list P v h = absurd h

in_set : (P : List Value → Type 0) (v : Value) → AreElements P v → (vs : List Value) × P vs × (tree_of v ≡ set_elements (list_tree tree_of vs))
in_set P (Elements' _ row) h = (items-the_row-Value _ row, h, ap set_elements (trees_listed _ row))
in_set P v h = absurd h

in_choice : (P : ℕ → Value → Type 0) (v : Value) → IsChosen P v → (i : ℕ) × (w : Value) × P i w × (tree_of v ≡ chosen i (tree_of w))
in_choice P (Chosen' i _ w) h = (i, w, h, refl)
in_choice P v h = absurd h

-- ---- values without others in them

enumerated_alike : (names : List NamedNumber) (j : Json) (v w : Value) → HaveOwnNames name_of_number names → EnumeratedJson names v j → EnumeratedRead names j w → Alike v w
enumerated_alike names j (Integer n) (Integer m) own a b = same_trees (Integer n) (Integer m) (ap number (name_once names n m j own a b))
enumerated_alike names j (Integer n) w own a b = absurd b
enumerated_alike names j v w own a b = absurd a

open_alike : (j : Json) (v w : Value) → OpenJson v j → OpenRead j w → Alike v w
open_alike j (Octets o) (Octets p) a b = same_trees (Octets o) (Octets p) (ap numbers (octets_once _ _ j a b))
open_alike j (Octets o) w a b = absurd b
open_alike j v w a b = absurd a

-- ---- items

items_alike : (P : Value → Json → Type 0) (Q : Json → Value → Type 0) → ((j : Json) (v w : Value) → P v j → Q j w → Alike v w) → (vs ws : List Value) (js : Items) → ItemsJson P vs js → ItemsRead Q js ws → AllAlike vs ws
items_alike P Q f [] [] js a b = refl
items_alike P Q f [] (w ∷ ws) js a b = absurd (subst (λ x. ItemsRead Q x (w ∷ ws)) a b)
items_alike P Q f (v ∷ vs) [] js (x, rest, e, h, k) b = absurd (subst (λ y. ItemsRead Q y []) e b)
items_alike P Q f (v ∷ vs) (w ∷ ws) js (x, rest, e, h, k) b =
    let c = subst (λ y. ItemsRead Q y (w ∷ ws)) e b in
    alike_cons v w vs ws (f x v w h c.0) (items_alike P Q f vs ws rest k c.1)

arrays_alike : (P : Value → Json → Type 0) (Q : Json → Value → Type 0) → ((j : Json) (v w : Value) → P v j → Q j w → Alike v w) → (j : Json) (vs ws : List Value) → ArrayJson P j vs → ArrayRead Q j ws → AllAlike vs ws
arrays_alike P Q f j vs ws (js, e, h) (ks, g, k) =
    let same : array js ≡ array ks = sym e ∙ g in
    let i : js ≡ ks = cc in
    items_alike P Q f vs ws ks (subst (ItemsJson P vs) i h) k

-- ---- components that are left out

module _ (u : ℕ → Bool) (p : Component) (v w : Value) where
  absent_alike : (r : Presence) → IsLeftOutAs r (tree_of v) → IsAbsentAs r (tree_of w) → Alike v w
  absent_alike required a b = absurd a
  absent_alike (optional_by key) a b = same_trees v w (a ∙ sym b)
  absent_alike addition a b = same_trees v w (a ∙ sym b)
  absent_alike (default_by key d) a b = subst (Same (tree_of v)) (sym b) a

  nothing_alike : IsListOf [] v → IsListOf [] w → Alike v w
  nothing_alike a b = same_trees v w (list_means [] v a ∙ sym (list_means [] w b))

  -- What is unknown is required.
  left_out_alike : (u p.type_id.0 ≡ true → presence_of p.presence ≡ required) → IsLeftOut u p v → IsAbsentAs (presence_of p.presence) (tree_of w) ⊎ IsNothing u p w → Alike v w
  left_out_alike r (inl a) (inl b) = absent_alike (presence_of p.presence) a b
  left_out_alike r (inr a) (inr b) = nothing_alike a.1 b.1
  left_out_alike r (inl a) (inr b) = absurd (subst (λ q. IsLeftOutAs q (tree_of v)) (r b.0) a)
  left_out_alike r (inr a) (inl b) = absurd (subst (λ q. IsAbsentAs q (tree_of w)) (r a.0) b)

-- ---- members

same_name : (s t : List ℕ) → s ≡ t → bytes_eq s t ≡ true
same_name s t e = (bytes_eq-Decides s t).1 e

other_name : (s t : List ℕ) → s ≢ t → bytes_eq s t ≡ false
other_name s t n = go (bytes_eq s t) refl
  where
    go : (b : Bool) → bytes_eq s t ≡ b → bytes_eq s t ≡ false
    go true e = absurd (n ((bytes_eq-Decides s t).0 e))
    go false e = e

-- Some component has this name.
abbrev IsNamedIn : List ℕ → List Component → Type 0
IsNamedIn name ps = (i : ℕ) × (p : Component) × (Some p ≡ slice_get ps i) × (string_bytes p.name ≡ name)

own_tail : (p : Component) (ps : List Component) → HaveOwnNames name_of_component (p ∷ ps) → HaveOwnNames name_of_component ps
own_tail p ps own i k x y a b e = let s : suc i ≡ suc k = own (suc i) (suc k) x y a b e in omega arith

own_head : (p : Component) (ps : List Component) → HaveOwnNames name_of_component (p ∷ ps) → IsNamedIn (string_bytes p.name) ps → ⊥
own_head p ps own (i, q, at, e) = let s : zero ≡ suc i = own zero (suc i) p q refl at (sym e) in absurd cc

-- No member has a name that no component has.
no_member : (u : ℕ → Bool) (g : ℕ → Value → Json → Type 0) (ps : List Component) (vs : List Value) (ms : Members) (name : List ℕ) → MembersJson u g ps vs ms → (IsNamedIn name ps → ⊥) → get_member name ms ≡ None
no_member u g [] [] ms name h n = ap (get_member name) h
no_member u g [] (v ∷ vs) ms name h n = absurd h
no_member u g (p ∷ ps) [] ms name h n = absurd h
no_member u g (p ∷ ps) (v ∷ vs) ms name (inl (o, h)) n = no_member u g ps vs ms name h (λ k. n (suc k.0, k.1, k.2, k.3))
no_member u g (p ∷ ps) (v ∷ vs) ms name (inr (o, (x, rest, e, m, h))) n =
    ap (get_member name) e
    ∙ (ap (λ r. later_or r (cond (bytes_eq (string_bytes p.name) name) (Some x) None)) (no_member u g ps vs rest name h (λ k. n (suc k.0, k.1, k.2, k.3)))
    ∙ ap (λ b. cond b (Some x) None) (other_name (string_bytes p.name) name (λ s. n (zero, p, refl, s))))

-- Members are looked up alike.
abbrev FoundAlike : Json → List Component → Members → Type 0
FoundAlike j ps ms = (i : ℕ) (p : Component) → Some p ≡ slice_get ps i → get (string_bytes p.name) j ≡ get_member (string_bytes p.name) ms

module _ (u : ℕ → Bool) (g : ℕ → Value → Json → Type 0) (f : ℕ → Json → Value → Type 0) (j : Json) (alike : (k : ℕ) (x : Json) (v w : Value) → g k v x → f k x w → Alike v w) where
  found_tail : (p : Component) (ps : List Component) (x : Json) (ms rest : Members) → HaveOwnNames name_of_component (p ∷ ps) → ms ≡ member (string_bytes p.name) x rest → FoundAlike j (p ∷ ps) ms → FoundAlike j ps rest
  found_tail p ps x ms rest own e found i q at =
      found (suc i) q at ∙ (ap (get_member (string_bytes q.name)) e
      ∙ (ap (λ b. later_or (get_member (string_bytes q.name) rest) (cond b (Some x) None)) (other_name (string_bytes p.name) (string_bytes q.name) (λ s. own_head p ps own (i, q, at, sym s)))
      ∙ or_none (get_member (string_bytes q.name) rest)))
    where
      or_none : (o : Option Json) → later_or o None ≡ o
      or_none None = refl
      or_none (Some y) = refl

  components_alike : (ps : List Component) (vs ws : List Value) (ms : Members) → HaveOwnNames name_of_component ps → ((i : ℕ) (p : Component) → Some p ≡ slice_get ps i → u p.type_id.0 ≡ true → presence_of p.presence ≡ required)
      → FoundAlike j ps ms → MembersJson u g ps vs ms → ComponentsRead u f ps j ws → AllAlike vs ws
  components_alike [] [] [] ms own r found a b = refl
  components_alike [] [] (w ∷ ws) ms own r found a b = absurd b
  components_alike [] (v ∷ vs) ws ms own r found a b = absurd a
  components_alike (p ∷ ps) [] ws ms own r found a b = absurd a
  components_alike (p ∷ ps) (v ∷ vs) [] ms own r found a b = absurd b
  components_alike (p ∷ ps) (v ∷ vs) (w ∷ ws) ms own r found (inl (o, h)) (c, b) =
      let none : get (string_bytes p.name) j ≡ None = found zero p refl ∙ no_member u g ps vs ms (string_bytes p.name) h (own_head p ps own) in
      alike_cons v w vs ws (left_out_alike u p v w (r zero p refl) o (subst (λ m. ComponentRead u f p m w) none c))
      (components_alike ps vs ws ms (own_tail p ps own) (λ i q at. r (suc i) q at) (λ i q at. found (suc i) q at) h b)
  components_alike (p ∷ ps) (v ∷ vs) (w ∷ ws) ms own r found (inr (o, (x, rest, e, m, h))) (c, b) =
      let some : get (string_bytes p.name) j ≡ Some x = found zero p refl ∙ (ap (get_member (string_bytes p.name)) e
      ∙ (ap (λ y. later_or y (cond (bytes_eq (string_bytes p.name) (string_bytes p.name)) (Some x) None)) (no_member u g ps vs rest (string_bytes p.name) h (own_head p ps own))
      ∙ ap (λ y. cond y (Some x) None) (same_name (string_bytes p.name) (string_bytes p.name) refl))) in
      alike_cons v w vs ws (alike p.type_id.0 x v w m (subst (λ y. ComponentRead u f p y w) some c))
      (components_alike ps vs ws rest (own_tail p ps own) (λ i q at. r (suc i) q at) (found_tail p ps x ms rest own e found) h b)

  objects_alike : (ps : List Component) (vs ws : List Value) → HaveOwnNames name_of_component ps → ((i : ℕ) (p : Component) → Some p ≡ slice_get ps i → u p.type_id.0 ≡ true → presence_of p.presence ≡ required)
      → ObjectJson u g ps j vs → ObjectRead u f ps j ws → AllAlike vs ws
  objects_alike ps vs ws own r (ms, e, h) (ns, d, known, b) = components_alike ps vs ws ms own r (λ i p at. ap (get (string_bytes p.name)) e) h b

  choice_alike : (ks : List Alternative) (i k : ℕ) (v w : Value) → HaveOwnNames name_of_alternative ks → ChosenJson g ks j i v → ChosenRead f ks j k w → (i ≡ k) × Alike v w
  choice_alike ks i k v w own (a, x, at, e, h) (b, y, here, d, before, r) =
      let one : object (member (string_bytes a.name) x no_members) ≡ object (member (string_bytes b.name) y no_members) = sym e ∙ d in
      let name : string_bytes a.name ≡ string_bytes b.name = cc in
      let same : x ≡ y = cc in
      (own i k a b at here name, alike b.type_id.0 y v w (subst (λ (z : Alternative). g z.type_id.0 v y) (one_named name_of_alternative ks i k a b own at here name) (subst (g a.type_id.0 v) same h)) r)

-- ---- types, one level deeper

-- Of unknown values, a component of the type is required.
abbrev UnknownIsRequired : (ℕ → Bool) → List Component → Type 0
UnknownIsRequired u ps = (i : ℕ) (p : Component) → Some p ≡ slice_get ps i → u p.type_id.0 ≡ true → presence_of p.presence ≡ required

abbrev AreUnknownRequired : (ℕ → Bool) → «Type» → Type 0
AreUnknownRequired u ty = UnknownIsRequired u (components_in ty)

module _ (u : ℕ → Bool) (g : ℕ → Value → Json → Type 0) (f : ℕ → Json → Value → Type 0) (j : Json) (alike : (k : ℕ) (x : Json) (v w : Value) → g k v x → f k x w → Alike v w) where
  objects_of : (ps : List Component) (v w : Value) → HaveOwnNames name_of_component ps → UnknownIsRequired u ps → AreItems (ObjectJson u g ps j) v → AreItems (ObjectRead u f ps j) w → Alike v w
  objects_of ps v w own r a b =
      let (vs, h, e) = in_list (ObjectJson u g ps j) v a in
      let (ws, k, d) = in_list (ObjectRead u f ps j) w b in
      lists_alike v w vs ws e d (objects_alike u g f j alike ps vs ws own r h k)

  lists_of : (P : Value → Json → Type 0) (Q : Json → Value → Type 0) → ((x : Json) (v w : Value) → P v x → Q x w → Alike v w) → (v w : Value) → AreItems (ArrayJson P j) v → AreItems (ArrayRead Q j) w → Alike v w
  lists_of P Q same v w a b =
      let (vs, h, e) = in_list (ArrayJson P j) v a in
      let (ws, k, d) = in_list (ArrayRead Q j) w b in
      lists_alike v w vs ws e d (arrays_alike P Q same j vs ws h k)

  sets_of : (k : ℕ) (v w : Value) → AreElements (ArrayJson (g k) j) v → AreElements (ArrayRead (f k) j) w → Alike v w
  sets_of k v w a b =
      let (vs, h, e) = in_set (ArrayJson (g k) j) v a in
      let (ws, l, d) = in_set (ArrayRead (f k) j) w b in
      sets_alike v w vs ws e d (arrays_alike (g k) (f k) (alike k) j vs ws h l)

  choices_of : (ks : List Alternative) (v w : Value) → HaveOwnNames name_of_alternative ks → IsChosen (ChosenJson g ks j) v → IsChosen (ChosenRead f ks j) w → Alike v w
  choices_of ks v w own a b =
      let (i, x, h, e) = in_choice (ChosenJson g ks j) v a in
      let (k, y, l, d) = in_choice (ChosenRead f ks j) w b in
      let (same, s) = choice_alike u g f j alike ks i k x y own h l in
      subst (λ t. Same t (tree_of w)) (sym e) (tree_of y, d ∙ ap (λ n. chosen n (tree_of y)) (sym same), s)

  types_alike : (ty : «Type») (v w : Value) → HasDistinctNames ty → AreUnknownRequired u ty → JsonBy u g ty v j → ReadBy u f ty j w → Alike v w
  types_alike (Leaf kind tag c names) v w own r a b = same_trees v w (leaf_once kind c names.items j own v w a.0 b.0 a.1 b.1)
  types_alike (Enumerated tag ns) v w own r a b = enumerated_alike ns.items j v w own a b
  types_alike (Any tag) v w own r a b = open_alike j v w a b
  types_alike (Tagged tag k) v w own r a b = alike k.0 j v w a b
  types_alike (Choice name ks) v w own r a b = choices_of ks.items v w own a b
  types_alike (Sequence tag ps) v w own r a b = objects_of ps.items v w own r a b
  types_alike (Set name tag ps) v w own r a b = objects_of ps.items v w own r a b
  types_alike (SequenceOf tag k c) v w own r a b = lists_of (g k.0) (f k.0) (alike k.0) v w a b
  types_alike (SetOf tag k c) v w own r a b = sets_of k.0 v w a b
  types_alike Unknown v w own r a b = lists_of OpenJson OpenRead open_alike v w a b

-- ---- all levels

required_only : (r : DeclaredPresence) → IsRequired r → presence_of r ≡ required
required_only Required h = refl
required_only r h = absurd h

unknown_begins : (types : List «Type») (k : ℕ) → unknown_in types k ≡ true → is_unknown (begin_at types k) ≡ true
unfolding shape_of_type
unknown_begins types k e = go (slice_get types k) refl e
  where
    go : (o : Option «Type») → o ≡ slice_get types k → is_unknown_found o ≡ true → is_unknown (found_by (λ j. shape_of_type types (length types) j) (slice_get types k)) ≡ true
    go o at h = subst (λ x. is_unknown (found_by (λ j. shape_of_type types (length types) j) x) ≡ true) (unknown_found o (is_unknown_found o) h refl ∙ at) refl

module _ (types : List «Type») (schema : IsSchema types) (names : HaveDistinctNames types) where
  unknown_required : (k : ℕ) (ty : «Type») → Some ty ≡ slice_get types k → AreUnknownRequired (unknown_in types) ty
  unknown_required k (Sequence tag ps) at i p e h = required_only p.presence ((schema.0 k (Sequence tag ps) at).2 i p e (unknown_begins types p.type_id.0 h)).1
  unknown_required k (Set name tag ps) at i p e h = required_only p.presence ((schema.0 k (Set name tag ps) at).2 i p e (unknown_begins types p.type_id.0 h)).1
  unknown_required k ty at i p e h = absurd cc

  found_alike : (k : ℕ) (g : ℕ → Value → Json → Type 0) (f : ℕ → Json → Value → Type 0) (j : Json) (v w : Value) (o : Option «Type») → o ≡ slice_get types k → ((i : ℕ) (x : Json) (y z : Value) → g i y x → f i x z → Alike y z)
      → JsonFound (unknown_in types) g o v j → ReadFound (unknown_in types) f o j w → Alike v w
  found_alike k g f j v w None at alike a b = absurd a
  found_alike k g f j v w (Some ty) at alike a b = types_alike (unknown_in types) g f j alike ty v w (names k ty at) (unknown_required k ty at) a b

  alike_at : (levels k : ℕ) (j : Json) (v w : Value) → JsonAt types levels k v j → ReadAt types levels k j w → Alike v w
  unfolding JsonAt ReadAt
  alike_at zero k j v w a b = absurd a
  alike_at (suc levels) k j v w a b = found_alike k (λ i x y. JsonAt types levels i x y) (λ i x y. ReadAt types levels i x y) j v w (slice_get types k) refl (λ i x y z. alike_at levels i x y z) a b

-- ---- texts

one_json : (ts : List Token) (i j : Json) → ts ≡ json_tokens i → value 512 ts ≡ Some (j, []) → i ≡ j
one_json ts i j e h =
    let there : value (depth i) ts ≡ Some (i, []) = ap (value (depth i)) (e ∙ sym (append-nil (json_tokens i))) ∙ value-json_tokens i (depth i) [] (omega arith) in
    let same : (i, []) ≡ (j, []) = Some_inj _ _ (one_reading (depth i) 512 ts (i, []) (j, []) there h) in
    ap (λ (x : Json × List Token). x.0) same

pub means_the_same : MeansTheSame
means_the_same types id text v w schema names (i, e, (a, le)) (j, h, b) =
    alike_at types schema names 18446744073709551615 id j v w (subst (JsonAt types 18446744073709551615 id v) (one_json (tokens text) i j e h) a) b

pub gives_the_octets : GivesTheOctets
gives_the_octets types id input text octets v w schema names lawful are read carried json back encoded =
    let s = shape_of types id in
    let strict = strict_der s lawful input are (tree_of v) [] read.0 carried in
    written_once s Der (tree_of w) (tree_of v) octets input (same_sym (tree_of v) (tree_of w) (means_the_same types id text v w schema names json back)) encoded.1
    (subst (Bytes Der s (tree_of v)) (sym (strict.2 ∙ append-nil strict.0)) strict.1)
