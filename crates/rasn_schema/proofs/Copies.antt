-- A copy means the same, and is a value of each type of which the value is one.
use Rattle.std.proofs.Common.{◌≡◌, ℕ, zero, suc, ◌+◌, ◌<◌, ◌≤◌, ℤ, List, [], ◌∷◌, ◌++◌, length, take, get_or, Option, Some, None, Vec, Box, Global, inl, inr, rules, arith, refl, sym, ap, ◌∙◌, subst}
use Rattle.std.specs.Prelude.{slice_get, chars}
use Rattle.std.proofs.lemmas.List.{take_more}
use mathlib.Core.Former.{Count}
use Rattle.rasn_types.specs.Order.{Each}
use Rattle.rasn_types.specs.Shapes.{bits, numbers, joined, set_elements, chosen}
use Rattle.rasn_types.specs.Trees.{list_tree}
use Rattle.rasn_schema.specs.declared.types.LeafKind.{LeafKind}
use Rattle.rasn_schema.specs.declared.types.Alternative.{Alternative}
use Rattle.rasn_schema.specs.declared.types.Component.{Component}
use Rattle.rasn_schema.specs.declared.types.«Type».{«Type»}
use Rattle.rasn_schema.specs.declared.types.«Type».TheVariants.{Leaf, Enumerated, Any, Tagged, Choice, Sequence, Set, SequenceOf, SetOf, Unknown}
use Rattle.rasn_schema.specs.declared.value.Value.{Value, Integer, Bits, Octets, Text, Items, Items', Elements, Elements', Chosen, Chosen', size-Value, Row_of-Value, end_of-Value, more_of-Value, items-the_row-Value, items_hidden-the_row-Value-0}
use Rattle.rasn_schema.specs.declared.value.Value.TheViews.{sized-Chosen}
use Rattle.rasn_schema.specs.Trees.{tree_of, trees_in}
use Rattle.rasn_schema.specs.Shapes.{presence_of, numbers_of}
use Rattle.rasn_schema.specs.Fitting.{FitsLeaf, OctetsFit, BitsFit, IsNumber, AreOctets, AreItems, AreElements, IsChosen, AlternativeFits, IsLeftOutAs, ComponentFits, ComponentsFit, EachFits, FitsBy, FitsFound, Fits}
use Rattle.rasn_schema.specs.Copies.{IsCopy, AreCopies, IsChosenBy}
use Rattle.rasn_schema.proofs.Values.{row_of, trees_listed}

-- ---- lists

rows_copied : (n : _) (row : Row_of-Value n) (vs : List Value) → Each IsCopy (items-the_row-Value n row) vs → AreCopies row vs
rows_copied n end_of-Value vs h = h
rows_copied n (more_of-Value w rest) vs (v, more, e, c, h) = (v, more, e, c, rows_copied _ rest more h)

row_copied : (ws vs : Vec Value Global) → Each IsCopy ws.items vs.items → AreCopies (row_of (Items ws)).1 (items-the_row-Value _ (row_of (Items vs)).1)
row_copied ws vs h = rows_copied _ (row_of (Items ws)).1 _ (subst (λ l. Each IsCopy l (items-the_row-Value _ (row_of (Items vs)).1)) (sym (items_hidden-the_row-Value-0 ws)) (subst (Each IsCopy ws.items) (sym (items_hidden-the_row-Value-0 vs)) h))

pub items_copied : (ws vs : Vec Value Global) → Each IsCopy ws.items vs.items → IsCopy (Items ws) (Items vs)
items_copied ws vs h = row_copied ws vs h

pub elements_copied : (ws vs : Vec Value Global) → Each IsCopy ws.items vs.items → IsCopy (Elements ws) (Elements vs)
elements_copied ws vs h = row_copied ws vs h

pub each_pushed : (ws vs : List Value) (w v : Value) → Each IsCopy ws vs → IsCopy w v → Each IsCopy (ws ++ (w ∷ [])) (vs ++ (v ∷ []))
each_pushed [] vs w v e c = subst (λ l. Each IsCopy (w ∷ []) (l ++ (v ∷ []))) (sym e) (v, [], refl, c, refl)
each_pushed (x ∷ ws) vs w v (y, more, e, d, h) c = (y, more ++ (v ∷ []), ap (λ l. l ++ (v ∷ [])) e, d, each_pushed ws more w v h c)

-- one more element of a list, in a loop
pub each_more : (ws vs us : List Value) (i : ℕ) (w v : Value) → i < length ws → w ≡ get_or ws i w → us ≡ vs ++ (v ∷ []) → Each IsCopy (take i ws) vs → IsCopy w v → Each IsCopy (take (i + 1) ws) us
each_more ws vs us i w v h at e k c = subst (Each IsCopy (take (i + 1) ws)) (sym e) (subst (λ l. Each IsCopy l (vs ++ (v ∷ []))) (sym (take_more ws i w h ∙ ap (λ x. take i ws ++ (x ∷ [])) (sym at))) (each_pushed (take i ws) vs w v k c))

-- ---- what a copy means

mutual
  pub copy_means : (w v : Value) → IsCopy w v → tree_of v ≡ tree_of w
  copy_means (Bits b) v (c, e, h) = ap tree_of e ∙ ap bits h
  copy_means (Octets o) v (p, e, h) = ap tree_of e ∙ ap numbers h
  copy_means (Text s) v (t, e, h) = ap tree_of e ∙ ap (λ l. numbers (chars l)) h
  copy_means (Items' _ row) (Items' _ other) h = trees_listed _ other ∙ copies_mean row _ h
  copy_means (Items' _ row) _ h = absurd h
  copy_means (Elements' _ row) (Elements' _ other) h = ap set_elements (trees_listed _ other ∙ copies_mean row _ h)
  copy_means (Elements' _ row) _ h = absurd h
  copy_means (Chosen' k _ w) (Chosen' i _ v) (e, h) = ap (λ j. chosen j (tree_of v)) e ∙ ap (chosen k) (copy_means w v h)
  copy_means (Chosen' k _ w) _ h = absurd h
  copy_means w v e = ap tree_of e

  copies_mean : {n : _} (row : Row_of-Value n) (vs : List Value) → AreCopies row vs → list_tree tree_of vs ≡ trees_in row
  copies_mean end_of-Value vs e = ap (list_tree tree_of) e
  copies_mean (more_of-Value w rest) vs (v, more, e, c, h) = ap (list_tree tree_of) e ∙ (ap (λ t. joined t (list_tree tree_of more)) (copy_means w v c) ∙ ap (joined (tree_of w)) (copies_mean rest more h))

-- ---- what type it is of

leaf_copied : (kind : LeafKind) (w v : Value) → IsCopy w v → FitsLeaf kind w → FitsLeaf kind v
leaf_copied kind (Bits b) v (c, e, h) f = subst (FitsLeaf kind) (sym e) (subst (BitsFit kind) (sym h) f)
leaf_copied kind (Octets o) v (p, e, h) f = subst (FitsLeaf kind) (sym e) (subst (OctetsFit kind) (sym h) f)
leaf_copied kind (Text s) v (t, e, h) f = subst (FitsLeaf kind) (sym e) f
leaf_copied kind (Items' _ row) v h f = absurd f
leaf_copied kind (Elements' _ row) v h f = absurd f
leaf_copied kind (Chosen' k _ w) v h f = absurd f
leaf_copied kind w v e f = subst (FitsLeaf kind) (sym e) f

number_copied : (known : List ℤ) (w v : Value) → IsCopy w v → IsNumber known w → IsNumber known v
number_copied known (Integer n) v e f = subst (IsNumber known) (sym e) f
number_copied known _ v h f = absurd f

octets_copied : (w v : Value) → IsCopy w v → AreOctets w → AreOctets v
octets_copied (Octets o) v (p, e, h) f = subst AreOctets (sym e) tt
octets_copied _ v h f = absurd f

-- What holds of a list holds of its copies.
abbrev GoesOn : (List Value → Type 0) → Type 0
GoesOn P = (n : Count) (row : Row_of-Value n) (vs : List Value) → AreCopies row vs → P (items-the_row-Value n row) → P vs

list_copied : (P : List Value → Type 0) → GoesOn P → (w v : Value) → IsCopy w v → AreItems P w → AreItems P v
list_copied P k (Items' _ row) (Items' _ other) h f = k _ row _ h f
list_copied P k (Items' _ row) _ h f = absurd h
list_copied P k _ v h f = absurd f

set_copied : (P : List Value → Type 0) → GoesOn P → (w v : Value) → IsCopy w v → AreElements P w → AreElements P v
set_copied P k (Elements' _ row) (Elements' _ other) h f = k _ row _ h f
set_copied P k (Elements' _ row) _ h f = absurd h
set_copied P k _ v h f = absurd f

each_copied : (P : Value → Type 0) → ((w v : Value) → IsCopy w v → P w → P v) → (n : Count) (row : Row_of-Value n) (vs : List Value) → AreCopies row vs → EachFits P (items-the_row-Value n row) → EachFits P vs
each_copied P more n end_of-Value vs e f = subst (EachFits P) (sym e) tt
each_copied P more n (more_of-Value w rest) vs (v, us, e, c, h) (f, fs) = subst (EachFits P) (sym e) (more w v c f, each_copied P more _ rest us h fs)

module _ (g : ℕ → Value → Type 0) (more : (j : ℕ) (w v : Value) → IsCopy w v → g j w → g j v) where
  alternative_copied : (ks : List Alternative) (w v : Value) → IsCopy w v → IsChosen (AlternativeFits g ks) w → IsChosen (AlternativeFits g ks) v
  alternative_copied ks (Chosen' k _ w) (Chosen' i _ v) (e, h) (a, at, f) = (a, at ∙ ap (slice_get ks) (sym e), more a.type_id.0 w v h f)
  alternative_copied ks (Chosen' k _ w) _ h f = absurd h
  alternative_copied ks _ v h f = absurd f

  component_copied : (p : Component) (w v : Value) → IsCopy w v → ComponentFits g p w → ComponentFits g p v
  component_copied p w v c (inl left) = inl (subst (IsLeftOutAs (presence_of p.presence)) (sym (copy_means w v c)) left)
  component_copied p w v c (inr f) = inr (more p.type_id.0 w v c f)

  components_copied : (ps : List Component) (n : Count) (row : Row_of-Value n) (vs : List Value) → AreCopies row vs → ComponentsFit g ps (items-the_row-Value n row) → ComponentsFit g ps vs
  components_copied [] n end_of-Value vs e f = subst (ComponentsFit g []) (sym e) tt
  components_copied [] n (more_of-Value w rest) vs h f = absurd f
  components_copied (p ∷ ps) n end_of-Value vs h f = absurd f
  components_copied (p ∷ ps) n (more_of-Value w rest) vs (v, us, e, c, h) (f, fs) = subst (ComponentsFit g (p ∷ ps)) (sym e) (component_copied p w v c f, components_copied ps _ rest us h fs)

  by_copied : (ty : «Type») (w v : Value) → IsCopy w v → FitsBy g ty w → FitsBy g ty v
  by_copied (Leaf kind tag c names) w v h f = leaf_copied kind w v h f
  by_copied (Enumerated tag ns) w v h f = number_copied (numbers_of ns.items) w v h f
  by_copied (Any tag) w v h f = octets_copied w v h f
  by_copied (Tagged tag k) w v h f = more k.0 w v h f
  by_copied (Choice name ks) w v h f = alternative_copied ks.items w v h f
  by_copied (Sequence tag ps) w v h f = list_copied _ (components_copied ps.items) w v h f
  by_copied (Set name tag ps) w v h f = list_copied _ (components_copied ps.items) w v h f
  by_copied (SequenceOf tag k c) w v h f = list_copied _ (each_copied (g k.0) (more k.0)) w v h f
  by_copied (SetOf tag k c) w v h f = set_copied _ (each_copied (g k.0) (more k.0)) w v h f
  by_copied Unknown w v h f = list_copied _ (each_copied AreOctets octets_copied) w v h f

  found_copied : (o : Option «Type») (w v : Value) → IsCopy w v → FitsFound g o w → FitsFound g o v
  found_copied None w v c f = f
  found_copied (Some ty) w v c f = by_copied ty w v c f

pub copy_fits : (types : List «Type») (levels k : ℕ) (w v : Value) → IsCopy w v → Fits types levels k w → Fits types levels k v
unfolding Fits
copy_fits types zero k w v c f = f
copy_fits types (suc n) k w v c f = found_copied (λ j u. Fits types n j u) (λ j a b d e. copy_fits types n j a b d e) (slice_get types k) w v c f

-- ---- alternatives in one another

-- One more alternative inside.
pub chosen_last : (ks : List ℕ) (k : ℕ) (w u v : Value) → IsChosen (λ i x. (i ≡ k) × (x ≡ w)) u → IsChosenBy ks u v → IsChosenBy (ks ++ (k ∷ [])) w v
chosen_last [] k w u v c e = subst (IsChosen (λ i x. (i ≡ k) × (x ≡ w))) (sym e) c
chosen_last (j ∷ ks) k w u (Chosen' i _ x) c (e, h) = (e, chosen_last ks k w u x c h)
chosen_last (j ∷ ks) k w u _ c h = absurd h

last_chosen : (ks : List ℕ) (k : ℕ) (w v : Value) → IsChosenBy (ks ++ (k ∷ [])) w v → (u : Value) × IsChosenBy ks u v × IsChosen (λ i x. (i ≡ k) × (x ≡ w)) u
last_chosen [] k w v h = (v, refl, h)
last_chosen (j ∷ ks) k w (Chosen' i _ x) (e, h) = let r = last_chosen ks k w x h in (r.0, (e, r.1), r.2)
last_chosen (j ∷ ks) k w _ h = absurd h

-- A copy of what is inside, in alternatives with these indices, is a copy of the whole.
pub record CopiesInside (ks : List ℕ) (inner whole : Value) : Type 0 where
  pub on : (c v : Value) → IsCopy inner c → IsChosenBy ks c v → IsCopy whole v

one_copied : (k : ℕ) (w c u : Value) → IsCopy w c → IsChosen (λ i x. (i ≡ k) × (x ≡ c)) u → IsChosen (λ i x. (i ≡ k) × IsCopy w x) u
one_copied k w c (Chosen' i _ x) h (e, f) = (e, subst (IsCopy w) (sym f) h)
one_copied k w c _ h f = absurd f

pub copies_more : (ks more : List ℕ) (k : ℕ) (inner u whole : Value) (b : Box Value Global) → inner ≡ Chosen k b → u ≡ b.value → more ≡ ks ++ (k ∷ []) → CopiesInside ks inner whole → CopiesInside more u whole
copies_more ks more k inner u whole b e a f h = record { on = go }
  where
    go : (c v : Value) → IsCopy u c → IsChosenBy more c v → IsCopy whole v
    go c v d g =
        let r = last_chosen ks k c v (subst (λ l. IsChosenBy l c v) f g) in
        h.on r.0 v (subst (λ x. IsCopy x r.0) (sym e) (one_copied k b.value c r.0 (subst (λ x. IsCopy x c) a d) r.2)) r.1

chosen_deeper : (k : ℕ) (b : Box Value Global) → size-Value b.value ≤ size-Value (Chosen k b)
chosen_deeper k b = search (rules, sized-Chosen)

-- What is inside is no deeper.
pub no_deeper : (k : ℕ) (inner u whole : Value) (b : Box Value Global) → inner ≡ Chosen k b → u ≡ b.value → size-Value inner ≤ size-Value whole → size-Value u ≤ size-Value whole
no_deeper k inner u whole b e a h =
    let d = chosen_deeper k b in
    let m : size-Value (Chosen k b) ≤ size-Value whole = subst (λ x. size-Value x ≤ size-Value whole) e h in
    subst (λ x. size-Value x ≤ size-Value whole) (sym a) (omega (arith, d, m))

-- What is in the alternatives that are left is in all of them.
abbrev pub IsInside : List ℕ → Value → List ℕ → Value → Type 0
IsInside left outer ks w = (v : Value) → IsChosenBy left outer v → IsChosenBy ks w v

pub inside_more : (old left : List ℕ) (k : ℕ) (outer : Value) (b : Box Value Global) (ks : List ℕ) (w : Value) → old ≡ left ++ (k ∷ []) → b.value ≡ outer → IsInside old outer ks w → IsInside left (Chosen k b) ks w
inside_more old left k outer b ks w e f h v g =
    h v (subst (λ l. IsChosenBy l outer v) (sym e) (chosen_last left k outer (Chosen k b) v (refl, f) g))
