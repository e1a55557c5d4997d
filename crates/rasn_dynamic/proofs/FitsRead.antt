-- What is read is a value of its type.
use Rattle.std.proofs.Common.{◌≡◌, ℕ, zero, suc, ◌-◌, ℤ, Bool, true, false, true≢false, if◌then◌else◌, take, inl, inr, List, [], ◌∷◌, ◌++◌, length, Option, Some, None, Vec, Global, Result, Ok, Err, refl, sym, ap, ◌∙◌, subst, append_assoc, arith}
use Rattle.std.specs.Prelude.{slice_get, slice_set, IfOk}
use Rattle.std.specs.Borrow.{Bor}
use Rattle.std.proofs.lemmas.List.{append-nil}
use Rattle.rasn_types.specs.declared.types.tag.Tag.{Tag}
use Rattle.rasn_types.specs.declared.types.codec.Codec.{Codec}
use Rattle.rasn_types.specs.declared.types.constraints.Constraints.{Constraints}
use Rattle.rasn_types.specs.declared.error.decode.DecodeError.{DecodeError}
use Rattle.rasn_types.specs.Shapes.{Tree, Same, items, joined, set_elements, number, Shape, looked_for, leaf, integer, Interval, IsIn, Presence, required, addition, optional_by, default_by}
use Rattle.rasn_types.specs.Readings.{IsMissing}
use Rattle.std.specs.Cow.{cow_slice_items}
use Rattle.rasn_types.specs.declared.types.strings.alphabet.Alphabet.{Alphabet}
use Rattle.rasn_types.specs.CharacterString.{AreAdmitted}
use Rattle.rasn_types.specs.Grammar.{Reads}
use Rattle.std.proofs.lemmas.List.Sorted.{IsPermutation-refl}
use Rattle.rasn_schema.specs.declared.types.Component.{Component}
use Rattle.rasn_schema.specs.declared.types.LeafKind.{LeafKind}
use Rattle.rasn_schema.specs.declared.types.«Type».{«Type»}
use Rattle.rasn_schema.specs.declared.value.Value.{Value, Boolean, Null, Integer as Number, Bits, Octets, Text, Units, Arcs, Instant, Day, Absent, Items, Items', Elements, Elements', Chosen', Row_of-Value, end_of-Value, more_of-Value, items_hidden-the_row-Value-0}
use Rattle.rasn_schema.specs.Trees.{tree_of, trees_in}
use Rattle.rasn_schema.specs.Shapes.{presence_of, nothing, tag_at, found_by, shape_of_type, alternatives_by, is_unknown}
use Rattle.rasn_schema.specs.declared.types.«Type».TheVariants.{Leaf, Enumerated, Any, Tagged, Choice, Sequence, Set, SequenceOf, SetOf, Unknown}
use Rattle.rasn_schema.proofs.Lists.{but_last}
use Rattle.rasn_schema.proofs.OpenEnds.{among_not_unknown}
use Rattle.rasn_schema.specs.Fitting.{IsLeftOutAs}
use Rattle.rasn_schema.specs.Fitting.{NumberFits, OctetsFit, FitsLeaf, AreOctets, AreItems, AreElements, ComponentFits, ComponentsFit, EachFits}
use Rattle.rasn_dynamic.specs.Sets.{is_extensible, named_components}
use Rattle.rasn_dynamic.specs.Times.{FitsFromBy, FitsFromFound, FitsFrom}
use Rattle.rasn_dynamic.specs.Found.{OneFound, FoundFit, MembersFit}
use Rattle.rasn_dynamic.proofs.Named.{take_but_last}
use Rattle.rasn_dynamic.specs.Calls.{nones, IsMade, IsPut, IsValueOf, AreSettled, Gathers, IsNumberIn, IsStringOf}
use Rattle.rasn_de.specs.State.{State}

pub fits_below : (s : State) (types : List «Type») (levels below k : ℕ) (ty : «Type») (v : Value) → levels ≡ suc below → Some ty ≡ slice_get types k → FitsFromBy s (λ j w. FitsFrom s types below j w) ty v → FitsFrom s types levels k v
unfolding FitsFrom
fits_below s types zero below k ty v e g h = absurd (omega (arith, e))
fits_below s types (suc m) below k ty v e g h =
    let q : m ≡ below = omega (arith, e) in
    subst (λ o. FitsFromFound s (λ j w. FitsFrom s types m j w) o v) g (subst (λ n. FitsFromBy s (λ j w. FitsFrom s types n j w) ty v) (sym q) h)

pub if_ok : (P Q : Value → Type 0) (r : Result Value DecodeError) → ((v : Value) → P v → Q v) → IfOk r P → IfOk r Q
if_ok P Q (Ok v) f h = f v h
if_ok P Q (Err e) f h = tt

-- ---- numbers

pub number_in : (rule : Codec) (range : Interval) (tag : Tag) (bounds : Constraints) (depth : ℕ) (closing : _) (input rest : List ℕ) (n : ℤ) → Reads rule (leaf (integer range) tag bounds) depth closing input (number n) rest → IsIn range n
unfolding Reads
number_in rule range tag bounds depth closing input rest n ((bit, contents, frame, (e, ne, i), st), b) = let m : _ ≡ n = cc in subst (IsIn range) m i

pub number_fits : (kind : LeafKind) (range : Interval) → ((n : ℤ) → IsIn range n → NumberFits kind n) → (v : Value) → IsNumberIn range v → FitsLeaf kind v
number_fits kind range f (Number n) h = f n h
number_fits kind range f (Boolean b) h = absurd h
number_fits kind range f Null h = absurd h
number_fits kind range f (Bits b) h = absurd h
number_fits kind range f (Octets o) h = absurd h
number_fits kind range f (Text s) h = absurd h
number_fits kind range f (Units u) h = absurd h
number_fits kind range f (Arcs a) h = absurd h
number_fits kind range f (Instant t) h = absurd h
number_fits kind range f (Day d) h = absurd h
number_fits kind range f (Items' _ row) h = absurd h
number_fits kind range f (Elements' _ row) h = absurd h
number_fits kind range f (Chosen' i _ w) h = absurd h
number_fits kind range f Absent h = absurd h

-- ---- strings

module _ (kind : LeafKind) (a : Alphabet) (f : (l : List ℕ) → AreAdmitted a l → OctetsFit kind l) where
  pub string_fits : (v : Value) → IsStringOf a v → FitsLeaf kind v
  string_fits (Octets o) h = f (cow_slice_items o) h
  string_fits (Number n) h = absurd h
  string_fits (Boolean b) h = absurd h
  string_fits Null h = absurd h
  string_fits (Bits b) h = absurd h
  string_fits (Text s) h = absurd h
  string_fits (Units u) h = absurd h
  string_fits (Arcs x) h = absurd h
  string_fits (Instant t) h = absurd h
  string_fits (Day d) h = absurd h
  string_fits (Items' _ row) h = absurd h
  string_fits (Elements' _ row) h = absurd h
  string_fits (Chosen' i _ w) h = absurd h
  string_fits Absent h = absurd h

-- ---- lists

pub are_items : (P : List Value → Type 0) (vs : Vec Value Global) → P vs.items → AreItems P (Items vs)
are_items P vs h = subst P (sym (items_hidden-the_row-Value-0 vs)) h

pub are_elements : (P : List Value → Type 0) (vs : Vec Value Global) → P vs.items → AreElements P (Elements vs)
are_elements P vs h = subst P (sym (items_hidden-the_row-Value-0 vs)) h

pub each_more : (P : Value → Type 0) (vs us : List Value) (v : Value) → us ≡ vs ++ v ∷ [] → EachFits P vs → P v → EachFits P us
each_more P vs us v e h p = subst (EachFits P) (sym e) (go vs h)
  where
    go : (l : List Value) → EachFits P l → EachFits P (l ++ v ∷ [])
    go [] h = (p, tt)
    go (w ∷ l) h = (h.0, go l h.1)

-- Some components are values of their types, and the rest is left.
abbrev pub FitSoFar : (ℕ → Value → Type 0) → List Component → List Component → List Value → Type 0
FitSoFar g all rest vs = (us : List Value) → ComponentsFit g rest us → ComponentsFit g all (vs ++ us)

pub fit_more : (g : ℕ → Value → Type 0) (all rest after : List Component) (p : Component) (vs ws : List Value) (v : Value) → FitSoFar g all rest vs → rest ≡ p ∷ after → ws ≡ vs ++ v ∷ [] → ComponentFits g p v → FitSoFar g all after ws
fit_more g all rest after p vs ws v k e f m us h =
    subst (ComponentsFit g all) (sym (ap (λ l. l ++ us) f ∙ append_assoc vs (v ∷ []) us)) (k (v ∷ us) (subst (λ l. ComponentsFit g l (v ∷ us)) (sym e) (m, h)))

pub fit_end : (g : ℕ → Value → Type 0) (all rest : List Component) (vs : List Value) → FitSoFar g all rest vs → rest ≡ [] → ComponentsFit g all vs
fit_end g all rest vs k e = subst (ComponentsFit g all) (append-nil vs) (k [] (subst (λ l. ComponentsFit g l []) (sym e) tt))

-- ---- components that are absent

row_trees : {n : _} → Row_of-Value n → List Tree
row_trees end_of-Value = []
row_trees (more_of-Value v rest) = tree_of v ∷ row_trees rest

row_items : {n : _} (row : Row_of-Value n) → trees_in row ≡ items (row_trees row)
unfolding row_trees
row_items end_of-Value = refl
row_items (more_of-Value v rest) = ap (joined (tree_of v)) (row_items rest)

mutual
  same_value : (v : Value) → Same (tree_of v) (tree_of v)
  same_value (Boolean b) = refl
  same_value Null = refl
  same_value (Number n) = refl
  same_value (Bits b) = refl
  same_value (Octets o) = refl
  same_value (Text s) = refl
  same_value (Units u) = refl
  same_value (Arcs a) = refl
  same_value (Instant t) = refl
  same_value (Day d) = refl
  same_value (Items' _ row) = same_row row
  same_value (Elements' _ row) = (row_trees row, row_trees row, ap set_elements (row_items row), IsPermutation-refl (row_trees row), subst (Same (trees_in row)) (row_items row) (same_row row))
  same_value (Chosen' i _ w) = (tree_of w, refl, same_value w)
  same_value Absent = refl

  same_row : {n : _} (row : Row_of-Value n) → Same (trees_in row) (trees_in row)
  same_row end_of-Value = refl
  same_row (more_of-Value v rest) = (tree_of v, trees_in rest, refl, same_value v, same_row rest)

left_out : (p : Presence) (v : Value) → IsMissing p (tree_of v) → IsLeftOutAs p (tree_of v)
left_out required v m = m
left_out (optional_by key) v m = m
left_out addition v m = m
left_out (default_by key d) v m = subst (Same (tree_of v)) m (same_value v)

module _ (g : ℕ → Value → Type 0) where
  missing_fits : (p : Component) (v : Value) → IsMissing (presence_of p.presence) (tree_of v) → ComponentFits g p v
  missing_fits p v m = inl (left_out (presence_of p.presence) v m)

  pub made_fits : (keep : Bool) → keep ≡ true → (p : Component) (s : State) (r : Result Value DecodeError) → IsMade keep (presence_of p.presence) s r → IfOk r (λ v. ComponentFits g p v)
  made_fits keep k p s (Ok v) m = missing_fits p v (m k)
  made_fits keep k p s (Err x) m = tt

  -- ---- components of a SET

  one_fits : (p : Component) (x : Option Value) (v : Value) → OneFound g p x → IsValueOf (presence_of p.presence) x v → ComponentFits g p v
  one_fits p None v f m = missing_fits p v m
  one_fits p (Some w) v f m = inr (subst (g p.type_id.0) (sym m) f)

  settled_fit : (ps : List Component) (found : List (Option Value)) (vs : List Value) → FoundFit g ps found → AreSettled ps found vs → ComponentsFit g ps vs
  settled_fit [] [] vs f e = subst (ComponentsFit g []) (sym e) tt
  settled_fit [] (x ∷ found) vs f h = absurd f
  settled_fit (p ∷ ps) [] vs f h = absurd f
  settled_fit (p ∷ ps) (x ∷ found) vs f (v, us, e, m, h) = subst (ComponentsFit g (p ∷ ps)) (sym e) (one_fits p x v f.0 m, settled_fit ps found us f.1 h)

  pub gathered_fit : (keep : Bool) → keep ≡ true → (ps : List Component) (rule : Codec) (found : List (Option Value)) (r : Result (Vec Value Global) DecodeError) → FoundFit g ps found → Gathers keep ps rule found r
      → IfOk r (λ v. ComponentsFit g ps v.items)
  gathered_fit keep k ps rule found (Ok vs) f h = settled_fit ps found vs.items f (h.1 k)
  gathered_fit keep k ps rule found (Err e) f h = tt

  none_fit : (ps : List Component) → FoundFit g ps (nones ps)
  none_fit [] = tt
  none_fit (p ∷ ps) = (tt, none_fit ps)

  pub nones_fit : (ps : List Component) (found : List (Option Value)) → found ≡ nones ps → FoundFit g ps found
  nones_fit ps found e = subst (FoundFit g ps) (sym e) (none_fit ps)

  pub found_length : (ps : List Component) (found : List (Option Value)) → FoundFit g ps found → length found ≡ length ps
  found_length [] [] f = refl
  found_length [] (x ∷ found) f = absurd f
  found_length (p ∷ ps) [] f = absurd f
  found_length (p ∷ ps) (x ∷ found) f = ap suc (found_length ps found f.1)

  pub all_left_fit : (ps : List Component) (r : Result (Vec Value Global) DecodeError) → IfOk r (λ v. AreSettled ps (nones ps) v.items) → IfOk r (λ v. ComponentsFit g ps v.items)
  all_left_fit ps (Ok vs) h = settled_fit ps (nones ps) vs.items (none_fit ps) h
  all_left_fit ps (Err e) h = tt

  found_put : (ps : List Component) (before : List (Option Value)) (k : ℕ) (p : Component) (v : Value) → FoundFit g ps before → Some p ≡ slice_get ps k → g p.type_id.0 v → FoundFit g ps (slice_set before k (Some v))
  found_put [] before k p v f e h = absurd cc
  found_put (q ∷ ps) [] k p v f e h = absurd f
  found_put (q ∷ ps) (x ∷ before) zero p v f e h = let same : p ≡ q = cc in (subst (λ (y : Component). g y.type_id.0 v) same h, f.1)
  found_put (q ∷ ps) (x ∷ before) (suc k) p v f e h = (f.0, found_put ps before k p v f.1 e h)

  pub put_fits : (ps : List Component) (before after : List (Option Value)) (k : ℕ) (p : Component) (v : Value) (name : List ℕ) (r : Option (Bor (List ℕ))) → FoundFit g ps before → Some p ≡ slice_get ps k → g p.type_id.0 v → IsPut k v name before r after → FoundFit g ps after
  put_fits ps before after k p v name None f e h (n, a) = subst (FoundFit g ps) (sym a) (found_put ps before k p v f e h)
  put_fits ps before after k p v name (Some told) f e h (n, a, t) = subst (FoundFit g ps) (sym a) f

-- If values are kept, those that were found are of their types.
pub found_kept : (keep : Bool) (g : ℕ → Value → Type 0) → keep ≡ true → (ps : List Component) (found : List (Option Value)) → FoundFit (λ k v. keep ≡ true → g k v) ps found → FoundFit g ps found
found_kept keep g q [] [] f = tt
found_kept keep g q [] (x ∷ found) f = absurd f
found_kept keep g q (p ∷ ps) [] f = absurd f
found_kept keep g q (p ∷ ps) (None ∷ found) f = (tt, found_kept keep g q ps found f.1)
found_kept keep g q (p ∷ ps) (Some v ∷ found) f = (f.0 q, found_kept keep g q ps found f.1)

-- ---- the components of a SET, and unknown ones

nothing_known : (tag : Option Tag) → is_unknown (nothing tag) ≡ true → ⊥
nothing_known None e = cc
nothing_known (Some tag) e = cc

-- A list of such values is one of the type whose shape is unknown values.
unknown_fits : (s : State) (types : List «Type») (n k : ℕ) (v : Value) → is_unknown (shape_of_type types n k) ≡ true → AreItems (EachFits AreOctets) v → FitsFrom s types n k v
unfolding shape_of_type FitsFrom
unknown_fits s types zero k v e a = absurd (nothing_known (looked_for (tag_at types k)) e)
unknown_fits s types (suc n) k v e a = go (slice_get types k) e
  where
    go : (o : Option «Type») → is_unknown (found_by (λ j. shape_of_type types n j) o) ≡ true → FitsFromFound s (λ j w. FitsFrom s types n j w) o v
    go None e = absurd cc
    go (Some (Leaf kind tag c names)) e = absurd cc
    go (Some (Enumerated tag ns)) e = absurd cc
    go (Some (Any tag)) e = absurd cc
    go (Some (Tagged tag i)) e = absurd cc
    go (Some (Choice name ks)) e = absurd (true≢false (sym e ∙ among_not_unknown (alternatives_by (λ j. shape_of_type types n j) ks.items)))
    go (Some (Sequence tag ps)) e = absurd cc
    go (Some (Set name tag ps)) e = absurd cc
    go (Some (SequenceOf tag i c)) e = absurd cc
    go (Some (SetOf tag i c)) e = absurd cc
    go (Some Unknown) e = a

module _ (s : State) (types : List «Type») (n : ℕ) where
  abbrev F : ℕ → Shape
  F = shape_of_type types n

  abbrev G : ℕ → Value → Type 0
  G = FitsFrom s types n

  last_fits : (ps : List Component) → is_extensible F ps ≡ true → (known : List Value) (v : Value) → ComponentsFit G (but_last ps) known → AreItems (EachFits AreOctets) v → ComponentsFit G ps (known ++ v ∷ [])
  last_fits [] e known v h a = absurd cc
  last_fits (p ∷ []) e [] v h a = (inr (unknown_fits s types n p.type_id.0 v e a), tt)
  last_fits (p ∷ []) e (w ∷ known) v h a = absurd h
  last_fits (p ∷ (q ∷ ps)) e [] v h a = absurd h
  last_fits (p ∷ (q ∷ ps)) e (w ∷ known) v h a = (h.0, last_fits (q ∷ ps) e known v h.1 a)

  pub members_fit : (ps : List Component) (vs : List Value) → MembersFit G (is_extensible F ps) (named_components F ps) vs → ComponentsFit G ps vs
  members_fit ps vs h = go (is_extensible F ps) refl h
    where
      go : (b : Bool) → is_extensible F ps ≡ b → MembersFit G b (if b then take (length ps - 1) ps else ps) vs → ComponentsFit G ps vs
      go false e h = h
      go true e (known, v, q, h, a) = subst (ComponentsFit G ps) (sym q) (last_fits ps e known v (subst (λ l. ComponentsFit G l known) (take_but_last ps) h) a)

-- The named ones fit, and the unknown ones are appended if there may be some.
pub all_fit : (g : ℕ → Value → Type 0) (extensible : Bool) (ps : List Component) (vs us : List Value) (unknown : Vec Value Global) → ComponentsFit g ps vs → EachFits AreOctets unknown.items → (extensible ≡ true → us ≡ vs ++ Items unknown ∷ []) → (extensible ≡ false → us ≡ vs)
    → MembersFit g extensible ps us
all_fit g true ps vs us unknown h o e d = (vs, Items unknown, e refl, h, are_items (EachFits AreOctets) unknown o)
all_fit g false ps vs us unknown h o e d = subst (ComponentsFit g ps) (sym (d refl)) h
