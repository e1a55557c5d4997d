-- What is made of what is read.
use Rattle.std.proofs.Common.{◌≡◌, ℕ, Bool, true, List, [], ◌∷◌, ◌++◌, map, Vec, Global, String, Result, Ok, Err, refl, sym, ap, ap₂, ◌∙◌, subst}
use Rattle.std.specs.Prelude.{IfOk, IfErr}
use Rattle.rasn_types.specs.declared.error.decode.DecodeError.{DecodeError}
use Rattle.rasn_types.specs.Errors.{IsOutOfMemory}
use Rattle.std.specs.String.{string_bytes}
use Rattle.rasn_types.specs.Shapes.{Tree, chosen, items, set_elements, Shape}
use Rattle.rasn_de.specs.State.{State, Call}
use Rattle.rasn_de.specs.Decodes.{Decodes}
use Rattle.rasn_schema.specs.declared.value.Value.{Value, Items, Elements, Boolean, Null, Integer, Bits, Octets, Text, Units, Arcs, Instant, Day, Absent, Items', Elements', Chosen'}
use Rattle.rasn_schema.specs.declared.types.Alternative.{Alternative}
use Rattle.rasn_schema.specs.declared.types.«Type».{«Type»}
use Rattle.rasn_schema.specs.declared.types.«Type».TheVariants.{Choice}
use Rattle.rasn_schema.specs.Shapes.{alternatives_by, choice_among}
use Rattle.rasn_schema.specs.Trees.{tree_of}
use Rattle.rasn_schema.specs.Fitting.{IsChosen}
use Rattle.rasn_schema.proofs.Values.{tree_items, tree_elements}
use Rattle.rasn_dynamic.specs.Inside.{DecodesTree}
use Rattle.rasn_dynamic.specs.Making.{Making, trees_of}
use Rattle.rasn_dynamic.specs.Calls.{IsNoAlternative}
use Rattle.rasn_dynamic.specs.Typed.{DecodesType}
use Rattle.rasn_dynamic.proofs.Contents.{one_more}

-- What is read as one call reads it is read as another does.
pub made_as : {T D : Type 0} (keep : Bool) (view : T → D) (read other : Call D) (old : State) (r : Result T DecodeError) (new : State) → ((q : Result D DecodeError) → read old q new → other old q new)
    → Making keep view read old r new → Making keep view other old r new
made_as keep view read other old (Ok v) new f (d, e, h) = (d, e, f (Ok d) h)
made_as keep view read other old (Err x) new f h = f (Err x) h

-- What is said of an error is said whatever is made.
pub made_fails_as : {T D : Type 0} (keep : Bool) (view : T → D) (read : Call D) (old : State) (r : Result T DecodeError) (new : State) {P : DecodeError → Type 0} → ((q : Result D DecodeError) → read old q new → IfErr q P)
    → Making keep view read old r new → IfErr r P
made_fails_as keep view read old (Ok v) new f h = tt
made_fails_as keep view read old (Err x) new f h = f (Err x) h

-- What is read of a CHOICE, and why no alternative is.
pub choice_exact : (f : ℕ → Shape) (ty : «Type») (keep : Bool) (old : State) (r : Result Value DecodeError) (new : State) (name : String Global) (ks : Vec Alternative Global) (qs : List Alternative) (text : List ℕ)
    → ty ≡ Choice name ks → qs ≡ ks.items → text ≡ string_bytes name → Making keep tree_of (DecodesTree (choice_among (alternatives_by f qs))) old r new → IfErr r (λ e. IsNoAlternative (alternatives_by f qs) text old e new)
    → Making keep tree_of (DecodesType f ty) old r new
choice_exact f ty keep old r new name ks qs text i j n h q =
    subst (λ z. Making keep tree_of (DecodesType f z) old r new) (sym i)
    (both r (subst (λ l. Making keep tree_of (DecodesTree (choice_among (alternatives_by f l))) old r new) j h) (subst (λ l. IfErr r (λ e. IsNoAlternative (alternatives_by f l) (string_bytes name) old e new)) j (subst (λ t. IfErr r (λ e. IsNoAlternative (alternatives_by f qs) t old e new)) n q)))
  where
    both : (r : Result Value DecodeError) → Making keep tree_of (DecodesTree (choice_among (alternatives_by f ks.items))) old r new → IfErr r (λ e. IsNoAlternative (alternatives_by f ks.items) (string_bytes name) old e new)
        → Making keep tree_of (DecodesType f (Choice name ks)) old r new
    both (Ok v) (d, e, h) q = (d, e, (h, tt))
    both (Err x) h q = (h, q)

-- A call that makes values does, whether they are kept or not.
pub made_of_value : (keep : Bool) (s : Shape) (old : State) (r : Result Value DecodeError) (new : State) → Decodes s tree_of old r new → Making keep tree_of (DecodesTree s) old r new
made_of_value keep s old (Ok v) new h = (tree_of v, (λ k. refl), h)
made_of_value keep s old (Err x) new h = h

-- A value that is kept is what was read.
pub kept_tree : {T D : Type 0} (view : T → D) (read : Call D) (old : State) (v : T) (new : State) → Making true view read old (Ok v) new → read old (Ok (view v)) new
kept_tree view read old v new (d, e, h) = subst (λ z. read old (Ok z) new) (sym (e refl)) h

-- What is returned without being kept is anything.
pub if_kept : {T : Type 0} (keep : Bool) (P Q : T → Type 0) (r : Result T DecodeError) → ((v : T) → P v → Q v) → (keep ≡ true → IfOk r P) → keep ≡ true → IfOk r Q
if_kept keep P Q (Ok v) f h k = f v (h k)
if_kept keep P Q (Err x) f h k = tt

-- ---- lists

pub items_made : (keep : Bool) (vs : Vec Value Global) (ts : List Tree) → (keep ≡ true → trees_of vs ≡ ts) → keep ≡ true → tree_of (Items vs) ≡ items ts
items_made keep vs ts e k = tree_items vs ∙ ap items (e k)

pub elements_made : (keep : Bool) (vs : Vec Value Global) (ts : List Tree) → (keep ≡ true → trees_of vs ≡ ts) → keep ≡ true → tree_of (Elements vs) ≡ set_elements (items ts)
elements_made keep vs ts e k = tree_elements vs ∙ ap (λ l. set_elements (items l)) (e k)

pub one_made : (keep : Bool) (vs us : List Value) (ts : List Tree) (v : Value) (t : Tree) → (keep ≡ true → map tree_of vs ≡ ts) → (keep ≡ true → tree_of v ≡ t) → (keep ≡ true → us ≡ vs ++ v ∷ []) → keep ≡ true → map tree_of us ≡ ts ++ t ∷ []
one_made keep vs us ts v t e f g k = ap (map tree_of) (g k) ∙ one_more vs v ∙ ap₂ (λ l x. l ++ x ∷ []) (e k) (f k)

-- ---- the value of a CHOICE

abbrev IsThis : ℕ → Value → ℕ → Value → Type 0
IsThis number value k v = (k ≡ number) × (v ≡ value)

chosen_tree : (number : ℕ) (value v : Value) → IsChosen (IsThis number value) v → tree_of v ≡ chosen number (tree_of value)
chosen_tree number value (Chosen' k _ w) (e, f) = ap₂ chosen e (ap tree_of f)
chosen_tree number value (Boolean b) h = absurd h
chosen_tree number value Null h = absurd h
chosen_tree number value (Integer n) h = absurd h
chosen_tree number value (Bits b) h = absurd h
chosen_tree number value (Octets o) h = absurd h
chosen_tree number value (Text s) h = absurd h
chosen_tree number value (Units u) h = absurd h
chosen_tree number value (Arcs a) h = absurd h
chosen_tree number value (Instant i) h = absurd h
chosen_tree number value (Day d) h = absurd h
chosen_tree number value (Items' _ row) h = absurd h
chosen_tree number value (Elements' _ row) h = absurd h
chosen_tree number value Absent h = absurd h

pub chosen_as : (P Q : ℕ → Value → Type 0) → ((k : ℕ) (v : Value) → P k v → Q k v) → (v : Value) → IsChosen P v → IsChosen Q v
chosen_as P Q f (Chosen' k _ w) h = f k w h
chosen_as P Q f (Boolean b) h = absurd h
chosen_as P Q f Null h = absurd h
chosen_as P Q f (Integer n) h = absurd h
chosen_as P Q f (Bits b) h = absurd h
chosen_as P Q f (Octets o) h = absurd h
chosen_as P Q f (Text s) h = absurd h
chosen_as P Q f (Units u) h = absurd h
chosen_as P Q f (Arcs a) h = absurd h
chosen_as P Q f (Instant i) h = absurd h
chosen_as P Q f (Day d) h = absurd h
chosen_as P Q f (Items' _ row) h = absurd h
chosen_as P Q f (Elements' _ row) h = absurd h
chosen_as P Q f Absent h = absurd h

module _ (keep : Bool) (number : ℕ) (value : Value) where
  pub choice_made : (read : Call Tree) (old : State) (t : Tree) (r : Result Value DecodeError) (new : State) → (keep ≡ true → tree_of value ≡ t) → (keep ≡ true → IfOk r (IsChosen (λ k v. (k ≡ number) × (v ≡ value)))) → IfErr r (λ e. IsOutOfMemory e.kind)
      → read old (Ok (chosen number t)) new → ((e : DecodeError) → IsOutOfMemory e.kind → read old (Err e) new) → Making keep tree_of read old r new
  choice_made read old t (Ok v) new e c m h n = (chosen number t, (λ k. chosen_tree number value v (c k) ∙ ap (chosen number) (e k)), h)
  choice_made read old t (Err x) new e c m h n = n x m

  pub choice_fits : (P : ℕ → Value → Type 0) (r : Result Value DecodeError) → (keep ≡ true → IfOk r (IsChosen (λ k v. (k ≡ number) × (v ≡ value)))) → (keep ≡ true → P number value) → keep ≡ true → IfOk r (IsChosen P)
  choice_fits P (Ok v) c h k = chosen_as (IsThis number value) P (λ i w s. subst (λ j. P j w) (sym s.0) (subst (P number) (sym s.1) (h k))) v (c k)
  choice_fits P (Err x) c h k = tt
