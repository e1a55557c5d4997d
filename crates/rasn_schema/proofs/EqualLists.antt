-- Lists of values that are the same.
use Rattle.std.proofs.Common.{◌≡◌, ℕ, zero, suc, List, [], ◌∷◌, length, Some, Bool, true, false, Box, Global, refl, sym, ap, subst, true≢false, nat_eq}
use Rattle.std.specs.Prelude.{slice_get, chars}
use Rattle.std.specs.Prelude.{map}
use Rattle.std.proofs.lemmas.Str.{chars-nil}
use Rattle.std.proofs.lemmas.List.Sorted.{IsPermutation-refl}
use Rattle.rasn_types.specs.Shapes.{Tree, chosen, set_elements}
use Rattle.rasn_types.specs.Bytes.{Same}
use Rattle.rasn_types.specs.Equality.{DecidesSame}
use Rattle.rasn_types.specs.Trees.{list_tree}
use Rattle.rasn_schema.specs.declared.value.Value.{Value, Chosen}
use Rattle.rasn_schema.specs.Trees.{tree_of}
use Rattle.rasn_schema.specs.Kinds.{kind}
use Rattle.rasn_schema.specs.Equals.{apart}

pub not_same : (t u : Tree) → (Same t u → ⊥) → DecidesSame false t u
not_same t u n = record { same = λ e. absurd (true≢false (sym e)); equal = λ s. absurd (n s) }

pub are_same : (t u : Tree) → Same t u → DecidesSame true t u
are_same t u s = record { same = λ e. s; equal = λ h. refl }

abbrev pub Lists : List Value → List Value → Type 0
Lists xs ys = Same (list_tree tree_of xs) (list_tree tree_of ys)

pub lists_same : (xs ys : List Value) → length xs ≡ length ys
    → ((j : ℕ) (x y : Value) → Some x ≡ slice_get xs j → Some y ≡ slice_get ys j → Same (tree_of x) (tree_of y)) → Lists xs ys
lists_same [] [] n h = refl
lists_same [] (y ∷ ys) n h = absurd cc
lists_same (x ∷ xs) [] n h = absurd cc
lists_same (x ∷ xs) (y ∷ ys) n h = (tree_of y, list_tree tree_of ys, refl, h 0 x y refl refl, lists_same xs ys (let m : length xs ≡ length ys = cc in m) (λ j v w d e. h (suc j) v w d e))

pub lists_length : (xs ys : List Value) → Lists xs ys → length xs ≡ length ys
lists_length [] [] s = refl
lists_length [] (y ∷ ys) s = absurd cc
lists_length (x ∷ xs) [] (v, vs, e, s, h) = absurd cc
lists_length (x ∷ xs) (y ∷ ys) (v, vs, e, s, h) = ap suc (lists_length xs ys (let f : vs ≡ list_tree tree_of ys = cc in subst (Same (list_tree tree_of xs)) f h))

pub lists_at : (xs ys : List Value) → Lists xs ys → (j : ℕ) (x y : Value) → Some x ≡ slice_get xs j → Some y ≡ slice_get ys j → Same (tree_of x) (tree_of y)
lists_at [] ys s j x y d e = absurd cc
lists_at (v ∷ xs) [] s j x y d e = absurd cc
lists_at (v ∷ xs) (w ∷ ys) (u, us, e, s, h) zero x y d f =
    let a : x ≡ v = cc in
    let b : u ≡ tree_of y = cc in
    subst (λ z. Same (tree_of z) (tree_of y)) (sym a) (subst (Same (tree_of v)) b s)
lists_at (v ∷ xs) (w ∷ ys) (u, us, e, s, h) (suc j) x y d f =
    lists_at xs ys (let g : us ≡ list_tree tree_of ys = cc in subst (Same (list_tree tree_of xs)) g h) j x y d f

-- In the same order they are the same sets.
pub sets_in_order : (xs ys : List Value) → Lists xs ys → Same (set_elements (list_tree tree_of xs)) (set_elements (list_tree tree_of ys))
sets_in_order xs ys s = (map tree_of ys, map tree_of ys, refl, IsPermutation-refl (map tree_of ys), s)

-- no characters
pub no_chars : (l : List ℕ) → length l ≡ 0 → chars l ≡ []
no_chars [] e = chars-nil
no_chars (x ∷ l) e = absurd cc

-- ---- alternatives in one another

-- What tells whether what is inside is the same tells it of the whole.
abbrev pub TellsWhole : Value → Value → Value → Value → Type 0
TellsWhole own its v w = (b : Bool) → DecidesSame b (tree_of own) (tree_of its) → DecidesSame b (tree_of v) (tree_of w)

pub no_alternative_there : (own its v w : Value) (k : ℕ) (b : Box Value Global) → own ≡ Chosen k b → nat_eq 7 (kind (tree_of its)) ≡ false → TellsWhole own its v w → DecidesSame false (tree_of v) (tree_of w)
no_alternative_there own its v w k b e n h =
    h false (subst (λ o. DecidesSame false (tree_of o) (tree_of its)) (sym e) (apart (chosen k (tree_of b.value)) (tree_of its) n))
