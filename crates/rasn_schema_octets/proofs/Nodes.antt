-- Nodes of values: how many values follow one, and that nodes are those of values in one way at most.
use Rattle.std.proofs.Common.{◌≡◌, ℕ, zero, suc, ◌+◌, ◌-◌, ◌<◌, cond, ◌||◌, nat_eq, pos, List, [], ◌∷◌, ◌++◌, length, Option, Some, None, Vec, Global, refl, sym, ap, ◌∙◌, subst, arith, append_assoc, zero-add}
use Rattle.rasn_types.specs.Shapes.{Tree, number, chosen}
use Rattle.rasn_schema.specs.declared.value.Value.{Value, Boolean, Null, Integer, Bits, Octets, Text, Units, Arcs, Instant, Day, Absent, Items, Items', Elements, Elements', Chosen', Row_of-Value, end_of-Value, more_of-Value, items-the_row-Value, items_hidden-the_row-Value-0}
use Rattle.rasn_schema.proofs.Values.{row_of}
use Rattle.rasn_schema_octets.specs.Defaults.{nodes_of, nodes_in, all_nodes, IsWithinDepth, AreWithinDepth}
use Rattle.rasn_schema_octets.specs.Shallow.{Every}

-- ---- what follows a node

abbrev pub index : Tree → ℕ
index (chosen k t) = k
index _ = 99

abbrev amount : Tree → ℕ
amount (chosen k (number (pos n))) = n
amount _ = 0

abbrev followers : Tree → ℕ
followers t = cond (nat_eq (index t) 12) 1 (cond (nat_eq (index t) 10 || nat_eq (index t) 11) (amount t) 0)

-- What is left of the list after so many values.
abbrev left_after : List Tree → ℕ → Option (List Tree)
left_after [] zero = Some []
left_after [] (suc n) = None
left_after (t ∷ l) zero = Some (t ∷ l)
left_after (t ∷ l) (suc n) = left_after l (followers t + n)

nothing_after : (l : List Tree) → left_after l 0 ≡ Some l
nothing_after [] = refl
nothing_after (t ∷ l) = refl

alone : (l : List Tree) (n : ℕ) → left_after l (0 + n) ≡ left_after l n
alone l n = ap (left_after l) (zero-add n)

one_more : (l : List Tree) (n : ℕ) → left_after l (1 + n) ≡ left_after l (suc n)
one_more l n = let e : 1 + n ≡ suc n = omega arith in ap (left_after l) e

rows_more : (l : List Tree) (m n : ℕ) → left_after l (suc m + n) ≡ left_after l (suc (m + n))
rows_more l m n = let e : suc m + n ≡ suc (m + n) = omega arith in ap (left_after l) e

mutual
  value_left : (v : Value) (r : List Tree) (n : ℕ) → left_after (nodes_of v ++ r) (suc n) ≡ left_after r n
  value_left (Boolean b) r n = alone r n
  value_left Null r n = alone r n
  value_left (Integer z) r n = alone r n
  value_left (Bits b) r n = alone r n
  value_left (Octets o) r n = alone r n
  value_left (Text s) r n = alone r n
  value_left (Units u) r n = alone r n
  value_left (Arcs a) r n = alone r n
  value_left (Instant t) r n = alone r n
  value_left (Day d) r n = alone r n
  value_left (Items' _ row) r n = row_left _ row r n
  value_left (Elements' _ row) r n = row_left _ row r n
  value_left (Chosen' k _ v) r n = one_more (nodes_of v ++ r) n ∙ value_left v r n
  value_left Absent r n = alone r n

  row_left : (m : _) (row : Row_of-Value m) (r : List Tree) (n : ℕ) → left_after (nodes_in row ++ r) (length (items-the_row-Value m row) + n) ≡ left_after r n
  row_left m end_of-Value r n = alone r n
  row_left m (more_of-Value v rest) r n =
      rows_more ((nodes_of v ++ nodes_in rest) ++ r) (length (items-the_row-Value _ rest)) n
      ∙ (ap (λ l. left_after l (suc (length (items-the_row-Value _ rest) + n))) (append_assoc (nodes_of v) (nodes_in rest) r)
      ∙ (value_left v (nodes_in rest ++ r) (length (items-the_row-Value _ rest) + n) ∙ row_left _ rest r n))

values_left : (vs : List Value) (r : List Tree) (n : ℕ) → left_after (all_nodes vs ++ r) (length vs + n) ≡ left_after r n
values_left [] r n = alone r n
values_left (v ∷ vs) r n =
    rows_more ((nodes_of v ++ all_nodes vs) ++ r) (length vs) n
    ∙ (ap (λ l. left_after l (suc (length vs + n))) (append_assoc (nodes_of v) (all_nodes vs) r)
    ∙ (value_left v (all_nodes vs ++ r) (length vs + n) ∙ values_left vs r n))

some_one : (l m : List Tree) → Some l ≡ Some m → l ≡ m
some_one l m e = cc

-- After the first value there is one rest at most, and after as many values.
pub one_rest : (v w : Value) (r s : List Tree) → nodes_of v ++ r ≡ nodes_of w ++ s → r ≡ s
one_rest v w r s e = some_one r s (sym (nothing_after r) ∙ (sym (value_left v r 0) ∙ (ap (λ l. left_after l 1) e ∙ (value_left w s 0 ∙ nothing_after s))))

pub one_rest_of_all : (vs ws : List Value) (r s : List Tree) → length vs ≡ length ws → all_nodes vs ++ r ≡ all_nodes ws ++ s → r ≡ s
one_rest_of_all vs ws r s h e = some_one r s
    (sym (nothing_after r) ∙ (sym (values_left vs r 0) ∙ (ap (λ l. left_after l (length vs + 0)) e ∙ (ap (λ n. left_after (all_nodes ws ++ s) (n + 0)) h ∙ (values_left ws s 0 ∙ nothing_after s)))))

-- ---- rows as lists

pub nodes_listed : (n : _) (row : Row_of-Value n) → nodes_in row ≡ all_nodes (items-the_row-Value n row)
nodes_listed n end_of-Value = refl
nodes_listed n (more_of-Value v rest) = ap (λ l. nodes_of v ++ l) (nodes_listed _ rest)

pub depth_listed : (n : _) (row : Row_of-Value n) (d : ℕ) → AreWithinDepth row d → Every (λ v. IsWithinDepth v d) (items-the_row-Value n row)
depth_listed n end_of-Value d h = tt
depth_listed n (more_of-Value v rest) d h = (h.0, depth_listed _ rest d h.1)

pub depth_of_rows : (n : _) (row : Row_of-Value n) (d : ℕ) → Every (λ v. IsWithinDepth v d) (items-the_row-Value n row) → AreWithinDepth row d
depth_of_rows n end_of-Value d h = tt
depth_of_rows n (more_of-Value v rest) d h = (h.0, depth_of_rows _ rest d h.1)

pub row_items : (vs : Vec Value Global) → items-the_row-Value _ (row_of (Items vs)).1 ≡ vs.items
row_items vs = items_hidden-the_row-Value-0 vs

pub items_nodes : (vs : Vec Value Global) → nodes_of (Items vs) ≡ chosen 10 (number (pos (length vs.items))) ∷ all_nodes vs.items
items_nodes vs =
    let row = row_of (Items vs) in
    ap (λ l. chosen 10 (number (pos (length (items-the_row-Value _ row.1)))) ∷ l) (nodes_listed row.0 row.1)
    ∙ ap (λ l. chosen 10 (number (pos (length l))) ∷ all_nodes l) (row_items vs)

pub elements_nodes : (vs : Vec Value Global) → nodes_of (Elements vs) ≡ chosen 11 (number (pos (length vs.items))) ∷ all_nodes vs.items
elements_nodes vs =
    let row = row_of (Elements vs) in
    ap (λ l. chosen 11 (number (pos (length (items-the_row-Value _ row.1)))) ∷ l) (nodes_listed row.0 row.1)
    ∙ ap (λ l. chosen 11 (number (pos (length l))) ∷ all_nodes l) (row_items vs)

pub items_within : (vs : Vec Value Global) (n : ℕ) → 0 < n → Every (λ v. IsWithinDepth v (n - 1)) vs.items → IsWithinDepth (Items vs) n
items_within vs n p h = let row = row_of (Items vs) in (p, depth_of_rows row.0 row.1 (n - 1) (subst (Every (λ v. IsWithinDepth v (n - 1))) (sym (row_items vs)) h))

pub elements_within : (vs : Vec Value Global) (n : ℕ) → 0 < n → Every (λ v. IsWithinDepth v (n - 1)) vs.items → IsWithinDepth (Elements vs) n
elements_within vs n p h = let row = row_of (Elements vs) in (p, depth_of_rows row.0 row.1 (n - 1) (subst (Every (λ v. IsWithinDepth v (n - 1))) (sym (row_items vs)) h))
