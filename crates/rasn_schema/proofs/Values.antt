-- The trees of values that hold others.
use Rattle.std.proofs.Common.{◌≡◌, List, Vec, Global, ℕ, pos, refl, ap, ◌∙◌}
use mathlib.Core.Former.{Count}
use Rattle.rasn_types.specs.Shapes.{number, bits, numbers, instant, on_day, joined, set_elements, chosen, absent}
use Rattle.rasn_types.specs.Equality.{bool_not_absent}
use Rattle.rasn_types.specs.Trees.{list_tree}
use Rattle.rasn_schema.specs.declared.value.Value.{Value, Boolean, Null, Integer, Bits, Octets, Text, Units, Arcs, Instant, Day, Absent, Chosen', Items, Items', Elements, Elements', Row_of-Value, end_of-Value, more_of-Value, items-the_row-Value, items_hidden-the_row-Value-0}
use Rattle.rasn_types.specs.CowBits.{cow_bits}
use Rattle.rasn_schema.specs.Trees.{tree_of, trees_in}
use Rattle.rasn_schema.specs.Held.{held_in}

abbrev pub row_of : Value → (n : Count) × Row_of-Value n
row_of (Items' _ row) = (_, row)
row_of (Elements' _ row) = (_, row)
row_of _ = (_, end_of-Value)

pub trees_listed : (n : _) (row : Row_of-Value n) → trees_in row ≡ list_tree tree_of (items-the_row-Value n row)
trees_listed n end_of-Value = refl
trees_listed n (more_of-Value v rest) = ap (joined (tree_of v)) (trees_listed _ rest)

pub tree_items : (vs : Vec Value Global) → tree_of (Items vs) ≡ list_tree tree_of vs.items
tree_items vs = let row = row_of (Items vs) in trees_listed row.0 row.1 ∙ ap (list_tree tree_of) (items_hidden-the_row-Value-0 vs)

pub tree_elements : (vs : Vec Value Global) → tree_of (Elements vs) ≡ set_elements (list_tree tree_of vs.items)
tree_elements vs = let row = row_of (Elements vs) in ap set_elements (trees_listed row.0 row.1 ∙ ap (list_tree tree_of) (items_hidden-the_row-Value-0 vs))

pub held_items : (vs : Vec Value Global) → held_in (Items vs) ≡ vs.items
held_items vs = items_hidden-the_row-Value-0 vs

pub held_elements : (vs : Vec Value Global) → held_in (Elements vs) ≡ vs.items
held_elements vs = items_hidden-the_row-Value-0 vs

list_not_absent : (n : _) (row : Row_of-Value n) → trees_in row ≡ absent → ⊥
list_not_absent n end_of-Value s = cc
list_not_absent n (more_of-Value v rest) s = cc

not_numbers : (l : List ℕ) → numbers l ≡ absent → ⊥
not_numbers l e = cc

pub no_absent : (v : Value) → (v ≡ Absent → ⊥) → tree_of v ≡ absent → ⊥
no_absent Absent n = λ e. n refl
no_absent (Boolean x) n = bool_not_absent x
no_absent Null n = λ (e : number (pos 0) ≡ absent). cc
no_absent (Integer x) n = λ (e : number x ≡ absent). cc
no_absent (Bits x) n = λ (e : bits (cow_bits x) ≡ absent). cc
no_absent (Octets x) n = λ e. not_numbers _ e
no_absent (Text x) n = λ e. not_numbers _ e
no_absent (Units x) n = λ e. not_numbers _ e
no_absent (Arcs x) n = λ (e : numbers x ≡ absent). cc
no_absent (Instant x) n = λ (e : instant x.moment ≡ absent). cc
no_absent (Day x) n = λ (e : on_day x ≡ absent). cc
no_absent (Items' _ row) n = λ e. list_not_absent _ row e
no_absent (Elements' _ row) n = λ (e : set_elements (trees_in row) ≡ absent). cc
no_absent (Chosen' k _ v) n = λ (e : chosen k (tree_of v) ≡ absent). cc
