-- Whether two trees are the same, as a function: of set elements, each is taken out of the other set.
use Rattle.std.specs.Prelude.{Bool, true, false, ◌&&◌, Option, Some, None, nat_eq}
use Rattle.std.specs.Bool.{beq}
use Rattle.std.specs.Ordering.{int_eq}
use Rattle.std.specs.Cmp.Lexicographic.{pointwise}
use Rattle.rasn_types.specs.Shapes.{Tree, number, bits, numbers, instant, on_day, done, joined, set_elements, chosen, absent}
use Rattle.rasn_types.specs.Equality.{moment_eq, day_eq}
use Rattle.rasn_schema.specs.declared.value.Value.{Value}
use Rattle.rasn_schema.specs.Trees.{tree_of}

abbrev pub without : Bool → Tree → Tree → Option Tree → Option Tree
without true u us r = Some us
without false u us None = None
without false u us (Some r) = Some (joined u r)

-- A list without its first element that passes.
abbrev pub taken_by : (Tree → Bool) → Tree → Option Tree
taken_by p (joined u us) = without (p u) u us (taken_by p us)
taken_by p _ = None

abbrev pub passes : (Tree → Bool) → Option Tree → Bool
passes q None = false
passes q (Some us) = q us

abbrev pub is_done : Tree → Bool
is_done done = true
is_done _ = false

abbrev mutual
  pub tree_eq : Tree → Tree → Bool
  tree_eq (number y) (number z) = int_eq y z
  tree_eq (bits k) (bits l) = pointwise beq k l
  tree_eq (numbers k) (numbers l) = pointwise nat_eq k l
  tree_eq (instant m) (instant n) = moment_eq m n
  tree_eq (on_day c) (on_day d) = day_eq c d
  tree_eq done done = true
  tree_eq (joined t ts) (joined u us) = tree_eq t u && tree_eq ts us
  tree_eq (set_elements ts) (set_elements us) = elements_eq ts us
  tree_eq (chosen k t) (chosen m u) = nat_eq k m && tree_eq t u
  tree_eq absent absent = true
  tree_eq _ _ = false

  pub elements_eq : Tree → Tree → Bool
  elements_eq done us = is_done us
  elements_eq (joined t ts) us = passes (λ rest. elements_eq ts rest) (taken_by (λ u. tree_eq t u) us)
  elements_eq _ us = false

-- `==` of values
abbrev pub value_eq : Value → Value → Bool
value_eq v w = tree_eq (tree_of v) (tree_of w)
