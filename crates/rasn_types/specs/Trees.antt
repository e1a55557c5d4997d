-- The trees of values.
use Rattle.std.specs.Prelude.{◌≡◌, ◌-◌, ◌^◌, ℕ, Bool, ℤ, pos, neg_ℤ, true, false, List, map, Option, Some, None}
use Rattle.rasn_types.specs.Framing.{AreOctets}
use Rattle.rasn_types.specs.Contents.{signed, IsShortestInteger}
use Rattle.rasn_types.specs.Shapes.{Tree, number, items, absent, Constraints, Interval, between}

abbrev pub truth : Bool → ℤ
truth true = pos 1
truth false = pos 0

abbrev pub bool_tree : Bool → Tree
bool_tree b = number (truth b)

abbrev pub unconstrained : Constraints
unconstrained = record { value = None; size = None }

-- Octets in two's complement, the fewest for the number (X.690 8.3.2).
pub record IsShortestOf (z : ℤ) (l : List ℕ) : Type 0 where
  pub is : signed l ≡ z
  pub shortest : IsShortestInteger l
  pub octets : AreOctets l

-- The whole numbers that fit in this number of bits, signed and unsigned.
abbrev pub signed_range : ℕ → Interval
signed_range bits = between (neg_ℤ (pos (2 ^ (bits - 1)))) (pos (2 ^ (bits - 1) - 1))

abbrev pub unsigned_range : ℕ → Interval
unsigned_range bits = between (pos 0) (pos (2 ^ bits - 1))

-- The tree of a value that may be absent.
abbrev pub option_tree : {T : Type 0} → (T → Tree) → Option T → Tree
option_tree tree None = absent
option_tree tree (Some v) = tree v

-- The tree of a list of values.
abbrev pub list_tree : {T : Type 0} → (T → Tree) → List T → Tree
list_tree tree vs = items (map tree vs)
