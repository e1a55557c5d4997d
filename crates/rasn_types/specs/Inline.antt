-- The number of octets of a number that are kept inline, and the numbers that need an allocation.
use Rattle.std.specs.Prelude.{ℕ, ℤ, ◌<◌, List, length}
use Rattle.rasn_types.specs.Trees.{IsShortestOf}

abbrev pub inline_capacity : ℕ
inline_capacity = 23

-- The fewest octets of the number are more than are kept inline.
abbrev pub IsLong : ℤ → Type 0
IsLong z = (l : List ℕ) × IsShortestOf z l × (inline_capacity < length l)
