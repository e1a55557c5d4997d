-- Defaults as nodes: a value that holds others is followed by them.
use Rattle.std.specs.Prelude.{ℕ, ◌-◌, ◌<◌, pos, List, [], ◌∷◌, ◌++◌, length, chars}
use Rattle.std.specs.Cow.{cow_slice_items, cow_str_bytes}
use Rattle.rasn_types.specs.Shapes.{Tree, number, bits, numbers, instant, on_day, chosen}
use Rattle.rasn_types.specs.CharacterString.{units_of}
use Rattle.rasn_types.specs.CowBits.{cow_bits}
use Rattle.rasn_types.specs.Trees.{bool_tree}
use Rattle.rasn_schema.specs.declared.value.Value.{Value, Boolean, Null, Integer, Bits, Octets, Text, Units, Arcs, Instant, Day, Absent, Items', Elements', Chosen', Row_of-Value, end_of-Value, more_of-Value, items-the_row-Value}

abbrev mutual
  -- The first node of a value, and the nodes of the values that it holds.
  pub nodes_of : Value → List Tree
  nodes_of (Boolean b) = chosen 0 (bool_tree b) ∷ []
  nodes_of Null = chosen 1 (number (pos 0)) ∷ []
  nodes_of (Integer n) = chosen 2 (number n) ∷ []
  nodes_of (Bits b) = chosen 3 (bits (cow_bits b)) ∷ []
  nodes_of (Octets o) = chosen 4 (numbers (cow_slice_items o)) ∷ []
  nodes_of (Text s) = chosen 5 (numbers (chars (cow_str_bytes s))) ∷ []
  nodes_of (Units u) = chosen 6 (numbers (units_of u)) ∷ []
  nodes_of (Arcs a) = chosen 7 (numbers a) ∷ []
  nodes_of (Instant t) = chosen 8 (instant t.moment) ∷ []
  nodes_of (Day d) = chosen 9 (on_day d) ∷ []
  nodes_of (Items' _ row) = chosen 10 (number (pos (length (items-the_row-Value _ row)))) ∷ nodes_in row
  nodes_of (Elements' _ row) = chosen 11 (number (pos (length (items-the_row-Value _ row)))) ∷ nodes_in row
  nodes_of (Chosen' k _ v) = chosen 12 (number (pos k)) ∷ nodes_of v
  nodes_of Absent = chosen 13 (number (pos 0)) ∷ []

  pub nodes_in : {n : _} → Row_of-Value n → List Tree
  nodes_in end_of-Value = []
  nodes_in (more_of-Value v rest) = nodes_of v ++ nodes_in rest

abbrev mutual
  -- No value of those that the value is made of is nested in more than n others.
  pub IsWithinDepth : Value → ℕ → Type 0
  IsWithinDepth (Items' _ row) n = (0 < n) × AreWithinDepth row (n - 1)
  IsWithinDepth (Elements' _ row) n = (0 < n) × AreWithinDepth row (n - 1)
  IsWithinDepth (Chosen' k _ v) n = (0 < n) × IsWithinDepth v (n - 1)
  IsWithinDepth _ n = Unit {0}

  pub AreWithinDepth : {m : _} → Row_of-Value m → ℕ → Type 0
  AreWithinDepth end_of-Value n = Unit {0}
  AreWithinDepth (more_of-Value v rest) n = IsWithinDepth v n × AreWithinDepth rest n

-- The nodes of values, one after the other.
abbrev pub all_nodes : List Value → List Tree
all_nodes [] = []
all_nodes (v ∷ vs) = nodes_of v ++ all_nodes vs

-- Those of the values that a value holds.
abbrev pub nodes_held : Value → List Tree
nodes_held (Items' _ row) = nodes_in row
nodes_held (Elements' _ row) = nodes_in row
nodes_held (Chosen' k _ v) = nodes_of v
nodes_held _ = []
