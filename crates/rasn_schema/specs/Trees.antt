-- What a value means.
use Rattle.std.specs.Prelude.{pos, chars}
use Rattle.std.specs.Cow.{cow_slice_items, cow_str_bytes}
use Rattle.rasn_types.specs.Shapes.{Tree, number, bits, numbers, instant, on_day, done, joined, set_elements, chosen, absent}
use Rattle.rasn_types.specs.CharacterString.{units_of}
use Rattle.rasn_types.specs.CowBits.{cow_bits}
use Rattle.rasn_types.specs.Trees.{bool_tree}
use Rattle.rasn_schema.specs.declared.value.Value.{Value, Boolean, Null, Integer, Bits, Octets, Text, Units, Arcs, Instant, Day, Absent, Items', Elements', Chosen', Row_of-Value, end_of-Value, more_of-Value}

abbrev mutual
  pub tree_of : Value → Tree
  tree_of (Boolean b) = bool_tree b
  tree_of Null = number (pos 0)
  tree_of (Integer n) = number n
  tree_of (Bits b) = bits (cow_bits b)
  tree_of (Octets o) = numbers (cow_slice_items o)
  tree_of (Text s) = numbers (chars (cow_str_bytes s))
  tree_of (Units u) = numbers (units_of u)
  tree_of (Arcs a) = numbers a
  tree_of (Instant t) = instant t.moment
  tree_of (Day d) = on_day d
  tree_of (Items' _ row) = trees_in row
  tree_of (Elements' _ row) = set_elements (trees_in row)
  tree_of (Chosen' k _ v) = chosen k (tree_of v)
  tree_of Absent = absent

  -- the values of a list
  pub trees_in : {n : _} → Row_of-Value n → Tree
  trees_in end_of-Value = done
  trees_in (more_of-Value v rest) = joined (tree_of v) (trees_in rest)
