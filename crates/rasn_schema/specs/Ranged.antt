-- A number that a type of Rattle holds, such as u16, and an INTEGER with its range have the same values and the same octets. Only
-- the errors differ.
use Rattle.std.specs.Prelude.{ℤ, Bool, false, ◌&&◌, Option, Some, None, if◌then◌else◌, int_le}
use Rattle.rasn_types.specs.declared.types.tag.Tag.{Tag}
use Rattle.rasn_types.specs.declared.types.constraints.Bounded.{Bounded}
use Rattle.rasn_types.specs.declared.types.constraints.Bounded.TheVariants.{Single, Range}
use Rattle.rasn_types.specs.Shapes.{Shape, leaf, any, prefix, choice, open_choice, option, seq, set, sorted_set, list, set_of, unknown, Parts, part, Kind, integer, every, between}
use Rattle.rasn_types.specs.declared.types.constraints.Bound.{Bound}
use Rattle.rasn_types.specs.declared.types.constraints.Constraints.{Constraints}
use Rattle.rasn_types.specs.Shapes.Parts.{none}

-- Whether a range lies between two numbers.
abbrev pub lies_between : ℤ → ℤ → Bounded ℤ → Bool
lies_between low high (Single z) = int_le low z && int_le z high
lies_between low high (Range (Some a) (Some b)) = int_le low a && int_le b high
lies_between low high bound = false

abbrev pub between_of : ℤ → ℤ → Bound ℤ
between_of low high = record { constraint = Range (Some low) (Some high); extensible = false }

-- Numbers between two ends with a constraint, as an INTEGER with a constraint alone.
abbrev pub ranged_between : ℤ → ℤ → Tag → Constraints → Option (Bound ℤ) → Shape
ranged_between low high tag c None = leaf (integer every) tag (record { value = Some (between_of low high); size = c.size })
ranged_between low high tag c (Some bound) = if lies_between low high bound.constraint then leaf (integer every) tag c else leaf (integer (between low high)) tag c

abbrev pub ranged_leaf : Kind → Tag → Constraints → Shape
ranged_leaf (integer (between low high)) tag c = ranged_between low high tag c c.value
ranged_leaf kind tag c = leaf kind tag c

abbrev mutual
  -- A shape whose numbers have ranges as constraints.
  pub ranged : Shape → Shape
  ranged (leaf kind tag c) = ranged_leaf kind tag c
  ranged (any tag) = any tag
  ranged (prefix tag s) = prefix tag (ranged s)
  ranged (choice ps) = choice (ranged_parts ps)
  ranged (open_choice ps) = open_choice (ranged_parts ps)
  ranged (option tag s) = option tag (ranged s)
  ranged (seq tag ps) = seq tag (ranged_parts ps)
  ranged (set tag ps) = set tag (ranged_parts ps)
  ranged (sorted_set extensible tag ps) = sorted_set extensible tag (ranged_parts ps)
  ranged (list tag s size) = list tag (ranged s) size
  ranged (set_of tag s size) = set_of tag (ranged s) size
  ranged unknown = unknown

  pub ranged_parts : Parts → Parts
  ranged_parts none = none
  ranged_parts (part presence s ps) = part presence (ranged s) (ranged_parts ps)
