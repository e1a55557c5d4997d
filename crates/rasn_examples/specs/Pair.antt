-- Pair ::= SEQUENCE { number INTEGER (-2147483648..2147483647), truth BOOLEAN }
use Rattle.std.specs.Prelude.{[], ◌∷◌}
use Rattle.rasn_types.specs.Tags.{in_universal}
use Rattle.rasn_types.specs.Shapes.{Shape, Tree, number, items, leaf, integer, boolean, seq, Parts, part, required}
use Rattle.rasn_types.specs.Shapes.Parts.{none}
use Rattle.rasn_types.specs.Trees.{bool_tree, unconstrained, signed_range}
use Rattle.rasn_examples.specs.declared.pair.Pair.{Pair}

abbrev pub pair_parts : Parts
pair_parts = part required (leaf (integer (signed_range 32)) (in_universal 2) unconstrained) (part required (leaf boolean (in_universal 1) unconstrained) none)

abbrev pub pair_shape : Shape
pair_shape = seq (in_universal 16) pair_parts

abbrev pub pair_tree : Pair → Tree
pair_tree p = items (number p.number ∷ bool_tree p.truth ∷ [])
