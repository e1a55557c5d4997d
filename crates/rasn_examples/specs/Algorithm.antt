-- AlgorithmIdentifier ::= SEQUENCE { algorithm OBJECT IDENTIFIER, parameters ANY DEFINED BY algorithm OPTIONAL }
use Rattle.std.specs.Prelude.{[], ◌∷◌, None}
use Rattle.rasn_types.specs.Tags.{in_universal}
use Rattle.rasn_types.specs.Shapes.{Shape, Tree, numbers, items, leaf, object_identifier, any, seq, Parts, part, required, optional}
use Rattle.rasn_types.specs.Shapes.Parts.{none}
use Rattle.rasn_types.specs.Trees.{option_tree, unconstrained}
use Rattle.rasn_examples.specs.declared.algorithm.AlgorithmIdentifier.{AlgorithmIdentifier}

abbrev pub algorithm_parts : Parts
algorithm_parts = part required (leaf object_identifier (in_universal 6) unconstrained) (part optional (any None) none)

abbrev pub algorithm_shape : Shape
algorithm_shape = seq (in_universal 16) algorithm_parts

abbrev pub algorithm_tree : AlgorithmIdentifier → Tree
algorithm_tree a = items (numbers a.algorithm ∷ option_tree numbers a.parameters ∷ [])
