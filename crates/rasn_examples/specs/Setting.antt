-- Setting ::= SEQUENCE { truth BOOLEAN, level INTEGER (0..255) DEFAULT 7 }
use Rattle.std.specs.Prelude.{[], ◌∷◌, pos}
use Rattle.rasn_types.specs.Tags.{in_universal}
use Rattle.rasn_types.specs.Shapes.{Shape, Tree, number, items, leaf, integer, boolean, seq, Parts, part, required, default}
use Rattle.rasn_types.specs.Shapes.Parts.{none}
use Rattle.rasn_types.specs.Trees.{bool_tree, unconstrained, unsigned_range}
use Rattle.rasn_examples.specs.declared.setting.Setting.{Setting}

abbrev pub truth_shape : Shape
truth_shape = leaf boolean (in_universal 1) unconstrained

abbrev pub level_shape : Shape
level_shape = leaf (integer (unsigned_range 8)) (in_universal 2) unconstrained

abbrev pub setting_parts : Parts
setting_parts = part required truth_shape (part (default (number (pos 7))) level_shape none)

abbrev pub setting_shape : Shape
setting_shape = seq (in_universal 16) setting_parts

abbrev pub setting_tree : Setting → Tree
setting_tree s = items (bool_tree s.truth ∷ number (pos s.level) ∷ [])
