-- Grouped ::= SEQUENCE { truth BOOLEAN, ..., number [1] INTEGER, [[ first INTEGER, second BOOLEAN ]] }
use Rattle.std.specs.Prelude.{[], ◌∷◌}
use Rattle.rasn_types.specs.Tags.{in_universal}
use Rattle.rasn_types.specs.declared.types.tag.Class.TheVariants.{Context}
use Rattle.rasn_types.specs.Shapes.{Shape, Tree, number, items, leaf, integer, every, boolean, seq, Parts, part, required, optional}
use Rattle.rasn_types.specs.Shapes.Parts.{none}
use Rattle.rasn_types.specs.Trees.{bool_tree, option_tree, unconstrained}
use Rattle.rasn_types.specs.declared.types.tag.Tag.{Tag}
use Rattle.rasn_examples.specs.declared.grouped.Grouped.{Grouped}

abbrev pub number_tag : Tag
number_tag = record { class = Context; value = 1 }

abbrev pub group_shape : Shape
group_shape = seq (in_universal 16) (part required (leaf (integer every) (in_universal 2) unconstrained) (part required (leaf boolean (in_universal 1) unconstrained) none))

abbrev pub grouped_parts : Parts
grouped_parts = part required (leaf boolean (in_universal 1) unconstrained) (part optional (leaf (integer every) number_tag unconstrained) (part optional group_shape none))

abbrev pub grouped_tree : Grouped → Tree
grouped_tree g = items (bool_tree g.truth ∷ option_tree (λ n. number n) g.number ∷ option_tree (λ both. items (number both.first ∷ bool_tree both.second ∷ [])) g.group ∷ [])
