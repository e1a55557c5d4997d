-- AttributeTypeAndValue ::= SEQUENCE { type OBJECT IDENTIFIER, value ANY DEFINED BY type }
use Rattle.std.specs.Prelude.{[], ◌∷◌, None}
use Rattle.rasn_types.specs.Tags.{in_universal}
use Rattle.rasn_types.specs.Shapes.{Shape, Tree, numbers, items, leaf, object_identifier, any, seq, Parts, part, required}
use Rattle.rasn_types.specs.Shapes.Parts.{none}
use Rattle.rasn_types.specs.Trees.{unconstrained}
use Rattle.rasn_examples.specs.declared.attribute.AttributeTypeAndValue.{AttributeTypeAndValue}

abbrev pub attribute_parts : Parts
attribute_parts = part required (leaf object_identifier (in_universal 6) unconstrained) (part required (any None) none)

abbrev pub attribute_shape : Shape
attribute_shape = seq (in_universal 16) attribute_parts

abbrev pub attribute_tree : AttributeTypeAndValue → Tree
attribute_tree a = items (numbers a.kind ∷ numbers a.value ∷ [])
