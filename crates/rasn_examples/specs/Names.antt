-- RelativeDistinguishedName ::= SET OF AttributeTypeAndValue
use Rattle.std.specs.Prelude.{None}
use Rattle.rasn_types.specs.Tags.{in_universal}
use Rattle.rasn_types.specs.Shapes.{Shape, set_of}
use Rattle.rasn_examples.specs.Attribute.{attribute_shape}

abbrev pub relative_shape : Shape
relative_shape = set_of (in_universal 17) attribute_shape None
