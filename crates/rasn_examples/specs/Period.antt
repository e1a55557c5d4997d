-- Validity ::= SEQUENCE { notBefore Time, notAfter Time }
use Rattle.rasn_types.specs.Tags.{in_universal}
use Rattle.rasn_types.specs.Shapes.{Shape, seq, part, required}
use Rattle.rasn_types.specs.Shapes.Parts.{none}
use Rattle.rasn_examples.specs.Times.{time_shape}

abbrev pub validity_shape : Shape
validity_shape = seq (in_universal 16) (part required time_shape (part required time_shape none))
