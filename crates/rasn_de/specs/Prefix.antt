-- Explicit tags.
use Rattle.rasn_types.specs.declared.types.tag.Tag.{Tag}
use Rattle.rasn_types.specs.Shapes.{Tree, Shape}
use Rattle.rasn_de.specs.State.{Call}
use Rattle.rasn_de.specs.ValueErrors.{Errors, DecodesOr}
use Rattle.rasn_de.specs.Constructed.{prefix_header, DecodesInside}

-- A value of the shape, with these errors, is all of the contents of a value with this tag, whose constructed bit is
-- checked only under DER.
abbrev pub DecodesPrefixBy : {D : Type 0} → Shape → (D → Tree) → Errors → Tag → Call D
DecodesPrefixBy s tree errors tag = DecodesInside (DecodesOr s tree errors) (prefix_header tag)
