-- Signal ::= SET { truth BOOLEAN OPTIONAL, level INTEGER (0..255) DEFAULT 7, mark [0] IMPLICIT INTEGER (0..255) }
use Rattle.std.specs.Prelude.{ℕ, pos}
use Rattle.rasn_types.specs.declared.types.tag.Tag.{Tag}
use Rattle.rasn_types.specs.declared.types.tag.Class.TheVariants.{Context}
use Rattle.rasn_types.specs.Tags.{in_universal}
use Rattle.rasn_types.specs.Shapes.{Shape, Tree, number, leaf, integer, boolean, Parts, part, required, optional, default}
use Rattle.rasn_types.specs.Shapes.Parts.{none}
use Rattle.rasn_types.specs.Trees.{unconstrained, unsigned_range}

abbrev pub octet_at : Tag → Shape
octet_at tag = leaf (integer (unsigned_range 8)) tag unconstrained

abbrev pub mark_tag : Tag
mark_tag = record { class = Context; value = 0 }

abbrev pub signal_parts : Parts
signal_parts = part optional (leaf boolean (in_universal 1) unconstrained) (part (default (number (pos 7))) (octet_at (in_universal 2)) (part required (octet_at mark_tag) none))

abbrev pub level_tree : ℕ → Tree
level_tree n = number (pos n)
