-- Reply ::= CHOICE { accepted BOOLEAN, count [0] IMPLICIT INTEGER (0..255), ... }
use Rattle.std.specs.Prelude.{pos}
use Rattle.rasn_types.specs.Tags.{in_universal}
use Rattle.rasn_types.specs.declared.types.tag.Class.TheVariants.{Context}
use Rattle.rasn_types.specs.Shapes.{Shape, Tree, number, numbers, chosen, leaf, integer, boolean, open_choice, part, required}
use Rattle.rasn_types.specs.Shapes.Parts.{none}
use Rattle.rasn_types.specs.Trees.{bool_tree, unconstrained, unsigned_range}
use Rattle.rasn_rows.specs.declared.types.reply.Reply.{Reply}
use Rattle.rasn_rows.specs.declared.types.reply.Reply.TheVariants.{Accepted, Count, Other}

abbrev pub reply_shape : Shape
reply_shape = open_choice (part required (leaf boolean (in_universal 1) unconstrained) (part required (leaf (integer (unsigned_range 8)) (record { class = Context; value = 0 }) unconstrained) none))

abbrev pub reply_tree : Reply → Tree
reply_tree (Accepted b) = chosen 0 (bool_tree b)
reply_tree (Count n) = chosen 1 (number (pos n))
reply_tree (Other any) = chosen 2 (numbers any)
