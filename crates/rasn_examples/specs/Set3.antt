-- Set3 ::= SET { zero [0] IMPLICIT INTEGER (0..255), one [1] IMPLICIT INTEGER (0..255), two [2] IMPLICIT INTEGER
-- (0..255) }
use Rattle.std.specs.Prelude.{ℕ, pos, [], ◌∷◌}
use Rattle.rasn_types.specs.Tags.{in_universal}
use Rattle.rasn_types.specs.declared.types.tag.Class.TheVariants.{Context}
use Rattle.rasn_types.specs.Shapes.{Shape, Tree, number, items, leaf, integer, set, Parts, part, required}
use Rattle.rasn_types.specs.Shapes.Parts.{none}
use Rattle.rasn_types.specs.Trees.{unconstrained, unsigned_range}
use Rattle.rasn_examples.specs.declared.set3.Set3.{Set3}

abbrev pub octet_at : ℕ → Shape
octet_at n = leaf (integer (unsigned_range 8)) (record { class = Context; value = n }) unconstrained

abbrev pub set3_parts : Parts
set3_parts = part required (octet_at 0) (part required (octet_at 1) (part required (octet_at 2) none))

abbrev pub set3_shape : Shape
set3_shape = set (in_universal 17) set3_parts

abbrev pub set3_tree : Set3 → Tree
set3_tree s = items (number (pos s.zero) ∷ number (pos s.one) ∷ number (pos s.two) ∷ [])
