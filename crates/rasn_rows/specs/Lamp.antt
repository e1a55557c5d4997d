-- Lamp ::= SEQUENCE { level Level DEFAULT off : NULL, lit BOOLEAN, dimmed Level OPTIONAL }
-- Level ::= CHOICE { number INTEGER (0..255), off NULL }
use Rattle.std.specs.Prelude.{ℕ, [], ◌∷◌, true, pos, refl}
use Rattle.rasn_types.specs.Tags.{in_universal}
use Rattle.rasn_types.specs.Shapes.{Shape, Tree, number, chosen, items, leaf, integer, boolean, null, choice, seq, Parts, part, required, optional_choice, default_choice}
use Rattle.rasn_types.specs.Shapes.Parts.{none}
use Rattle.rasn_types.specs.Trees.{bool_tree, option_tree, unconstrained, unsigned_range}
use Rattle.rasn_types.specs.Equality.{Alternative, single_decided}
use Rattle.rasn_rows.specs.declared.types.lamp.Lamp.{Lamp}
use Rattle.rasn_rows.specs.declared.types.lamp.Level.{Level}
use Rattle.rasn_rows.specs.declared.types.lamp.Level.TheVariants.{Number, Off}

abbrev pub level_shape : Shape
level_shape = choice (part required (leaf (integer (unsigned_range 8)) (in_universal 2) unconstrained) (part required (leaf null (in_universal 5) unconstrained) none))

abbrev pub off_tree : Tree
off_tree = chosen 1 (number (pos 0))

abbrev pub level_tree : Level → Tree
level_tree (Number n) = chosen 0 (number (pos n))
level_tree Off = off_tree

-- An alternative that is a NULL is a variant without a field, which has one value.
pub no_field : {X : Type 0} {k : ℕ} → Alternative k (λ (x y : X). true) (λ x. chosen k (number (pos 0)))
no_field = record { inner = λ x. number (pos 0); is = λ x. refl; decided = λ x y. single_decided (pos 0) }

abbrev pub lamp_parts : Parts
lamp_parts = part (default_choice off_tree) level_shape (part required (leaf boolean (in_universal 1) unconstrained) (part optional_choice level_shape none))

abbrev pub lamp_shape : Shape
lamp_shape = seq (in_universal 16) lamp_parts

abbrev pub lamp_tree : Lamp → Tree
lamp_tree l = items (level_tree l.level ∷ bool_tree l.lit ∷ option_tree level_tree l.dimmed ∷ [])
