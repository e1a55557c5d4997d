-- Alternatives as types: the number and the tree of the chosen alternative.
use Rattle.std.specs.Prelude.{ℕ, suc}
use Rattle.rasn_types.specs.Shapes.{Tree}
use Rattle.rasn_types.specs.declared.types.parts.OneOf.{OneOf}
use Rattle.rasn_types.specs.declared.types.parts.OneOf.TheVariants.{This, Other}

abbrev pub one_of_number : {A R : Type 0} → (R → ℕ) → OneOf A R → ℕ
one_of_number number (This a) = 0
one_of_number number (Other r) = suc (number r)

abbrev pub one_of_tree : {A R : Type 0} → (A → Tree) → (R → Tree) → OneOf A R → Tree
one_of_tree tree inner (This a) = tree a
one_of_tree tree inner (Other r) = inner r
