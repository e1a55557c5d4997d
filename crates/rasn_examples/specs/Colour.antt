-- The numbers of the example ENUMERATED.
use Rattle.std.specs.Prelude.{ℤ, pos, List, [], ◌∷◌}
use Rattle.rasn_examples.specs.declared.colour.Colour.{Colour}
use Rattle.rasn_examples.specs.declared.colour.Colour.TheVariants.{Red, Green, Blue}

abbrev pub colours : List ℤ
colours = pos 0 ∷ pos 1 ∷ pos 2 ∷ []

abbrev pub colour_number : Colour → ℤ
colour_number Red = pos 0
colour_number Green = pos 1
colour_number Blue = pos 2
