-- Types whose shapes are lawful.
use Rattle.std.specs.Prelude.{◌≡◌, true, List, [], ◌∷◌}
use Rattle.rasn_types.specs.Shapes.{Shape}
use Rattle.rasn_types.specs.Lawful.{IsLawful}
use Rattle.rasn.specs.Carries.{carries_all}

-- The shapes are lawful, and every value of them that DER reads is carried.
unfoldable pub AreLawful : List Shape → Type 0
AreLawful [] = Unit {0}
AreLawful (s ∷ shapes) = IsLawful s × (carries_all s ≡ true) × AreLawful shapes
