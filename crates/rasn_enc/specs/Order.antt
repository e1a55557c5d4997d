-- The order of octets, as a test.
use Rattle.std.specs.Prelude.{ℕ, ◌-◌, Bool, true, false, ◌||◌, ◌&&◌, List, [], ◌∷◌, take, drop, ltb, eqb}
use Rattle.rasn_types.specs.Bytes.{IsLess}
use Rattle.rasn_types.specs.Tags.{IsTagBelow}
use Rattle.rasn_types.specs.declared.types.tag.Tag.{Tag}

-- Octets are compared one by one, and a list is less than a longer one that begins with it.
abbrev pub octets_less : List ℕ → List ℕ → Bool
octets_less xs [] = false
octets_less [] (y ∷ ys) = true
octets_less (x ∷ xs) (y ∷ ys) = ltb x y || (eqb x y && octets_less xs ys)

-- The octets from `middle` on are less than those from `from` to `middle` (X.690 11.6).
abbrev pub FallsBetween : ℕ → ℕ → List ℕ → Type 0
FallsBetween from middle octets = IsLess (drop middle octets) (take (middle - from) (drop from octets))

-- The tag that follows is below this one.
abbrev pub FallsAt : Tag → List Tag → Type 0
FallsAt t [] = ⊥
FallsAt t (u ∷ us) = IsTagBelow u t
