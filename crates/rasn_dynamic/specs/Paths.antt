-- Paths as text.
use Rattle.std.specs.Prelude.{ℕ, List, [], ◌∷◌, ◌++◌}
use Rattle.std.specs.List.{flat_map}
use Rattle.std.specs.Fmt.{decimal}

-- an index in brackets after a point
abbrev pub point_and_index : ℕ → List ℕ
point_and_index i = 46 ∷ (91 ∷ (decimal i ++ (93 ∷ [])))

-- indices in brackets with a point between two, or "the top"
abbrev pub path_text : List ℕ → List ℕ
path_text [] = 116 ∷ 104 ∷ 101 ∷ 32 ∷ 116 ∷ 111 ∷ 112 ∷ []
path_text (i ∷ l) = (91 ∷ (decimal i ++ (93 ∷ []))) ++ flat_map point_and_index l
