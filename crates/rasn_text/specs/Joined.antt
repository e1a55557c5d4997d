-- Texts of parts.
use Rattle.std.specs.Prelude.{◌≡◌, ℕ, List, ◌++◌}
use Rattle.std.specs.List.{AllZip, join_with_byte}

-- The texts of these in their order, with a character between each two.
abbrev pub AreJoined : {X : Type 0} → (X → List ℕ → Type 0) → ℕ → List X → List ℕ → Type 0
AreJoined IsText mark these text = (texts : List (List ℕ)) × AllZip IsText these texts × (text ≡ join_with_byte mark texts)

-- Such a text follows what there was.
abbrev pub IsAppended : (List ℕ → Type 0) → List ℕ → List ℕ → Type 0
IsAppended Is old new = (text : List ℕ) × Is text × (new ≡ old ++ text)
