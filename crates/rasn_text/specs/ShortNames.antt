-- The short names of attribute types (RFC 4514, 3).
use Rattle.std.specs.Prelude.{◌≡◌, ◌⊎◌, ℕ, List, [], ◌∷◌, codes}

-- Attribute types, by their identifiers, and their short names.
abbrev pub short_names : List (List ℕ × List ℕ)
short_names = (2 ∷ 5 ∷ 4 ∷ 3 ∷ [], codes "CN")
    ∷ (2 ∷ 5 ∷ 4 ∷ 6 ∷ [], codes "C")
    ∷ (2 ∷ 5 ∷ 4 ∷ 7 ∷ [], codes "L")
    ∷ (2 ∷ 5 ∷ 4 ∷ 8 ∷ [], codes "ST")
    ∷ (2 ∷ 5 ∷ 4 ∷ 9 ∷ [], codes "STREET")
    ∷ (2 ∷ 5 ∷ 4 ∷ 10 ∷ [], codes "O")
    ∷ (2 ∷ 5 ∷ 4 ∷ 11 ∷ [], codes "OU")
    ∷ (0 ∷ 9 ∷ 2342 ∷ 19200300 ∷ 100 ∷ 1 ∷ 1 ∷ [], codes "UID")
    ∷ (0 ∷ 9 ∷ 2342 ∷ 19200300 ∷ 100 ∷ 1 ∷ 25 ∷ [], codes "DC")
    ∷ []

-- A row of the table has this type and this name.
abbrev pub HasRow : List (List ℕ × List ℕ) → List ℕ → List ℕ → Type 0
HasRow [] kind name = ⊥
HasRow (row ∷ rows) kind name = ((kind ≡ row.0) × (name ≡ row.1)) ⊎ HasRow rows kind name

abbrev pub IsShortName : List ℕ → List ℕ → Type 0
IsShortName kind name = HasRow short_names kind name

abbrev pub HasNoShortName : List ℕ → Type 0
HasNoShortName kind = (name : List ℕ) → IsShortName kind name → ⊥
