-- Relations of lists element by element, and order (X.690 9.3, 10.3, 11.6).
use Rattle.std.specs.Prelude.{◌≡◌, ℕ, ◌<◌, ◌⊎◌, List, [], ◌∷◌, ◌++◌}

-- The lists have the same length, and R relates each two elements at the same position.
abbrev pub Each : {X Y : Type 0} → (X → Y → Type 0) → List X → List Y → Type 0
Each R [] ys = ys ≡ []
Each {Y = Y} R (x ∷ xs) ys = (y : Y) × (more : List Y) × (ys ≡ y ∷ more) × R x y × Each R xs more

-- The lexicographic order of octets, in which a proper prefix is less (11.6).
abbrev pub IsLess : List ℕ → List ℕ → Type 0
IsLess a [] = ⊥
IsLess [] (c ∷ d) = Unit {0}
IsLess (a ∷ b) (c ∷ d) = (a < c) ⊎ ((a ≡ c) × IsLess b d)

abbrev pub AreAscending : {X : Type 0} → (X → X → Type 0) → List X → Type 0
AreAscending less [] = Unit {0}
AreAscending less (x ∷ []) = Unit {0}
AreAscending less (x ∷ y ∷ xs) = (less y x → ⊥) × AreAscending less (y ∷ xs)

-- R relates x to each element.
abbrev pub IsBeforeAll : {X : Type 0} → (X → X → Type 0) → X → List X → Type 0
IsBeforeAll R x [] = Unit {0}
IsBeforeAll R x (y ∷ ys) = R x y × IsBeforeAll R x ys

-- R relates each element to all those after it.
abbrev pub AreInOrder : {X : Type 0} → (X → X → Type 0) → List X → Type 0
AreInOrder R [] = Unit {0}
AreInOrder R (x ∷ xs) = IsBeforeAll R x xs × AreInOrder R xs

-- `ys` has the elements of `xs`, in any order.
abbrev pub IsReordered : {X : Type 0} → List X → List X → Type 0
IsReordered [] ys = ys ≡ []
IsReordered {X} (x ∷ xs) ys = (before : List X) × (after : List X) × (ys ≡ before ++ (x ∷ after)) × IsReordered xs (before ++ after)
