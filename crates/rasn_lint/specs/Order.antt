-- The order of the components of a SET (X.690 10.3, 11.6).
use Rattle.std.specs.Prelude.{ℕ, List, ◌⊎◌}
use Rattle.rasn_types.specs.declared.types.tag.Tag.{Tag}
use Rattle.rasn_types.specs.Tags.{IsTagBelow}
use Rattle.rasn_types.specs.Framing.{Begins}
use Rattle.rasn_types.specs.Order.{IsLess, AreAscending}

-- The tag that y begins with isn't above the one that x begins with.
abbrev pub HasNoHigherTag : List ℕ → List ℕ → Type 0
HasNoHigherTag y x = (t : Tag) × (s : Tag) × Begins y t × Begins x s × (IsTagBelow s t → ⊥)

-- The components are in the order of a SET OF, in which the octets of none are less than those of the one before it, or
-- in that of a SET, in which the tag of each is above that of the one before it.
abbrev pub IsInOrder : List (List ℕ) → Type 0
IsInOrder parts = AreAscending IsLess parts ⊎ AreAscending HasNoHigherTag parts
