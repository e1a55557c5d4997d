-- The tags with which the values of a type may begin, one level deep.
use Rattle.std.specs.Prelude.{◌≡◌, ◌≢◌, ◌<◌, ℕ, List, Some, slice_get}
use Rattle.rasn_types.specs.declared.types.tag.Tag.{Tag}
use Rattle.rasn_types.specs.Shapes.{Shape, Parts, IsFirst, IsFirstOf, Presence, required, addition, optional_by, default_by}
use Rattle.rasn_schema.specs.declared.first_tags.FirstTags.{FirstTags}
use Rattle.rasn_schema.specs.declared.first_tags.FirstTags.TheVariants.{Nothing, One, Every, Of}
use Rattle.rasn_schema.specs.declared.types.Alternative.{Alternative}
use Rattle.rasn_schema.specs.Shapes.{alternatives_by}

-- Each tag with which a value may begin is such.
abbrev pub EachFirst : Shape → (Tag → Type 0) → Type 0
EachFirst s Q = (n : Tag) → IsFirst s n → Q n

abbrev pub EachFirstOf : Parts → (Tag → Type 0) → Type 0
EachFirstOf ps Q = (n : Tag) → IsFirstOf ps n → Q n

-- They are none, one, every one, or those of alternatives, whose shapes f gives.
abbrev pub AreFirstTags : (ℕ → Shape) → Shape → FirstTags → Type 0
AreFirstTags f s Nothing = (n : Tag) → IsFirst s n → ⊥
AreFirstTags f s (One t) = IsFirst s t × ((n : Tag) → IsFirst s n → n ≡ t)
AreFirstTags f s Every = (n : Tag) → IsFirst s n
AreFirstTags f s (Of ks) = ((n : Tag) → IsFirst s n → IsFirstOf (alternatives_by f ks.now) n) × ((n : Tag) → IsFirstOf (alternatives_by f ks.now) n → IsFirst s n)

-- Alternatives are one level deeper.
abbrev pub IsBelowSome : ℕ → FirstTags → Type 0
IsBelowSome levels (Of ks) = levels ≢ 0
IsBelowSome levels _ = Unit {0}

-- A component that can't be absent.
abbrev pub IsAlwaysThere : Presence → Type 0
IsAlwaysThere required = Unit {0}
IsAlwaysThere addition = Unit {0}
IsAlwaysThere (optional_by key) = ⊥
IsAlwaysThere (default_by key d) = ⊥

-- Alternative k is the first that may begin with the tag. Unknown ones, which are the last alternative, may begin with any.
abbrev pub IsAlternativeFor : (ℕ → Shape) → List Alternative → Tag → ℕ → Alternative → Type 0
IsAlternativeFor f ks tag k a = (Some a ≡ slice_get ks k) × IsFirst (f a.type_id.0) tag
    × ((j : ℕ) (b : Alternative) → j < k → Some b ≡ slice_get ks j → IsFirst (f b.type_id.0) tag → ⊥)
