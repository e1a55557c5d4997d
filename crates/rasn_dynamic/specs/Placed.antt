-- Where a component of a SET is written.
use Rattle.std.specs.Prelude.{Option, Some, None}
use Rattle.rasn_types.specs.declared.types.tag.Tag.{Tag}
use Rattle.rasn_types.specs.Tags.{IsTagBelow}

-- The least of these tags, if there are any.
abbrev pub IsLeast : (Tag → Type 0) → Option Tag → Type 0
IsLeast P None = (n : Tag) → P n → ⊥
IsLeast P (Some tag) = P tag × ((n : Tag) → P n → IsTagBelow n tag → ⊥)
