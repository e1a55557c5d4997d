-- What an encoder holds: the output, then one list for each open value. The headers of open values aren't part of it.
use Rattle.std.specs.Prelude.{ℕ, ◌≡◌, Bool, cond, List, [], ◌∷◌, ◌++◌, Option, Some, None, option_map}
use Rattle.rasn_types.specs.Order.{AreAscending}
use Rattle.rasn_types.specs.Tags.{IsTagBelow}
use Rattle.rasn_types.specs.declared.types.codec.Codec.{Codec}
use Rattle.rasn_types.specs.declared.types.tag.Tag.{Tag}

-- A list of values: their octets and, if tags are kept, their outermost tags.
pub record OpenList : Type 0 where
  pub octets : List ℕ
  pub tags : Option (List Tag)

-- The last list, and the lists below it, the output first.
pub record View : Type 0 where
  pub rule : Codec
  pub below : List OpenList
  pub last : OpenList

-- The tags that are kept.
abbrev pub kept_of : Option (List Tag) → List Tag
kept_of None = []
kept_of (Some tags) = tags

-- The tags that the last list keeps are in ascending order: none is below the one before it
-- (X.690 9.3, 10.3; X.680 8.6).
abbrev pub AreTagsInOrder : View → Type 0
AreTagsInOrder v = AreAscending IsTagBelow (kept_of v.last.tags)

-- A list with octets appended, and with tags appended to those that it keeps.
abbrev pub added : OpenList → List ℕ → List Tag → OpenList
added f octets tags = record { octets = f.octets ++ octets; tags = option_map (λ kept. kept ++ tags) f.tags }

abbrev pub appended : View → List ℕ → List Tag → View
appended v octets tags = record { rule = v.rule; below = v.below; last = added v.last octets tags }

abbrev pub fresh : Bool → OpenList
fresh keeps = record { octets = []; tags = cond keeps (Some []) None }

-- The view of a new encoder: nothing is written yet.
abbrev pub started : Codec → Bool → View
started rule keeps = record { rule = rule; below = []; last = fresh keeps }

-- The view after a new value is opened.
abbrev pub opened : View → Bool → View
opened v keeps = record { rule = v.rule; below = v.below ++ v.last ∷ []; last = fresh keeps }

-- `v` is the view before the last open value of `u` was opened.
abbrev pub IsBelow : View → View → Type 0
IsBelow v u = (u.rule ≡ v.rule) × (u.below ≡ v.below ++ v.last ∷ [])

-- The rule and the lists below the last one stay as they are.
pub record LeavesOthers (v w : View) : Type 0 where
  pub rule : w.rule ≡ v.rule
  pub below : w.below ≡ v.below

-- `w` is `v`, with octets and tags appended to the last list.
pub record Extends (v w : View) : Type 0 where
  pub octets : List ℕ
  pub tags : List Tag
  pub appended : w ≡ appended v octets tags
