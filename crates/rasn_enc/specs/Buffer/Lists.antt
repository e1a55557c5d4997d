-- What the view shows of a list.
use Rattle.std.specs.Prelude.{ℕ, ◌≡◌, ◌<◌, length, Option, Some, None, Vec, List, option_map, vec_len, vec_capacity}
use Rattle.rasn_types.specs.declared.types.tag.Tag.{Tag}
use Rattle.rasn_enc.specs.View.{OpenList}
use Rattle.rasn_enc.specs.declared.ber.enc.writer.ListEnd.{ListEnd}

abbrev pub tags_of : {A : Type 0} → Option (Vec Tag A) → Option (List Tag)
tags_of tags = option_map (λ v. v.items) tags

-- There is room for one more tag if tags are kept.
abbrev pub HasRoom : {A : Type 0} → Option (Vec Tag A) → Type 0
HasRoom None = Unit {0}
HasRoom (Some tags) = vec_len tags < vec_capacity tags

abbrev pub count_of : Option (List Tag) → ℕ
count_of None = 0
count_of (Some tags) = length tags

-- `m` is the end of the list: its number of octets and its number of kept tags.
pub record IsEndOf (f : OpenList) (m : ListEnd) : Type 0 where
  pub octets : m.octets ≡ length f.octets
  pub tags : m.tags ≡ count_of f.tags
