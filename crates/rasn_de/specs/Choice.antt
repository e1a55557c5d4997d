-- Alternatives of a CHOICE.
use Rattle.std.specs.Prelude.{ℕ, zero, suc, ◌≡◌, ◌⊎◌, Ok, Err}
use Rattle.rasn_types.specs.declared.types.tag.Tag.{Tag}
use Rattle.rasn_types.specs.Tags.{form}
use Rattle.rasn_types.specs.Framing.{NextTag}
use Rattle.rasn_types.specs.Shapes.{Shape, Parts, part, Presence, IsFirst, IsFirstOf}
use Rattle.rasn_types.specs.Shapes.Parts.{none}
use Rattle.rasn_de.specs.State.{Call}
use Rattle.rasn_de.specs.Steps.{PeeksTag}

-- The value is read if a tag follows. If none follows, nothing is consumed.
abbrev pub DecodesChosen : {D : Type 0} → Call D → Call D
DecodesChosen read old (Ok v) new = (tag : Tag) × NextTag (form old.rule) old.rest tag × read old (Ok v) new
DecodesChosen read old (Err e) new = (PeeksTag old (Err e) × (new ≡ old)) ⊎ ((tag : Tag) × NextTag (form old.rule) old.rest tag × read old (Err e) new)

-- The alternative with this number has this presence and shape, and no other alternative may begin with the tag. The
-- first alternative has the number 0.
abbrev pub IsOnlyAlternative : Parts → ℕ → Presence → Shape → Tag → Type 0
IsOnlyAlternative none k p s tag = ⊥
IsOnlyAlternative (part presence x ps) zero p s tag = (presence ≡ p) × (x ≡ s) × IsFirst s tag × (IsFirstOf ps tag → ⊥)
IsOnlyAlternative (part presence x ps) (suc k) p s tag = (IsFirst x tag → ⊥) × IsOnlyAlternative ps k p s tag
