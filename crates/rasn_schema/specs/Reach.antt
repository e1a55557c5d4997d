-- Where CHOICEs directly in one another lead.
use Rattle.std.specs.Prelude.{◌≡◌, ◌⊎◌, ℕ, zero, suc, List, Some, slice_get}
use Rattle.rasn_schema.specs.declared.types.«Type».{«Type»}
use Rattle.rasn_schema.specs.declared.types.«Type».TheVariants.{Choice}
use Rattle.rasn_schema.specs.declared.value.Value.{Value}
use Rattle.rasn_schema.specs.Fitting.{AlternativeFits, IsChosen}

-- The type with this number is ty, and the value is w; or the type is a CHOICE, the value that of one of its alternatives, and from there they are reached. Types are followed so many levels deep, and those that ty names n levels deep.
unfoldable pub Reaches : List «Type» → ℕ → ℕ → Value → ℕ → «Type» → Value → Type 0
Reaches types zero k v n ty w = ⊥
Reaches types (suc levels) k v n ty w = ((Some ty ≡ slice_get types k) × (n ≡ levels) × (w ≡ v))
    ⊎ ((name : _) × (ks : _) × (Some (Choice name ks) ≡ slice_get types k) × IsChosen (AlternativeFits (λ j u. Reaches types levels j u n ty w) ks.items) v)
