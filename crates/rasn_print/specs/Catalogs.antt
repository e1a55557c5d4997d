-- The types of a call that were resolved so far.
use Rattle.std.specs.Prelude.{◌≡◌, ◌<◌, ℕ, List, Some, length, slice_get}
use Rattle.rasn_print.specs.declared.known.Candidates.{Candidates}
use Rattle.rasn_print.specs.declared.known.Known.{Known}

-- At this index are these types.
pub record IsIndexOf (candidates : Candidates) (list : List Known) (index : ℕ) : Type 0 where
  pub within : index < length list
  pub known : Known
  pub is : Some known ≡ slice_get list index
  pub candidates_are : known.candidates ≡ candidates
