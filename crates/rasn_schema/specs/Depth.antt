-- How deep types have to be followed.
use Rattle.std.specs.Prelude.{ℕ, suc, ◌*◌, ◌≤◌, List, length, Bool}
use Rattle.rasn_types.specs.declared.types.codec.Codec.{Codec}
use Rattle.rasn_types.specs.Shapes.{Tree, Shape}
use Rattle.rasn_types.specs.Grammar.{Reads}
use Rattle.rasn_schema.specs.declared.types.«Type».{«Type»}

-- A value is at each level that is read; between two levels there are at most as many CHOICEs as there are types.
abbrev pub AreDeep : List «Type» → ℕ → ℕ → Type 0
AreDeep types depth levels = suc depth * suc (length types) ≤ levels

-- Each value that is read by the one shape is read by the other.
abbrev pub AreReadAlike : Codec → ℕ → Shape → Shape → Type 0
AreReadAlike rule depth s u = (closing : Bool) (input : List ℕ) (t : Tree) (rest : List ℕ) → Reads rule s depth closing input t rest → Reads rule u depth closing input t rest
