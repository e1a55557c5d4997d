-- Character strings as they are written (X.690 8.23, 9.2).
use Rattle.std.specs.Prelude.{ℕ, ◌≡◌, ◌≤◌, ◌⊎◌, List, None}
use Rattle.rasn_types.specs.Tags.{in_universal}
use Rattle.rasn_types.specs.Shapes.{Admits}
use Rattle.rasn_types.specs.Bytes.{WritesString, WritesOctets}
use Rattle.rasn_types.specs.declared.types.constraints.Constraints.{Constraints}
use Rattle.rasn_types.specs.declared.types.tag.Tag.{Tag}
use Rattle.rasn_enc.specs.Primitive.{Appends}
use Rattle.rasn_enc.specs.View.{View}

-- A string of these octets is appended to the last list, and its size is within bounds.
pub record AppendsText (tag : Tag) (c : Constraints) (xs : List ℕ) (size : ℕ) (v w : View) : Type 0 where
  pub admitted : Admits ◌≤◌ c.size size
  pub appends : Appends (WritesString v.rule WritesOctets 1000 (in_universal 4) tag xs) tag v w

-- `size` is `n`, or the size has no bound.
abbrev pub IsCounted : Constraints → ℕ → ℕ → Type 0
IsCounted c size n = (c.size ≡ None) ⊎ (size ≡ n)
