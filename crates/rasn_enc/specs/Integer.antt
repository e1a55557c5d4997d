-- An INTEGER that is written.
use Rattle.std.specs.Prelude.{ℤ}
use Rattle.rasn_types.specs.Shapes.{Interval, leaf, integer, number}
use Rattle.rasn_types.specs.declared.types.constraints.Constraints.{Constraints}
use Rattle.rasn_types.specs.declared.types.tag.Tag.{Tag}
use Rattle.rasn_enc.specs.View.{View}
use Rattle.rasn_enc.specs.Encoding.{AppendsEncoding}

-- A number of a type with this range is written as an INTEGER.
abbrev pub AppendsInteger : Interval → Tag → Constraints → ℤ → View → View → Type 0
AppendsInteger range tag c n = AppendsEncoding (leaf (integer range) tag c) (number n)
