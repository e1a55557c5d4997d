-- The types of lines, whose shapes are lawful.
use Rattle.std.specs.Prelude.{◌≡◌, true}
use Rattle.rasn_types.specs.Lawful.{IsLawful}
use Rattle.rasn.specs.Carries.{carries_all}
use Rattle.rasn_bench.specs.declared.line.ValueType.{ValueType}
use Rattle.rasn_bench.specs.Answers.{shape_of}

-- The shape of every type that a line may name is lawful, and every value of it that DER reads is carried.
abbrev pub AreLawfulInLines : Type 0
AreLawfulInLines = (kind : ValueType) → IsLawful (shape_of kind) × (carries_all (shape_of kind) ≡ true)
