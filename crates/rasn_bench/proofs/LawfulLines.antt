-- The types of lines, whose shapes pass the tests.
use Rattle.std.proofs.Common.{◌≡◌, true, refl}
use Rattle.rasn_types.specs.LawfulTest.{is_lawful}
use Rattle.rasn_types.proofs.Lawful.{lawful}
use Rattle.rasn_types.proofs.Time.Spellings.{both_true}
use Rattle.rasn.specs.Carries.{carries_all}
use Rattle.rasn_examples.proofs.LawfulTypes.{passes}
use Rattle.rasn_bench.specs.declared.line.ValueType.{ValueType}
use Rattle.rasn_bench.specs.declared.line.ValueType.TheVariants.{Bool as BoolType}
use Rattle.rasn_bench.specs.Answers.{shape_of}
use Rattle.rasn_bench.specs.LawfulLines.{AreLawfulInLines}

line_passes : (kind : ValueType) → passes (shape_of kind) ≡ true
line_passes BoolType = refl
line_passes kind = refl

pub in_lines : AreLawfulInLines
in_lines kind = let p = both_true (is_lawful (shape_of kind)) (carries_all (shape_of kind)) (line_passes kind) in (lawful (shape_of kind) p.0, p.1)
