use Rattle.std.proofs.Common.{◌≡◌, ℕ, ◌<◌, Some}
use Rattle.std.specs.Prelude.{slice_get}
use Rattle.rasn_schema.specs.declared.types.«Type».{«Type»}
use Rattle.rasn_schema.specs.Shapes.{shape_of_type}
use Rattle.rasn_schema.specs.Schemas.{IsChoice, IsWellFormed, own_at}
use Rattle.rasn_schema.proofs.rules.first_choice_fault.Given as goal

abbrev pub invariant-loop-number : goal.invariant-loop-number
invariant-loop-number l = (k : ℕ) (ty : «Type») → k < l.number → Some ty ≡ slice_get l.types k → IsChoice ty → IsWellFormed (own_at l.types) (shape_of_type l.types l.levels) k ty
