use Rattle.std.proofs.Common.{◌≡◌, ◌++◌, ℕ, List, length}
use Rattle.rasn_schema.specs.Shapes.{shape_of_type, IsReadable}
use Rattle.rasn_dynamic.specs.Faults.{Leads}
use Rattle.rasn_dynamic.specs.Parts.{IsSeen}
use Rattle.rasn_dynamic.proofs.find.go_along.Given as goal

abbrev pub invariant-loop-rest : goal.invariant-loop-rest
invariant-loop-rest l = IsReadable (shape_of_type l.types l.place.levels l.place.id.0) × IsSeen l.fn.place.decoder.rest l.fn.place.end l.place.decoder.rest l.place.end
    × (done : List ℕ) × (l.path ≡ done ++ l.rest) × Leads l.types done l.fn.place.levels l.fn.place.id.0 l.fn.place.decoder l.place.levels l.place.id.0 l.place.decoder

abbrev pub decreases-loop-rest : goal.decreases-loop-rest
decreases-loop-rest l = length l.rest
