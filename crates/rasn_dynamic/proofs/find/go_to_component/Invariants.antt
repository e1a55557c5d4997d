use Rattle.std.proofs.Common.{◌≡◌, ◌≤◌, ◌++◌, List, length}
use Rattle.rasn_schema.specs.declared.types.Component.{Component}
use Rattle.rasn_schema.specs.Shapes.{shape_of_type, components_by, AreReadable}
use Rattle.rasn_dynamic.specs.Faults.{ComponentsInTurn}
use Rattle.rasn_dynamic.proofs.find.go_to_component.Given as goal

abbrev pub invariant-loop-rest : goal.invariant-loop-rest
invariant-loop-rest l = AreReadable (components_by (shape_of_type l.types l.below) l.rest) × (l.number ≤ l.index)
    × (done : List Component) × (l.components ≡ done ++ l.rest) × (length done ≡ l.number) × ComponentsInTurn (shape_of_type l.types l.below) done l.fn.decoder l.decoder

abbrev pub decreases-loop-rest : goal.decreases-loop-rest
decreases-loop-rest l = length l.rest
