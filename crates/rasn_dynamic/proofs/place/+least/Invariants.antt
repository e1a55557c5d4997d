use Rattle.std.proofs.Common.{◌+◌, ◌*◌, ◌≤◌, length, drop}
use Rattle.rasn_types.specs.Shapes.{IsFirstOf}
use Rattle.rasn_schema.specs.Shapes.{shape_of_type, alternatives_by}
use Rattle.rasn_dynamic.specs.Placed.{IsLeast}
use Rattle.rasn_dynamic.proofs.place.+least.Given as goal

abbrev pub decreases-least_tag : goal.decreases-least_tag
decreases-least_tag l = 4 * l.levels

abbrev pub decreases-least_of_type : goal.decreases-least_of_type
decreases-least_of_type l = 4 * l.below + 2

abbrev pub decreases-least_of_all : goal.decreases-least_of_all
decreases-least_of_all l = 4 * l.below + 1

abbrev pub invariant-least_of_all-loop-left : goal.invariant-least_of_all-loop-left
invariant-least_of_all-loop-left l = record { within : l.left ≤ length l.alternatives; holds : IsLeast (IsFirstOf (alternatives_by (shape_of_type l.types l.below) (drop l.left l.alternatives))) l.least }

abbrev pub decreases-least_of_all-loop-left : goal.decreases-least_of_all-loop-left
decreases-least_of_all-loop-left l = l.left
