use Rattle.rasn_schema.specs.Made.{IsWalk, IsNone, steps_left}
use Rattle.rasn_schema.proofs.schema.Schema.reached_from.Given as goal

abbrev pub invariant-loop-id : goal.invariant-loop-id
invariant-loop-id l = IsWalk l.types l.roots l.roots IsNone l.walk.is_reached.items l.walk.left.items

abbrev pub decreases-loop-id : goal.decreases-loop-id
decreases-loop-id l = steps_left l.walk.is_reached.items l.walk.left.items
