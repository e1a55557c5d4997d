use Rattle.std.proofs.Common.{take}
use Rattle.rasn_schema.specs.Made.{IsWalk, IsNone}
use Rattle.rasn_schema.proofs.walk.Walk.new.Given as goal

abbrev pub invariant-loop-id : goal.invariant-loop-id
invariant-loop-id l = IsWalk l.types l.roots (take l.id-index l.roots) IsNone l.walk.is_reached.items l.walk.left.items
