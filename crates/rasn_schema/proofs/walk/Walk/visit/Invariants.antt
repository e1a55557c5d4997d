use Rattle.std.proofs.Common.{◌≡◌, ◌≤◌, List}
use Rattle.rasn_schema.specs.declared.type_id.TypeId.{TypeId}
use Rattle.rasn_schema.specs.Made.{AreMarked, IsReachedFrom, IsWalk, steps_left}
use Rattle.rasn_schema.proofs.walk.Walk.visit.Given as goal

abbrev pub invariant-loop-index : goal.invariant-loop-index
invariant-loop-index l = ((roots : List TypeId) → IsReachedFrom l.types roots l.fn.id.0 → IsWalk l.types roots roots (λ k. k ≡ l.fn.id.0) l.initial.self.is_reached.items l.initial.self.left.items
    → IsWalk l.types roots roots (λ k. k ≡ l.fn.id.0) l.self.is_reached.items l.self.left.items × AreMarked l.types l.self.is_reached.items l.ty l.index)
    × (steps_left l.self.is_reached.items l.self.left.items ≤ steps_left l.initial.self.is_reached.items l.initial.self.left.items)
