use Rattle.std.proofs.Common.{◌≡◌, ◌≤◌, reverse}
use Rattle.rasn_schema.specs.Shapes.{shape_of_type, IsReadable}
use Rattle.rasn_dynamic.specs.Nested.{LeadsInto}
use Rattle.rasn_dynamic.proofs.nested.descend.Given as goal

abbrev pub invariant-loop : goal.invariant-loop
invariant-loop l = LeadsInto l.types l.decoder (reverse l.nested.choices.items) l.fn.nested.part l.fn.walk.spans l.nested.part l.walk.spans
    × IsReadable (shape_of_type l.types l.nested.part.levels l.nested.part.id.0) × (l.walk.fault ≡ l.fn.walk.fault) × (l.nested.part.levels ≤ l.fn.nested.part.levels)

abbrev pub decreases-loop : goal.decreases-loop
decreases-loop l = l.nested.part.levels
