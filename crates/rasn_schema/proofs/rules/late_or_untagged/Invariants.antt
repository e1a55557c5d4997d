use Rattle.std.proofs.Common.{◌<◌}
use Rattle.rasn_schema.specs.Shapes.{shape_of_type}
use Rattle.rasn_schema.specs.Schemas.{IsTaggedOrOpen}
use Rattle.rasn_schema.proofs.Lists.{SoFar}
use Rattle.rasn_schema.proofs.rules.late_or_untagged.Given as goal

abbrev pub invariant-loop-index : goal.invariant-loop-index
invariant-loop-index l = SoFar (λ j a. (a.type_id.0 < l.id.0) × IsTaggedOrOpen (shape_of_type l.types l.levels) l.alternatives j a) l.alternatives l.index
