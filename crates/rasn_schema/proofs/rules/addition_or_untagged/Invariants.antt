use Rattle.std.proofs.Common.{◌≢◌}
use Rattle.rasn_types.specs.Shapes.{addition}
use Rattle.rasn_schema.specs.Shapes.{shape_of_type, presence_of}
use Rattle.rasn_schema.specs.Schemas.{IsTaggedOrUnknown}
use Rattle.rasn_schema.proofs.Lists.{SoFar}
use Rattle.rasn_schema.proofs.rules.addition_or_untagged.Given as goal

abbrev pub invariant-loop-index : goal.invariant-loop-index
invariant-loop-index l = SoFar (λ j p. (presence_of p.presence ≢ addition) × IsTaggedOrUnknown (shape_of_type l.types l.levels p.type_id.0)) l.components l.index
