use Rattle.std.proofs.Common.{length}
use Rattle.rasn_schema.specs.Shapes.{shape_of_type}
use Rattle.rasn_dynamic.proofs.Parts.{MembersPassed}
use Rattle.rasn_dynamic.proofs.find.go_to_member.Given as goal

abbrev pub invariant-loop-decoder : goal.invariant-loop-decoder
invariant-loop-decoder l = MembersPassed (shape_of_type l.types l.below) l.extensible l.components l.index l.fn.decoder l.decoder

abbrev pub decreases-loop-decoder : goal.decreases-loop-decoder
decreases-loop-decoder l = length l.decoder.rest
