use Rattle.rasn_types.specs.Shapes.{absent}
use Rattle.rasn_schema.specs.Trees.{tree_of}
use Rattle.rasn_schema.specs.Equals.{apart}
use Rattle.rasn_schema.proofs.OtherKinds.{not_absent}
use Rattle.rasn_schema.proofs.equal.is_absent.Goals as goal

pub returns-in_default : goal.returns-in_default
returns-in_default c = apart absent (tree_of c.args.other.now) (not_absent c.args.other.now c.in_default.not-Absent)
