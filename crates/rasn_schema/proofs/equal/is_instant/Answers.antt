use Rattle.rasn_types.specs.Shapes.{instant}
use Rattle.rasn_schema.specs.Trees.{tree_of}
use Rattle.rasn_schema.specs.Equals.{apart}
use Rattle.rasn_schema.proofs.OtherKinds.{not_instant}
use Rattle.rasn_schema.proofs.equal.is_instant.Goals as goal

pub returns-in_default : goal.returns-in_default
returns-in_default c = apart (instant c.args.time.now.moment) (tree_of c.args.other.now) (not_instant c.args.other.now c.in_default.not-Instant)
