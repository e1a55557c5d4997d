use Rattle.rasn_types.specs.Shapes.{on_day}
use Rattle.rasn_schema.specs.Trees.{tree_of}
use Rattle.rasn_schema.specs.Equals.{apart}
use Rattle.rasn_schema.proofs.OtherKinds.{not_day}
use Rattle.rasn_schema.proofs.equal.is_day.Goals as goal

pub returns-in_default : goal.returns-in_default
returns-in_default c = apart (on_day c.args.date.now) (tree_of c.args.other.now) (not_day c.args.other.now c.in_default.not-Day)
