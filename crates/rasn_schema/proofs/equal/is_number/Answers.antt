use Rattle.rasn_types.specs.Shapes.{number}
use Rattle.rasn_schema.specs.Trees.{tree_of}
use Rattle.rasn_schema.specs.Equals.{apart}
use Rattle.rasn_schema.proofs.OtherKinds.{not_number}
use Rattle.rasn_schema.proofs.equal.is_number.Goals as goal

pub returns-in_default : goal.returns-in_default
returns-in_default c = apart (number c.args.small) (tree_of c.args.other.now) (not_number c.args.other.now c.in_default.not-Boolean c.in_default.not-Null c.in_default.not-Integer)
