use Rattle.std.proofs.Common.{false, refl}
use Rattle.rasn_lint.proofs.ByRule.{may_be_primitive}
use Rattle.rasn_lint.proofs.untyped.primitive_contents_fault.Goals as goal

pub read_fault-requires : goal.read_fault-requires
read_fault-requires c = may_be_primitive c.args.rule false refl c.in_default.not-Values c.in_default.not-Set
