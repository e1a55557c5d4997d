use Rattle.std.proofs.Common.{◌+◌, length, arith}
use Rattle.rasn_schema.proofs.RulesAt.{rule_at}
use Rattle.rasn_schema.proofs.rules.broken_rule_at.Goals as goal

pub returns-in-Some : goal.returns-in-Some
returns-in-Some c = rule_at c.args.types.now c.args.id.0 (length c.args.types.now + 1) (omega arith) c.in-Some.ty.now c.in-Some.ensures c.type_fault.result c.type_fault.ensures
