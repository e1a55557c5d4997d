use Rattle.rasn_schema.proofs.OtherKinds.{is_other, not_numbers}
use Rattle.rasn_schema.proofs.numbers.numbers_of.Goals as goal

pub returns-in_default : goal.returns-in_default
returns-in_default c = is_other 2 c.args.value.now (not_numbers c.args.value.now c.in_default.not-Octets c.in_default.not-Text c.in_default.not-Units c.in_default.not-Arcs)
