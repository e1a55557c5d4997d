use Rattle.rasn_schema.proofs.Values.{no_absent}
use Rattle.rasn_schema.proofs.fit.is_absent.Goals as goal

pub returns-in_default : goal.returns-in_default
returns-in_default c = no_absent c.args.value.now c.in_default.not-Absent
