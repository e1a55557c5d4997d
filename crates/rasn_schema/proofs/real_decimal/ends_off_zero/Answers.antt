use Rattle.rasn_schema.proofs.RealTexts.{last_is_off}
use Rattle.rasn_schema.proofs.real_decimal.ends_off_zero.Goals as goal

pub returns-in-len1-up : goal.returns-in-len1-up
returns-in-len1-up c = last_is_off c.args.digits.now c.requires c.in-len1-up.len_at_least
