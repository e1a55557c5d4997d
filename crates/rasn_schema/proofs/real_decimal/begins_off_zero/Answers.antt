use Rattle.rasn_schema.proofs.RealTexts.{first_spells}
use Rattle.rasn_schema.proofs.real_decimal.begins_off_zero.Goals as goal

pub returns-in-len1-up : goal.returns-in-len1-up
returns-in-len1-up c = first_spells c.args.digits.now c.requires c.in-len1-up.len_at_least
