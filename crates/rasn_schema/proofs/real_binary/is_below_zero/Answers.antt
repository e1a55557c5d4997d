use Rattle.rasn_types.proofs.Integer.TwosComplement.{are_octets}
use Rattle.rasn_schema.proofs.Exponents.{below_told}
use Rattle.rasn_schema.proofs.real_binary.is_below_zero.Goals as goal

pub returns-in-len1-up : goal.returns-in-len1-up
returns-in-len1-up c = below_told c.args.octets.now (are_octets c.args.octets.now c.type_inv.octets) c.in-len1-up.len_at_least
