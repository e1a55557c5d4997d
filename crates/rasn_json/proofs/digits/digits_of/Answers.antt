use Rattle.rasn_types.proofs.Integer.TwosComplement.{are_octets}
use Rattle.rasn_json.proofs.Strings.{in_capitals}
use Rattle.rasn_json.proofs.digits.digits_of.Goals as goal

pub returns : goal.returns
returns c = rw (in_capitals c.args.octets.now (are_octets c.args.octets.now c.type_inv.octets)) c.encode_upper.ensures
