use Rattle.rasn_types.specs.Contents.{signed}
use Rattle.rasn_types.proofs.Integer.TwosComplement.{are_octets, far_below}
use Rattle.rasn_types.proofs.types.constraints.is_far_within.Goals as goal

pub returns-else-octets-lt128 : goal.returns-else-octets-lt128
returns-else-octets-lt128 c =
    c.is_open_below.ensures (signed c.args.octets.now)
    (far_below c.args.octets.now (are_octets c.args.octets.now c.type_inv.octets) c.requires.some c.if-octets-lt128.false c.requires.far)
