use Rattle.rasn_types.specs.Framing.{number_in}
use Rattle.rasn_types.proofs.Integer.TwosComplement.{are_octets}
use Rattle.rasn_schema.proofs.RealMade.{contents_made}
use Rattle.rasn_schema.proofs.real_binary.number_contents.Goals as goal

pub returns : goal.returns
returns c =
    let u = c.fewest_unsigned.ensures in
    contents_made c.extend_from_slice.new.self.items c.in_ok-contents.contents.items c.args.exponent.now c.fewest_unsigned.result.now c.args.is_negative (number_in 256 c.args.mantissa.now) c.in_ok-contents.ensures u.octets
    c.in_ok-extend_from_slice.ensures.items (are_octets c.args.exponent.now c.type_inv.exponent) c.requires.short u.short u.same c.requires.odd
