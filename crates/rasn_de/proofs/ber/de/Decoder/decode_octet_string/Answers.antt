use Rattle.rasn_de.proofs.Strings.OctetString.{octets_ungathered, octets_given, octets_unsized}
use Rattle.rasn_de.proofs.Leaves.Returns.{residual}
use Rattle.rasn_de.proofs.ber.de.Decoder.decode_octet_string.Goals as goal

pub returns-in_err-octets : goal.returns-in_err-octets
returns-in_err-octets c = rw (residual _ c.from_residual.ensures.1) (octets_ungathered c.args.tag c.args.constraints.now c.args.self.now _ c.octets.ensures.octets _ c.in_err-octets.ensures.exact)

pub returns-in-Ok : goal.returns-in-Ok
returns-in-Ok c = octets_given c.args.tag c.args.constraints.now c.args.self.now _ c.octets.ensures.octets c.in_ok-octets.octets c.in_ok-octets.ensures.exact (rw (← c.len.ensures) c.in-Ok.ensures)

pub returns : goal.returns
returns c = octets_unsized c.args.tag c.args.constraints.now c.args.self.now _ c.octets.ensures.octets c.in_ok-octets.octets c.in_ok-octets.ensures.exact _ _ (rw (← c.len.ensures) c.in-Err.ensures) c.error.ensures
