use Rattle.std.proofs.Common.{refl}
use Rattle.rasn_de.proofs.ber.de.time.invalid_date.Goals as goal

pub returns : goal.returns
returns c = record { octets = c.args.octets; items = refl; is = refl }
