use Rattle.std.proofs.Common.{◌/◌, ◌%◌, ap}
use Rattle.rasn_enc.proofs.Headers.Places.{two_256}
use Rattle.rasn_enc.proofs.ber.enc.writer.headers.octet_at.Goals as goal

pub returns : goal.returns
returns c = ap (λ z. c.args.number / z % 256) (two_256 c.args.place)
