use Rattle.std.proofs.Common.{◌/◌, ◌%◌, ap}
use Rattle.rasn_enc.proofs.Headers.Places.{two_128}
use Rattle.rasn_enc.proofs.ber.enc.writer.base_128.group_at.Goals as goal

pub returns-clause-exact : goal.returns-clause-exact
returns-clause-exact c = ap (λ z. c.args.number / z % 128) (two_128 c.args.place)
