use Rattle.std.proofs.Common.{◌+◌, length, ap, sym, ◌∙◌}
use Rattle.rasn_enc.proofs.Headers.Places.{length_low, length-length_high}
use Rattle.rasn_enc.proofs.ber.enc.writer.headers.length_len.Goals as goal

pub returns-then-count-lt128-clause-exact : goal.returns-then-count-lt128-clause-exact
returns-then-count-lt128-clause-exact c = ap length (length_low c.args.count c.if-count-lt128.true)

pub returns-else-count-lt128-clause-exact : goal.returns-else-count-lt128-clause-exact
returns-else-count-lt128-clause-exact c = length-length_high c.args.count c.if-count-lt128.false ∙ ap (λ z. 1 + z) (sym c.count_octets.ensures)
