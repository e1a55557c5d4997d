use Rattle.std.proofs.Common.{◌+◌, ap, sym, ◌∙◌}
use Rattle.rasn_enc.proofs.Headers.Places.{length-id_low, length-id_high}
use Rattle.rasn_enc.proofs.ber.enc.writer.headers.identifier_len.Goals as goal

pub returns-then-tag-lt31-clause-exact : goal.returns-then-tag-lt31-clause-exact
returns-then-tag-lt31-clause-exact c = length-id_low c.args.tag c.if-tag-lt31.true

pub returns-else-tag-lt31-clause-exact : goal.returns-else-tag-lt31-clause-exact
returns-else-tag-lt31-clause-exact c = λ bit. length-id_high c.args.tag c.if-tag-lt31.false bit ∙ ap (λ z. 1 + z) (sym c.count_groups.ensures)
