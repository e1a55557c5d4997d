use Rattle.std.proofs.Common.{arith, true}
use Rattle.rasn_enc.proofs.Buffer.Headers.{id_some}
use Rattle.rasn_enc.proofs.ber.enc.writer.deferred_headers.header_len.Goals as goal

pub returns-in-Definite-clause-some : goal.returns-in-Definite-clause-some
returns-in-Definite-clause-some c = omega (arith, c.identifier_len.ensures.exact true, id_some c.in-Definite.tag true, c.length_len.ensures.some)

pub returns-in-Indefinite-clause-some : goal.returns-in-Indefinite-clause-some
returns-in-Indefinite-clause-some c = omega (arith, c.identifier_len-in-Indefinite.ensures.exact true, id_some c.in-Indefinite.tag true)
