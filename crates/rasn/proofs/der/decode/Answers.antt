use Rattle.std.proofs.Common.{arith}
use Rattle.rasn_de.proofs.Headers.Results.{octets_all}
use Rattle.rasn.proofs.ReadBack.Der.{as_written}
use Rattle.rasn.proofs.der.decode.Goals as goal

pub returns-clause-written : goal.returns-clause-written
returns-clause-written g c = as_written g.T.AsnType.shape g.T.AsnType.tree c.args.input.now (octets_all c.args.input.now (λ i. omega (arith, c.type_inv.input i))) c.decode.result c.decode.ensures.exact
