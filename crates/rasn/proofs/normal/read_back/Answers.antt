use Rattle.std.proofs.Common.{arith}
use Rattle.rasn_de.proofs.Headers.Results.{octets_all}
use Rattle.rasn.proofs.normal.read_back.Goals as goal

pub returns-clause-octets : goal.returns-clause-octets
returns-clause-octets g c = octets_all c.args.written.now (λ i. omega (arith, c.type_inv.written i))
