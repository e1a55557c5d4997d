use Rattle.std.proofs.Common.{arith}
use Rattle.rasn_de.proofs.Headers.Results.{octets_all}
use Rattle.rasn_schema_octets.proofs.Whole.{read_ok}
use Rattle.rasn_schema_octets.proofs.entry.read_form.Goals as goal

pub returns-clause-ok : goal.returns-clause-ok
returns-clause-ok c = read_ok c.args.octets.now (octets_all c.args.octets.now (λ i. omega (arith, c.type_inv.octets i))) _ c.decode.ensures.exact
