use Rattle.std.proofs.Common.{arith}
use Rattle.rasn_de.proofs.Headers.Results.{octets_all}
use Rattle.rasn_schema.specs.Trees.{tree_of}
use Rattle.rasn_dynamic.specs.Entry.{shape_of}
use Rattle.rasn_dynamic.proofs.Canonical.{read_told, unread_told}
use Rattle.rasn_dynamic.proofs.entry.is_read_back.Goals as goal

pub returns-in-Ok-clause-ok : goal.returns-in-Ok-clause-ok
returns-in-Ok-clause-ok c = read_told (shape_of c.args.schema.now.types.items c.args.id.0) (tree_of c.args.value.now) c.args.octets.now (tree_of c.in-Ok.again) c.means_same.result c.in-Ok.ensures.exact c.means_same.ensures

pub returns-else-is_out_of_memory-clause-ok : goal.returns-else-is_out_of_memory-clause-ok
returns-else-is_out_of_memory-clause-ok c = unread_told (shape_of c.args.schema.now.types.items c.args.id.0) (tree_of c.args.value.now) c.args.octets.now c.in-Err.error c.in-Err.ensures.exact c.if-is_out_of_memory.ensures

pub returns-in-Ok-clause-octets : goal.returns-in-Ok-clause-octets
returns-in-Ok-clause-octets c = octets_all c.args.octets.now (λ i. omega (arith, c.type_inv.octets i))

pub returns-then-is_out_of_memory-clause-octets : goal.returns-then-is_out_of_memory-clause-octets
returns-then-is_out_of_memory-clause-octets c = octets_all c.args.octets.now (λ i. omega (arith, c.type_inv.octets i))

pub returns-else-is_out_of_memory-clause-octets : goal.returns-else-is_out_of_memory-clause-octets
returns-else-is_out_of_memory-clause-octets c = octets_all c.args.octets.now (λ i. omega (arith, c.type_inv.octets i))
