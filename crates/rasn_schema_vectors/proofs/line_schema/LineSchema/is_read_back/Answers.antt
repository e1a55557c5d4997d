use Rattle.rasn_schema.specs.Trees.{tree_of}
use Rattle.rasn_schema_vectors.specs.LineShapes.{line_shape}
use Rattle.rasn_dynamic.proofs.Canonical.{read_told, unread_told}
use Rattle.rasn_schema_vectors.proofs.line_schema.LineSchema.is_read_back.Goals as goal

pub returns-in-Ok-clause-ok : goal.returns-in-Ok-clause-ok
returns-in-Ok-clause-ok c = read_told (line_shape c.args.self.now.schema.types.items c.args.value_type) (tree_of c.args.value.now) c.args.octets.now (tree_of c.in-Ok.again) c.means_same.result c.in-Ok.ensures.exact c.means_same.ensures

pub returns-in-Err-2-clause-ok : goal.returns-in-Err-2-clause-ok
returns-in-Err-2-clause-ok c = unread_told (line_shape c.args.self.now.schema.types.items c.args.value_type) (tree_of c.args.value.now) c.args.octets.now c.in-Err.error c.in-Err.ensures.exact c.if-is_out_of_memory.ensures
