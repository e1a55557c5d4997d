use Rattle.std.proofs.Common.{subst, true, false}
use Rattle.rasn_schema.specs.Trees.{tree_of}
use Rattle.rasn_dynamic.specs.Entry.{IsReadBack}
use Rattle.rasn_schema_vectors.specs.LineShapes.{line_shape}
use Rattle.rasn_dynamic.proofs.Canonical.{normal_octets, not_read_back, memory_ran_out, not_written}
use Rattle.rasn_schema_vectors.proofs.line_schema.LineSchema.write_normal.Goals as goal

pub returns-then-is_same-clause-normal : goal.returns-then-is_same-clause-normal
returns-then-is_same-clause-normal c = normal_octets (line_shape c.args.self.now.schema.types.items c.args.value_type) (tree_of c.args.value.now) c.in-Ok.octets.items c.in-Ok.ensures.ok (subst (IsReadBack true (line_shape c.args.self.now.schema.types.items c.args.value_type) (tree_of c.args.value.now)) c.deref.ensures.value (subst (λ b. IsReadBack b (line_shape c.args.self.now.schema.types.items c.args.value_type) (tree_of c.args.value.now) c.deref.result.now) c.if-is_same.true c.in-Ok-is_read_back.ensures.ok))

pub returns-in-Ok-is_read_back-clause-fails : goal.returns-in-Ok-is_read_back-clause-fails
returns-in-Ok-is_read_back-clause-fails c = not_read_back (line_shape c.args.self.now.schema.types.items c.args.value_type) (tree_of c.args.value.now) c.in-Ok.octets.items c.in-Ok.ensures.ok (subst (IsReadBack false (line_shape c.args.self.now.schema.types.items c.args.value_type) (tree_of c.args.value.now)) c.deref.ensures.value (subst (λ b. IsReadBack b (line_shape c.args.self.now.schema.types.items c.args.value_type) (tree_of c.args.value.now) c.deref.result.now) c.if-is_same.false c.in-Ok-is_read_back.ensures.ok))

pub returns-in-Ok-clause-fails : goal.returns-in-Ok-clause-fails
returns-in-Ok-clause-fails c = memory_ran_out (line_shape c.args.self.now.schema.types.items c.args.value_type) (tree_of c.args.value.now) c.in-Err-is_read_back.error c.in-Err-is_read_back.ensures.memory_alone

pub returns-clause-fails : goal.returns-clause-fails
returns-clause-fails c = not_written (line_shape c.args.self.now.schema.types.items c.args.value_type) (tree_of c.args.value.now) c.in-Err.error c.in-Err.ensures.fails
