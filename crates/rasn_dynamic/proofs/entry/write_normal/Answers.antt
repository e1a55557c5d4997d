use Rattle.std.proofs.Common.{subst, true, false}
use Rattle.rasn_types.specs.Framing.{AreOctets}
use Rattle.rasn_schema.specs.Trees.{tree_of}
use Rattle.rasn_dynamic.specs.Entry.{shape_of, IsReadBack}
use Rattle.rasn_dynamic.proofs.Canonical.{normal_octets, not_read_back, memory_ran_out, not_written}
use Rattle.rasn_dynamic.proofs.entry.write_normal.Goals as goal

pub returns-then-is_same-clause-normal : goal.returns-then-is_same-clause-normal
returns-then-is_same-clause-normal c = normal_octets (shape_of c.args.schema.now.types.items c.args.id.0) (tree_of c.args.value.now) c.in-Ok.octets.items c.in-Ok.ensures.ok.1 (subst (IsReadBack true (shape_of c.args.schema.now.types.items c.args.id.0) (tree_of c.args.value.now)) c.deref.ensures.value (subst (λ b. IsReadBack b (shape_of c.args.schema.now.types.items c.args.id.0) (tree_of c.args.value.now) c.deref.result.now) c.if-is_same.true c.in-Ok-is_read_back.ensures.ok))

pub returns-then-is_same-clause-octets : goal.returns-then-is_same-clause-octets
returns-then-is_same-clause-octets c = subst AreOctets c.deref.ensures.value c.is_read_back.ensures.octets

pub returns-in-Ok-is_read_back-clause-fails : goal.returns-in-Ok-is_read_back-clause-fails
returns-in-Ok-is_read_back-clause-fails c = not_read_back (shape_of c.args.schema.now.types.items c.args.id.0) (tree_of c.args.value.now) c.in-Ok.octets.items c.in-Ok.ensures.ok.1 (subst (IsReadBack false (shape_of c.args.schema.now.types.items c.args.id.0) (tree_of c.args.value.now)) c.deref.ensures.value (subst (λ b. IsReadBack b (shape_of c.args.schema.now.types.items c.args.id.0) (tree_of c.args.value.now) c.deref.result.now) c.if-is_same.false c.in-Ok-is_read_back.ensures.ok))

pub returns-in-Ok-clause-fails : goal.returns-in-Ok-clause-fails
returns-in-Ok-clause-fails c = memory_ran_out (shape_of c.args.schema.now.types.items c.args.id.0) (tree_of c.args.value.now) c.in-Err-is_read_back.error c.in-Err-is_read_back.ensures.memory_alone

pub returns-clause-fails : goal.returns-clause-fails
returns-clause-fails c = not_written (shape_of c.args.schema.now.types.items c.args.id.0) (tree_of c.args.value.now) c.in-Err.error (c.in-Err.ensures.fails c.requires)
