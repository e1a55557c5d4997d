use Rattle.std.proofs.Common.{subst}
use Rattle.rasn_types.specs.declared.types.codec.Codec.TheVariants.{Der}
use Rattle.rasn_types.specs.Bytes.{Bytes}
use Rattle.rasn.specs.Headline.{EncodingFails}
use Rattle.rasn_schema.specs.Trees.{tree_of}
use Rattle.rasn_schema.proofs.Values.{no_absent}
use Rattle.rasn_dynamic.specs.Entry.{shape_of, IsNotEncoded}
use Rattle.rasn_schema_vectors.specs.LineShapes.{FitsLine}
use Rattle.rasn_schema_vectors.proofs.Lines.{absent_bytes, there_bytes, there_fails, written_fails}
use Rattle.rasn_schema_vectors.proofs.line_schema.LineSchema.written.Goals as goal

pub returns-in-Absent-clause-ok : goal.returns-in-Absent-clause-ok
returns-in-Absent-clause-ok c =
    let types = c.args.self.now.schema.types.items in
    rw (c.in-Absent.is, c.new.ensures.items) (absent_bytes types c.args.value_type (subst (FitsLine types c.args.value_type) c.in-Absent.is c.requires))

pub returns-in-Ok : goal.returns-in-Ok
returns-in-Ok c =
    let types = c.args.self.now.schema.types.items in
    let v = c.args.value.now in
    record {
      ok = there_bytes types c.args.value_type (tree_of v) c.in-Ok.octets.items (no_absent v c.in_default.not-Absent) (subst (λ k. Bytes Der (shape_of types k) (tree_of v) c.in-Ok.octets.items) c.type_id.ensures c.in-Ok.ensures.ok.1);
      fails = tt;
    }

pub returns-in-Err-Encode : goal.returns-in-Err-Encode
returns-in-Err-Encode c =
    let types = c.args.self.now.schema.types.items in
    let v = c.args.value.now in
    let e = c.in-Err-Encode.error in
    let fails = written_fails types c.type_id.result.0 v e (subst (IsNotEncoded Der types c.type_id.result.0 v) c.in-Err-Encode.field-0-is c.in-Err-Encode.ensures.fails) in
    record {
      ok = tt;
      fails = there_fails types c.args.value_type (tree_of v) e (no_absent v c.in_default.not-Absent) (subst (λ k. EncodingFails Der (shape_of types k) (tree_of v) e) c.type_id.ensures fails);
    }
