use Rattle.std.proofs.Common.{length, subst}
use Rattle.rasn_bench.specs.Answers.{IsWrittenAnswer}
use Rattle.rasn_bench.specs.Lines.{type_word}
use Rattle.rasn_bench.proofs.LineAnswers.{written_answer}
use Rattle.rasn_schema.specs.Trees.{tree_of}
use Rattle.rasn_schema_vectors.specs.LineShapes.{line_shape}
use Rattle.rasn_schema_vectors.proofs.line_schema.LineSchema.answer_of.Goals as goal

pub returns-in-Ok : goal.returns-in-Ok
returns-in-Ok c =
    written_answer c.args.rule (line_shape c.args.self.now.schema.types.items c.args.value_type) (type_word c.args.value_type) c.args.input.now c.in-Ok.rest.now (tree_of c.in-Ok.value) c.written-written.result c.read-in-Ok.result
    c.in-Ok.ensures.exact.0 c.written-written.ensures.ok c.written-written.ensures.fails
    (subst (λ w. IsWrittenAnswer w (length c.in-Ok.rest.now) c.written-written.result c.read-in-Ok.result) c.word.ensures c.read-in-Ok.ensures)
