use Rattle.rasn_bench.proofs.LineAnswers.{normalised_answer}
use Rattle.rasn_schema_vectors.specs.LineShapes.{line_shape}
use Rattle.rasn_schema_vectors.proofs.line_schema.LineSchema.normal_answer_of.Goals as goal

pub returns : goal.returns
returns c = normalised_answer c.args.rule (line_shape c.args.self.now.schema.types.items c.args.value_type) c.args.input.now c.normalised.result c.of_normalised.result c.normalised.ensures.normal c.normalised.ensures.fails c.of_normalised.ensures
