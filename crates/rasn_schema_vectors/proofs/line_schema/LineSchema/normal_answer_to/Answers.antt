use Rattle.std.proofs.Common.{subst}
use Rattle.rasn_bench.specs.Lines.{IsAsked}
use Rattle.rasn_bench.specs.NormalAnswers.{IsNormalAnswer}
use Rattle.rasn_bench.proofs.LineAnswers.{normal_line}
use Rattle.rasn_schema_vectors.specs.LineShapes.{line_shape}
use Rattle.rasn_schema_vectors.proofs.line_schema.LineSchema.normal_answer_to.Goals as goal

pub returns-in-Some : goal.returns-in-Some
returns-in-Some c =
    let shape = line_shape c.args.self.now.schema.types.items in
    let asks = subst (IsAsked c.args.line.now) c.in-Some.is c.in_ok-request.ensures in
    normal_line shape c.args.line.now c.in-Some.request.rule c.in-Some.request.value_type c.in-Some.octets.items c.normal_answer_of.result asks
    (subst (λ l. IsNormalAnswer c.in-Some.request.rule (shape c.in-Some.request.value_type) l c.normal_answer_of.result) c.deref.ensures.value c.normal_answer_of.ensures)
