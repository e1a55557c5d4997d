use Rattle.std.proofs.Common.{rules, arith, subst, sym}
use Rattle.rasn_bench.specs.Answers.{shape_of}
use Rattle.rasn_bench.specs.Lines.{IsAsked}
use Rattle.rasn_bench.specs.NormalAnswers.{IsNormalAnswer}
use Rattle.rasn_bench.proofs.LineAnswers.{normal_line}
use Rattle.rasn_bench.proofs.normal_answer.NormalAnswer.to_line.Goals as goal

pub returns-in-Some : goal.returns-in-Some
returns-in-Some c =
    let asks = subst (IsAsked c.args.line.now) c.in-Some.is c.in_ok-request.ensures in
    normal_line shape_of c.args.line.now c.in-Some.request.rule c.in-Some.request.value_type c.in-Some.octets.items c.answer_to.result asks
    (subst (λ l. IsNormalAnswer c.in-Some.request.rule (shape_of c.in-Some.request.value_type) l c.answer_to.result) c.deref.ensures.value c.answer_to.ensures)
