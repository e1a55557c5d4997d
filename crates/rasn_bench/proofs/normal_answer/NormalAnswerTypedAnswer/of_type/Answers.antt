use Rattle.rasn_bench.proofs.LineAnswers.{normalised_answer}
use Rattle.rasn_bench.proofs.normal_answer.NormalAnswerTypedAnswer.of_type.Goals as goal

pub returns : goal.returns
returns g c = normalised_answer c.args.rule g.T.AsnType.shape c.args.octets.now c.normalise.result c.of_normalised.result c.normalise.ensures.normal c.normalise.ensures.fails c.of_normalised.ensures
