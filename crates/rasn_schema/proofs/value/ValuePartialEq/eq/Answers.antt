use Rattle.rasn_schema.specs.Equals.{one_answer}
use Rattle.rasn_schema.proofs.value.ValuePartialEq.eq.Goals as goal

pub returns : goal.returns
returns c = one_answer c.is_same.result c.args.self.now c.args.other.now c.is_same.ensures
