use Rattle.std.proofs.Common.{ap, length, ◌∙◌}
use Rattle.rasn_dynamic.proofs.find.check_taken.Goals as goal

pub returns : goal.returns
returns c = λ e. c.if-remaining-left.false (ap length c.remaining.ensures.value ∙ e)
