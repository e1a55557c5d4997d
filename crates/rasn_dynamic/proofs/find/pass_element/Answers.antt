use Rattle.std.proofs.Common.{ap, length, ◌∙◌, sym}
use Rattle.std.proofs.lemmas.Result.{on_ok_weaker}
use Rattle.rasn_dynamic.proofs.find.pass_element.Goals as goal

pub returns-in-Ok : goal.returns-in-Ok
returns-in-Ok c = on_ok_weaker c.check_taken.result (λ n. (c.in-Ok.ensures.reads.0, c.in-Ok.ensures.reads.2, λ e. n (e ∙ sym (ap length c.remaining-left.ensures.value)))) c.check_taken.ensures
