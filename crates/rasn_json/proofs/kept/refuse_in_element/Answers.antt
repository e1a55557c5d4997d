use Rattle.std.proofs.Common.{◌≡◌, subst}
use Rattle.rasn_json.specs.Refusals.{IsOfElement, OrMemory}
use Rattle.rasn_json.proofs.kept.refuse_in_element.Goals as goal

pub returns : goal.returns
returns c = subst (λ d. OrMemory (IsOfElement c.args.index (λ e. e ≡ d)) c.in_element.result) c.replace-inner.ensures.value c.in_element.ensures
