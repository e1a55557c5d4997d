use Rattle.std.proofs.Common.{◌≡◌, subst}
use Rattle.rasn_json.specs.Refusals.{IsOfMember, OrMemory}
use Rattle.rasn_json.proofs.kept.refuse_in_member.Goals as goal

pub returns : goal.returns
returns c = subst (λ d. OrMemory (IsOfMember c.args.name.now (λ e. e ≡ d)) c.in_member.result) c.replace-inner.ensures.value c.in_member.ensures
