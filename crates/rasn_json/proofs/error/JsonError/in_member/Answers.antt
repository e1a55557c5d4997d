use Rattle.std.proofs.Common.{sym, subst}
use Rattle.rasn_json.specs.Refusals.{LeadsToMember}
use Rattle.rasn_json.proofs.Refused.{part_is}
use Rattle.rasn_json.proofs.error.JsonError.in_member.Goals as goal

pub returns-in-Ok : goal.returns-in-Ok
returns-in-Ok c = part_is _ (LeadsToMember c.args.name.now) _ c.inside.result (λ s e. subst (LeadsToMember c.args.name.now) (sym e) c.in-Ok.ensures.ok) c.inside.ensures
