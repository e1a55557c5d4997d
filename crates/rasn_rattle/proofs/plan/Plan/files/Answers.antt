use Rattle.rasn_rattle.proofs.plan.Plan.files.Goals as goal

pub returns : goal.returns
returns c = (_, c.in_ok-lib.lib, c.in_ok-push-2.ensures.items, c.in_ok-lib.ensures)
