use Rattle.rasn_dynamic.proofs.find.pass_component.Goals as goal

pub returns-in-Ok : goal.returns-in-Ok
returns-in-Ok c = (c.in-Ok.ensures.reads.0, c.in-Ok.ensures.reads.2)
