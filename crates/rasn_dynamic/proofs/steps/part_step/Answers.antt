use Rattle.rasn_dynamic.proofs.steps.part_step.Goals as goal

pub returns-in-Name : goal.returns-in-Name
returns-in-Name c = rw c.in-Name.is c.named_step.ensures

pub returns-in-Index : goal.returns-in-Index
returns-in-Index c = rw c.in-Index.is c.indexed_step.ensures
