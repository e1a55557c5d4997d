use Rattle.rasn_schema.proofs.rules.type_fault.Goals as goal

pub returns-in-Choice : goal.returns-in-Choice
returns-in-Choice c = rw c.in-Choice.is (rw (← c.deref-in-Choice.ensures.value) c.choice_fault.ensures)

pub returns-in-Set : goal.returns-in-Set
returns-in-Set c = rw c.in-Set.is (rw (← c.deref-in-Set.ensures.value) c.set_fault.ensures)
