use Rattle.rasn_schema.proofs.view.part_type.Goals as goal

pub returns-in-Choice : goal.returns-in-Choice
returns-in-Choice c = rw (c.in-Choice.is, ← c.as_slice.ensures.value) c.alternative_type.ensures

pub returns-in-Sequence : goal.returns-in-Sequence
returns-in-Sequence c = rw (c.in-Sequence.is, ← c.as_slice-in-Sequence.ensures.value) c.component_type.ensures

pub returns-in-Set : goal.returns-in-Set
returns-in-Set c = rw (c.in-Set.is, ← c.as_slice-in-Set.ensures.value) c.component_type-in-Set.ensures
