use Rattle.rasn_schema.proofs.Parts.{no_such_part}
use Rattle.rasn_schema.proofs.view.part_named.Goals as goal

pub returns-in-Sequence : goal.returns-in-Sequence
returns-in-Sequence c = rw (c.in-Sequence.is, ← c.as_slice.ensures.value) c.component_value.ensures

pub returns-in-Set : goal.returns-in-Set
returns-in-Set c = rw (c.in-Set.is, ← c.as_slice-in-Set.ensures.value) c.component_value-in-Set.ensures

pub returns-in-Choice : goal.returns-in-Choice
returns-in-Choice c = rw (c.in-Choice.is, ← c.as_slice-in-Choice.ensures.value) c.chosen_named.ensures

pub returns-in_default : goal.returns-in_default
returns-in_default c = no_such_part c.args.ty.now c.args.name.now c.args.value.now c.in_default.not-Sequence c.in_default.not-Set c.in_default.not-Choice
