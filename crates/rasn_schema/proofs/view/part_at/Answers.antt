use Rattle.std.proofs.Common.{refl}
use Rattle.rasn_schema.proofs.Values.{held_items, held_elements}
use Rattle.rasn_schema.proofs.Parts.{held_nothing}
use Rattle.rasn_schema.proofs.view.part_at.Goals as goal

pub returns-in-Items : goal.returns-in-Items
returns-in-Items c = rw (c.in-Items.is, held_items _, ← c.as_slice.ensures.value) c.value_at.ensures

pub returns-in-Elements : goal.returns-in-Elements
returns-in-Elements c = rw (c.in-Elements.is, held_elements _, ← c.as_slice-in-Elements.ensures.value) c.value_at-in-Elements.ensures

pub returns-in_default : goal.returns-in_default
returns-in_default c = rw (held_nothing c.args.value.now c.in_default.not-Items c.in_default.not-Elements) refl
