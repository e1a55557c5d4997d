use Rattle.rasn_types.proofs.Dotted.{arc_plain, arc_read}
use Rattle.rasn_types.proofs.types.object_identifier.parse_arc.Goals as goal

pub returns-then-is_plain : goal.returns-then-is_plain
returns-then-is_plain c =
    let plain = rw c.as_bytes.ensures.value at c.if-is_plain.ensures in
    rw c.ok.ensures.value (arc_read c.args.text.now c.parse.result plain c.parse.ensures.value.0)

pub returns-else-is_plain : goal.returns-else-is_plain
returns-else-is_plain c n h = c.if-is_plain.ensures (rw c.as_bytes.ensures.value (arc_plain c.args.text.now n h))
