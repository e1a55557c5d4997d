use Rattle.rasn_schema.proofs.RealMade.{no_octet_left, special_octets}
use Rattle.rasn_schema.proofs.real.canonical_after.Goals as goal

pub returns-in_ok-from_slice : goal.returns-in_ok-from_slice
returns-in_ok-from_slice c =
    special_octets c.args.first c.args.after.now c.in_ok-from_slice.field-0.items c.if-first-lt64.false c.if-first-le67.true (no_octet_left c.is_empty.result c.args.after.now c.is_empty.ensures c.if-is_empty.true)
    c.in_ok-from_slice.ensures.items
