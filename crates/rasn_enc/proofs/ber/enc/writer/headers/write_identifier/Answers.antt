use Rattle.std.proofs.Common.{arith}
use Rattle.rasn_enc.proofs.Headers.Places.{id_low, id_high, length-id_low, length-id_high, appended_one, appended_more}
use Rattle.rasn_enc.proofs.ber.enc.writer.headers.write_identifier.Goals as goal

pub push_reserved-requires : goal.push_reserved-requires
push_reserved-requires c = omega (arith, length-id_low c.args.tag c.if-tag-lt31.true c.args.constructed)

pub push_reserved-requires-else-tag-lt31 : goal.push_reserved-requires-else-tag-lt31
push_reserved-requires-else-tag-lt31 c = omega (arith, length-id_high c.args.tag c.if-tag-lt31.false c.args.constructed)

pub write_groups-requires : goal.write_groups-requires
write_groups-requires c = omega (arith, length-id_high c.args.tag c.if-tag-lt31.false c.args.constructed)

pub returns-then-tag-lt31-clause-items : goal.returns-then-tag-lt31-clause-items
returns-then-tag-lt31-clause-items c = appended_one _ _ _ _ _ c.push_reserved.ensures.items c.leading_octet.ensures (id_low c.args.tag c.args.constructed c.if-tag-lt31.true)

pub returns-else-tag-lt31-clause-items : goal.returns-else-tag-lt31-clause-items
returns-else-tag-lt31-clause-items c = appended_more _ _ _ _ _ _ _ c.push_reserved-else-tag-lt31.ensures.items c.leading_octet-else-tag-lt31.ensures
    c.write_groups.ensures.items (id_high c.args.tag c.args.constructed c.if-tag-lt31.false)
