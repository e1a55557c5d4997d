use Rattle.std.proofs.Common.{◌+◌, arith, ap, refl, length}
use Rattle.rasn_enc.proofs.Headers.Places.{length_low, length_high, length-length_high, appended_one, appended_more}
use Rattle.rasn_enc.proofs.ber.enc.writer.headers.write_length.Goals as goal

pub push_reserved-requires : goal.push_reserved-requires
push_reserved-requires c = omega (arith, ap length (length_low c.args.count c.if-count-lt128.true))

pub push_reserved-requires-else-count-lt128 : goal.push_reserved-requires-else-count-lt128
push_reserved-requires-else-count-lt128 c = omega (arith, length-length_high c.args.count c.if-count-lt128.false)

pub write_octets-requires : goal.write_octets-requires
write_octets-requires c = omega (arith, length-length_high c.args.count c.if-count-lt128.false)

pub returns-then-count-lt128-clause-items : goal.returns-then-count-lt128-clause-items
returns-then-count-lt128-clause-items c = appended_one _ _ _ _ _ c.push_reserved.ensures.items refl (length_low c.args.count c.if-count-lt128.true)

pub returns-else-count-lt128-clause-items : goal.returns-else-count-lt128-clause-items
returns-else-count-lt128-clause-items c = appended_more _ _ _ _ _ _ _ c.push_reserved-else-count-lt128.ensures.items (ap (λ z. 128 + z) c.count_octets.ensures)
    c.write_octets.ensures.items (length_high c.args.count c.if-count-lt128.false)
