use Rattle.rasn_types.proofs.Integer.TwosComplement.{are_octets}
use Rattle.rasn_dynamic.proofs.ShortHeader.{one_octet, two_octets, three_octets, some_more}
use Rattle.rasn_dynamic.proofs.part.header_before.Goals as goal

pub returns-then-first-lt128 : goal.returns-then-first-lt128
returns-then-first-lt128 c = some_more c.if_long_enough.result (λ n h. one_octet c.args.octets.now n c.in-len1-up.len_at_least c.if-first-lt128.true h) c.if_long_enough.ensures

pub returns-then-first : goal.returns-then-first
returns-then-first c =
    some_more c.if_long_enough-then-first.result (λ n h. two_octets c.args.octets.now n (are_octets c.args.octets.now c.type_inv.octets) c.in-len1-up.len_at_least c.if-first.true c.in-len1-up-after.len_at_least h) c.if_long_enough-then-first.ensures

pub returns-then-first-2 : goal.returns-then-first-2
returns-then-first-2 c =
    some_more c.if_long_enough-then-first-2.result (λ n h. three_octets c.args.octets.now n (are_octets c.args.octets.now c.type_inv.octets) c.in-len1-up.len_at_least c.if-first-2.true c.in-len2-up.len_at_least h) c.if_long_enough-then-first-2.ensures
