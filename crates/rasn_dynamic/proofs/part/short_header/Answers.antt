use Rattle.rasn_types.proofs.Integer.TwosComplement.{are_octets}
use Rattle.rasn_dynamic.proofs.ShortHeader.{is_short, some_more}
use Rattle.rasn_dynamic.proofs.part.short_header.Goals as goal

pub returns-then-is_identifier : goal.returns-then-is_identifier
returns-then-is_identifier c = some_more c.header_before.result (λ n b. is_short c.args.octets.now n (are_octets c.args.octets.now c.type_inv.octets) c.in-len1-up.len_at_least (c.is_identifier.ensures c.if-is_identifier.true) b) c.header_before.ensures
