use Rattle.std.proofs.Common.{◌≡◌, ap}
use Rattle.rasn_types.specs.Tags.{form, TagAndBit}
use Rattle.rasn_de.proofs.Headers.NextTag.{next_read, next_unread, next_memory, kind_memory}
use Rattle.rasn_de.proofs.ber.de.Decoder.peek_tag.Goals as goal

pub returns-clause-next : goal.returns-clause-next
returns-clause-next c =
    let e : c.found.inside.tag ≡ c.in-Ok.found.0.tag = ap (λ (i : TagAndBit). i.tag) c.found.view_is in
    rw (← c.self.view_is, e) (next_read (form c.self.inside.rules) _ c.of_rule.ensures c.self.inside.rest.now _ c.read_identifier.ensures.octets c.in-Ok.ensures.exact)

pub returns-in-Err-clause-next : goal.returns-in-Err-clause-next
returns-in-Err-clause-next c = rw (← c.self.view_is) (next_unread (form c.self.inside.rules) _ c.of_rule.ensures c.self.inside.rest.now _ c.in-Err.ensures.exact)

pub returns-in-Err-clause-memory : goal.returns-in-Err-clause-memory
returns-in-Err-clause-memory c = rw c.error.ensures (kind_memory _ (next_memory _ c.self.inside.rest.now _ c.in-Err.ensures.exact))
