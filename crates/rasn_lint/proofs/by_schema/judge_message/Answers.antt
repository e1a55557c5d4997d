use Rattle.rasn_lint.proofs.Clean.{some_departures, refusal_alone, no_departures, some_departed}
use Rattle.rasn_lint.proofs.by_schema.judge_message.Goals as goal

pub returns-then-not-is_empty : goal.returns-then-not-is_empty
returns-then-not-is_empty c = some_departures c.args.opens c.args.schema.now.types.items c.args.id.0 c.args.octets.now c.args.parts.now c.in_ok-departure.departure c.is_none-is_read.result c.in_ok-list.list.items
    c.is_none-is_read.ensures c.in_ok-departure.ensures c.in_ok-list.ensures (some_departed c.in_ok-list.list c.if-not-is_empty.ensures)

pub returns : goal.returns
returns c = refusal_alone c.args.opens c.args.schema.now.types.items c.args.id.0 c.args.octets.now c.args.parts.now c.in_ok-departure.departure c.in-Some.departure c.is_none-is_read.result c.in_ok-list.list.items
    c.push.new.self.items c.in-Some.is c.is_none-is_read.ensures c.in_ok-departure.ensures c.in_ok-list.ensures (no_departures c.in_ok-list.list c.if-not-is_empty.ensures) c.in_ok-push.ensures.items
