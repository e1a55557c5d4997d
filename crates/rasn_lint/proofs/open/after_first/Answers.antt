use Rattle.rasn_lint.proofs.Opened.{unread, followed, only_rest}
use Rattle.rasn_lint.proofs.open.after_first.Goals as goal

pub returns-in_default-clause-exact : goal.returns-in_default-clause-exact
returns-in_default-clause-exact c = unread c.args.octets.now c.reader_of-decoder.result c.skip_value.new.self c.reader_of-decoder.ensures c.in_default.field-0 c.in_default.ensures.exact

pub returns-clause-exact : goal.returns-clause-exact
returns-clause-exact c = followed c.args.octets.now c.reader_of-decoder.result c.skip_value.new.self c.reader_of-decoder.ensures _ c.remaining.result.now c.in-Ok.ensures.exact c.remaining.ensures.value

pub returns-clause-one : goal.returns-clause-one
returns-clause-one c = only_rest c.args.octets.now c.reader_of-decoder.result c.skip_value.new.self c.reader_of-decoder.ensures _ c.remaining.result.now c.in-Ok.ensures.exact c.remaining.ensures.value
