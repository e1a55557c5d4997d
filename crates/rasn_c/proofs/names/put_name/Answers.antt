use Rattle.rasn_c.proofs.NameFilled.{filled}
use Rattle.rasn_c.proofs.names.put_name.Goals as goal

pub returns : goal.returns
returns c =
    filled c.fill.result c.args.rule c.args.octets.now c.args.buffer.now c.fill.new.buffer c.deref.result.now c.fill.new.needed
    (c.in-Some.rule, c.in-Some.ensures, c.in-Ok.name, c.in-Ok.ensures, rw c.deref.ensures.value c.in-Ok-ended_text.ensures) c.fill.ensures
