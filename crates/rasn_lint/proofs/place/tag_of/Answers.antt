use Rattle.rasn_lint.proofs.Reader.{peeked, not_peeked}
use Rattle.rasn_lint.proofs.place.tag_of.Goals as goal

pub returns-in_default : goal.returns-in_default
returns-in_default c = not_peeked c.args.octets.now c.reader_of.result _ c.reader_of.ensures c.in_default.ensures.exact

pub returns : goal.returns
returns c = peeked c.args.octets.now c.reader_of.result c.in-Ok.tag c.reader_of.ensures c.in-Ok.ensures.exact
