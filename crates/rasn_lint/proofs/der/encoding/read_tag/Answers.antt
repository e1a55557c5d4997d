use Rattle.rasn_lint.proofs.Frames.{no_tag, tag_found}
use Rattle.rasn_lint.proofs.der.encoding.read_tag.Goals as goal

pub returns-in_default : goal.returns-in_default
returns-in_default c = no_tag c.args.octets.now c.decoder_of.result c.decoder_of.ensures c.in_default.ensures.next

pub returns : goal.returns
returns c = tag_found c.args.octets.now c.decoder_of.result c.decoder_of.ensures c.in-Ok.tag c.in-Ok.ensures.next
