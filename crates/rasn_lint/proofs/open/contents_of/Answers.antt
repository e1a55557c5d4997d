use Rattle.rasn_lint.proofs.Opened.{no_contents}
use Rattle.rasn_lint.proofs.open.contents_of.Goals as goal

pub returns-in_default : goal.returns-in_default
returns-in_default c = no_contents c.args.octets.now c.in_ok-tag.tag c.in_ok-tag.ensures c.in_default.ensures
