use Rattle.rasn_lint.proofs.Pending.{keeps_last}
use Rattle.rasn_lint.proofs.der.keep.Goals as goal

pub returns : goal.returns
returns c = keeps_last c.args.octets c.args.outer.now.items c.push.new.self.items c.in_ok-push.ensures.items
