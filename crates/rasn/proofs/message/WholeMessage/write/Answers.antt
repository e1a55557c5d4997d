use Rattle.rasn.proofs.WholeMessages.{identifies, is_read_back}
use Rattle.rasn.proofs.message.WholeMessage.write.Goals as goal

pub returns-clause-canonical : goal.returns-clause-canonical
returns-clause-canonical g c = identifies g.Self.AsnType.shape g.met.Self.WholeMessage.whole (g.Self.AsnType.tree c.args.self.now) c.encode.result c.encode.ensures.canonical

pub returns-clause-read_back : goal.returns-clause-read_back
returns-clause-read_back g c = is_read_back g.Self.AsnType.shape g.met.Self.WholeMessage.whole (g.Self.AsnType.tree c.args.self.now) c.encode.result c.encode.ensures.ok
