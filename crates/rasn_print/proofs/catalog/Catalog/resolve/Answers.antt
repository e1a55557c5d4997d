use Rattle.std.proofs.Common.{◌∙◌}
use Rattle.rasn_print.proofs.Catalogs.{added}
use Rattle.rasn_print.proofs.catalog.Catalog.resolve.Goals as goal

pub returns : goal.returns
returns c = added c.args.candidates c.in_ok-known.known c.args.self.now.known.items c.push.new.self.items c.len-index.result (c.len-index.ensures ∙ c.args.self.now.known.ok.0) c.in_ok-push.ensures.items c.in_ok-known.ensures
