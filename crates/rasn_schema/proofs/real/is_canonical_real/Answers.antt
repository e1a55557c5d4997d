use Rattle.rasn_schema.proofs.RealViews.{real_told}
use Rattle.rasn_schema.proofs.real.is_canonical_real.Goals as goal

pub returns : goal.returns
returns c = real_told c.args.contents.now c.of_contents.result c.is_some.result c.is_some.ensures c.of_contents.ensures
