use Rattle.rasn_schema.proofs.Copies.{inside_more}
use Rattle.rasn_schema.proofs.copy.chosen_by.Goals as goal

pub loop-index-preserved : goal.loop-index-preserved
loop-index-preserved c = inside_more c.loop-index.indices.items c.pop.new.self.items c.in-Some.index c.loop-index.outer c.in_ok-new.field-0 c.args.indices.items c.args.value c.in-Some.ensures.items c.in_ok-new.ensures.ok c.loop-index.invariant
