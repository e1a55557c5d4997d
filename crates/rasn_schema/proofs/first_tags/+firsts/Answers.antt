use Rattle.std.proofs.Common.{arith}
use Rattle.rasn_types.specs.Tags.{eoc}
use Rattle.rasn_schema.specs.Shapes.{shape_of_type}
use Rattle.rasn_schema.proofs.Firsts.{some_at, none_of}
use Rattle.rasn_schema.proofs.Lists.{so_far_more, so_far_end, read_at}
use Rattle.rasn_schema.proofs.first_tags.+firsts.Goals as goal

pub has_firsts-returns-in-Every : goal.has_firsts-returns-in-Every
has_firsts-returns-in-Every t c = (eoc, c.in-Every.ensures.tags eoc)

pub some_have_firsts-returns-then-has_firsts : goal.some_have_firsts-returns-then-has_firsts
some_have_firsts-returns-then-has_firsts t c = some_at (shape_of_type c.args.types.now c.args.levels) c.args.alternatives.now c.loop-alternative.alternative-index c.alternative-item.result (read_at c.args.alternatives.now c.loop-alternative.alternative-index c.alternative-item.result (let n = c.loop-alternative-test.true in omega arith) c.alternative-item.is) c.if-has_firsts.ensures

pub some_have_firsts-loop-alternative-preserved : goal.some_have_firsts-loop-alternative-preserved
some_have_firsts-loop-alternative-preserved t c = so_far_more _ c.args.alternatives.now c.loop-alternative.alternative-index c.alternative-item.result (read_at c.args.alternatives.now c.loop-alternative.alternative-index c.alternative-item.result (let n = c.loop-alternative-test.true in omega arith) c.alternative-item.is) c.if-has_firsts.ensures c.loop-alternative.invariant

pub some_have_firsts-returns : goal.some_have_firsts-returns
some_have_firsts-returns t c = none_of (shape_of_type c.args.types.now c.args.levels) c.args.alternatives.now (so_far_end _ c.args.alternatives.now c.loop-alternative.alternative-index (let n = c.loop-alternative-test.false in omega arith) c.loop-alternative.invariant)
