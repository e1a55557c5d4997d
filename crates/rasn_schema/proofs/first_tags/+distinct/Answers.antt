use Rattle.std.proofs.Common.{arith}
use Rattle.rasn_types.specs.Shapes.{IsFirst}
use Rattle.rasn_schema.specs.Shapes.{shape_of_type}
use Rattle.rasn_schema.proofs.Firsts.{each_at, each_all}
use Rattle.rasn_schema.proofs.Lists.{so_far_more, so_far_end, read_at}
use Rattle.rasn_schema.proofs.first_tags.+distinct.Goals as goal

pub all_distinct-returns-then-not-is_distinct : goal.all_distinct-returns-then-not-is_distinct
all_distinct-returns-then-not-is_distinct t c = λ h. c.if-not-is_distinct.ensures (each_at (shape_of_type c.args.types.now c.args.levels) (λ n. IsFirst (shape_of_type c.args.types.now c.args.outer c.args.other.0) n → ⊥) c.args.alternatives.now c.loop-alternative.alternative-index c.alternative-item.result (read_at c.args.alternatives.now c.loop-alternative.alternative-index c.alternative-item.result (let n = c.loop-alternative-test.true in omega arith) c.alternative-item.is) h)

pub all_distinct-loop-alternative-preserved : goal.all_distinct-loop-alternative-preserved
all_distinct-loop-alternative-preserved t c = so_far_more _ c.args.alternatives.now c.loop-alternative.alternative-index c.alternative-item.result (read_at c.args.alternatives.now c.loop-alternative.alternative-index c.alternative-item.result (let n = c.loop-alternative-test.true in omega arith) c.alternative-item.is) c.if-not-is_distinct.ensures c.loop-alternative.invariant

pub all_distinct-returns : goal.all_distinct-returns
all_distinct-returns t c = each_all (shape_of_type c.args.types.now c.args.levels) (λ n. IsFirst (shape_of_type c.args.types.now c.args.outer c.args.other.0) n → ⊥) c.args.alternatives.now (so_far_end _ c.args.alternatives.now c.loop-alternative.alternative-index (let n = c.loop-alternative-test.false in omega arith) c.loop-alternative.invariant)
