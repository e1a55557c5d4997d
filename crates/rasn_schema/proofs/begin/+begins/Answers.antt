use Rattle.std.proofs.Common.{◌-◌, sym, subst, arith}
use Rattle.rasn_types.specs.Shapes.{IsFirst}
use Rattle.rasn_schema.specs.Shapes.{shape_of_type, alternatives_by}
use Rattle.rasn_schema.proofs.TypeShapes.{shape_below, shape_none, shape_cut}
use Rattle.rasn_schema.proofs.Alternatives.{first_of_all, first_of_none}
use Rattle.rasn_schema.proofs.OpenEnds.{first_told}
use Rattle.rasn_schema.proofs.Lists.{so_far_more, so_far_end, read_at}
use Rattle.rasn_schema.proofs.begin.+begins.Goals as goal

pub begins-returns-then-levels-eq0 : goal.begins-returns-then-levels-eq0
begins-returns-then-levels-eq0 t c = rw (shape_cut c.args.types.now c.args.levels c.args.id.0 c.if-levels-eq0.true, ← c.tag_at.ensures) c.nothing_begins.ensures

pub begins-returns-in-Some : goal.begins-returns-in-Some
begins-returns-in-Some t c = rw (shape_below c.args.types.now c.args.levels (c.args.levels - 1) c.args.id.0 c.in-Some.ty.now (let n = c.if-levels-eq0.false in omega arith) c.in-Some.ensures) c.type_begins.ensures

pub begins-returns-in-None : goal.begins-returns-in-None
begins-returns-in-None t c h = subst (λ s. IsFirst s c.args.tag) (sym (shape_none c.args.types.now c.args.levels c.args.id.0 c.if-levels-eq0.false c.in-None.ensures)) h

pub type_begins-returns-in-Choice : goal.type_begins-returns-in-Choice
type_begins-returns-in-Choice t c = rw (c.in-Choice.is, ← c.deref.ensures.value) (first_told c.some_begins.result (alternatives_by (shape_of_type c.args.types.now c.args.below) c.deref.result.now) c.args.tag c.some_begins.ensures)

pub some_begins-returns-then-begins : goal.some_begins-returns-then-begins
some_begins-returns-then-begins t c = first_of_all (shape_of_type c.args.types.now c.args.levels) c.args.tag c.args.alternatives.now c.loop-alternative.alternative-index c.alternative-item.result (read_at c.args.alternatives.now c.loop-alternative.alternative-index c.alternative-item.result (let n = c.loop-alternative-test.true in omega arith) c.alternative-item.is) c.if-begins.ensures

pub some_begins-loop-alternative-preserved : goal.some_begins-loop-alternative-preserved
some_begins-loop-alternative-preserved t c = so_far_more _ c.args.alternatives.now c.loop-alternative.alternative-index c.alternative-item.result (read_at c.args.alternatives.now c.loop-alternative.alternative-index c.alternative-item.result (let n = c.loop-alternative-test.true in omega arith) c.alternative-item.is) c.if-begins.ensures c.loop-alternative.invariant

pub some_begins-returns : goal.some_begins-returns
some_begins-returns t c = first_of_none (shape_of_type c.args.types.now c.args.levels) c.args.tag c.args.alternatives.now (so_far_end _ c.args.alternatives.now c.loop-alternative.alternative-index (let n = c.loop-alternative-test.false in omega arith) c.loop-alternative.invariant)
