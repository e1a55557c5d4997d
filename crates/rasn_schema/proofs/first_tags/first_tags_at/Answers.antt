use Rattle.std.proofs.Common.{arith, ◌-◌, sym, subst}
use Rattle.rasn_types.specs.Shapes.{IsFirst}
use Rattle.rasn_schema.proofs.TypeShapes.{shape_below, shape_none, shape_cut}
use Rattle.rasn_schema.proofs.first_tags.first_tags_at.Goals as goal

pub returns-then-levels-eq0-clause-tags : goal.returns-then-levels-eq0-clause-tags
returns-then-levels-eq0-clause-tags c = rw (shape_cut c.args.types.now c.args.levels c.args.id.0 c.if-levels-eq0.true, ← c.tag_at.ensures) (c.cut_first_tags.ensures.tags _)

pub returns-in-Some-clause-tags : goal.returns-in-Some-clause-tags
returns-in-Some-clause-tags c = rw (shape_below c.args.types.now c.args.levels (c.args.levels - 1) c.args.id.0 c.in-Some.ty.now (let n = c.if-levels-eq0.false in omega arith) c.in-Some.ensures) (c.type_first_tags.ensures _)

pub returns-in-None-clause-tags : goal.returns-in-None-clause-tags
returns-in-None-clause-tags c = λ n h. subst (λ s. IsFirst s n) (sym (shape_none c.args.types.now c.args.levels c.args.id.0 c.if-levels-eq0.false c.in-None.ensures)) h
