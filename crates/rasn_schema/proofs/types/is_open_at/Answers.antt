use Rattle.std.proofs.Common.{◌-◌, sym, ap, ◌∙◌, arith}
use Rattle.rasn_schema.specs.Shapes.{shape_of_type, is_open}
use Rattle.rasn_schema.proofs.TypeShapes.{shape_below, shape_none, shape_cut}
use Rattle.rasn_schema.proofs.OpenEnds.{cut_not_open}
use Rattle.rasn_schema.proofs.types.is_open_at.Goals as goal

pub returns-then-levels-eq0 : goal.returns-then-levels-eq0
returns-then-levels-eq0 c = sym (ap is_open (shape_cut c.args.types.now c.args.levels c.args.id.0 c.if-levels-eq0.true) ∙ cut_not_open _)

pub returns-in-Some : goal.returns-in-Some
returns-in-Some c = rw (shape_below c.args.types.now c.args.levels (c.args.levels - 1) c.args.id.0 c.in-Some.ty.now (let n = c.if-levels-eq0.false in omega arith) c.in-Some.ensures) (c.is_open.ensures (shape_of_type c.args.types.now (c.args.levels - 1)))

pub returns-in-None : goal.returns-in-None
returns-in-None c = ap is_open (shape_none c.args.types.now c.args.levels c.args.id.0 c.if-levels-eq0.false c.in-None.ensures)
