use Rattle.std.proofs.Common.{arith, ◌-◌, subst}
use Rattle.rasn_types.specs.Lawful.{HasTag}
use Rattle.rasn_schema.proofs.TypeShapes.{shape_below, shape_none, shape_cut}
use Rattle.rasn_schema.proofs.LawfulTypes.{cut_has_tag}
use Rattle.rasn_schema.proofs.rules.has_tag.Goals as goal

pub returns-then-levels-eq0 : goal.returns-then-levels-eq0
returns-then-levels-eq0 c = rw (shape_cut c.args.types.now c.args.levels c.args.id.0 c.if-levels-eq0.true) (cut_has_tag c.args.types.now c.args.id.0)

pub returns-in-Some : goal.returns-in-Some
returns-in-Some c = rw (shape_below c.args.types.now c.args.levels (c.args.levels - 1) c.args.id.0 c.in-Some.ty.now (let n = c.if-levels-eq0.false in omega arith) c.in-Some.ensures) c.type_has_tag.ensures

pub returns-in-None : goal.returns-in-None
returns-in-None c = subst HasTag (shape_none c.args.types.now c.args.levels c.args.id.0 c.if-levels-eq0.false c.in-None.ensures) tt
