use Rattle.std.proofs.Common.{◌-◌, sym, subst, true≢false, arith}
use Rattle.rasn_schema.specs.Shapes.{shape_of_type}
use Rattle.rasn_schema.specs.Schemas.{IsUnknown}
use Rattle.rasn_schema.proofs.TypeShapes.{shape_below, shape_none}
use Rattle.rasn_schema.proofs.types.is_unknown_at.Goals as goal

pub returns-in-Some-clause-shape : goal.returns-in-Some-clause-shape
returns-in-Some-clause-shape c = λ levels n. rw (shape_below c.args.types.now levels (levels - 1) c.args.id.0 c.in-Some.ty.now (omega arith) c.in-Some.ensures) (c.is_unknown.ensures.shape (shape_of_type c.args.types.now (levels - 1)))

pub returns-in-None-clause-shape : goal.returns-in-None-clause-shape
returns-in-None-clause-shape c = λ levels n h. true≢false (sym (subst IsUnknown (sym (shape_none c.args.types.now levels c.args.id.0 n c.in-None.ensures)) h))
