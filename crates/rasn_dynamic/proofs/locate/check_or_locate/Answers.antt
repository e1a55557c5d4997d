use Rattle.std.proofs.Common.{false, Ok}
use Rattle.rasn_dynamic.specs.Entry.{shape_of}
use Rattle.rasn_dynamic.proofs.Checked.{checked_first, refused_check, ends_first}
use Rattle.rasn_dynamic.proofs.locate.check_or_locate.Goals as goal

pub returns-in-Ok-clause-exact : goal.returns-in-Ok-clause-exact
returns-in-Ok-clause-exact c = checked_first c.args.rule (shape_of c.args.schema.now.types.items c.args.id.0) c.args.input.now false (c.in-Ok.value, c.in-Ok.rest) c.in-Ok.ensures.read

pub returns-clause-exact : goal.returns-clause-exact
returns-clause-exact c = refused_check c.args.rule (shape_of c.args.schema.now.types.items c.args.id.0) c.args.input.now false c.in-Err.refusal c.in-Err.ensures.read

pub returns-in-Ok-clause-end : goal.returns-in-Ok-clause-end
returns-in-Ok-clause-end c = ends_first false c.args.rule (shape_of c.args.schema.now.types.items c.args.id.0) c.args.input.now (Ok (c.in-Ok.value, c.in-Ok.rest)) c.in-Ok.ensures.read
