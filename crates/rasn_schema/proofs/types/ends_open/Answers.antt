use Rattle.std.proofs.Common.{◌∙◌}
use Rattle.rasn_schema.specs.Shapes.{shape_of_type}
use Rattle.rasn_schema.proofs.OpenEnds.{end_is}
use Rattle.rasn_schema.proofs.types.ends_open.Goals as goal

pub returns-in-Some : goal.returns-in-Some
returns-in-Some c = c.is_open_at.ensures ∙ end_is (shape_of_type c.args.types.now c.args.levels) c.args.alternatives.now c.in-Some.last.now c.in-Some.ensures.value
