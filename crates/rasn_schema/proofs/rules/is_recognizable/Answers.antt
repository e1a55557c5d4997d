use Rattle.rasn_schema.specs.Shapes.{shape_of_type}
use Rattle.rasn_schema.proofs.Follow.{recognizable}
use Rattle.rasn_schema.proofs.rules.is_recognizable.Goals as goal

pub returns : goal.returns
returns c = recognizable (shape_of_type c.args.types.now c.args.levels c.args.id.0) c.has_firsts.result c.if-not-has_tag.ensures c.has_firsts.ensures
