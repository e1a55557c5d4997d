use Rattle.rasn_schema.specs.Shapes.{shape_of_type}
use Rattle.rasn_schema.proofs.Clash.{clash_by_tag}
use Rattle.rasn_schema.proofs.rules.same_alternative.Goals as goal

pub returns-in-One : goal.returns-in-One
returns-in-One c =
    let f = shape_of_type c.args.types.now c.args.levels in
    clash_by_tag f (f c.args.alternative.0) c.in-One.tag c.args.alternatives.now c.args.index _ c.in-One.ensures.tags.0 c.in-One.ensures.tags.1 c.alternative_with.ensures
