use Rattle.std.proofs.Common.{arith}
use Rattle.rasn_schema.specs.Shapes.{shape_of_type}
use Rattle.rasn_dynamic.proofs.Pieces.{first_of_no_part, got_below}
use Rattle.rasn_dynamic.proofs.set.component_for.Goals as goal

pub returns : goal.returns
returns c =
    first_of_no_part (shape_of_type c.args.types.now c.args.levels) c.args.tag c.args.components.now
    (λ j p e. c.loop-number.invariant j p (let n = c.loop-number-test.false in let l = got_below c.args.components.now j p e in omega arith) e)
