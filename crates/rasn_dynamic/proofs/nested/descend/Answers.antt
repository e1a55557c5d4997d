use Rattle.rasn_dynamic.proofs.ChoicesInside.{stays_there}
use Rattle.rasn_dynamic.proofs.nested.descend.Goals as goal

pub returns-clause-goes : goal.returns-clause-goes
returns-clause-goes c =
    let i = c.loop.invariant in
    stays_there c.args.types.now c.args.decoder.now c.args.nested.now.part c.args.walk.now.spans c.loop.nested c.go_into.new.nested c.loop.walk.spans c.go_into.new.walk.spans c.in_ok-go_into.field-0 c.if-branch.false c.in_ok-go_into.ensures.goes i.0 i.1
