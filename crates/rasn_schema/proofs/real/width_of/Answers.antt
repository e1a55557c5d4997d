use Rattle.rasn_schema.proofs.Doubles.{wider, few_halves}
use Rattle.rasn_schema.proofs.real.width_of.Goals as goal

pub overflow_add-width : goal.overflow_add-width
overflow_add-width c = record { fits = few_halves c.args.number c.loop-rest.rest c.loop-rest.width c.ranges.number.fits c.requires c.loop-rest.invariant }

pub loop-rest-preserved : goal.loop-rest-preserved
loop-rest-preserved c = wider c.args.number c.loop-rest.rest c.loop-rest.width c.requires c.loop-rest-test.true c.loop-rest.invariant
