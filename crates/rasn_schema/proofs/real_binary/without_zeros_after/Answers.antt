use Rattle.rasn_schema.proofs.RealNumbers.{one_fewer}
use Rattle.rasn_schema.proofs.real_binary.without_zeros_after.Goals as goal

pub loop-end-preserved : goal.loop-end-preserved
loop-end-preserved c = one_fewer c.args.octets.now c.loop-end.end c.loop-end-test.true c.loop-end.invariant.0 c.if-octets-end-eq0.true c.loop-end.invariant.1
