use Rattle.rasn_schema.proofs.RealDecimals.{one_digit_fewer}
use Rattle.rasn_schema.proofs.real_decimal.without_zeros_after.Goals as goal

pub loop-end-preserved : goal.loop-end-preserved
loop-end-preserved c = one_digit_fewer c.args.digits.now c.loop-end.end c.loop-end-test.true c.loop-end.invariant.0 c.if-digits-end-eq48.true c.loop-end.invariant.1
