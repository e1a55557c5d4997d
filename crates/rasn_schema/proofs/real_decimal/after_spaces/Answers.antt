use Rattle.std.proofs.Common.{arith}
use Rattle.rasn_schema.proofs.RealDecimals.{spaces_cut}
use Rattle.rasn_schema.proofs.real_decimal.after_spaces.Goals as goal
use Rattle.rasn_schema.proofs.real_decimal.after_spaces.Goals.{then-loop-start-test+else-text-start-eq32, else-loop-start-test}

pub returns : goal.returns
returns c = spaces_cut c.args.text.now c.loop-start.start c.loop-start.invariant.0 c.loop-start.invariant.1 (λ h. elim c.loop-start-test.branch [ then-loop-start-test+else-text-start-eq32 w ↦ w.if-text-start-eq32.false | else-loop-start-test w ↦ λ e. omega (arith, w.loop-start-test.false, h) ])
