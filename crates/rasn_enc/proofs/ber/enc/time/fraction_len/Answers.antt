use Rattle.std.proofs.Common.{◌-◌, arith}
use Rattle.std.proofs.Math.Nat.{mod-lt}
use Rattle.rasn_types.proofs.Time.Powers.{ten_pos}
use Rattle.rasn_enc.proofs.Leaves.Time.{no_fraction, some_place, one_digit_less, no_digit_left}
use Rattle.rasn_enc.proofs.ber.enc.time.fraction_len.Goals as goal

pub returns-then-billionths-eq0-clause-exact : goal.returns-then-billionths-eq0-clause-exact
returns-then-billionths-eq0-clause-exact c = no_fraction c.args.billionths c.if-billionths-eq0.true

pub nonzero_rem-left : goal.nonzero_rem-left
nonzero_rem-left c = rw c.pow-left.ensures (ten_pos (c.loop-left.place - 1))

pub overflow_sub-place : goal.overflow_sub-place
overflow_sub-place c = let s = some_place c.loop-left.place c.loop-left.left c.loop-left-test.true c.loop-left.invariant.below in omega (arith, s)

pub loop-left-smaller : goal.loop-left-smaller
loop-left-smaller c = let s = some_place c.loop-left.place c.loop-left.left c.loop-left-test.true c.loop-left.invariant.below in omega (arith, s)

pub loop-left-preserved : goal.loop-left-preserved
loop-left-preserved c =
    let s = some_place c.loop-left.place c.loop-left.left c.loop-left-test.true c.loop-left.invariant.below in
    record {
      place = omega (arith, c.loop-left.invariant.place);
      below = rw c.pow-left.ensures (mod-lt c.loop-left.left (ten_pos (c.loop-left.place - 1)));
      same = one_digit_less c.loop-left.place c.loop-left.left c.pow-left.result _ s c.loop-left-test.true c.loop-left.invariant.place c.pow-left.ensures c.loop-left.invariant.same;
    }

pub returns-clause-exact : goal.returns-clause-exact
returns-clause-exact c = no_digit_left c.loop-left.left c.loop-left.place c.args.billionths (omega (arith, c.loop-left-test.false)) (omega (arith, c.if-billionths-eq0.false)) c.loop-left.invariant.place c.loop-left.invariant.same
