use Rattle.std.proofs.Common.{false, sym, ◌∙◌, ◌-◌, arith}
use Rattle.rasn_types.proofs.BitString.Significant.{dropped_zero, one_left}
use Rattle.rasn_types.proofs.types.bits.bit_str.BitStr.significant_len.Goals as goal

pub returns-then-bit : goal.returns-then-bit
returns-then-bit c =
    let t = c.loop-len-test.true in
    one_left c.args.self.now (c.loop-len.len - 1) c.loop-len.len (omega (arith, t)) c.loop-len.invariant.within (sym (c.bit.ensures false) ∙ c.if-bit.true) c.loop-len.invariant.same

pub loop-len-preserved : goal.loop-len-preserved
loop-len-preserved c =
    let t = c.loop-len-test.true in
    let w = c.loop-len.invariant.within in
    record {
      within = omega (arith, t, w);
      same = dropped_zero c.args.self.now (c.loop-len.len - 1) c.loop-len.len (omega (arith, t)) w (sym (c.bit.ensures false) ∙ c.if-bit.false) c.loop-len.invariant.same;
    }
