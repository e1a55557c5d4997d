use Rattle.std.proofs.Common.{◌≡◌, ◌++◌, ◌∷◌, ◌+◌, ◌-◌, arith, ap, sym, ◌∙◌}
use Rattle.rasn_enc.specs.Headers.{digits, chained}
use Rattle.rasn_enc.proofs.Headers.Places.{groups_step, groups_last, moves}
use Rattle.rasn_enc.proofs.ber.enc.writer.base_128.write_groups.Goals as goal

pub loop-left-preserved : goal.loop-left-preserved
loop-left-preserved c = record {
  some = omega arith;
  few = omega arith;
  room = omega arith;
  capacity = c.push_reserved.ensures.capacity ∙ c.loop-left.invariant.capacity;
  written = moves c.loop-left.out.items _ _ _ (chained (digits 128 (c.loop-left.left - 1) c.args.number)) _
      (groups_step c.loop-left.left c.args.number c.loop-left-test.true ∙ ap (λ z. (128 + z) ∷ chained (digits 128 (c.loop-left.left - 1) c.args.number)) (sym c.group_at.ensures.exact))
      c.loop-left.invariant.written c.push_reserved.ensures.items;
}

pub returns-clause-items : goal.returns-clause-items
returns-clause-items c =
    let e : c.loop-left.left ≡ 1 = omega arith in
    c.push_reserved-2.ensures.items ∙ (ap (λ l. c.loop-left.out.items ++ l) (sym (groups_last c.loop-left.left c.args.number e)) ∙ c.loop-left.invariant.written)
