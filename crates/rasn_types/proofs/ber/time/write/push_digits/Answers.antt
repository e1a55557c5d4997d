use Rattle.std.proofs.Common.{ℕ, List, ◌+◌, ◌/◌, arith, ◌≡◌, ◌-◌, sym, ◌∙◌, append-nil, append_assoc, ap, ◌++◌, ◌∷◌, []}
use Rattle.rasn_types.proofs.Time.Fractions.{pushed, digits_of_zero, digits_of_none}
use Rattle.rasn_types.proofs.Time.Powers.{ten_pos}
use Rattle.std.proofs.Math.Nat.{mod-lt}
use Rattle.rasn_types.proofs.ber.time.write.push_digits.Goals as goal

pub loop-place-preserved : goal.loop-place-preserved
loop-place-preserved c = record {
  place = omega (arith, c.loop-place.invariant.place);
  below = rw c.pow-weight.ensures (mod-lt c.loop-place.left (ten_pos (c.loop-place.place - 1)));
  more = (
    c.loop-place.invariant.more.0 ++ (48 + c.loop-place.left / c.pow-weight.result) ∷ [],
    c.in_ok-push.ensures.items ∙ (ap (λ (l : List ℕ). l ++ (48 + c.loop-place.left / c.pow-weight.result) ∷ []) c.loop-place.invariant.more.1 ∙ append_assoc c.args.out.now.items c.loop-place.invariant.more.0 ((48 + c.loop-place.left / c.pow-weight.result) ∷ [])),
  );
  same = pushed c.loop-place.out.items c.push.new.self.items c.loop-place.place c.loop-place.left c.pow-weight.result c.loop-place-test.true c.if-left-gt0.true c.pow-weight.ensures c.in_ok-push.ensures.items ∙ c.loop-place.invariant.same;
}

pub returns-else-left-gt0-clause-ok : goal.returns-else-left-gt0-clause-ok
returns-else-left-gt0-clause-ok c =
    let z : c.loop-place.left ≡ 0 = omega (arith, c.if-left-gt0.false) in
    let s = c.loop-place.invariant.same in
    sym (append-nil c.loop-place.out.items) ∙ (rw (z, digits_of_zero c.loop-place.place) at s)

pub returns-after-loop-place-clause-ok : goal.returns-after-loop-place-clause-ok
returns-after-loop-place-clause-ok c =
    let z : c.loop-place.place ≡ 0 = omega (arith, c.loop-place-test.false) in
    let s = c.loop-place.invariant.same in
    sym (append-nil c.loop-place.out.items) ∙ (rw (digits_of_none c.loop-place.place c.loop-place.left z) at s)
