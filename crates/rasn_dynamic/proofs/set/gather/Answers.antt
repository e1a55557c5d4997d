use Rattle.std.proofs.Common.{arith, ◌≡◌, ◌+◌, ℕ, suc, ap, length}
use Rattle.rasn_schema.proofs.Lists.{split, nothing_left}
use Rattle.rasn_de.proofs.Leaves.Returns.{residual}
use Rattle.rasn_dynamic.proofs.Pieces.{settled_more, settled_fails, settled_end}
use Rattle.rasn_dynamic.proofs.set.gather.Goals as goal

pub returns-in_err-value-clause-gathers : goal.returns-in_err-value-clause-gathers
returns-in_err-value-clause-gathers g c =
    rw (residual _ c.from_residual.ensures.1)
    (settled_fails _ _ _ _ c.component-item.result _ _ c.in-Some.found _ _ c.loop-rest.invariant.0 (split c.loop-rest.rest.now _ c.in-len1-up.len_at_least c.component-item.is) c.in-Some.ensures.cases.0 _ c.in_err-value.field-0.0 c.in_err-value.ensures.settled)

pub loop-rest-preserved : goal.loop-rest-preserved
loop-rest-preserved g c =
    let e = split c.loop-rest.rest.now _ c.in-len1-up.len_at_least c.component-item.is in
    (settled_more _ _ _ _ c.component-item.result _ _ c.in-Some.found _ _ c.loop-rest.invariant.0 e c.in-Some.ensures.cases.0 c.in_ok-value.value _ c.in_ok-push.ensures.ok c.in_ok-value.ensures.settled.0 c.in_ok-value.ensures.settled.1, go _ _ _ _ c.loop-rest.invariant.1 c.in-Some.ensures.cases.1 (ap length e))
  where
    go : (old new left after : ℕ) → old ≡ left → new + 1 ≡ old → left ≡ suc after → new ≡ after
    go old new left after p q r = omega (arith, p, q, r)

pub returns-clause-gathers : goal.returns-clause-gathers
returns-clause-gathers g c = settled_end _ _ _ _ _ _ c.loop-rest.invariant.0 (nothing_left _ c.in_default.len_below)
