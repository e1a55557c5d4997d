use Rattle.std.proofs.Common.{inl, inr, length, take, subst, arith}
use Rattle.std.proofs.lemmas.Result.{err_from_is_err_and}
use Rattle.rasn_types.specs.Bytes.{Each}
use Rattle.rasn_enc.specs.SortedSet.{IsUnknown}
use Rattle.rasn_enc.proofs.OwnTypes.SortedSet.{lack_at}
use Rattle.rasn_enc.proofs.Sorting.{each_more, each_all}
use Rattle.rasn_enc.proofs.ber.enc.set_parts.components_of.Goals as goal

pub loop-at-init : goal.loop-at-init
loop-at-init c = record { within = omega arith; held = c.in-Ok.ensures.items }

pub returns-in_err-component-clause-refused : goal.returns-in_err-component-clause-refused
returns-in_err-component-clause-refused c =
    let p = err_from_is_err_and c.from_residual.result c.from_residual.ensures.1 in
    rw (p.1, p.2) (elim c.in_err-component.ensures.refused [
      | inl m ↦ inl m
      | inr h ↦ inr (h.0, lack_at c.args.values.now c.loop-at.at _ c.loop-at-test.true c.index-values-at.is h.1)
    ])

pub loop-at-preserved : goal.loop-at-preserved
loop-at-preserved c = record {
  within = let n = c.loop-at-test.true in omega arith;
  held = each_more IsUnknown c.args.values.now c.loop-at.components.items c.loop-at.at _ _ c.loop-at-test.true c.index-values-at.is c.loop-at.invariant.held c.in_ok-component.ensures.ok _ c.in-Ok-push.ensures.items;
}

pub returns-clause-ok : goal.returns-clause-ok
returns-clause-ok c = each_all IsUnknown c.args.values.now c.loop-at.components.items c.loop-at.at (let n = c.loop-at-test.false in omega arith) c.loop-at.invariant.held
