use Rattle.std.proofs.Common.{◌≡◌, Some, sym, subst, arith}
use Rattle.std.specs.Prelude.{slice_get}
use Rattle.rasn_schema.specs.Fitting.{Fits}
use Rattle.rasn_schema.specs.Schemas.{IsUnfitDefault}
use Rattle.rasn_schema.proofs.Lists.{so_far_more, so_far_end, read_at}
use Rattle.rasn_schema.proofs.defaults.unfit_default.Goals as goal

pub returns-then-is_unfit_default : goal.returns-then-is_unfit_default
returns-then-is_unfit_default c = (
  c.component-item.result,
  subst (λ l. Some c.component-item.result ≡ slice_get l c.loop-index.index) c.components_of-component-items.ensures
      (read_at c.components_of-component-items.result.now c.loop-index.index c.component-item.result (let n = c.loop-index-test.true in omega arith) c.component-item.is),
  c.if-is_unfit_default.ensures,
)

pub loop-index-preserved : goal.loop-index-preserved
loop-index-preserved c =
    so_far_more (λ i p. IsUnfitDefault (Fits c.args.types.now 18446744073709551615) p → ⊥) c.components_of-component-items.result.now c.loop-index.index c.component-item.result
    (read_at c.components_of-component-items.result.now c.loop-index.index c.component-item.result (let n = c.loop-index-test.true in omega arith) c.component-item.is) c.if-is_unfit_default.ensures c.loop-index.invariant

pub returns : goal.returns
returns c = λ i (p, e, h).
    so_far_end (λ i p. IsUnfitDefault (Fits c.args.types.now 18446744073709551615) p → ⊥) c.components_of-component-items.result.now c.loop-index.index (let n = c.loop-index-test.false in omega arith) c.loop-index.invariant
    i p (subst (λ l. Some p ≡ slice_get l i) (sym c.components_of-component-items.ensures) e) h
