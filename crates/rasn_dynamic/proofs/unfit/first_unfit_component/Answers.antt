use Rattle.std.proofs.Common.{refl, sym, inl, inr}
use Rattle.std.proofs.lemmas.Option.{slice_get_past}
use Rattle.rasn_schema.proofs.Lists.{read_at}
use Rattle.rasn_schema.specs.Fitting.{Fits}
use Rattle.rasn_dynamic.proofs.UnfitParts.{next_fits, too_few, none_after}
use Rattle.rasn_dynamic.proofs.unfit.first_unfit_component.Goals as goal

pub loop-component-preserved : goal.loop-component-preserved
loop-component-preserved c = λ h. c.loop-component.invariant (next_fits (Fits c.args.types.now c.args.below) _ _ c.loop-component.index _ _ (read_at _ _ _ c.in-Some.ensures.lookup.3.0 c.in-Some.ensures.lookup.1) (read_at _ _ _ c.in_ok-value.ensures.lookup.3.0 c.in_ok-value.ensures.lookup.1) c.if-not-component_fits.ensures h)

pub returns-in_err-value : goal.returns-in_err-value
returns-in_err-value c = rw c.from_residual.ensures (too_few (Fits c.args.types.now c.args.below) _ _ _ c.loop-component.index _ (read_at _ _ _ c.in-Some.ensures.lookup.3.0 c.in-Some.ensures.lookup.1) (sym (slice_get_past _ _ c.in_err-value.ensures.lookup.3)))

pub returns-then-not-component_fits : goal.returns-then-not-component_fits
returns-then-not-component_fits c = ((read_at _ _ _ c.in_ok-value.ensures.lookup.3.0 c.in_ok-value.ensures.lookup.1, (c.in-Some.component.now, read_at _ _ _ c.in-Some.ensures.lookup.3.0 c.in-Some.ensures.lookup.1, refl, λ l. c.if-not-component_fits.ensures (inl l))), λ f. c.if-not-component_fits.ensures (inr f))

pub returns : goal.returns
returns c = λ a. c.requires (c.loop-component.invariant (none_after (Fits c.args.types.now c.args.below) _ _ _ _ (sym (slice_get_past _ _ c.in_default.ensures.lookup.3)) a))
