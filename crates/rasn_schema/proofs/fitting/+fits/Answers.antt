use Rattle.rasn_schema.proofs.Lists.{split, nothing_left}
use Rattle.rasn_schema.specs.Fitting.{Fits}
use Rattle.rasn_schema.proofs.Fitted.{fit_more, fit_not, fit_short, each_more, each_not, each_end}
use Rattle.rasn_schema.proofs.Reach.{whether_reached}
use Rattle.rasn_schema.proofs.fitting.+fits.Goals as goal

pub fits_at-returns-in-Some : goal.fits_at-returns-in-Some
fits_at-returns-in-Some t c = whether_reached c.type_fits.result c.args.types.now c.args.levels c.args.id.0 c.in-Some.inner.below c.args.value.now c.in-Some.inner.value.now c.in-Some.inner.ty.now c.in-Some.ensures.reaches c.type_fits.ensures

pub components_fit-returns-in_default-left : goal.components_fit-returns-in_default-left
components_fit-returns-in_default-left t c = fit_short (Fits c.args.types.now c.args.below) _ _ _ _ _ c.component-item.result c.loop-rest.invariant (split c.loop-rest.rest.now _ c.in-len1-up.len_at_least c.component-item.is) (nothing_left _ c.in_default-left.len_below)

pub components_fit-returns-then-not-component_fits : goal.components_fit-returns-then-not-component_fits
components_fit-returns-then-not-component_fits t c = fit_not (Fits c.args.types.now c.args.below) _ _ _ _ _ _ c.component-item.result c.value-item.result c.loop-rest.invariant (split c.loop-rest.rest.now _ c.in-len1-up.len_at_least c.component-item.is) (split c.loop-rest.left.now _ c.in-len1-up-left.len_at_least c.value-item.is) c.if-not-component_fits.ensures

pub components_fit-loop-rest-preserved : goal.components_fit-loop-rest-preserved
components_fit-loop-rest-preserved t c = fit_more (Fits c.args.types.now c.args.below) _ _ _ _ _ _ c.component-item.result c.value-item.result c.loop-rest.invariant (split c.loop-rest.rest.now _ c.in-len1-up.len_at_least c.component-item.is) (split c.loop-rest.left.now _ c.in-len1-up-left.len_at_least c.value-item.is) c.if-not-component_fits.ensures

pub each_fits-returns-then-not-fits_at : goal.each_fits-returns-then-not-fits_at
each_fits-returns-then-not-fits_at t c = each_not ((Fits c.args.types.now c.args.below) c.args.element.0) _ _ _ c.value-item.result c.loop-rest.invariant (split c.loop-rest.rest.now _ c.in-len1-up.len_at_least c.value-item.is) c.if-not-fits_at.ensures

pub each_fits-loop-rest-preserved : goal.each_fits-loop-rest-preserved
each_fits-loop-rest-preserved t c = each_more ((Fits c.args.types.now c.args.below) c.args.element.0) _ _ _ c.value-item.result c.loop-rest.invariant (split c.loop-rest.rest.now _ c.in-len1-up.len_at_least c.value-item.is) c.if-not-fits_at.ensures

pub each_fits-returns : goal.each_fits-returns
each_fits-returns t c = each_end ((Fits c.args.types.now c.args.below) c.args.element.0) _ _ c.loop-rest.invariant (nothing_left _ c.in_default.len_below)
