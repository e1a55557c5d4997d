use Rattle.std.proofs.Common.{sym, refl}
use Rattle.std.proofs.lemmas.Option.{slice_get_past}
use Rattle.rasn_schema.proofs.Lists.{read_at}
use Rattle.rasn_schema.specs.Fitting.{Fits}
use Rattle.rasn_dynamic.proofs.UnfitParts.{next_each, each_ended}
use Rattle.rasn_dynamic.proofs.unfit.first_unfit_element.Goals as goal

pub loop-value-preserved : goal.loop-value-preserved
loop-value-preserved c = λ h. c.loop-value.invariant (next_each (Fits c.args.types.now c.args.below c.args.element.0) _ c.loop-value.index _ (read_at _ _ _ c.in-Some.ensures.lookup.3.0 c.in-Some.ensures.lookup.1) c.if-not-fits_at.ensures h)

pub returns-then-not-fits_at : goal.returns-then-not-fits_at
returns-then-not-fits_at c = ((read_at _ _ _ c.in-Some.ensures.lookup.3.0 c.in-Some.ensures.lookup.1, refl), c.if-not-fits_at.ensures)

pub returns : goal.returns
returns c = c.requires (c.loop-value.invariant (each_ended (Fits c.args.types.now c.args.below c.args.element.0) c.args.values.now c.loop-value.index (sym (slice_get_past c.args.values.now c.loop-value.index c.in_default.ensures.lookup.3))))
