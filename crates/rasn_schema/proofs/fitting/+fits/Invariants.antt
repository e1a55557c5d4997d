use Rattle.std.proofs.Common.{◌+◌, ◌*◌, length}
use Rattle.rasn_schema.specs.Fitting.{Fits}
use Rattle.rasn_schema.proofs.Fitted.{FitSoFar, EachSoFar}
use Rattle.rasn_schema.proofs.fitting.+fits.Given as goal

abbrev pub decreases-fits_at : goal.decreases-fits_at
decreases-fits_at l = 8 * l.levels

abbrev pub decreases-type_fits : goal.decreases-type_fits
decreases-type_fits l = 8 * l.below + 7

abbrev pub decreases-are_components : goal.decreases-are_components
decreases-are_components l = 8 * l.below + 6

abbrev pub decreases-components_fit : goal.decreases-components_fit
decreases-components_fit l = 8 * l.below + 5

abbrev pub decreases-component_fits : goal.decreases-component_fits
decreases-component_fits l = 8 * l.below + 4

abbrev pub decreases-each_fits : goal.decreases-each_fits
decreases-each_fits l = 8 * l.below + 5

abbrev pub invariant-components_fit-loop-rest : goal.invariant-components_fit-loop-rest
invariant-components_fit-loop-rest l = FitSoFar (Fits l.types l.below) l.components l.rest l.values l.left

abbrev pub decreases-components_fit-loop-rest : goal.decreases-components_fit-loop-rest
decreases-components_fit-loop-rest l = length l.rest

abbrev pub invariant-each_fits-loop-rest : goal.invariant-each_fits-loop-rest
invariant-each_fits-loop-rest l = EachSoFar (Fits l.types l.below l.element.0) l.values l.rest

abbrev pub decreases-each_fits-loop-rest : goal.decreases-each_fits-loop-rest
decreases-each_fits-loop-rest l = length l.rest
