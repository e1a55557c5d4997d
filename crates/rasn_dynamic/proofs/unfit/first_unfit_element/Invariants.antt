use Rattle.std.proofs.Common.{◌-◌, drop, length}
use Rattle.rasn_schema.specs.Fitting.{EachFits, Fits}
use Rattle.rasn_dynamic.proofs.unfit.first_unfit_element.Given as goal

abbrev pub invariant-loop-value : goal.invariant-loop-value
invariant-loop-value l = EachFits (Fits l.types l.below l.element.0) (drop l.index l.values) → EachFits (Fits l.types l.below l.element.0) l.values

abbrev pub decreases-loop-value : goal.decreases-loop-value
decreases-loop-value l = length l.values - l.index
