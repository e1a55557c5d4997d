use Rattle.std.proofs.Common.{◌-◌, drop, length}
use Rattle.rasn_schema.specs.Fitting.{ComponentsFit, Fits}
use Rattle.rasn_dynamic.proofs.unfit.first_unfit_component.Given as goal

abbrev pub invariant-loop-component : goal.invariant-loop-component
invariant-loop-component l = ComponentsFit (Fits l.types l.below) (drop l.index l.components) (drop l.index l.values) → ComponentsFit (Fits l.types l.below) l.components l.values

abbrev pub decreases-loop-component : goal.decreases-loop-component
decreases-loop-component l = length l.components - l.index
