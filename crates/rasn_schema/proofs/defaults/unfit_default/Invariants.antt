use Rattle.rasn_schema.specs.Fitting.{Fits}
use Rattle.rasn_schema.specs.Schemas.{IsUnfitDefault}
use Rattle.rasn_schema.proofs.Lists.{SoFar}
use Rattle.rasn_schema.proofs.defaults.unfit_default.Given as goal

abbrev pub invariant-loop-index : goal.invariant-loop-index
invariant-loop-index l = SoFar (λ i p. IsUnfitDefault (Fits l.types 18446744073709551615) p → ⊥) l.component-items l.index
