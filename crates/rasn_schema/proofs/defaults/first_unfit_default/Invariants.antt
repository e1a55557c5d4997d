use Rattle.std.proofs.Common.{ℕ}
use Rattle.rasn_schema.specs.Fitting.{Fits}
use Rattle.rasn_schema.specs.Schemas.{HasUnfitDefault}
use Rattle.rasn_schema.proofs.Lists.{SoFar}
use Rattle.rasn_schema.proofs.defaults.first_unfit_default.Given as goal

abbrev pub invariant-loop-number : goal.invariant-loop-number
invariant-loop-number l = SoFar (λ k ty. (i : ℕ) → HasUnfitDefault (Fits l.types 18446744073709551615) ty i → ⊥) l.types l.number
