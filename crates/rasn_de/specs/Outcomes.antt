-- What the result of a call says of a reading.
use Rattle.std.specs.Prelude.{◌≡◌, ℕ, List, Result, Ok, Err}
use Rattle.rasn_types.specs.declared.error.decode.DecodeErrorKind.{DecodeErrorKind}
use Rattle.rasn_types.specs.declared.error.decode.DecodeErrorKind.TheVariants.{OutOfMemory}
use Rattle.rasn_types.specs.declared.error.decode.DecodeError.{DecodeError}
use Rattle.rasn_types.specs.Shapes.{Tree}
use Rattle.rasn_types.specs.Readings.{Reading}

-- A tree and the remaining input; a refusal; or a failed allocation.
pub data Outcome : Type 0 where
  Got : Tree → List ℕ → Outcome
  Refused : Outcome
  AllocFailed : Outcome

abbrev pub refusal : DecodeErrorKind → Outcome
refusal OutOfMemory = AllocFailed
refusal _ = Refused

abbrev pub outcome : {T : Type 0} → (T → Tree) → Result T DecodeError → List ℕ → Outcome
outcome tree (Ok v) r = Got (tree v) r
outcome tree (Err e) r = refusal e.kind

-- The reading relates the input to the tree and the rest of the outcome, and to nothing else. If the outcome is a
-- refusal, it relates the input to nothing. If an allocation failed, nothing is said.
abbrev pub Exact : Reading Tree → List ℕ → Outcome → Type 0
Exact R input (Got t r) = R input t r × ((u : Tree) (s : List ℕ) → R input u s → (u ≡ t) × (s ≡ r))
Exact R input Refused = (u : Tree) (s : List ℕ) → R input u s → ⊥
Exact R input AllocFailed = Unit {0}
