-- What isn't read, if memory didn't run out.
use Rattle.std.proofs.Common.{List, ℕ, refl}
use Rattle.rasn_types.specs.declared.error.decode.DecodeErrorKind.{DecodeErrorKind}
use Rattle.rasn_types.specs.declared.error.decode.DecodeErrorKind.TheVariants.{OutOfMemory}
use Rattle.rasn_types.specs.Errors.{IsOutOfMemory}
use Rattle.rasn_types.specs.Readings.{Reading}
use Rattle.rasn_types.specs.Shapes.{Tree}
use Rattle.rasn_de.specs.Outcomes.{Exact, refusal}

pub not_read : (k : DecodeErrorKind) (R : Reading Tree) (input : List ℕ) → Exact R input (refusal k) → (IsOutOfMemory k → ⊥) → (t : Tree) (rest : List ℕ) → R input t rest → ⊥
not_read OutOfMemory R input h n t rest r = n refl
not_read _ R input h n t rest r = h t rest r
