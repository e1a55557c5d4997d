-- Octets that are written to a caller's buffer.
use Rattle.rasn_c.specs.declared.status.Status.{Status}
use Rattle.rasn_c.specs.declared.status.Status.TheVariants.{Ok, BufferTooSmall}
use Rattle.std.specs.Prelude.{◌≡◌, ◌<◌, ◌≤◌, ℕ, Bool, true, false, List, [], ◌∷◌, ◌++◌, length, take, drop, Result, Ok as Made, Err, Vec}
use Rattle.std.specs.Global.{Global}

-- The buffer begins with the octets; the rest of it is unchanged.
abbrev pub written_over : List ℕ → List ℕ → List ℕ
written_over octets buffer = octets ++ drop (length octets) buffer

-- The octets are written if they fit; otherwise the buffer is unchanged.
abbrev pub IsPut : List ℕ → List ℕ → Bool → List ℕ → Type 0
IsPut octets old true new = (length octets ≤ length old) × (new ≡ written_over octets old)
IsPut octets old false new = (length old < length octets) × (new ≡ old)

-- The octets are written if they fit, and their number in both cases.
abbrev pub IsFilled : List ℕ → List ℕ → List ℕ → ℕ → Status → Type 0
IsFilled octets old new needed Ok = (needed ≡ length octets) × (needed ≤ length old) × (new ≡ written_over octets old)
IsFilled octets old new needed BufferTooSmall = (needed ≡ length octets) × (length old < needed) × (new ≡ old)
IsFilled octets old new needed _ = ⊥

-- What a call that makes octets leaves in the buffer: these, or nothing.
abbrev pub IsDelivered : Result (Vec ℕ Global) Status → List ℕ → List ℕ → ℕ → Status → Type 0
IsDelivered (Made octets) old new needed status = IsFilled octets.items old new needed status
IsDelivered (Err why) old new needed status = (status ≡ why) × (new ≡ old) × (needed ≡ 0)

-- As much of the text as fits is written, followed by a zero. An empty buffer is unchanged.
abbrev pub IsCutInto : List ℕ → List ℕ → List ℕ → Type 0
IsCutInto text [] new = new ≡ []
IsCutInto text (first ∷ others) new = new ≡ written_over (take (length others) text ++ 0 ∷ []) (first ∷ others)
